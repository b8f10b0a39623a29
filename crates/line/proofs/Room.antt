-- Entries that were stored in a room from a place on (`sets` of the library): one after another; from the front on, where a reader sees the
-- entries and then the rest of the room; into a rest that was lent; and what stands at each place then. Assumes nothing.
use Prim.Native.Nat.{ℕ, suc, ◌+◌, ◌-◌, ◌<◌, ◌≤◌}
use mathlib.Core.Path.{◌≡◌, refl, sym, ap, ◌∙◌}
use mathlib.Core.List.{List, [], ◌∷◌, ◌++◌, append-nil}
use native.Mathlib.Nat.{add-zero, zero-add, add-suc, suc-add}
use native.Mathlib.Omega.{arith}
use lib.ListN.{length, get_or, take, drop, set, length-append, length-drop, take-append-drop, drop_of_length-le, get_or-append}
use lib.Seq.{sets, sets-eq, take_at, drop_at, take_all, length-take-le, get_or-set_other, get_or-append-add}
use borrow.Rule.Slice.PartMut.{put_mid, mid_of}

-- ---- one after another

-- stores, and more behind them, are the stores of both
pub sets_append : {A : Type 0} (a b l : List A) (i : ℕ) → sets (sets l i a) (i + length a) b ≡ sets l i (a ++ b)
sets_append [] b l i = rw add-zero
sets_append (x ∷ a) b l i = rw (add-suc, ← suc-add) (sets_append a b (set l i x) (suc i))

-- one store more, right behind those there are
pub store_next : {A : Type 0} (l ws : List A) (x : A) (i j : ℕ) → length ws ≡ j → set (sets l i ws) (i + j) x ≡ sets l i (ws ++ (x ∷ []))
store_next l ws x i j n = ap (λ k. sets (sets l i ws) (i + k) (x ∷ [])) (sym n) ∙ sets_append ws (x ∷ []) l i

-- one store more, behind those from the front on
pub store_last : {A : Type 0} (l ws : List A) (x : A) (j : ℕ) → length ws ≡ j → set (sets l 0 ws) j x ≡ sets l 0 (ws ++ (x ∷ []))
store_last l ws x j n = ap (λ i. set (sets l 0 ws) i x) (sym (zero-add j)) ∙ store_next l ws x 0 j n

-- ---- from the front on

pub sets_front : {A : Type 0} (l ws : List A) → length ws ≤ length l → sets l 0 ws ≡ ws ++ drop (length ws) l
sets_front l ws h = sets-eq ws l 0 (omega arith) ∙ ap (λ k. ws ++ drop k l) (zero-add (length ws))

pub take_sets : {A : Type 0} (l ws : List A) (m : ℕ) → length ws ≡ m → m ≤ length l → take m (sets l 0 ws) ≡ ws
take_sets l ws m n h = ap (λ x. take m x) (sets_front l ws (omega arith)) ∙ take_at ws (drop (length ws) l) m n

pub drop_sets : {A : Type 0} (l ws : List A) (m : ℕ) → length ws ≡ m → m ≤ length l → drop m (sets l 0 ws) ≡ drop m l
drop_sets l ws m n h = ap (λ x. drop m x) (sets_front l ws (omega arith)) ∙ drop_at ws (drop (length ws) l) m n ∙ ap (λ k. drop k l) n

-- ---- into a rest that was lent

set_second : {A : Type 0} (p q : List A) (j : ℕ) (w : A) → set (p ++ q) (length p + j) w ≡ p ++ set q j w
set_second [] q j w = rw zero-add
set_second (x ∷ p) q j w = rw suc-add (ap (λ l. x ∷ l) (set_second p q j w))

sets_second : {A : Type 0} (p q ws : List A) (j : ℕ) → sets (p ++ q) (length p + j) ws ≡ p ++ sets q j ws
sets_second p q [] j = refl
sets_second p q (w ∷ ws) j =
    ap (λ l. sets l (suc (length p + j)) ws) (set_second p q j w)
    ∙ (ap (λ (k : ℕ). sets (p ++ set q j w) k ws) (sym (add-suc (length p) j)) ∙ sets_second p (set q j w) ws (suc j))

part_sets : {A : Type 0} (l ws : List A) (a : ℕ) → a ≤ length l
    → put_mid a (length l - a) l (sets (mid_of a (length l - a) l) 0 ws) ≡ sets l a ws
part_sets l ws a h =
    let e : take (length l - a) (drop a l) ≡ drop a l = take_all (length l - a) (drop a l) (simp length-drop (omega arith)) in
    let f : drop (length l - a) (drop a l) ≡ [] = drop_of_length-le (drop a l) {i = length l - a} (simp length-drop (omega arith)) in
    let n : length (take a l) ≡ a = length-take-le a l h in
    ap (λ x. take a l ++ (sets x 0 ws ++ drop (length l - a) (drop a l))) e
    ∙ (ap (λ x. take a l ++ (sets (drop a l) 0 ws ++ x)) f
    ∙ (ap (λ x. take a l ++ x) (append-nil (sets (drop a l) 0 ws))
    ∙ (sym (sets_second (take a l) (drop a l) ws 0)
    ∙ (ap (λ (k : ℕ). sets (take a l ++ drop a l) k ws) (add-zero (length (take a l)) ∙ n)
    ∙ ap (λ x. sets x a ws) (take-append-drop a l)))))

pub length_rest : {A : Type 0} (l : List A) (k : ℕ) → k ≤ length l → length (mid_of k (length l - k) l) ≡ length l - k
length_rest l k h = length-take-le (length l - k) (drop k l) (simp length-drop (omega arith))

pub length_put : {A : Type 0} (l part : List A) (k : ℕ) → k ≤ length l → length part ≡ length (mid_of k (length l - k) l)
    → length (put_mid k (length l - k) l part) ≡ length l
length_put l part k h e =
    omega (
      arith,
      length-append (take k l) (part ++ drop (length l - k) (drop k l)),
      length-append part (drop (length l - k) (drop k l)),
      length-take-le k l h,
      length_rest l k h,
      length-drop (length l - k) (drop k l),
      length-drop k l,
    )

-- what was stored at the front of the rest from k on was stored at k
pub lent : {A : Type 0} (l part b : List A) (k : ℕ) → k ≤ length l → part ≡ sets (mid_of k (length l - k) l) 0 b
    → put_mid k (length l - k) l part ≡ sets l k b
lent l part b k h f = ap (λ x. put_mid k (length l - k) l x) f ∙ part_sets l b k h

-- a front that was written, and then the rest behind it
pub and_then : {A : Type 0} (l l₁ part a b : List A) (k : ℕ) → length a ≡ k → k ≤ length l₁ → l₁ ≡ sets l 0 a
    → part ≡ sets (mid_of k (length l₁ - k) l₁) 0 b → put_mid k (length l₁ - k) l₁ part ≡ sets l 0 (a ++ b)
and_then l l₁ part a b k n h e f =
    lent l₁ part b k h f
    ∙ (ap (λ x. sets x k b) e
    ∙ (ap (λ (j : ℕ). sets (sets l 0 a) j b) (sym n ∙ sym (zero-add (length a)))
    ∙ sets_append a b l 0))

-- ---- an element of a list that was stored over

pub sets_below : {A : Type 0} (l ws : List A) (i j : ℕ) (d : A) → j < i → get_or (sets l i ws) j d ≡ get_or l j d
sets_below l [] i j d h = refl
sets_below l (w ∷ ws) i j d h = sets_below (set l i w) ws (suc i) j d (omega arith) ∙ get_or-set_other l i j w d (λ e. omega arith)

pub sets_above : {A : Type 0} (l ws : List A) (i j : ℕ) (d : A) → i + length ws ≤ j → get_or (sets l i ws) j d ≡ get_or l j d
sets_above l [] i j d h = refl
sets_above l (w ∷ ws) i j d h = sets_above (set l i w) ws (suc i) j d (omega arith) ∙ get_or-set_other l i j w d (λ e. omega arith)

pub sets_in : {A : Type 0} (l ws : List A) (i k : ℕ) (d : A) → i + length ws ≤ length l → k < length ws
    → get_or (sets l i ws) (i + k) d ≡ get_or ws k d
sets_in l ws i k d h q =
    let t : length (take i l) ≡ i = length-take-le i l (omega arith) in
    ap (λ x. get_or x (i + k) d) (sets-eq ws l i h)
    ∙ (get_or-append (take i l ++ ws) (drop (i + length ws) l) d (i + k) (omega (arith, length-append (take i l) ws))
    ∙ (ap (λ n. get_or (take i l ++ ws) (n + k) d) (sym t) ∙ get_or-append-add (take i l) ws k d))

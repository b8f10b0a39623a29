-- The fill of a room, number by number and length by length; for the splits and for the counts alike.
use Prim.Native.Nat.{ℕ, zero, suc, ◌+◌, ◌-◌, ◌*◌, ◌/◌, ◌%◌, ◌^◌, ◌≤◌, ◌<◌}
use mathlib.Core.Path.{◌≡◌, refl, sym, ap, ap₂, ◌∙◌, subst}
use mathlib.Core.Bool.{true}
use mathlib.Core.List.{List, [], ◌∷◌, ◌++◌}
use mathlib.Core.Logic.{⊎_elim}
use native.Mathlib.Nat.{le_antisymm, eq-or-lt_of_le, two-pow-succ}
use native.Mathlib.Omega.{arith}
use lib.ListN.{length, get_or, set, take, drop, length-set, take-append-drop}
use lib.Pow.{pow_pos}
use lib.Seq.{sets, get_or-set_same, get_or-set_other, drop-set-lt, drop-drop}
use Rattle.line.proofs.Room.{sets_front}
use Rattle.line.specs.Number.{bit_length}
use Rattle.split.specs.Choose.{best_below, choose, line_count, lines, look, split_of, splits, splits_from}
use Rattle.split.specs.Reach.{turn}
use Rattle.split.specs.Split.{kind, left, legal, right}
use Rattle.split.specs.declared.Best.{Best}
use Rattle.plan.specs.Steps.{Filled, HoldsSplits, Known, set_room}
use Rattle.line.proofs.Number.{bits_gt, bits_le, bits_lt, lt_bits, pow_le}
use Rattle.split.proofs.Bound.{lines_are, lines_both}
use Rattle.split.proofs.Choose.{same_or, split_chosen, splits_legal}
use Rattle.split.proofs.Lines.{lines_half}
use Rattle.split.proofs.Reach.{Legal, lines_depend, turn_bits}
use Rattle.split.proofs.Splits.{Operands, operands}
use Rattle.plan.proofs.Agrees.{chosen_is, cost_is, legals, same_count}

-- ---- a store in a table

table_here : (l : List ℕ) (j c x : ℕ) → j < length l → x / 2 ≡ j → look (set l j c) x ≡ c
unfolding look
table_here l j c x h e = ap (λ (k : ℕ). get_or (set l j c) k 0) e ∙ get_or-set_same l j c 0 h

table_there : (l : List ℕ) (j c x : ℕ) → ((x / 2 ≡ j) → ⊥) → look (set l j c) x ≡ look l x
unfolding look
table_there l j c x ne = get_or-set_other l j (x / 2) c 0 ne

-- ---- one length, from the largest number down: the entries from i on are filled

pub record Partly (v : ℕ → ℕ) (l₀ l : List ℕ) (m i : ℕ) : Type 0 where
  pub same : length l ≡ length l₀
  pub short : (x : ℕ) → x % 2 ≡ 1 → bit_length x < m → look l x ≡ v x
  pub filled : (x : ℕ) → x % 2 ≡ 1 → bit_length x ≡ m → 2 * i + 1 ≤ x → look l x ≡ v x
  pub rest : drop (2 ^ (m - 1)) l ≡ drop (2 ^ (m - 1)) l₀

module _ (v : ℕ → ℕ) (m : ℕ) (two : 1 < m) where
  half : 2 ^ (m - 1) ≡ 2 ^ (m - 2) + 2 ^ (m - 2)
  half = ap (λ (k : ℕ). 2 ^ k) {x = m - 1} {y = suc (m - 2)} (omega arith) ∙ two-pow-succ (m - 2)

  whole : 2 ^ m ≡ 2 ^ (m - 1) + 2 ^ (m - 1)
  whole = ap (λ (k : ℕ). 2 ^ k) {x = m} {y = suc (m - 1)} (omega arith) ∙ two-pow-succ (m - 1)

  partly_none : (l : List ℕ) → Filled v l l (m - 1) → Partly v l l m (2 ^ (m - 1))
  partly_none l h = record {
    same = refl;
    short = λ x odd b. h.known x odd (omega arith);
    filled = λ x odd b g. absurd (omega (arith, lt_bits m x (omega arith), whole));
    rest = refl;
  }

  partly_all : (l₀ l : List ℕ) → Partly v l₀ l m (2 ^ (m - 2)) → Filled v l₀ l m
  partly_all l₀ l h = record {
    same = h.same;
    known = λ x odd b. ⊎_elim
        (λ e. h.filled x odd e (omega (arith, half, pow_le (m - 1) x (omega arith))))
        (λ k. h.short x odd k)
        (eq-or-lt_of_le b);
    rest = h.rest;
  }

  module _ (j : ℕ) (lo : 2 ^ (m - 2) ≤ j) (hi : j < 2 ^ (m - 1)) where
    bits_is : bit_length (2 * j + 1) ≡ m
    bits_is = le_antisymm (bits_le m (2 * j + 1) (omega (arith, whole))) (omega (arith, bits_gt (m - 1) (2 * j + 1) (omega (arith, half))))

    module _ (l₀ l : List ℕ) (few : m < 32) (long : 2 ^ (m - 1) ≤ length l) (h : Partly v l₀ l m (suc j)) where
      agrees : (x : ℕ) → x % 2 ≡ 1 → turn x < turn (2 * j + 1) → look l x ≡ v x
      unfolding turn
      agrees x odd less = ⊎_elim
          (λ e. h.filled x odd (e ∙ bits_is) (omega (arith, ap (λ (k : ℕ). 2 ^ k) e, bits_lt x)))
          (λ k. h.short x odd (omega (arith, bits_is)))
          (eq-or-lt_of_le (turn_bits x (2 * j + 1) (omega arith)))

      partly_more : (c : ℕ) → c ≡ v (2 * j + 1) → Partly v l₀ (set l j c) m j
      partly_more c e = record {
        same = length-set l j c ∙ h.same;
        short = λ x odd b. table_there l j c x (λ q. omega (arith, half, lt_bits (m - 1) x (omega arith))) ∙ h.short x odd b;
        filled = λ x odd b g. ⊎_elim
            (λ q. table_here l j c x (omega arith) q ∙ e ∙ ap v (omega arith))
            (λ ne. table_there l j c x ne ∙ h.filled x odd b (next x odd g ne))
            (same_or (x / 2) j);
        rest = drop-set-lt (2 ^ (m - 1)) l j c hi ∙ h.rest;
      }
        where
          next : (x : ℕ) → x % 2 ≡ 1 → 2 * j + 1 ≤ x → ((x / 2 ≡ j) → ⊥) → 2 * suc j + 1 ≤ x
          next x odd g ne = omega arith

-- ---- both tables at once, of a lookup t: its splits in w, the counts of its lines in k

pub record Filling (t : ℕ → ℕ) (w₀ k₀ : List ℕ) (m low : ℕ) (w k : List ℕ) (i : ℕ) : Type 0 where
  pub splits_done : Partly t w₀ w m i
  pub counts_done : Partly (line_count t) k₀ k m i
  pub low_is : low ≡ 2 ^ (m - 2)
  pub least : low ≤ i
  pub most : i ≤ 2 ^ (m - 1)
  pub two : 1 < m
  pub few : m < 32
  pub long : 2 ^ (m - 1) ≤ length w₀
  pub wide : 2 ^ (m - 1) ≤ length k₀

pub filling_none : {t : ℕ → ℕ} {w k : List ℕ} {m low i : ℕ} → 1 < m → m < 32 → 2 ^ (m - 1) ≤ length w → 2 ^ (m - 1) ≤ length k
    → Filled t w w (m - 1) → Filled (line_count t) k k (m - 1) → low ≡ 2 ^ (m - 2) → i ≡ 2 ^ (m - 1) → Filling t w k m low w k i
filling_none {t} {w} {k} {m} two few long wide f g lo hi = record {
  splits_done = subst (λ (z : ℕ). Partly t w w m z) (sym hi) (partly_none t m two w f);
  counts_done = subst (λ (z : ℕ). Partly (line_count t) k k m z) (sym hi) (partly_none (line_count t) m two k g);
  low_is = lo;
  least = omega (arith, half t m two);
  most = omega arith;
  two = two;
  few = few;
  long = long;
  wide = wide;
}

module _ {t : ℕ → ℕ} {w₀ k₀ : List ℕ} {m low : ℕ} {w k : List ℕ} {i : ℕ} (h : Filling t w₀ k₀ m low w k i) where
  pub filling_all : i ≤ low → Filled t w₀ w m × Filled (line_count t) k₀ k m
  filling_all le =
      let e : i ≡ 2 ^ (m - 2) = omega (arith, h.least, h.low_is) in (
        partly_all t m h.two w₀ w (subst (λ (z : ℕ). Partly t w₀ w m z) e h.splits_done),
        partly_all (line_count t) m h.two k₀ k (subst (λ (z : ℕ). Partly (line_count t) k₀ k m z) e h.counts_done),
      )

  -- the next number
  module _ (less : low < i) where
    abbrev n : ℕ
    n = 2 * (i - 1) + 1

    from_low : 2 ^ (m - 2) ≤ i - 1
    from_low = omega (arith, h.low_is)

    to_high : i - 1 < 2 ^ (m - 1)
    to_high = omega (arith, h.most)

    f : Partly t w₀ w m (suc (i - 1))
    f = subst (λ (z : ℕ). Partly t w₀ w m z) {y = suc (i - 1)} (omega arith) h.splits_done

    g : Partly (line_count t) k₀ k m (suc (i - 1))
    g = subst (λ (z : ℕ). Partly (line_count t) k₀ k m z) {y = suc (i - 1)} (omega arith) h.counts_done

    long_w : 2 ^ (m - 1) ≤ length w
    long_w = omega (arith, h.long, f.same)

    wide_k : 2 ^ (m - 1) ≤ length k
    wide_k = omega (arith, h.wide, g.same)

    bits_n : bit_length n ≡ m
    bits_n = bits_is t m h.two (i - 1) from_low to_high

    big_n : 1 < n
    big_n = omega (arith, from_low, pow_pos (m - 2))

    few_n : bit_length n < 32
    few_n = omega (arith, bits_n, h.few)

    splits_agree : (x : ℕ) → x % 2 ≡ 1 → turn x < turn n → look w x ≡ t x
    splits_agree = agrees t m h.two (i - 1) from_low to_high w₀ w h.few long_w f

    counts_agree : (x : ℕ) → x % 2 ≡ 1 → turn x < turn n → look k x ≡ line_count t x
    counts_agree = agrees (line_count t) m h.two (i - 1) from_low to_high k₀ k h.few wide_k g

    known : Legal t (turn n) → ((s : ℕ) → legal s n ≡ true → lines t s n ≤ set_room) → Known w k n
    known ok room =
        let odd : n % 2 ≡ 1 = omega arith in
        let fits : bit_length n < 64 = omega (arith, few_n) in
        record {
          big = big_n;
          odd = odd;
          few = few_n;
          long = omega (arith, long_w, ap (λ (x : ℕ). 2 ^ (x - 1)) bits_n);
          wide = omega (arith, wide_k, ap (λ (x : ℕ). 2 ^ (x - 1)) bits_n);
          legals = legals t (turn n) ok w splits_agree;
          room = λ s e. subst (λ (z : ℕ). z ≤ set_room)
              (sym (lines_depend (look w) t n (legals t (turn n) ok w splits_agree) (λ x b o r. splits_agree x o r) big_n odd fits s e))
              (room s e);
          counted = λ x o r. counts_agree x o r
              ∙ sym (same_count t (turn n) ok w splits_agree x o (omega (arith, few_n, turn_bits x n (omega arith))) r);
        }

    filling_next : (a b : ℕ) → a ≡ t n → b ≡ line_count t n → Filling t w₀ k₀ m low (set w (i - 1) a) (set k (i - 1) b) (i - 1)
    filling_next a b p q = record {
      splits_done = partly_more t m h.two (i - 1) from_low to_high w₀ w h.few long_w f a p;
      counts_done = partly_more (line_count t) m h.two (i - 1) from_low to_high k₀ k h.few wide_k g b q;
      low_is = h.low_is;
      least = omega (arith, from_low, h.low_is);
      most = omega (arith, to_high);
      two = h.two;
      few = h.few;
      long = h.long;
      wide = h.wide;
    }

-- ---- the line goal: what it asks of the set's room and of a count's byte

-- a split of n has at most the lines of both operands and its own
line_room : (n : ℕ) → 1 < n → n % 2 ≡ 1 → bit_length n < 32 → (s : ℕ) → legal s n ≡ true → lines split_of s n ≤ set_room
line_room n big odd few s e =
    let o : Operands (kind s) (s % 32) n (left s n) (right s n) = operands s n big odd (omega arith) e in
    omega (
      arith,
      lines_both split_of s n,
      lines_half (left s n) o.left.odd (omega (arith, o.left.bits)),
      lines_half (right s n) o.right.odd (omega (arith, o.right.bits)),
      o.left.bits,
      o.right.bits,
    )

module _ {w₀ k₀ : List ℕ} {m low : ℕ} {w k : List ℕ} {i : ℕ} (h : Filling split_of w₀ k₀ m low w k i) (less : low < i) where
  pub lines_known : Known w k (2 * (i - 1) + 1)
  lines_known = known h less
      (λ x b o r. splits_legal lines lines_depend (2 * (i - 1) + 1) (few_n h less) x b o (omega arith))
      (line_room (2 * (i - 1) + 1) (big_n h less) (omega arith) (few_n h less))

  module _ {r : Best} (q : r ≡ best_below lines (look w) (2 * (i - 1) + 1) 128) where
    split_here : r.split ≡ split_of (2 * (i - 1) + 1)
    unfolding choose
    split_here = ap (λ (b : Best). b.split) q
        ∙ chosen_is lines lines_depend w (big_n h less) (omega arith) (few_n h less) (splits_agree h less)

    count_here : r.cost ≡ line_count split_of (2 * (i - 1) + 1)
    count_here =
        let n : ℕ = 2 * (i - 1) + 1 in
        let few : bit_length n < 32 = few_n h less in
        ap (λ (x : Best). x.cost) q ∙ cost_is lines lines_depend w (big_n h less) (omega arith) few (splits_agree h less)
        ∙ sym (lines_are split_of n (splits_legal lines lines_depend n few) (big_n h less) (omega arith) (omega arith))

    -- each fits a byte
    pub split_fits : r.split < 256
    split_fits = omega (
      arith,
      split_here,
      (split_chosen lines lines_depend (2 * (i - 1) + 1) (big_n h less) (omega arith) (few_n h less)).small,
    )

    pub count_fits : r.cost < 256
    count_fits = omega (arith, count_here, lines_half (2 * (i - 1) + 1) (omega arith) (few_n h less), few_n h less)

    pub lines_chosen : Filling split_of w₀ k₀ m low (set w (i - 1) r.split) (set k (i - 1) r.cost) (i - 1)
    lines_chosen = filling_next h less r.split r.cost split_here count_here

-- ---- length by length

pub filled_one : (v : ℕ → ℕ) → v 1 ≡ 0 → (l : List ℕ) → 0 < length l → Filled v l (set l 0 0) 1
filled_one v z l h = record {
  same = length-set l 0 0;
  known = λ x odd b. let e : x ≡ 1 = omega (arith, lt_bits 1 x b) in table_here l 0 0 x h (omega arith) ∙ sym (ap v e ∙ z);
  rest = drop-set-lt 1 l 0 0 (omega arith);
}

pub filled_zero : (v : ℕ → ℕ) → v 1 ≡ 0 → (l : List ℕ) → get_or l 0 0 ≡ 0 → Filled v l l 1
unfolding look
filled_zero v z l h = record {
  same = refl;
  known = λ x odd b. let e : x ≡ 1 = omega (arith, lt_bits 1 x b) in ap (λ (k : ℕ). get_or l k 0) {x = x / 2} {y = 0} (omega arith) ∙ h
      ∙ sym (ap v e ∙ z);
  rest = refl;
}

-- the next length, over what is filled
pub filled_next : (v : ℕ → ℕ) (m : ℕ) → 1 < m → (l₀ l k : List ℕ) → Filled v l₀ l (m - 1) → Filled v l k m → Filled v l₀ k m
filled_next v m two l₀ l k f g = record {
  same = g.same ∙ f.same;
  known = g.known;
  rest = g.rest ∙ deeper l ∙ ap (λ (z : List ℕ). drop (2 ^ (m - 1 - 1)) z) f.rest ∙ sym (deeper l₀);
}
  where
    deeper : (z : List ℕ) → drop (2 ^ (m - 1)) z ≡ drop (2 ^ (m - 1 - 1)) (drop (2 ^ (m - 1 - 1)) z)
    deeper z = ap (λ (j : ℕ). drop j z) (ap (λ (j : ℕ). 2 ^ j) {x = m - 1} {y = suc (m - 1 - 1)} (omega arith) ∙ two-pow-succ (m - 1 - 1))
        ∙ sym (drop-drop (2 ^ (m - 1 - 1)) (2 ^ (m - 1 - 1)) z)

pub filled_again : (v : ℕ → ℕ) (l₀ l : List ℕ) (m : ℕ) → Filled v l₀ l m → Filled v l l m
filled_again v l₀ l m f = record { same = refl; known = f.known; rest = refl }

-- a room whose first entry was written over
pub filled_from : (v : ℕ → ℕ) (l₀ : List ℕ) (x top : ℕ) (l : List ℕ) → Filled v (set l₀ 0 x) l top → Filled v l₀ l top
filled_from v l₀ x top l f = record {
  same = f.same ∙ length-set l₀ 0 x;
  known = f.known;
  rest = f.rest ∙ drop-set-lt (2 ^ (top - 1)) l₀ 0 x (pow_pos (top - 1));
}

-- ---- the room as one list

list_is : (t : ℕ → ℕ) (k i : ℕ) (l : List ℕ) → k ≤ length l → ((j : ℕ) → j < k → get_or l j 0 ≡ t (2 * (i + j) + 1))
    → take k l ≡ splits_from t i k
unfolding splits_from
list_is t zero i l h e = refl
list_is t (suc k) i [] h e = absurd (omega arith)
list_is t (suc k) i (x ∷ l) h e = ap₂ (λ (a : ℕ) (b : List ℕ). a ∷ b)
    (e 0 (omega arith) ∙ ap t (omega arith))
    (list_is t k (suc i) l (omega arith) (λ j q. e (suc j) (omega arith) ∙ ap t (omega arith)))

pub splits_length : (t : ℕ → ℕ) (L : ℕ) → length (splits t L) ≡ 2 ^ (L - 1)
unfolding splits splits_from
splits_length t L = from 0 (2 ^ (L - 1))
  where
    from : (i k : ℕ) → length (splits_from t i k) ≡ k
    from i zero = refl
    from i (suc k) = ap suc (from (suc i) k)

pub filled_over : (t : ℕ → ℕ) (l₀ l : List ℕ) (top : ℕ) → 0 < top → 2 ^ (top - 1) ≤ length l₀ → Filled t l₀ l top
    → l ≡ sets l₀ 0 (splits t top)
unfolding splits look
filled_over t l₀ l top pos long f =
    let k = 2 ^ (top - 1) in
    let two : 2 ^ top ≡ k + k = ap (λ (j : ℕ). 2 ^ j) {x = top} {y = suc (top - 1)} (omega arith) ∙ two-pow-succ (top - 1) in
    sym (take-append-drop k l)
    ∙ ap₂ (λ (a b : List ℕ). a ++ b)
    (list_is t k 0 l (omega (arith, f.same)) (λ j q. ap (λ (z : ℕ). get_or l z 0) {x = j} {y = (2 * (0 + j) + 1) / 2} (omega arith)
    ∙ f.known (2 * (0 + j) + 1) (omega arith) (bits_le top (2 * (0 + j) + 1) (omega arith))))
    (f.rest ∙ ap (λ (j : ℕ). drop j l₀) (sym (splits_length t top)))
    ∙ sym (sets_front l₀ (splits t top) (omega (arith, splits_length t top)))

-- a room whose first entry was written over, and that was then filled
pub filled_holds : (t : ℕ → ℕ) (l₀ l : List ℕ) (top : ℕ) → 0 < top → 2 ^ (top - 1) ≤ length l₀ → Filled t (set l₀ 0 0) l top
    → HoldsSplits t l₀ top l
filled_holds t l₀ l top pos long f =
    let g : Filled t l₀ l top = filled_from t l₀ 0 top l f in
    record { holds = filled_over t l₀ l top pos long g; same = g.same; known = g.known }

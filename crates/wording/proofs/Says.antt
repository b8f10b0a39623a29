-- A request is read exactly when it is one to five digits, a space, one or two digits and a newline. Assumes nothing.
use Rattle.std.specs.Prelude.{Some, None}
use mathlib.Core.Path.{◌≡◌, refl, ap, ap₂, ◌∙◌, sym}
use mathlib.Core.List.{List, [], ◌∷◌, ◌++◌}
use Prim.Native.Nat.{ℕ, suc, ◌+◌, ◌≤◌, ◌<◌}
use native.Mathlib.Decide.{dec_le, ℕ_discrete}
use native.Mathlib.Numerals.{add-one}
use native.Mathlib.Omega.{arith}
use lib.ListN.{length, get_or, take, drop, length-append, drop_of_length-le}
use lib.Seq.{split_at, take_at, get_or_at, length-take-le, drop-append-add}
use borrow.Author.Tests.{lt-ltb, le-ltb}
use Rattle.wording.specs.Request.{Request}
use Rattle.wording.specs.Decimal.{value_of}
use Rattle.wording.specs.Request.{front, width_asked, asked, Digits, Says}
use Rattle.wording.proofs.Asking.{width_none, width_long, width_more, width_other, width_right, request_none, request_long}
use Rattle.wording.proofs.Asking.{request_end, request_other, request_on}

-- what stands in front are digits, and no more of them than there are bytes
front_digits : (s : List ℕ) → Digits (take (front s) s) × (front s ≤ length s)
unfolding front
front_digits [] = (tt, omega arith)
front_digits (b ∷ bs) =
    elim (dec_le 48 b) [
      | yes p ↦
          elim (dec_le b 57) [
            | yes q ↦ simp (le-ltb b 48 p, le-ltb 57 b q) ((p, q, (front_digits bs).0), omega (arith, (front_digits bs).1))
            | no q ↦ simp (le-ltb b 48 p, lt-ltb 57 b (omega arith)) (tt, omega arith)
          ]
      | no p ↦ simp (lt-ltb b 48 (omega arith)) (tt, omega arith)
    ]

-- digits up to a byte below them
front_ends : (ds rest : List ℕ) (b : ℕ) → Digits ds → b < 48 → front (ds ++ (b ∷ rest)) ≡ length ds
unfolding front
front_ends [] rest b d h = simp (lt-ltb b 48 h)
front_ends (x ∷ ds) rest b d h = simp (le-ltb x 48 d.0, le-ltb 57 x d.1, front_ends ds rest b d.2 h)

clash : (r : Request) (c w : ℕ) → None ≡ r → r ≡ Some (c, w) → ⊥
clash r c w p q = let z : ◌≡◌ {A = ℕ} 0 1 = cc in omega arith

same_asked : (r : Request) (a b c w : ℕ) → Some (a, b) ≡ r → r ≡ Some (c, w) → (a ≡ c) × (b ≡ w)
same_asked r a b c w p q = (ap constant (p ∙ q), ap width (p ∙ q))
  where
    constant : Request → ℕ
    constant None = a
    constant (Some s) = s.0

    width : Request → ℕ
    width None = b
    width (Some s) = s.1

record Ends (c : ℕ) (t : List ℕ) (c' w : ℕ) : Type 0 where
  es : List ℕ
  text : t ≡ es ++ (10 ∷ [])
  digits : Digits es
  some : 1 ≤ length es
  few : length es ≤ 2
  constant : c' ≡ c
  width : w ≡ value_of es

width_when : (c : ℕ) (t : List ℕ) (c' w : ℕ) → width_asked c t ≡ Some (c', w) → Ends c t c' w
width_when c t c' w e =
    elim (ℕ_discrete (front t) 0) [
      | yes p ↦ absurd (clash _ c' w (width_none c t (front t) refl p) e)
      | no p ↦
          elim (dec_le (front t) 2) [
            | no q ↦ absurd (clash _ c' w (width_long c t (front t) refl (omega arith)) e)
            | yes q ↦
                elim (ℕ_discrete (length t) (front t + 1)) [
                  | no l ↦ absurd (clash _ c' w (width_more c t (front t) refl p q l) e)
                  | yes l ↦
                      elim (ℕ_discrete (get_or t (front t) 0) 10) [
                        | no x ↦ absurd (clash _ c' w (width_other c t (front t) refl p q l x) e)
                        | yes x ↦
                            let r = same_asked _ c (value_of (take (front t) t)) c' w (width_right c t (front t) refl p q l x) e in
                            let n = length-take-le (front t) t (omega arith) in
                            record {
                              es = take (front t) t;
                              text =
                                  split_at t (front t) 0 (omega arith)
                                  ∙ ap₂ (λ (b : ℕ) (y : List ℕ). take (front t) t ++ (b ∷ y)) x
                                  (drop_of_length-le t {i = suc (front t)} (omega arith));
                              digits = (front_digits t).0;
                              some = omega arith;
                              few = omega arith;
                              constant = sym r.0;
                              width = sym r.1;
                            }
                      ]
                ]
          ]
    ]

-- what is read has the shape
pub asked_when : (s : List ℕ) (c w : ℕ) → asked s ≡ Some (c, w) → Says s c w
asked_when s c w e =
    elim (ℕ_discrete (front s) 0) [
      | yes p ↦ absurd (clash _ c w (request_none s (front s) refl p) e)
      | no p ↦
          elim (dec_le (front s) 5) [
            | no q ↦ absurd (clash _ c w (request_long s (front s) refl (omega arith)) e)
            | yes q ↦
                elim (ℕ_discrete (front s) (length s)) [
                  | yes l ↦ absurd (clash _ c w (request_end s (front s) refl p q l) e)
                  | no l ↦
                      elim (ℕ_discrete (get_or s (front s) 0) 32) [
                        | no x ↦ absurd (clash _ c w (request_other s (front s) refl p q l x) e)
                        | yes x ↦
                            let f = front_digits s in
                            let k =
                            width_when (value_of (take (front s) s)) (drop (front s + 1) s) c w (request_on s (front s) refl p q l x ∙ e) in
                            let n = length-take-le (front s) s f.1 in
                            record {
                              constant_digits = take (front s) s;
                              width_digits = k.es;
                              text =
                                  split_at s (front s) 0 (omega arith)
                                  ∙ ap₂ (λ (b : ℕ) (y : List ℕ). take (front s) s ++ (b ∷ y)) x
                                  (ap (λ (m : ℕ). drop m s) (sym (add-one (front s))) ∙ k.text);
                              digits = (f.0, k.digits);
                              some = (omega arith, k.some);
                              few = (omega arith, k.few);
                              constant = k.constant;
                              width = k.width;
                            }
                      ]
                ]
          ]
    ]

-- and what has the shape is read
pub when_asked : (s : List ℕ) (c w : ℕ) → Says s c w → asked s ≡ Some (c, w)
when_asked s c w h =
    let ds = h.constant_digits in
    let es = h.width_digits in
    let t = es ++ (10 ∷ []) in
    let ft : length es ≡ front t = sym (front_ends es [] 10 h.digits.1 (omega arith)) in
    let fs : length ds ≡ front (ds ++ (32 ∷ t)) = sym (front_ends ds t 32 h.digits.0 (omega arith)) in
    let lt : length t ≡ length es + 1 = length-append es (10 ∷ []) in
    let ls : length (ds ++ (32 ∷ t)) ≡ length ds + suc (length t) = length-append ds (32 ∷ t) in
    let d : drop (length ds + 1) (ds ++ (32 ∷ t)) ≡ t = drop-append-add ds (32 ∷ t) 1 in
    ap asked h.text
    ∙ sym (request_on (ds ++ (32 ∷ t)) (length ds) fs (omega (arith, h.some.0)) h.few.0 (omega arith)
    (get_or_at ds 32 t 0 (length ds) refl))
    ∙ ap₂ (λ (x y : List ℕ). width_asked (value_of x) y) (take_at ds (32 ∷ t) (length ds) refl) d
    ∙ sym (width_right (value_of ds) t (length es) ft (omega (arith, h.some.1)) h.few.1 lt (get_or_at es 10 [] 0 (length es) refl))
    ∙ ap₂ (λ (x : ℕ) (y : ℕ). Some (x, y)) (sym h.constant) (ap value_of (take_at es (10 ∷ []) (length es) refl) ∙ sym h.width)

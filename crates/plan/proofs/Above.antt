-- A split has more lines than either operand, and two more than an operand that is the shorter.
use Prim.Native.Nat.{ℕ, suc, ◌%◌, ◌≤◌, ◌<◌}
use mathlib.Core.Path.{◌≡◌, sym, ap, ◌∙◌, subst}
use mathlib.Core.Bool.{true, false, false≢true}
use mathlib.Core.List.{List, [], ◌∷◌}
use mathlib.Core.Logic.{⊎_elim}
use native.Mathlib.Omega.{arith}
use lib.Dec.{eqb}
use lib.ListN.{length}
use borrow.Author.Tests.{eqb-true}
use Rattle.line.specs.Number.{bit_length}
use Rattle.split.specs.Choose.{line_count, lines}
use Rattle.split.specs.Reach.{adds, member, reach, set_by, set_of, turn}
use Rattle.split.specs.Split.{kind, left, legal, right}
use Rattle.plan.specs.Steps.{Hopeless}
use Rattle.line.proofs.Number.{bits_le, bits_pos}
use Rattle.split.proofs.Closed.{Has, later, reach_self, spread}
use Rattle.split.proofs.Reach.{Legal}
use Rattle.split.proofs.Sets.{Distinct, Within, add_long, adds_distinct, adds_from, adds_has, adds_keeps, adds_lacks, bool, fits_in}
use Rattle.split.proofs.Sets.{member_none, member_skip}
use Rattle.split.proofs.Splits.{Operand, Operands, operands, shorter_turn}
use native.Mathlib.Nat.{lt_of_not-le}

-- one more than the whole of ys
one_over : (x : ℕ) (ys zs : List ℕ) → Distinct ys → member x ys ≡ false → member x zs ≡ true → Within ys zs → suc (length ys) ≤ length zs
one_over x ys zs d n m w = fits_in (x ∷ ys) zs (n, d)
    (λ y q. ⊎_elim (λ e. subst (λ (z : ℕ). member z zs ≡ true) (sym (eqb-true y x e)) m) (λ e. w y (sym (member_skip y x ys e) ∙ q))
    (bool (eqb y x)))

module _ (t : ℕ → ℕ) (s n : ℕ) (ok : Legal t (turn n)) (big : 1 < n) (odd : n % 2 ≡ 1) (few : bit_length n < 32)
    (e : legal s n ≡ true) where
  ops : Operands (kind s) (s % 32) n (left s n) (right s n)
  ops = operands s n big odd (omega arith) e

  L : List ℕ
  L = reach t (left s n)

  Q : List ℕ
  Q = reach t (right s n)

  all : List ℕ
  all = adds Q (adds L [])

  -- ---- an operand
  module _ {x : ℕ} (o : Operand n x) where
    legal_to : Legal t (suc (turn x))
    legal_to m b d r = ok m b d (omega (arith, o.turn))

    fits : bit_length x < 64
    fits = omega (arith, o.bits)

    -- above 1 it is reached
    itself : 1 < x → member x (reach t x) ≡ true
    unfolding Has
    itself big = ⊎_elim (λ e. absurd (omega arith)) (λ m. m) (reach_self t x legal_to o.odd fits)

    -- what comes later is not
    lacks : (y : ℕ) → turn x < turn y → member y (adds (reach t x) []) ≡ false
    lacks y less = adds_lacks y (reach t x) [] (member_none y) (later t y x legal_to o.odd fits less)

  count_is : lines t s n ≡ suc (length all)
  unfolding lines set_by all L Q
  count_is = ap (λ (z : List ℕ). length z) (spread t s n [])
      ∙ add_long n (adds Q (adds L [])) (adds_lacks n Q (adds L []) (lacks ops.left n ops.left.turn)
      (later t n (right s n) (legal_to ops.right) ops.right.odd (fits ops.right) ops.right.turn))

  in_left : Within (adds L []) all
  unfolding all
  in_left x m = adds_keeps Q (adds L []) x m

  in_right : Within (adds Q []) all
  unfolding all
  in_right x m = ⊎_elim (λ z. absurd (false≢true (sym (member_none x) ∙ z))) (λ q. adds_has Q (adds L []) x q) (adds_from Q [] x m)

  -- the split has more lines than an operand p, and two more where another operand is longer
  module _ {p : ℕ} (o : Operand n p) (in_p : Within (adds (reach t p) []) all) where
    above : suc (line_count t p) ≤ lines t s n
    unfolding line_count set_of
    above = omega (arith, count_is, fits_in (adds (reach t p) []) all (adds_distinct (reach t p) [] tt) in_p)

    far : {q : ℕ} (u : Operand n q) (in_q : Within (adds (reach t q) []) all) → bit_length p < bit_length q
        → suc (suc (line_count t p)) ≤ lines t s n
    unfolding line_count set_of
    far {q} u in_q less =
        let big : 1 < q = lt_of_not-le (λ g. omega (arith, bits_le 1 q (omega arith), bits_pos p (omega (arith, o.odd)))) in
        omega (
          arith,
          count_is,
          one_over q (adds (reach t p) []) all (adds_distinct (reach t p) [] tt) (lacks o q (shorter_turn p q less))
              (in_q q (adds_has (reach t q) [] q (itself u big))) in_p,
        )

-- ---- the counts of the operands show that the split has no fewer
pub hopeless_is : (t : ℕ → ℕ) (s n : ℕ) → Legal t (turn n) → 1 < n → n % 2 ≡ 1 → bit_length n < 32 → legal s n ≡ true → {f : ℕ}
    → Hopeless (left s n) (line_count t (left s n)) (right s n) (line_count t (right s n)) f → f ≤ lines t s n
unfolding L Q
hopeless_is t s n ok big odd few e {f} p =
    let o : Operands (kind s) (s % 32) n (left s n) (right s n) = ops t s n ok big odd few e in
    let l : Within (adds (reach t (left s n)) []) (all t s n ok big odd few e) = in_left t s n ok big odd few e in
    let r : Within (adds (reach t (right s n)) []) (all t s n ok big odd few e) = in_right t s n ok big odd few e in
    ⊎_elim
    (λ q. omega (arith, above t s n ok big odd few e o.left l))
    (⊎_elim
    (λ q. omega (arith, above t s n ok big odd few e o.right r))
    (⊎_elim
    (λ q. omega (arith, q.1, far t s n ok big odd few e o.left l o.right r q.0))
    (λ q. omega (arith, q.1, far t s n ok big odd few e o.right r o.left l q.0))))
    p

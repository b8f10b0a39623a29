-- What the first pair of a column's inputs means: equal ones are twice their literal, opposite ones are 1, and inputs without a pair name
-- no variable twice.
use Prim.Native.Nat.{ℕ, ◌+◌, ◌*◌}
use mathlib.Core.Path.{◌≡◌, refl, sym, ap, ap₂, ◌∙◌}
use mathlib.Core.Bool.{Bool, true, false, not, beq, false≢true}
use mathlib.Core.List.{[], ◌∷◌}
use native.Mathlib.Omega.{arith}
use lib.Dec.{eqb}
use borrow.Author.Tests.{ne_eqb, eqb-true, eqb-false}
use Rattle.cnf.specs.Clause.{Assignment, flips, value, Distinct}
use Rattle.cnf.proofs.Extend.{eq_of_beq}
use Rattle.product.specs.Bit.{Bit, fixed, unfixed, flip, bit_value, num}
use Rattle.product.specs.Column.{literals, Pair, none, equal, opposite, pair_by, pair_or, first_pair}
use Rattle.product.specs.Demand.{BitBelow}
use Rattle.cnf.proofs.Flips.{flips_not}

abbrev pub bit_number : Assignment → Bit → ℕ
bit_number α b = num (bit_value α b)

pub flip_number : (α : Assignment) (b : Bit) → bit_number α (flip b) + bit_number α b ≡ 1
flip_number α (fixed true) = refl
flip_number α (fixed false) = refl
flip_number α (unfixed l) = ap (λ (b : Bool). num b + num (value α l)) (flips_not l.negated (α l.variable)) ∙ go (value α l)
  where
    go : (b : Bool) → num (not b) + num b ≡ 1
    go true = refl
    go false = refl

-- ---- the number of the inputs, by their pair

abbrev pub PairAdds : Assignment → ℕ → Pair → Type 0
PairAdds α t none = Unit {0}
PairAdds α t (equal p r) = t ≡ bit_number α r + 2 * bit_number α p
PairAdds α t (opposite r) = t ≡ bit_number α (flip r) + 2 * bit_number α r

differ : (a b : Bool) → beq a b ≡ false → b ≡ not a
differ true true e = e
differ true false e = refl
differ false true e = refl
differ false false e = sym e

pair_or_adds : (α : Assignment) (a b r : Bit) (k : Pair) (t : ℕ) → t ≡ bit_number α a + bit_number α b + bit_number α r
    → PairAdds α t k → PairAdds α t (pair_or a b r k)
pair_or_adds α (fixed a) b r k t e h = h
pair_or_adds α (unfixed p) (fixed b) r k t e h = h
pair_or_adds α (unfixed p) (unfixed q) r k t e h = go (eqb p.variable q.variable) (beq p.negated q.negated) refl refl
  where
    at : Bool → ℕ → Bool
    at n v = flips n (α v)

    go : (v s : Bool) → eqb p.variable q.variable ≡ v → beq p.negated q.negated ≡ s
        → PairAdds α t (pair_by v s (unfixed p) r k)
    go false s f g = h
    go true true f g = omega (arith, e, ap num (ap₂ at (eq_of_beq p.negated q.negated g) (eqb-true p.variable q.variable f)))
    go true false f g =
        omega (
          arith,
          e,
          ap num (ap₂ at (differ p.negated q.negated g) (sym (eqb-true p.variable q.variable f))),
          flip_number α (unfixed p),
          flip_number α r,
        )

pub first_pair_adds : (α : Assignment) (l r c : Bit)
    → PairAdds α (bit_number α l + bit_number α r + bit_number α c) (first_pair l r c)
first_pair_adds α l r c =
    let t = bit_number α l + bit_number α r + bit_number α c in
    pair_or_adds α l r c _ t refl (pair_or_adds α l c r _ t (omega arith) (pair_or_adds α r c l none t (omega arith) tt))

-- ---- the variables below n

module _ (Used : ℕ → Type 0) (n : ℕ) where
  abbrev pub PairBelow : Pair → Type 0
  PairBelow none = Unit {0}
  PairBelow (equal p r) = BitBelow Used n p × BitBelow Used n r
  PairBelow (opposite r) = BitBelow Used n r

  pair_or_below : (a b r : Bit) (k : Pair) → BitBelow Used n a → BitBelow Used n r → PairBelow k → PairBelow (pair_or a b r k)
  pair_or_below (fixed a) b r k i j h = h
  pair_or_below (unfixed p) (fixed b) r k i j h = h
  pair_or_below (unfixed p) (unfixed q) r k i j h = go (eqb p.variable q.variable) (beq p.negated q.negated)
    where
      go : (v s : Bool) → PairBelow (pair_by v s (unfixed p) r k)
      go false s = h
      go true true = (i, j)
      go true false = j

  pub first_pair_below : (l r c : Bit) → BitBelow Used n l → BitBelow Used n r → BitBelow Used n c → PairBelow (first_pair l r c)
  first_pair_below l r c il ir ic = pair_or_below l r c _ il ic (pair_or_below l c r _ il ir (pair_or_below r c l none ir il tt))

-- ---- inputs without a pair

abbrev Apart : Bit → Bit → Type 0
Apart (fixed a) b = Unit {0}
Apart (unfixed p) (fixed b) = Unit {0}
Apart (unfixed p) (unfixed q) = eqb q.variable p.variable ≡ false

abbrev is_none : Pair → Bool
is_none none = true
is_none (equal p r) = false
is_none (opposite r) = false

pair_or_none : (a b r : Bit) (k : Pair) → is_none (pair_or a b r k) ≡ true → Apart a b × (is_none k ≡ true)
pair_or_none (fixed a) b r k e = (tt, e)
pair_or_none (unfixed p) (fixed b) r k e = (tt, e)
pair_or_none (unfixed p) (unfixed q) r k e = go (eqb p.variable q.variable) (beq p.negated q.negated) refl e
  where
    go : (v s : Bool) → eqb p.variable q.variable ≡ v → is_none (pair_by v s (unfixed p) r k) ≡ true
        → (eqb q.variable p.variable ≡ false) × (is_none k ≡ true)
    go false s f g = (ne_eqb q.variable p.variable (λ e. eqb-false p.variable q.variable f (sym e)), g)
    go true true f g = absurd (false≢true g)
    go true false f g = absurd (false≢true g)

apart_distinct : (l r c : Bit) → Apart l r → Apart l c → Apart r c → Distinct (literals (l ∷ r ∷ c ∷ []))
apart_distinct (fixed l) (fixed r) (fixed c) f g h = tt
apart_distinct (fixed l) (fixed r) (unfixed p) f g h = (refl, tt)
apart_distinct (fixed l) (unfixed p) (fixed c) f g h = (refl, tt)
apart_distinct (fixed l) (unfixed p) (unfixed q) f g h = (rw (h) refl, (refl, tt))
apart_distinct (unfixed p) (fixed r) (fixed c) f g h = (refl, tt)
apart_distinct (unfixed p) (fixed r) (unfixed q) f g h = (rw (g) refl, (refl, tt))
apart_distinct (unfixed p) (unfixed q) (fixed c) f g h = (rw (f) refl, (refl, tt))
apart_distinct (unfixed p) (unfixed q) (unfixed r) f g h = (rw (f, g) refl, (rw (h) refl, (refl, tt)))

pub no_pair_distinct : (l r c : Bit) → first_pair l r c ≡ none → Distinct (literals (l ∷ r ∷ c ∷ []))
no_pair_distinct l r c e =
    let a = pair_or_none l r c _ (ap is_none e) in
    let b = pair_or_none l c r _ a.1 in
    let d = pair_or_none r c l none b.1 in
    apart_distinct l r c a.0 b.0 d.0

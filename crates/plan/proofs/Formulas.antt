-- The formulas of the kinds as the code computes them: with the power at hand, kind by kind.
use Prim.Native.Nat.{ℕ, ◌+◌, ◌-◌, ◌/◌, ◌%◌, ◌^◌, ◌≤◌, ◌<◌}
use mathlib.Core.Path.{◌≡◌, refl, subst}
use mathlib.Core.Bool.{true, false}
use native.Mathlib.Omega.{arith}
use lib.Dec.{leb, ltb, eqb}
use borrow.Author.Tests.{ltb-true, le-leb, lt-leb, lt-ltb, le-ltb}
use Rattle.line.specs.Line.{kind_of, minuss, sminus, splus}
use Rattle.line.specs.Number.{bit_length}
use Rattle.split.specs.Split.{high, left_at, legal_at, low, right_at}
use Rattle.plan.specs.Steps.{Splits}
use Rattle.split.proofs.Splits.{and₃, high_lt}

-- ---- the operands

-- with q, high and low as computed
module _ {k p n : ℕ} (h : Splits k p n) {q : ℕ} (qe : q ≡ 2 ^ p) where
  pub by_splus : k ≡ 1 → (n / q ≡ left_at (kind_of k) p n) × (n % q ≡ right_at (kind_of k) p n)
  unfolding left_at right_at high low kind_of
  by_splus e = rw (e, qe) (refl, refl)

  pub by_sminus : k ≡ 2 → (n / q + 1 ≡ left_at (kind_of k) p n) × (q - n % q ≡ right_at (kind_of k) p n)
  unfolding left_at right_at high low kind_of
  by_sminus e = rw (e, qe) (refl, refl)

  module _ (is_minuss : k ≡ 3) {m : ℕ} (me : m ≡ bit_length n) where
    -- a MINUSS split is at p < N
    pub below_top : p < m
    unfolding legal_at kind_of
    below_top = omega (
      arith,
      me,
      ltb-true p (bit_length n)
          (and₃ (leb 1 p) (ltb p (bit_length n)) (eqb (high p n % 2) 0)
          (subst (λ (z : ℕ). legal_at (kind_of z) p n ≡ true) is_minuss h.is_legal)).1,
    )

    pub room_high : n / q < 2 ^ (m - p)
    unfolding high
    room_high = rw (qe, me) (high_lt p n (omega (arith, below_top, me)))

    pub by_minuss : {x y : ℕ} → x ≡ 2 ^ m → y ≡ 2 ^ (m - p) → (x - q + n % q ≡ left_at (kind_of k) p n)
        × (y - 1 - n / q ≡ right_at (kind_of k) p n)
    unfolding left_at right_at high low kind_of
    by_minuss xe ye = rw (xe, ye, qe, me, is_minuss) (refl, refl)

-- ---- the test of a split

pub at_1 : (p n : ℕ) → 1 ≤ p → p < bit_length n → legal_at splus p n ≡ eqb (high p n % 2) 1
unfolding legal_at
at_1 p n h k = rw (le-leb 1 p h, lt-ltb p (bit_length n) k, legal_at)

pub not_1 : (p n : ℕ) → 1 ≤ p → bit_length n ≤ p → legal_at splus p n ≡ false
unfolding legal_at
not_1 p n h k = rw (le-leb 1 p h, le-ltb p (bit_length n) k, legal_at)

pub at_2 : (p n : ℕ) → 1 ≤ p → p ≤ bit_length n → legal_at sminus p n ≡ eqb (high p n % 2) 0
unfolding legal_at
at_2 p n h k = rw (le-leb 1 p h, le-leb p (bit_length n) k, legal_at)

pub not_2 : (p n : ℕ) → 1 ≤ p → bit_length n < p → legal_at sminus p n ≡ false
unfolding legal_at
not_2 p n h k = rw (le-leb 1 p h, lt-leb p (bit_length n) k, legal_at)

pub at_3 : (p n : ℕ) → 1 ≤ p → p < bit_length n → legal_at minuss p n ≡ eqb (high p n % 2) 0
unfolding legal_at
at_3 p n h k = rw (le-leb 1 p h, lt-ltb p (bit_length n) k, legal_at)

pub not_3 : (p n : ℕ) → 1 ≤ p → bit_length n ≤ p → legal_at minuss p n ≡ false
unfolding legal_at
not_3 p n h k = rw (le-leb 1 p h, le-ltb p (bit_length n) k, legal_at)

-- The number of lines, over the cost: by a split's operands; and a bound that goes on from earlier numbers to the chosen split holds at
-- every number.
use Prim.Native.Nat.{ℕ, zero, suc, ◌+◌, ◌%◌, ◌≤◌, ◌<◌}
use mathlib.Core.Path.{◌≡◌, sym, ap, subst}
use mathlib.Core.List.{List, [], ◌∷◌, ◌++◌}
use mathlib.Core.Logic.{⊎_elim}
use native.Mathlib.Nat.{le_refl}
use native.Mathlib.Omega.{arith}
use lib.ListN.{length}
use Rattle.line.specs.Number.{bit_length}
use Rattle.split.specs.Split.{left, right}
use Rattle.split.specs.Reach.{turn, follow, reach, adds, set_by, set_of}
use Rattle.split.specs.Choose.{Cost, lines, split_for, line_count}
use Rattle.split.proofs.Sets.{adds_append, adds_one, adds_length, add_length}
use Rattle.split.proofs.Reach.{Legal, Depends, reach_1, reach_step, odd_case, turn_bits, turn_pos}
use Rattle.split.proofs.Choose.{splits_legal}

-- ---- the lines of n by its operands', for every lookup

pub lines_1 : (t : ℕ → ℕ) → line_count t 1 ≡ 0
unfolding line_count set_of adds
lines_1 t = rw (reach_1 t)

pub lines_are : (t : ℕ → ℕ) (n : ℕ) → Legal t (suc (turn n)) → 1 < n → n % 2 ≡ 1 → bit_length n < 64 → line_count t n ≡ lines t (t n) n
unfolding line_count set_of lines set_by
lines_are t n ok big odd fits = ap (λ (l : List ℕ). length (adds l [])) (reach_step t n ok big odd fits)

-- a split has at most the lines of both operands and its own
pub lines_both : (t : ℕ → ℕ) (s n : ℕ) → lines t s n ≤ suc (line_count t (left s n) + line_count t (right s n))
unfolding lines set_by line_count set_of follow
lines_both t s n =
    let L : List ℕ = reach t (left s n) in
    let R : List ℕ = reach t (right s n) in
    rw (adds_append L (R ++ (n ∷ [])) [], adds_append R (n ∷ []) (adds L []), adds_one n (adds R (adds L [])))
    (omega (arith, add_length n (adds R (adds L [])), adds_length R (adds L [])))

-- .. and one whose right operand is 1 at most one more than the left has
pub lines_left : (t : ℕ → ℕ) (s n : ℕ) → right s n ≡ 1 → lines t s n ≤ suc (line_count t (left s n))
lines_left t s n e = omega (arith, lines_both t s n, ap (line_count t) e, lines_1 t)

-- ---- bounds

-- the lines of each odd number before n's turn keep the bound
abbrev pub Bounded : (ℕ → ℕ) → (ℕ → ℕ) → ℕ → Type 0
Bounded t bound n = (m : ℕ) → m % 2 ≡ 1 → turn m < turn n → line_count t m ≤ bound m

module _ (cost : Cost) (depends : Depends cost) (bound : ℕ → ℕ)
    (goes_on : (n : ℕ) → 1 < n → n % 2 ≡ 1 → bit_length n < 32 → Bounded (split_for cost) bound n
    → lines (split_for cost) (split_for cost n) n ≤ bound n) where
  bounded_by : (f n : ℕ) → turn n ≤ f → n % 2 ≡ 1 → bit_length n < 32 → line_count (split_for cost) n ≤ bound n
  bounded_by zero n h odd few = absurd (omega (arith, turn_pos n))
  bounded_by (suc f) n h odd few = ⊎_elim
      (λ e. subst (λ (m : ℕ). line_count (split_for cost) m ≤ bound m) (sym e) (omega (arith, lines_1 (split_for cost))))
      (λ big. omega (
        arith,
        lines_are (split_for cost) n (splits_legal cost depends n few) big odd (omega arith),
        goes_on n big odd few (λ m o l. bounded_by f m (omega arith) o (omega (arith, turn_bits m n (omega arith)))),
      ))
      (odd_case n odd)

  -- the planned lines keep it
  pub bounded : (n : ℕ) → n % 2 ≡ 1 → bit_length n < 32 → line_count (split_for cost) n ≤ bound n
  bounded n odd few = bounded_by (turn n) n (le_refl (turn n)) odd few

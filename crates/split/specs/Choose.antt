-- The chosen split: the cheapest, and on a tie the first, in the order of kinds and then of p.
use Rattle.std.specs.Prelude.{ℕ, zero, suc, ◌+◌, ◌-◌, ◌*◌, ◌/◌, ◌%◌, ◌^◌, ◌≤◌, ◌<◌, ◌≡◌, true, false, List, [], ◌∷◌, eqb, ltb, length, get_or}
use Rattle.line.specs.Number.{bit_length}
use Rattle.split.specs.Split.{legal}
use Rattle.split.specs.Reach.{fuel, set_by, set_of}
use Rattle.split.specs.declared.Best.{Best}

-- ---- the cost of a split, given a lookup t of the others: t, the split, the number

abbrev pub Cost : Type 0
Cost = (ℕ → ℕ) → ℕ → ℕ → ℕ

-- how many coefficients its set has
unfoldable pub lines : Cost
lines t s n = length (set_by t s n)

-- ---- the chosen split of n, given a lookup of the others: what it is

pub record Chosen (cost : Cost) (t : ℕ → ℕ) (n s : ℕ) : Type 0 where
  pub is_legal : legal s n ≡ true
  pub small : s < 128
  pub cheapest : (r : ℕ) → r < 128 → legal r n ≡ true → cost t s n ≤ cost t r n
  pub first : (r : ℕ) → r < 128 → legal r n ≡ true → cost t r n ≤ cost t s n → s ≤ r

-- ---- the search for it: 32 * kind + p is the order of kinds and then of p

-- the split s of cost k, or the best so far, which came before it
unfoldable pub pick : ℕ → ℕ → Best → Best
pick s k b =
    elim (eqb b.split 0) [
      | true ↦ record { split = s; cost = k }
      | false ↦ elim (ltb k b.cost) [ true ↦ record { split = s; cost = k } | false ↦ b ]
    ]

unfoldable pub better : Cost → (ℕ → ℕ) → ℕ → ℕ → Best → Best
better cost t n s b = elim (legal s n) [ true ↦ pick s (cost t s n) b | false ↦ b ]

-- the best of the splits below k
unfoldable pub best_below : Cost → (ℕ → ℕ) → ℕ → ℕ → Best
best_below cost t n zero = record { split = 0; cost = 0 }
best_below cost t n (suc k) = better cost t n k (best_below cost t n k)

unfoldable pub choose : Cost → (ℕ → ℕ) → ℕ → ℕ
choose cost t n = (best_below cost t n 128).split

-- ---- each odd number's chosen split: the lookup t with t 1 = 0 and t n = choose t n at every other

pub record Rule (cost : Cost) (t : ℕ → ℕ) (L : ℕ) : Type 0 where
  pub one : t 1 ≡ 0
  pub others : (n : ℕ) → 1 < n → n % 2 ≡ 1 → bit_length n ≤ L → t n ≡ choose cost t n

unfoldable pub split_by : Cost → ℕ → ℕ → ℕ
split_by cost zero n = 0
split_by cost (suc f) n = elim (ltb n 2) [ true ↦ 0 | false ↦ choose cost (split_by cost f) n ]

unfoldable pub split_for : Cost → ℕ → ℕ
split_for cost n = split_by cost (fuel n) n

-- document 01's choice: the fewest coefficients
abbrev pub split_of : ℕ → ℕ
split_of = split_for lines

-- how many lines the recipe of n has
unfoldable pub line_count : (ℕ → ℕ) → ℕ → ℕ
line_count t n = length (set_of t n)

-- ---- the table

-- the split of an odd n stands at (n - 1) / 2
unfoldable pub look : List ℕ → ℕ → ℕ
look table n = get_or table (n / 2) 0

-- the splits of k odd numbers from 2 * i + 1 on
unfoldable pub splits_from : (ℕ → ℕ) → ℕ → ℕ → List ℕ
splits_from t i zero = []
splits_from t i (suc k) = t (2 * i + 1) ∷ splits_from t (suc i) k

-- the table of the odd numbers of at most L bits
unfoldable pub splits : (ℕ → ℕ) → ℕ → List ℕ
splits t L = splits_from t 0 (2 ^ (L - 1))

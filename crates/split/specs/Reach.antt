-- The coefficients above 1 that are reached when the operands' own splits are followed down until 1 is reached.
-- A lookup t gives the split of each odd number.
use Rattle.std.specs.Prelude.{ℕ, zero, suc, ◌-◌, ◌*◌, ◌^◌, ◌≡◌, Bool, true, false, List, [], ◌∷◌, ◌++◌, eqb, ltb}
use Rattle.line.specs.Number.{bit_length}
use Rattle.split.specs.Split.{left, right}

-- what the operands of n's split s reach by r, and n
unfoldable pub follow : (ℕ → List ℕ) → ℕ → ℕ → List ℕ
follow r s n = r (left s n) ++ (r (right s n) ++ (n ∷ []))

unfoldable pub reach_by : ℕ → (ℕ → ℕ) → ℕ → List ℕ
reach_by zero t n = []
reach_by (suc f) t n = elim (ltb n 2) [ true ↦ [] | false ↦ follow (reach_by f t) (t n) n ]

-- n's turn where a table is filled: by bit length, and within one length from the largest number down
unfoldable pub turn : ℕ → ℕ
turn n = 2 * 2 ^ bit_length n - n

-- no fewer than the turn, which falls from a number to its operands
unfoldable pub fuel : ℕ → ℕ
fuel n = 2 * 2 ^ bit_length n

-- all that n reaches, with repeats
unfoldable pub reach : (ℕ → ℕ) → ℕ → List ℕ
reach t n = reach_by (fuel n) t n

-- ---- sets: a coefficient met twice counts once

unfoldable pub member : ℕ → List ℕ → Bool
member x [] = false
member x (y ∷ ys) = elim (eqb x y) [ true ↦ true | false ↦ member x ys ]

unfoldable pub add : ℕ → List ℕ → List ℕ
add x set = elim (member x set) [ true ↦ set | false ↦ set ++ (x ∷ []) ]

-- a set with each of xs that it lacks
unfoldable pub adds : List ℕ → List ℕ → List ℕ
adds [] set = set
adds (x ∷ xs) set = adds xs (add x set)

-- the set of n's split s
unfoldable pub set_by : (ℕ → ℕ) → ℕ → ℕ → List ℕ
set_by t s n = adds (follow (reach t) s n) []

-- the set of n; empty for n = 1
unfoldable pub set_of : (ℕ → ℕ) → ℕ → List ℕ
set_of t n = adds (reach t n) []

-- the set holds what its members reach
abbrev pub Held : (ℕ → ℕ) → List ℕ → Type 0
Held t set = (x : ℕ) → member x set ≡ true → (y : ℕ) → member y (reach t x) ≡ true → member y set ≡ true

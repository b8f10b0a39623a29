-- A bit is 0, 1, or a literal.
use Rattle.std.specs.Prelude.{ℕ, zero, suc, ◌+◌, ◌*◌, Bool, true, false, not, List, [], ◌∷◌, map, ℤ, pos}
use Rattle.cnf.specs.Clause.{Literal, Assignment, negation, value}
use Rattle.cnf.specs.Words.{word, literal_of_word}

pub data Bit : Type 0 where
  fixed : Bool → Bit
  unfixed : Literal → Bit

abbrev pub flip : Bit → Bit
flip (fixed b) = fixed (not b)
flip (unfixed l) = unfixed (negation l)

-- the bits of x are given literals
abbrev pub given : List ℤ → List Bit
given x = map (λ (l : ℤ). unfixed (literal_of_word l)) x

-- w variables from v on as literals; document 01's x is those from 1 on
unfoldable pub numbered : ℕ → ℕ → List ℤ
numbered v zero = []
numbered v (suc w) = pos v ∷ numbered (suc v) w

-- ---- the number that bits are under an assignment, lowest first

abbrev pub bit_value : Assignment → Bit → Bool
bit_value α (fixed b) = b
bit_value α (unfixed l) = value α l

abbrev pub num : Bool → ℕ
num true = 1
num false = 0

abbrev pub reads : Assignment → List Bit → ℕ
reads α [] = 0
reads α (b ∷ bs) = num (bit_value α b) + 2 * reads α bs

-- ---- a bit of y as it is stored: its literal, or 0 if it is fixed at 0; none is ever fixed at 1

abbrev pub stored : Bit → ℤ
stored (fixed b) = pos 0
stored (unfixed l) = word l

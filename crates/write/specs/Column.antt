-- A column as the code makes it: its inputs, its bits as codes, and the gates of its sum and its carry.
use Rattle.std.specs.Prelude.{ℕ, ◌≤◌, ◌≡◌, cond, List, [], ◌∷◌, eqb}
use Rattle.cnf.specs.Clause.{Clause}
use Rattle.product.specs.Bit.{Bit, flip}
use Rattle.product.specs.Column.{first_pair, Made, plain, sum_made, carry_made, sum_of, carry_of, Column}
use Rattle.gates.specs.Code.{literal_of, bit_of}
use Rattle.gates.specs.Gate.{gate_clauses, column_clauses}
use Rattle.write.specs.declared.column.Inputs.{Inputs}
use Rattle.write.specs.declared.column.Inputs.TheVariants.{Equal, Opposite, Two, Three}
use Rattle.write.specs.declared.column.MadeBit.{MadeBit}
use Rattle.write.specs.declared.column.MadeColumn.{MadeColumn}

-- ---- the inputs

-- a and b are codes of one variable, and the third remains
unfoldable pub pair_of_codes : ℕ → ℕ → ℕ → Inputs
pair_of_codes a b rest = cond (eqb a b) (Equal a rest) (Opposite rest)

-- the sum and the carry of such inputs, each made at a next free variable
abbrev pub inputs_sum : Inputs → ℕ → Made
inputs_sum (Equal p rest) n = plain (bit_of rest) n
inputs_sum (Opposite rest) n = plain (flip (bit_of rest)) n
inputs_sum (Two f p q) n = sum_made f (literal_of p ∷ literal_of q ∷ []) n
inputs_sum (Three p q r) n = sum_made 0 (literal_of p ∷ literal_of q ∷ literal_of r ∷ []) n

abbrev pub inputs_carry : Inputs → ℕ → Made
inputs_carry (Equal p rest) n = plain (bit_of p) n
inputs_carry (Opposite rest) n = plain (bit_of rest) n
inputs_carry (Two f p q) n = carry_made f (literal_of p ∷ literal_of q ∷ []) n
inputs_carry (Three p q r) n = carry_made 0 (literal_of p ∷ literal_of q ∷ literal_of r ∷ []) n

-- the fixed input beside two others is 0 or 1
abbrev pub FixedFew : Inputs → Type 0
FixedFew (Equal p rest) = Unit {0}
FixedFew (Opposite rest) = Unit {0}
FixedFew (Two f p q) = f ≤ 1
FixedFew (Three p q r) = Unit {0}

-- inputs make the sum and the carry that document 01 and request b make of three bits
pub record Sees (i : Inputs) (left right over : Bit) : Type 0 where
  pub sum : (n : ℕ) → inputs_sum i n ≡ sum_of (first_pair left right over) (left ∷ right ∷ over ∷ []) n
  pub carry : (n : ℕ) → inputs_carry i n ≡ carry_of (first_pair left right over) (left ∷ right ∷ over ∷ []) n
  pub few : FixedFew i

-- ---- what was made is what the definition makes, from variable n on

pub record MatchesBit (n : ℕ) (m : MadeBit) (k : Made) : Type 0 where
  pub bit : bit_of m.bit ≡ k.bit
  pub clauses : gate_clauses m.gate ≡ k.clauses
  pub next : m.next ≡ k.next
  pub grows : n ≤ m.next

abbrev pub made_clauses : MadeColumn → List Clause
made_clauses c = column_clauses c.parity c.majority

pub record MatchesColumn (n : ℕ) (c : MadeColumn) (k : Column) : Type 0 where
  pub sum : bit_of c.sum ≡ k.sum_bit
  pub carry : bit_of c.carry ≡ k.carry_bit
  pub clauses : made_clauses c ≡ k.clauses
  pub next : c.next ≡ k.next
  pub grows : n ≤ c.next

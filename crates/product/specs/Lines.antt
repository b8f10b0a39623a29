-- A line as columns, and a recipe as lines.
use Rattle.std.specs.Prelude.{ℕ, zero, suc, ◌*◌, ◌-◌, ◌^◌, Bool, true, false, List, [], ◌∷◌, ◌++◌, map, get_or}
use Rattle.line.specs.Number.{bit_length}
use Rattle.line.specs.Line.{Kind, splus, sminus, minuss, kind_of}
use Rattle.line.specs.declared.Line.{Line}
use Rattle.cnf.specs.Clause.{Clause}
use Rattle.product.specs.Bit.{Bit, fixed, flip}
use Rattle.product.specs.Column.{Column, column}

-- ---- a sum of two terms, column by column

pub record Sum : Type 0 where
  pub bits : List Bit
  pub clauses : List Clause
  pub next : ℕ

abbrev pub none_left : List Bit → Bool
none_left [] = true
none_left (b ∷ bs) = false

-- the terms' bits, the first carry and the next free variable
unfoldable pub adder : List Bit → List Bit → Bit → ℕ → Sum
adder [] rs c n = record { bits = []; clauses = []; next = n }
adder (l ∷ ls) [] c n = record { bits = []; clauses = []; next = n }
adder (l ∷ ls) (r ∷ rs) c n =
    let k : Column = column l r c (none_left ls) n in
    let s : Sum = adder ls rs k.carry_bit k.next in
    record { bits = k.sum_bit ∷ s.bits; clauses = k.clauses ++ s.clauses; next = s.next }

-- ---- a line of m columns

-- shifting puts zero bits below
unfoldable pub shifted : ℕ → List Bit → List Bit
shifted zero bs = bs
shifted (suc s) bs = fixed false ∷ shifted s bs

-- bits past an operand's end are 0; bits at m and above are dropped
unfoldable pub fitted : ℕ → List Bit → List Bit
fitted zero bs = []
fitted (suc m) [] = fixed false ∷ fitted m []
fitted (suc m) (b ∷ bs) = b ∷ fitted m bs

-- the minuend and every column of the subtrahend negated, with first carry 1
unfoldable pub line_sum : Kind → ℕ → List Bit → ℕ → List Bit → ℕ → Sum
line_sum splus m left s right n = adder (fitted m (shifted s left)) (fitted m right) (fixed false) n
line_sum sminus m left s right n = adder (fitted m (shifted s left)) (map flip (fitted m right)) (fixed true) n
line_sum minuss m left s right n = adder (fitted m left) (map flip (fitted m (shifted s right))) (fixed true) n

-- the columns of a line of coefficient k at width w
unfoldable pub columns : ℕ → ℕ → ℕ
columns w k = bit_length (k * (2 ^ w - 1))

-- ---- a recipe

-- every operand's bits, x's first; the clauses; the next free variable
pub record Encoded : Type 0 where
  pub operands : List (List Bit)
  pub clauses : List Clause
  pub next : ℕ

-- m says how many columns a line of a coefficient has
unfoldable pub line_encoded : (ℕ → ℕ) → Line → List (List Bit) → ℕ → Sum
line_encoded m l operands n =
    line_sum (kind_of l.kind) (m l.coefficient) (get_or operands l.left []) l.shift (get_or operands l.right []) n

unfoldable pub encoded : (ℕ → ℕ) → List Line → List (List Bit) → ℕ → Encoded
encoded m [] operands n = record { operands = operands; clauses = []; next = n }
encoded m (l ∷ ls) operands n =
    let s : Sum = line_encoded m l operands n in
    let e : Encoded = encoded m ls (operands ++ (s.bits ∷ [])) s.next in
    record { operands = e.operands; clauses = s.clauses ++ e.clauses; next = e.next }

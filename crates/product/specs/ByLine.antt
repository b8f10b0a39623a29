-- The clauses of a recipe line by line: those that each line's columns add.
use Rattle.std.specs.Prelude.{ℕ, List, [], ◌∷◌, ◌++◌, ℤ, length}
use Rattle.line.specs.declared.Line.{Line}
use Rattle.cnf.specs.Clause.{Clause}
use Rattle.product.specs.Bit.{Bit, given}
use Rattle.product.specs.Lines.{Sum, columns, line_encoded}
use Rattle.product.specs.Product.{lines_of}

unfoldable pub clauses_by_line : (ℕ → ℕ) → List Line → List (List Bit) → ℕ → List (List Clause)
clauses_by_line m [] operands n = []
clauses_by_line m (l ∷ ls) operands n =
    let s : Sum = line_encoded m l operands n in
    s.clauses ∷ clauses_by_line m ls (operands ++ (s.bits ∷ [])) s.next

-- of the call: x is given literals, first the first free number
unfoldable pub line_clauses : List ℤ → ℕ → List ℕ → List (List Clause)
line_clauses x first recipe = clauses_by_line (columns (length (given x))) (lines_of recipe) (given x ∷ []) first

-- one line's behind the other's
unfoldable pub joined : List (List Clause) → List Clause
joined [] = []
joined (cs ∷ rest) = cs ++ joined rest

-- The product of x and a constant: y and the clauses. x is any list of bits and n the first free variable.
use Rattle.std.specs.Prelude.{ℕ, zero, suc, ◌/◌, List, [], ◌∷◌, map, ℤ, length}
use Rattle.line.specs.Limits.{line_bytes}
use Rattle.line.specs.Number.{twos}
use Rattle.line.specs.declared.Line.{Line}
use Rattle.recipe.specs.Check.{line_at}
use Rattle.cnf.specs.Clause.{Clause}
use Rattle.cnf.specs.Words.{words}
use Rattle.product.specs.Bit.{Bit, given, numbered, stored}
use Rattle.product.specs.Lines.{shifted, columns, Encoded, encoded}

abbrev pub last_or {ℓ} : {A : Type ℓ} → A → List A → A
last_or d [] = d
last_or d (x ∷ xs) = last_or x xs

pub record Product : Type 0 where
  pub y : List Bit
  pub clauses : List Clause
  pub next : ℕ

-- y is t zeros, then the bits of the last line, or of x if there is none
unfoldable pub product_made : ℕ → List Line → List Bit → ℕ → Product
product_made t lines x n =
    let e : Encoded = encoded (columns (length x)) lines (x ∷ []) n in
    record { y = shifted t (last_or [] e.operands); clauses = e.clauses; next = e.next }

-- ---- the call: x is given literals, first the first free variable, and the lines are read off the recipe's bytes

-- n lines of a recipe, from line i + 1 on
unfoldable pub lines_from : List ℕ → ℕ → ℕ → List Line
lines_from recipe i zero = []
lines_from recipe i (suc n) = line_at recipe i ∷ lines_from recipe (suc i) n

abbrev pub lines_of : List ℕ → List Line
lines_of recipe = lines_from recipe 0 (length recipe / line_bytes)

unfoldable pub product_of : ℕ → List ℤ → ℕ → List ℕ → Product
product_of c x first recipe = product_made (twos c) (lines_of recipe) (given x) first

-- document 01's call: x is the variables 1 to w
abbrev pub plain_product_of : ℕ → ℕ → List ℕ → Product
plain_product_of c w recipe = product_of c (numbered 1 w) (suc w) recipe

-- as they are stored
abbrev pub y_entries : Product → List ℤ
y_entries p = map stored p.y

abbrev pub clause_words : Product → List ℤ
clause_words p = words p.clauses

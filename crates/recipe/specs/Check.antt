-- Which recipes are right, and what is wrong with the others (document 01, "Refusal numbers and their order").
use Rattle.std.specs.Prelude.{ℕ, zero, suc, ◌+◌, ◌*◌, ◌/◌, ◌%◌, Bool, false, not, List, [], ◌∷◌, eqb, ltb, ℤ, pos, negsuc, length, take, drop, Ok, Err}
use Rattle.line.specs.Limits.{line_bytes, recipe_bytes, out_of_range}
use Rattle.line.specs.Number.{odd_part}
use Rattle.line.specs.Line.{kind_gives, number, line_of}
use Rattle.line.specs.Order.{refuses, unless_broken, first_broken, in_order}
use Rattle.line.specs.declared.Line.{Line}
use Rattle.line.specs.declared.Refusal.TheVariants.{Constant, Length, Form, Operand, Even, Value, Product}
use Rattle.line.specs.Order.{Verdict}

-- what the check answers: the recipe is right, or why it is not
abbrev pub Checked : Type 0
Checked = Verdict

-- ---- the recipe's lines

-- line i + 1, from its own place in the recipe
abbrev pub line_at : List ℕ → ℕ → Line
line_at recipe i = line_of (number (take line_bytes (drop (i * line_bytes) recipe)))

-- the coefficient of operand i: x has 1, a line has what it claims
abbrev pub coefficient_at : List ℕ → ℕ → ℕ
coefficient_at recipe zero = 1
coefficient_at recipe (suc i) = (line_at recipe i).coefficient

-- the coefficients of the operands of line i + 1
abbrev pub left_coefficient : List ℕ → ℕ → ℕ
left_coefficient recipe i = coefficient_at recipe (line_at recipe i).left

abbrev pub right_coefficient : List ℕ → ℕ → ℕ
right_coefficient recipe i = coefficient_at recipe (line_at recipe i).right

-- ---- rules 4 to 7

-- whether the claimed coefficient k is what the kind gives
unfoldable pub claims : ℕ → ℤ → Bool
claims k (pos n) = eqb k n
claims k (negsuc n) = false

-- what rule 7 says of a line that claims the coefficient k, by its number and the value that it gives
abbrev pub value_judged : ℕ → ℕ → ℤ → Verdict
value_judged k number given = refuses (not (claims k given)) (Value number given)

-- what the rules say of line i + 1, whose operands have the coefficients l and r: the first rule that it breaks, with the line's number,
-- and where that is rule 7 with what the line gives
unfoldable pub judged : Line → ℕ → ℕ → ℕ → Verdict
judged line i l r = first_broken (
    refuses (ltb 0 line.top) (Form (i + 1))
    ∷ refuses (eqb line.kind 0) (Form (i + 1))
    ∷ refuses (ltb i line.left) (Operand (i + 1))
    ∷ refuses (ltb i line.right) (Operand (i + 1))
    ∷ refuses (eqb (line.coefficient % 2) 0) (Even (i + 1))
    ∷ value_judged line.coefficient (i + 1) (kind_gives line l r)
    ∷ [])

abbrev pub judged_at : List ℕ → ℕ → Verdict
judged_at recipe i = judged (line_at recipe i) i (left_coefficient recipe i) (right_coefficient recipe i)

-- ---- rule 3, the first line that breaks a rule, and then rule 8

-- the n lines from line i + 1 on
unfoldable pub lines_judged : List ℕ → ℕ → ℕ → Verdict
lines_judged recipe zero i = Ok tt
lines_judged recipe (suc n) i = unless_broken (judged_at recipe i) (lines_judged recipe n (suc i))

-- rules 3 to 7
unfoldable pub form_judged : List ℕ → Verdict
form_judged recipe = first_broken (
    refuses (not (eqb (length recipe % line_bytes) 0)) Length
    ∷ refuses (ltb recipe_bytes (length recipe)) Length
    ∷ lines_judged recipe (length recipe / line_bytes) 0
    ∷ [])

-- the product
abbrev pub product_at : List ℕ → ℕ
product_at recipe = coefficient_at recipe (length recipe / line_bytes)

-- rules 3 to 8, for a recipe whose product is to be d
unfoldable pub recipe_judged : ℕ → List ℕ → Verdict
recipe_judged d recipe = first_broken (form_judged recipe ∷ refuses (not (eqb (product_at recipe) d)) Product ∷ [])

-- ---- checking

unfoldable pub checked : ℕ → List ℕ → Checked
checked c recipe = in_order Err (refuses (out_of_range c) Constant ∷ recipe_judged (odd_part c) recipe ∷ []) (Ok tt)

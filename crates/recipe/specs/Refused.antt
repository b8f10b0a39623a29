-- The first bad line of a recipe, and what is told of it (document 02 c), with no word of the check.
use Rattle.std.specs.Prelude.{ℕ, ◌+◌, ◌/◌, ◌%◌, ◌≤◌, ◌<◌, ◌≡◌, List, ℤ, pos, length}
use Rattle.line.specs.Limits.{line_bytes}
use Rattle.line.specs.Line.{kind_gives}
use Rattle.line.specs.declared.Line.{Line}
use Rattle.line.specs.declared.Told.{Told}
use Rattle.recipe.specs.Check.{line_at, left_coefficient, right_coefficient}
use Rattle.recipe.specs.Accepted.{RightAt}

-- the rules of a line, in their order; a line that keeps all four is right (`LineRight`, which has them in no order)
pub data LineRule : Type 0 where
  form operand odd value : LineRule

abbrev pub rule_number : LineRule → ℕ
rule_number form = 4
rule_number operand = 5
rule_number odd = 6
rule_number value = 7

-- line i + 1, whose operands have the coefficients l and r, keeps the rule
abbrev pub Keeps : LineRule → Line → ℕ → ℕ → ℕ → Type 0
Keeps form line i l r = (line.top ≡ 0) × (1 ≤ line.kind) × (line.kind ≤ 3)
Keeps operand line i l r = (line.left ≤ i) × (line.right ≤ i)
Keeps odd line i l r = line.coefficient % 2 ≡ 1
Keeps value line i l r = pos line.coefficient ≡ kind_gives line l r

-- the value that is told where this rule is broken, by a line that gives z
abbrev pub value_told : LineRule → ℤ → ℤ
value_told form z = pos 0
value_told operand z = pos 0
value_told odd z = pos 0
value_told value z = z

-- line i + 1 breaks the rule that the number names and keeps each before it; it is the line told
pub record Breaks (line : Line) (i l r : ℕ) (t : Told) : Type 0 where
  pub rule : LineRule
  pub number : t.number ≡ rule_number rule
  pub line_told : t.line ≡ i + 1
  pub value : t.value ≡ value_told rule (kind_gives line l r)
  pub kept : (e : LineRule) → rule_number e < rule_number rule → Keeps e line i l r
  pub broken : Keeps rule line i l r → ⊥

-- the line told is bad, and every line before it is right
pub record FirstBad (recipe : List ℕ) (t : Told) : Type 0 where
  pub place : ℕ
  pub within : place < length recipe / line_bytes
  pub before : (j : ℕ) → j < place → RightAt recipe j
  pub bad : Breaks (line_at recipe place) place (left_coefficient recipe place) (right_coefficient recipe place) t

-- A recipe that is right for c (document 01, "The job and its edges" and "A recipe line"), with no word of the check and in no order.
use Rattle.std.specs.Prelude.{ℕ, ◌/◌, ◌%◌, ◌≤◌, ◌<◌, ◌≡◌, List, pos, length}
use Rattle.line.specs.Limits.{most_constant, most_coefficient, line_bytes, recipe_bytes}
use Rattle.line.specs.Number.{odd_part}
use Rattle.line.specs.Line.{kind_gives}
use Rattle.line.specs.declared.Line.{Line}
use Rattle.recipe.specs.Check.{line_at, left_coefficient, right_coefficient, product_at}

-- line i + 1 has the form, names earlier operands, of the coefficients l and r, and claims what its kind gives
pub record LineRight (line : Line) (i l r : ℕ) : Type 0 where
  pub top : line.top ≡ 0
  pub kind_least : 1 ≤ line.kind
  pub kind_most : line.kind ≤ 3
  pub left : line.left ≤ i
  pub right : line.right ≤ i
  pub odd : line.coefficient % 2 ≡ 1
  pub most : line.coefficient ≤ most_coefficient
  pub value : pos line.coefficient ≡ kind_gives line l r

-- line i + 1 of a recipe is right
abbrev pub RightAt : List ℕ → ℕ → Type 0
RightAt recipe i = LineRight (line_at recipe i) i (left_coefficient recipe i) (right_coefficient recipe i)

-- at most 32 lines, of five bytes, each of them right, and the product is d
pub record Makes (d : ℕ) (recipe : List ℕ) : Type 0 where
  pub whole : length recipe % line_bytes ≡ 0
  pub short : length recipe ≤ recipe_bytes
  pub line : (i : ℕ) → i < length recipe / line_bytes → RightAt recipe i
  pub product : product_at recipe ≡ d

pub record Right (c : ℕ) (recipe : List ℕ) : Type 0 where
  pub least : 1 ≤ c
  pub most : c ≤ most_constant
  pub makes : Makes (odd_part c) recipe

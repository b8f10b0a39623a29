-- Planning: from a constant and two rooms to the answer and the rooms at exit. A lookup t gives each odd number's split;
-- document 01's is `split_of`.
use Rattle.std.specs.Prelude.{ℕ, ◌-◌, ◌*◌, ◌/◌, ◌^◌, List, [], ◌∷◌, ltb, length, Result, Ok, Err}
use Rattle.std.proofs.lemmas.List.Edits.{sets}
use Rattle.line.specs.Limits.{line_bytes, out_of_range}
use Rattle.line.specs.Number.{bit_length, odd_part}
use Rattle.line.specs.Order.{refuses, in_order}
use Rattle.line.specs.declared.Refusal.{Refusal}
use Rattle.line.specs.declared.Refusal.TheVariants.{Constant, WorkRoom, RecipeRoom}
use Rattle.line.specs.Order.{Verdict}
use Rattle.split.specs.Choose.{split_of, splits}
use Rattle.split.specs.Order.{recipe_for, lines_bytes}

-- what planning answers, and how many lines that gives
abbrev pub Planned : Type 0
Planned = Result ℕ Refusal

abbrev pub planned_lines : Planned → ℕ
planned_lines (Ok n) = n
planned_lines (Err x) = 0

-- L: the bits of c's odd part
abbrev pub odd_bits : ℕ → ℕ
odd_bits c = bit_length (odd_part c)

-- the tests in their order; work and recipe are the rooms' lengths
abbrev pub plan_tests : ℕ → ℕ → ℕ → List Verdict
plan_tests c work recipe =
    refuses (out_of_range c) Constant
    ∷ refuses (ltb work (2 ^ (odd_bits c - 1))) WorkRoom
    ∷ refuses (ltb recipe (line_bytes * (odd_bits c / 2))) RecipeRoom
    ∷ []

unfoldable pub plan_answer : (ℕ → ℕ) → ℕ → ℕ → ℕ → Planned
plan_answer t c work recipe = in_order Err (plan_tests c work recipe) (Ok (length (recipe_for t (odd_part c))))

-- the answer, and both rooms at exit
pub record Planning : Type 0 where
  pub answer : Planned
  pub work : List ℕ
  pub recipe : List ℕ

abbrev pub planning : Planned → List ℕ → List ℕ → Planning
planning answer work recipe = record { answer = answer; work = work; recipe = recipe }

-- a refusal leaves both rooms as they came
abbrev pub plan_by : (ℕ → ℕ) → Planned → ℕ → List ℕ → List ℕ → Planning
plan_by t (Ok n) c work recipe = planning (Ok n) (sets work 0 (splits t (odd_bits c)))
    (sets recipe 0 (lines_bytes (recipe_for t (odd_part c))))
plan_by t (Err x) c work recipe = planning (Err x) work recipe

unfoldable pub plan_outcome : (ℕ → ℕ) → ℕ → List ℕ → List ℕ → Planning
plan_outcome t c work recipe = plan_by t (plan_answer t c (length work) (length recipe)) c work recipe

unfoldable pub planned : ℕ → List ℕ → List ℕ → Planning
planned c work recipe = plan_outcome split_of c work recipe

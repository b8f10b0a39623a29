-- What each step of the program prints, for what it gets from the step before: planning and writing answer with a refusal or with counts,
-- and leave their bytes, entries and words in rooms of a fixed length.
use Rattle.std.specs.Prelude.{ℕ, suc, ◌-◌, ◌*◌, ◌≤◌, ◌<◌, List, ℤ, take, Ok, Err}
use Rattle.line.specs.Limits.{line_bytes}
use Rattle.line.specs.Refusal.{refusal_number}
use Rattle.plan.specs.Plan.{Planned}
use Rattle.product.specs.Product.{Product, plain_product_of}
use Rattle.product.specs.Bit.{numbered}
use Rattle.product.specs.Write.{write_answer}
use Rattle.product.specs.Write.{Written}
use Rattle.wording.specs.File.{file_text, refused_text}
use Rattle.wording.specs.Print.{product_text}
use Rattle.dimacs.specs.Sizes.{program_bits, program_words}

-- ---- writing

-- the counts are no more than the rooms' lengths, and a number comes before the next free one
abbrev pub WrittenFits : Written → ℕ → ℕ → Type 0
WrittenFits (Ok n) bit_room clause_room = (n.bits ≤ bit_room) × (n.words ≤ clause_room) × (0 < n.next)
WrittenFits (Err x) bit_room clause_room = Unit {0}

-- an answer and the two rooms at exit
unfoldable pub written_text : Written → ℕ → ℕ → List ℤ → List ℤ → List ℕ
written_text (Ok n) c w bit_room clause_room =
    file_text c w (take n.bits bit_room) (n.next - 1) n.clauses (take n.words clause_room)
written_text (Err x) c w bit_room clause_room = refused_text (refusal_number x)

unfoldable pub answer_text : Written → ℕ → ℕ → Product → List ℕ
answer_text (Ok n) c w p = product_text c w p
answer_text (Err x) c w p = refused_text (refusal_number x)

-- a recipe that is written into rooms of 32 entries and 16,384 words
unfoldable pub recipe_text : ℕ → ℕ → List ℕ → List ℕ
recipe_text c w recipe =
    answer_text (write_answer c w (numbered 1 w) (suc w) recipe program_bits program_words) c w (plain_product_of c w recipe)

-- ---- planning

abbrev pub PlannedFits : Planned → ℕ → Type 0
PlannedFits (Ok n) recipe_room = line_bytes * n ≤ recipe_room
PlannedFits (Err x) recipe_room = Unit {0}

-- an answer and the recipe room at exit
unfoldable pub planned_text : Planned → ℕ → ℕ → List ℕ → List ℕ
planned_text (Ok n) c w recipe_room = recipe_text c w (take (line_bytes * n) recipe_room)
planned_text (Err x) c w recipe_room = refused_text (refusal_number x)

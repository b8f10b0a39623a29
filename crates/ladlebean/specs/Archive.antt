-- What the entry points leave of a call's outcome: each field of its answer a number of its own, and the rooms.
use Rattle.line.specs.Refusal.{told_of, number_of}
use Rattle.std.specs.Prelude.{ℕ, ◌≡◌, List, ℤ}
use Rattle.line.specs.declared.Told.{Told}
use Rattle.plan.specs.Plan.{Planning, planned_lines}
use Rattle.propagate.specs.Pass.{Propagating, clauses_read}
use Rattle.product.specs.Write.{Writing, words_used, clauses_written, next_free, bits_of_y}
use Rattle.product.specs.Write.{Written}

-- ---- checking

pub record ToldApart (t : Told) (number line : ℕ) (value : ℤ) : Type 0 where
  pub number_told : number ≡ t.number
  pub line_told : line ≡ t.line
  pub value_told : value ≡ t.value

-- ---- planning

pub record PlanApart (o : Planning) (number : ℕ) (work recipe : List ℕ) (lines : ℕ) : Type 0 where
  pub number_told : number ≡ number_of o.answer
  pub work_room : work ≡ o.work
  pub recipe_room : recipe ≡ o.recipe
  pub lines_told : lines ≡ planned_lines o.answer

-- ---- writing

pub record Fields (answer : Written) (number words count next size line : ℕ) (value : ℤ) : Type 0 where
  pub told : ToldApart (told_of answer) number line value
  pub words_told : words ≡ words_used answer
  pub clauses_told : count ≡ clauses_written answer
  pub next_told : next ≡ next_free answer
  pub bits_told : size ≡ bits_of_y answer

pub record Apart (o : Writing) (number : ℕ) (bits clauses : List ℤ) (words count next size line : ℕ) (value : ℤ) : Type 0 where
  pub bit_room : bits ≡ o.bits
  pub clause_room : clauses ≡ o.clauses
  pub fields : Fields o.answer number words count next size line value

-- ---- one pass over words

pub record PassApart (o : Propagating) (number : ℕ) (values : List ℕ) (clauses : ℕ) : Type 0 where
  pub number_told : number ≡ number_of o.answer
  pub value_room : values ≡ o.room
  pub clauses_told : clauses ≡ clauses_read o.answer

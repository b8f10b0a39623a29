-- What the program prints for its whole standard input: it plans, writes and prints, in rooms that are never too short.
-- A lookup t gives each odd number's split; document 01's is `split_of`.
use Rattle.std.specs.Prelude.{ℕ, ◌-◌, ◌≤◌, ◌≡◌, cond, List, [], ◌∷◌, ltb, length, Option, Some, None}
use Rattle.std.proofs.lemmas.List.Edits.{sets}
use Rattle.line.specs.Limits.{out_of_range, not_a_width}
use Rattle.line.specs.Number.{odd_part}
use Rattle.line.specs.Order.{refuses, in_order}
use Rattle.line.specs.Refusal.{refusal_number}
use Rattle.line.specs.declared.Refusal.TheVariants.{Constant, Width, Input}
use Rattle.split.specs.Choose.{split_of}
use Rattle.split.specs.Order.{recipe_for, lines_bytes}
use Rattle.product.specs.Product.{Product, plain_product_of, y_entries, clause_words}
use Rattle.wording.specs.Request.{asked}
use Rattle.wording.specs.File.{file_text, refused_text}
use Rattle.wording.specs.Request.{Request}

unfoldable pub product_text : ℕ → ℕ → Product → List ℕ
product_text c w p = file_text c w (y_entries p) (p.next - 1) (length p.clauses) (clause_words p)

-- planning refuses 1, and then writing refuses 2
abbrev pub answered : (ℕ → ℕ) → Request → List ℕ
answered t None = refused_text (refusal_number Input)
answered t (Some (c, w)) =
    in_order (λ x. refused_text (refusal_number x)) (refuses (out_of_range c) Constant ∷ refuses (not_a_width w) Width ∷ [])
    (product_text c w (plain_product_of c w (lines_bytes (recipe_for t (odd_part c)))))

unfoldable pub printed_by : (ℕ → ℕ) → List ℕ → List ℕ
printed_by t input = answered t (asked input)

unfoldable pub printed : List ℕ → List ℕ
printed input = printed_by split_of input

-- ---- the call, which puts this into a room

-- what it answers: how many bytes, where the room is long enough for every file
abbrev pub Printed : Type 0
Printed = Option ℕ

-- what it leaves
pub record Printing : Type 0 where
  pub answer : Printed
  pub room : List ℕ

abbrev pub printing : Printed → List ℕ → Printing
printing answer room = record { answer = answer; room = room }

-- every file fits into a room of this length
abbrev pub file_room : ℕ
file_room = 262144

-- a shorter room stays as it came
unfoldable pub filed : List ℕ → List ℕ → Printing
filed input room =
    cond (ltb (length room) file_room) (printing None room)
    (printing (Some (length (printed input))) (sets room 0 (printed input)))

-- how many bytes an answer counts
abbrev pub bytes_counted : Printed → ℕ
bytes_counted (Some n) = n
bytes_counted None = 0

-- what the call promises: this, and that the bytes lie in the room
pub record Files (input room : List ℕ) (answer : Printed) (room' : List ℕ) : Type 0 where
  pub left : printing answer room' ≡ filed input room
  pub within : bytes_counted answer ≤ length room

-- What the functions that write sums and lines ask, and what they leave in their rooms.
use Rattle.std.specs.Prelude.{ℕ, ◌+◌, ◌*◌, ◌≤◌, ◌<◌, ◌≡◌, false, List, [], ◌∷◌, map, length, get_or, take, ℤ}
use Rattle.std.proofs.lemmas.List.Edits.{sets}
use Rattle.line.specs.Limits.{most_width, most_lines, line_bytes, most_next}
use Rattle.line.specs.Line.{kind_of}
use Rattle.line.specs.declared.Line.{Line}
use Rattle.recipe.specs.Check.{line_at}
use Rattle.cnf.specs.Words.{words}
use Rattle.product.specs.Bit.{Bit, fixed, given, stored}
use Rattle.product.specs.Lines.{Sum, adder, line_sum, columns, Encoded, encoded}
use Rattle.product.specs.Product.{Product, product_made, lines_from}
use Rattle.product.specs.Write.{unfit}
use Rattle.gates.specs.Code.{bit_of, bits_of}
use Rattle.write.specs.Terms.{listed, term_code, shift_of_left, shift_of_right, taken_off, operand_at}
use Rattle.write.specs.declared.lines.Place.{Place}
use Rattle.write.specs.Sizes.{most_columns, scratch_size, most_column_words, most_column_clauses, most_counted}

-- ---- a sum of m columns, from a place on

pub record CanSum (left right : List ℕ) (first : ℕ) (from : Place) (m : ℕ) (sums : List ℕ) : Type 0 where
  pub columns : m ≤ 64
  pub lefts : length left ≡ m
  pub rights : length right ≡ m
  pub bits : m ≤ length sums
  pub next_pos : 0 < from.next
  pub next_fits : (adder (bits_of left) (bits_of right) (bit_of first) from.next).next ≤ most_next
  pub words_small : from.words ≤ most_counted
  pub clauses_small : from.clauses ≤ most_counted

-- the sum's bits stand as codes in their room from `at` on, and its clauses' words in the clause room, if they fit
pub record SumIs (s : Sum) (from : Place) (m at : ℕ) (r : Place) (sums sums' : List ℕ) (room room' : List ℤ) : Type 0 where
  pub codes : List ℕ
  pub bits_are : bits_of codes ≡ s.bits
  pub stored : sums' ≡ sets sums at codes
  pub next_is : r.next ≡ s.next
  pub words_are : r.words ≡ from.words + length (words s.clauses)
  pub clauses_are : r.clauses ≡ from.clauses + length s.clauses
  pub room_is : r.words ≤ length room → room' ≡ sets room from.words (words s.clauses)
  pub grows : from.next ≤ r.next
  pub words_few : r.words ≤ from.words + most_column_words * m
  pub clauses_few : r.clauses ≤ from.clauses + most_column_clauses * m

-- ---- a line of m columns, whose own bits go to place `at` of the scratch room

-- the fronts of two rooms hold the line's two terms
pub record TermsAre (l : Line) (m : ℕ) (scratch left left' right right' : List ℕ) : Type 0 where
  pub left_is : left' ≡ sets left 0 (listed (term_code (operand_at scratch l.left) (shift_of_left (kind_of l.kind) l.shift) 0) m)
  pub right_is : right'
      ≡ sets right 0
      (listed (term_code (operand_at scratch l.right) (shift_of_right (kind_of l.kind) l.shift) (taken_off (kind_of l.kind))) m)

pub record CanLine (l : Line) (m at : ℕ) (from : Place) (scratch : List ℕ) : Type 0 where
  pub columns : m ≤ most_columns
  pub long : length scratch ≡ scratch_size
  pub lefts : most_columns * l.left + most_columns ≤ length scratch
  pub rights : most_columns * l.right + most_columns ≤ length scratch
  pub bits : most_columns * at + most_columns ≤ length scratch
  pub next_pos : 0 < from.next
  pub next_fits : (line_sum (kind_of l.kind) m (bits_of (operand_at scratch l.left)) l.shift
      (bits_of (operand_at scratch l.right)) from.next).next ≤ most_next
  pub words_small : from.words ≤ most_counted
  pub clauses_small : from.clauses ≤ most_counted

-- ---- a recipe of n lines; x stands in the front of the scratch room

-- operands' bits stand in the scratch room, 36 entries to an operand, and zeros behind
pub record Holds (scratch : List ℕ) (operands : List (List Bit)) : Type 0 where
  pub bits : (k j : ℕ) → k < length operands → j < most_columns
      → bit_of (get_or scratch (most_columns * k + j) 0) ≡ get_or (get_or operands k []) j (fixed false)
  pub behind : (j : ℕ) → most_columns * length operands ≤ j → get_or scratch j 0 ≡ 0

-- each line is of earlier operands and of few enough columns
pub record Writable (w : ℕ) (recipe : List ℕ) (n : ℕ) : Type 0 where
  pub few : n ≤ most_lines
  pub whole : line_bytes * n ≤ length recipe
  pub lefts : (i : ℕ) → i < n → (line_at recipe i).left ≤ i
  pub rights : (i : ℕ) → i < n → (line_at recipe i).right ≤ i
  pub columns : (i : ℕ) → i < n → columns w (line_at recipe i).coefficient ≤ most_columns

pub record CanLines (recipe : List ℕ) (n w next : ℕ) (scratch : List ℕ) : Type 0 where
  pub lines : Writable w recipe n
  pub width : w ≤ most_width
  pub next_pos : 0 < next
  pub next_fits : (encoded (columns w) (lines_from recipe 0 n) (bits_of (take w scratch) ∷ []) next).next ≤ most_next
  pub long : length scratch ≡ scratch_size
  pub blank : (j : ℕ) → w ≤ j → get_or scratch j 0 ≡ 0

pub record LinesAre (e : Encoded) (next : ℕ) (r : Place) (scratch : List ℕ) (room room' : List ℤ) : Type 0 where
  pub next_is : r.next ≡ e.next
  pub words_are : r.words ≡ length (words e.clauses)
  pub clauses_are : r.clauses ≡ length e.clauses
  pub room_is : r.words ≤ length room → room' ≡ sets room 0 (words e.clauses)
  pub held : Holds scratch e.operands
  pub grows : next ≤ r.next

-- ---- a pass over a recipe; x is given literals, and size the number of y's bits

-- what a product over variables from first on needs
pub record CountsAre (p : Product) (first : ℕ) (r : Place) : Type 0 where
  pub next_is : r.next ≡ p.next
  pub words_are : r.words ≡ length (words p.clauses)
  pub clauses_are : r.clauses ≡ length p.clauses
  pub grows : first ≤ r.next

-- the counts, and in each room what fits
pub record PassIs (p : Product) (first size : ℕ) (r : Place) (y y' room room' : List ℤ) : Type 0 where
  pub counts : CountsAre p first r
  pub room_is : r.words ≤ length room → room' ≡ sets room 0 (words p.clauses)
  pub y_is : size ≡ length p.y → size ≤ length y → y' ≡ sets y 0 (map stored p.y)

-- ---- writing behind the check

pub record CanWrite (recipe : List ℕ) (n : ℕ) (x : List ℤ) (first t size : ℕ) : Type 0 where
  pub lines : Writable (length x) recipe n
  pub width : length x ≤ most_width
  pub fit : unfit first x ≡ false
  pub first_pos : 0 < first
  pub few_bits : size ≤ t + most_columns
  pub bits : size ≡ length (product_made t (lines_from recipe 0 n) (given x) first).y

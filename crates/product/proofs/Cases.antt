-- The definition of writing gives the worked cases, by computation. Assumes nothing.
use Prim.Native.Nat.{ℕ, suc}
use mathlib.Core.Path.{◌≡◌, refl}
use mathlib.Core.List.{List, map}
use lib.IntN.{ℤ, pos}
use lib.ListN.{replicate, take}
use Rattle.line.specs.Refusal.{told_of}
use Rattle.line.specs.Number.{digits_by, bit_length, halvings_by, twos, odd_part}
use Rattle.line.specs.Line.{kind_of, gives}
use Rattle.line.specs.declared.Told.{Told}
use Rattle.recipe.specs.Check.{claims, judged, lines_judged, form_judged, recipe_judged}
use Rattle.product.specs.Bit.{numbered}
use Rattle.product.specs.Column.{parity, sum_made, both, either, most, carry_made, sum_of, carry_of, carry_unless, column}
use Rattle.product.specs.Lines.{adder, shifted, fitted, line_sum, columns, line_encoded, encoded}
use Rattle.product.specs.Product.{product_made, lines_from, product_of}
use Rattle.product.specs.Write.{Writing, words_used, clauses_written, next_free, bits_of_y, write_answer, written}
use Rattle.cases.specs.Table.{Table, Written, WriteRooms, Given, GivenRooms}
use Rattle.cases.specs.Bench.{bench}
use Rattle.cases.specs.Agreed.{agreed}

-- writing over literals x in rooms of these lengths, every entry of which is 7
abbrev outcome : ℕ → ℕ → List ℤ → ℕ → List ℕ → ℕ → ℕ → Writing
outcome c w x first recipe bits clauses = written c w x first recipe (replicate bits (pos 7)) (replicate clauses (pos 7))

-- the cases as the definition answers them
abbrev answered_over : List ℤ → ℕ → Written → Written
answered_over x first k =
    let o : Writing = outcome k.c k.w x first k.recipe k.bits k.clauses in
    let t : Told = told_of o.answer in
    record {
      c = k.c;
      w = k.w;
      recipe = k.recipe;
      bits = k.bits;
      clauses = k.clauses;
      number = t.number;
      line = t.line;
      value = t.value;
      words_used = words_used o.answer;
      clauses_written = clauses_written o.answer;
      next = next_free o.answer;
      y = take (bits_of_y o.answer) o.bits;
    }

abbrev rooms_over : List ℤ → ℕ → WriteRooms → WriteRooms
rooms_over x first k =
    let o : Writing = outcome k.c k.w x first k.recipe k.bits k.clauses in
    record { c = k.c; w = k.w; recipe = k.recipe; bits = k.bits; clauses = k.clauses; bit_room = o.bits; clause_room = o.clauses }

-- document 01's call
abbrev pub answered : Written → Written
answered k = answered_over (numbered 1 k.w) (suc k.w) k

abbrev pub rooms_answered : WriteRooms → WriteRooms
rooms_answered k = rooms_over (numbered 1 k.w) (suc k.w) k

-- the call over given literals
abbrev pub given_answered : Given → Given
given_answered k = record { x = k.x; first = k.first; call = answered_over k.x k.first k.call }

abbrev pub given_rooms_answered : GivenRooms → GivenRooms
given_rooms_answered k = record { x = k.x; first = k.first; call = rooms_over k.x k.first k.call }

-- every row of a table is what the definition gives
pub record AsWorked (table : Table) : Type 0 where
  pub written : map answered table.written ≡ table.written
  pub write_rooms : map rooms_answered table.write_rooms ≡ table.write_rooms
  pub given : map given_answered table.given ≡ table.given
  pub given_rooms : map given_rooms_answered table.given_rooms ≡ table.given_rooms

pub bench_right : AsWorked bench
unfolding bench digits_by bit_length halvings_by twos odd_part kind_of gives claims judged lines_judged form_judged recipe_judged numbered parity sum_made both either most carry_made sum_of carry_of carry_unless column adder shifted fitted line_sum columns line_encoded encoded product_made lines_from product_of write_answer written
bench_right = record { written = refl; write_rooms = refl; given = refl; given_rooms = refl }

pub agreed_right : AsWorked agreed
unfolding agreed digits_by bit_length halvings_by twos odd_part kind_of gives claims judged lines_judged form_judged recipe_judged numbered parity sum_made both either most carry_made sum_of carry_of carry_unless column adder shifted fitted line_sum columns line_encoded encoded product_made lines_from product_of write_answer written
agreed_right = record { written = refl; write_rooms = refl; given = refl; given_rooms = refl }

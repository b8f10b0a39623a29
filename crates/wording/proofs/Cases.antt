-- The definition of the program gives what the worked cases print. To follow the rule takes too long to compute, so the computation looks
-- splits up in the second engine's table (`agreed_lookup`). Assumes nothing.
use Prim.Native.Nat.{ℕ}
use mathlib.Core.Path.{◌≡◌, refl, subst}
use mathlib.Core.List.{List, map}
use lib.Count.{ones}
use Rattle.line.specs.Number.{digits_by, bit_length, halvings_by, twos, odd_part}
use Rattle.line.specs.Line.{kind_of}
use Rattle.split.specs.Split.{low, high, left_at, right_at}
use Rattle.split.specs.Reach.{follow, reach_by, fuel, reach, member, add, adds, set_of}
use Rattle.split.specs.Choose.{look, split_of}
use Rattle.split.specs.Order.{zero_bits, rank, key, put_in, ordered, coefficients, place_in, operand, line_for, lines_bytes, recipe_for}
use Rattle.split.proofs.Cases.{agreed_lookup, agreed_lookup_is}
use Rattle.product.specs.Bit.{numbered}
use Rattle.product.specs.Column.{parity, sum_made, both, either, most, carry_made, sum_of, carry_of, carry_unless, column}
use Rattle.product.specs.Lines.{adder, shifted, fitted, line_sum, columns, line_encoded, encoded}
use Rattle.product.specs.Product.{product_made, lines_from, product_of}
use Rattle.wording.specs.Decimal as decimals
use Rattle.wording.specs.Decimal.{decimal, signed_decimal, value_from}
use Rattle.wording.specs.Request.{front, width_asked, asked}
use Rattle.wording.specs.File.{line_1, entries, line_2, line_3, word_text, words_text, file_text, refused_text}
use Rattle.wording.specs.Print.{product_text, printed_by}
use Rattle.cases.specs.Table.{Printed}
use Rattle.cases.specs.Agreed.{agreed, agreed_splits}

-- the case as the definition answers it
abbrev pub answered : (ℕ → ℕ) → Printed → Printed
answered t k = record { input = k.input; output = printed_by t k.input }

abbrev pub AsWorked : (ℕ → ℕ) → List Printed → Type 0
AsWorked t cases = map (answered t) cases ≡ cases

by_table : AsWorked agreed_lookup agreed.printed
unfolding agreed agreed_splits look digits_by bit_length halvings_by twos odd_part kind_of low high left_at right_at follow reach_by fuel reach member add adds set_of ones zero_bits rank key put_in ordered coefficients place_in operand line_for lines_bytes recipe_for numbered parity sum_made both either most carry_made sum_of carry_of carry_unless column adder shifted fitted line_sum columns line_encoded encoded product_made lines_from product_of decimals.digits_by decimal signed_decimal value_from front width_asked asked line_1 entries line_2 line_3 word_text words_text file_text refused_text product_text printed_by
by_table = refl

pub agreed_right : AsWorked split_of agreed.printed
agreed_right = subst (λ (t : ℕ → ℕ). AsWorked t agreed.printed) agreed_lookup_is by_table

-- What is printed of writing's answer and rooms is what document 01 prints of the recipe. Assumes nothing.
use Rattle.line.specs.Refusal.{number_of}
use Rattle.std.specs.Prelude.{Ok, Err}
use Prim.Native.Nat.{ℕ, suc, ◌-◌}
use mathlib.Core.Path.{◌≡◌, refl, ap, ap₂, ◌∙◌}
use mathlib.Core.List.{List}
use native.Mathlib.Omega.{arith}
use lib.IntN.{ℤ}
use lib.ListN.{length}
use Rattle.product.specs.Product.{lines_of, product_of, plain_product_of, y_entries, clause_words}
use Rattle.line.specs.Number.{twos}
use Rattle.product.specs.Bit.{given, numbered}
use Rattle.product.proofs.Nexts.{product_grows}
use Rattle.product.specs.Write.{words_used, clauses_written, next_free, bits_of_y, write_answer, Writing, writing, written}
use Rattle.product.specs.Demand.{words_at_exit, entries_at_exit}
use Rattle.product.specs.Write.{Written}
use Rattle.product.proofs.Success.{answer_of, success}
use Rattle.wording.specs.File.{file_text}
use Rattle.wording.specs.Print.{product_text}
use Rattle.dimacs.specs.Steps.{WrittenFits, written_text, answer_text, recipe_text}
use Rattle.dimacs.specs.Sizes.{program_bits, program_words}

module _ (c w : ℕ) (recipe : List ℕ) (bits words : List ℤ) where
  pub written_fits : (a : Written) (bits' words' : List ℤ) → writing a bits' words' ≡ written c w (numbered 1 w) (suc w) recipe bits words
      → length bits' ≡ length bits → length words' ≡ length words
      → WrittenFits a (length bits') (length words')
  unfolding product_of
  written_fits (Err x) bits' words' r hb hw = tt
  written_fits (Ok n) bits' words' r hb hw =
      let s = success c w (numbered 1 w) (suc w) recipe bits words (Ok n) bits' words' r refl in (
        omega (arith, ap bits_of_y s.is, s.tests.fits.bits_fit),
        omega (arith, ap words_used s.is, s.tests.fits.clauses_fit),
        omega (arith, ap next_free s.is, product_grows (twos c) (lines_of recipe) (given (numbered 1 w)) (suc w)),
      )

  -- the file, of the words and entries that stand in the rooms
  file_shown : (a : Written) (bits' words' : List ℤ) → writing a bits' words' ≡ written c w (numbered 1 w) (suc w) recipe bits words
      → number_of a ≡ 0
      → file_text c w (entries_at_exit a bits') (next_free a - 1) (clauses_written a) (words_at_exit a words')
      ≡ product_text c w (plain_product_of c w recipe)
  unfolding product_text
  file_shown a bits' words' r z =
      let s = success c w (numbered 1 w) (suc w) recipe bits words a bits' words' r z in
      ap₂ (λ (ys ws : List ℤ). file_text c w ys (next_free a - 1) (clauses_written a) ws) s.entries_are s.words_are
      ∙ ap₂ (λ (v n : ℕ). file_text c w (y_entries (plain_product_of c w recipe)) (v - 1) n (clause_words (plain_product_of c w recipe)))
      (ap next_free s.is) (ap clauses_written s.is)

  pub written_shown : (a : Written) (bits' words' : List ℤ) → writing a bits' words' ≡ written c w (numbered 1 w) (suc w) recipe bits words
      → length bits ≡ program_bits → length words ≡ program_words
      → written_text a c w bits' words' ≡ recipe_text c w recipe
  unfolding written_text answer_text recipe_text
  written_shown a bits' words' r hb hw =
      let e : a ≡ write_answer c w (numbered 1 w) (suc w) recipe program_bits program_words =
      ap (λ (o : Writing). o.answer) r ∙ answer_of c w (numbered 1 w) (suc w) recipe bits words
      ∙ ap₂ (write_answer c w (numbered 1 w) (suc w) recipe) hb hw in
      shown a e r ∙ ap (λ (x : Written). answer_text x c w (plain_product_of c w recipe)) e
    where
      shown : (a : Written) → a ≡ write_answer c w (numbered 1 w) (suc w) recipe program_bits program_words
          → writing a bits' words' ≡ written c w (numbered 1 w) (suc w) recipe bits words
          → written_text a c w bits' words' ≡ answer_text a c w (plain_product_of c w recipe)
      shown (Err x) e r = refl
      shown (Ok n) e r = file_shown (Ok n) bits' words' r refl

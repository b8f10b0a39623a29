-- The tests of writing in their order: what it means that those of the input are kept (`inputs_kept`, `kept_inputs`), and those of the
-- product and the rooms (`fits_kept`, `kept_fits`); and what the call leaves where a test of the input refuses (`refused_left`), and
-- where all of them are kept (`product_left`). Assumes nothing.
use Rattle.std.specs.Prelude.{Ok, Err}
use Prim.Native.Nat.{ℕ, ◌≤◌, ◌<◌}
use mathlib.Core.Path.{◌≡◌, ap}
use mathlib.Core.List.{List}
use borrow.Author.Tests.{ltb-false, le-ltb}
use lib.Dec.{ltb}
use lib.IntN.{ℤ}
use lib.ListN.{length}
use Rattle.line.specs.Limits.{most_constant, most_width, most_next, out_of_range, not_a_width}
use Rattle.line.specs.Number.{odd_part}
use Rattle.line.specs.Order.{first_broken, answer_by}
use Rattle.line.specs.declared.Refusal.{Refusal}
use Rattle.line.specs.declared.Refusal.TheVariants.{Constant, Width, BitRoom, ClauseRoom, Literals, Variables}
use Rattle.line.specs.Order.{Verdict}
use Rattle.line.proofs.Order.{misses, missed, all_kept, kept_all, kept_front, broken_front, within, within_kept}
use Rattle.cnf.specs.Words.{DistinctBelow}
use Rattle.recipe.specs.Accepted.{Makes}
use Rattle.recipe.proofs.Accepted.{kept_makes, makes_kept}
use Rattle.product.specs.Product.{Product, product_of, clause_words}
use Rattle.product.specs.Write.{not_literals, input_tests, product_tests, y_length, clauses_of_product, write_answer, Writing}
use Rattle.product.specs.Write.{writing, write_by, product_written, written}
use Rattle.product.proofs.Given.{literals_of, of_literals}

-- ---- the input

pub record InputsRight (c w : ℕ) (x : List ℤ) (first : ℕ) (recipe : List ℕ) : Type 0 where
  pub constant : (0 < c) × (c ≤ most_constant)
  pub width : (0 < w) × (w ≤ most_width)
  pub literals : length x ≡ w
  pub fit : DistinctBelow first x
  pub makes : Makes (odd_part c) recipe

module _ (c w : ℕ) (x : List ℤ) (first : ℕ) (recipe : List ℕ) where
  pub kept_inputs : first_broken (input_tests c w x first recipe) ≡ Ok tt → InputsRight c w x first recipe
  kept_inputs e =
      let k = kept_all (input_tests c w x first recipe) e in
      let l = literals_of w x first (missed (not_literals w x first) Literals k.1.1.0) in
      record {
        constant = within most_constant c (missed (out_of_range c) Constant k.0);
        width = within most_width w (missed (not_a_width w) Width k.1.0);
        literals = l.0;
        fit = l.1;
        makes = kept_makes (odd_part c) recipe k.1.1.1.0;
      }

  pub inputs_kept : InputsRight c w x first recipe → first_broken (input_tests c w x first recipe) ≡ Ok tt
  inputs_kept i =
      all_kept (input_tests c w x first recipe) (
        misses (out_of_range c) Constant (within_kept most_constant c i.constant.0 i.constant.1),
        (
          misses (not_a_width w) Width (within_kept most_width w i.width.0 i.width.1),
          (
            misses (not_literals w x first) Literals (of_literals w x first i.literals i.fit),
            (makes_kept (odd_part c) recipe i.makes, tt),
          ),
        ),
      )

-- ---- the product and the rooms

pub record Fits (p : Product) (y bits clauses : ℕ) : Type 0 where
  pub next_fits : p.next ≤ most_next
  pub bits_fit : y ≤ bits
  pub clauses_fit : length (clause_words p) ≤ clauses

module _ (p : Product) (y bits clauses : ℕ) where
  pub kept_fits : first_broken (product_tests p y bits clauses) ≡ Ok tt → Fits p y bits clauses
  kept_fits e =
      let k = kept_all (product_tests p y bits clauses) e in
      record {
        next_fits = ltb-false most_next p.next (missed (ltb most_next p.next) Variables k.0);
        bits_fit = ltb-false bits y (missed _ BitRoom k.1.0);
        clauses_fit = ltb-false clauses (length (clause_words p)) (missed _ ClauseRoom k.1.1.0);
      }

  pub fits_kept : Fits p y bits clauses → first_broken (product_tests p y bits clauses) ≡ Ok tt
  fits_kept f =
      all_kept (product_tests p y bits clauses) (
        misses (ltb most_next p.next) Variables (le-ltb most_next p.next f.next_fits),
        (
          misses (ltb bits y) BitRoom (le-ltb bits y f.bits_fit),
          (misses (ltb clauses (length (clause_words p))) ClauseRoom (le-ltb clauses (length (clause_words p)) f.clauses_fit), tt),
        ),
      )

-- ---- what the call leaves

module _ (c w : ℕ) (x : List ℤ) (first : ℕ) (recipe : List ℕ) (bits clauses : List ℤ) where
  abbrev p : Product
  p = product_of c x first recipe

  abbrev later : List Verdict
  later = product_tests p (y_length c w) (length bits) (length clauses)

  abbrev left_by : Verdict → Writing
  left_by v = write_by (answer_by Err (clauses_of_product p (y_length c w)) v) p bits clauses

  pub refused_left : (r : Refusal) → first_broken (input_tests c w x first recipe) ≡ Err r
      → written c w x first recipe bits clauses ≡ writing (Err r) bits clauses
  unfolding written write_answer
  refused_left r e = ap left_by (broken_front (input_tests c w x first recipe) later r e)

  pub product_left : first_broken (input_tests c w x first recipe) ≡ Ok tt
      → written c w x first recipe bits clauses ≡ product_written p (y_length c w) bits clauses
  unfolding written write_answer
  product_left e = ap left_by (kept_front (input_tests c w x first recipe) later e)

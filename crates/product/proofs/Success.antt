-- What no refusal means: every test of document 01's order was passed, and the rooms hold the product's words and entries.
use Rattle.line.specs.Refusal.{number_of}
use Rattle.std.specs.Prelude.{Ok, Err}
use Prim.Native.Nat.{ℕ, ◌<◌}
use mathlib.Core.Path.{◌≡◌, refl, sym, ap, ap₂, ◌∙◌}
use mathlib.Core.List.{List, ◌++◌}
use native.Mathlib.Omega.{arith}
use lib.IntN.{ℤ}
use lib.ListN.{length, take, drop, length-map}
use Rattle.line.specs.Order.{first_broken, answer_by}
use Rattle.line.specs.Order.{Verdict}
use Rattle.line.proofs.Order.{in_parts, kept_both, kept_front, behind_kept}
use Rattle.line.proofs.Room.{take_sets, drop_sets}
use Rattle.line.proofs.Refusals.{refusal_above_0}
use Rattle.product.specs.Bit.{stored}
use Rattle.product.specs.Product as product
use Rattle.product.specs.Product.{product_of, y_entries, clause_words}
use Rattle.product.specs.Write.{words_used, bits_of_y, input_tests, product_tests, y_length, clauses_of_product}
use Rattle.product.specs.Write.{write_answer}
use Rattle.product.specs.Write.{Writing, writing, write_by, written}
use Rattle.product.specs.Demand.{words_at_exit, entries_at_exit}
use Rattle.product.specs.Write.{Written}
use Rattle.product.proofs.Given.{above_0}
use Rattle.product.proofs.Tests.{InputsRight, Fits, kept_inputs, inputs_kept, kept_fits, fits_kept}
use Rattle.product.proofs.AcceptedMeans.{length_of_y}

-- ---- each test

pub record Passes (c w : ℕ) (x : List ℤ) (first : ℕ) (recipe : List ℕ) (bits clauses : ℕ) : Type 0 where
  pub inputs : InputsRight c w x first recipe
  pub fits : Fits (product_of c x first recipe) (y_length c w) bits clauses
  pub is : write_answer c w x first recipe bits clauses ≡ clauses_of_product (product_of c x first recipe) (y_length c w)

module _ (c w : ℕ) (x : List ℤ) (first : ℕ) (recipe : List ℕ) (bits clauses : ℕ) where
  abbrev p : product.Product
  p = product_of c x first recipe

  abbrev ins : List Verdict
  ins = input_tests c w x first recipe

  abbrev rest : List Verdict
  rest = product_tests p (y_length c w) bits clauses

  all_passed : first_broken ins ≡ Ok tt → first_broken rest ≡ Ok tt
      → write_answer c w x first recipe bits clauses ≡ clauses_of_product p (y_length c w)
  unfolding write_answer
  all_passed i f = ap (answer_by Err (clauses_of_product p (y_length c w))) (kept_front ins rest i ∙ f)

  pub passes : number_of (write_answer c w x first recipe bits clauses) ≡ 0 → Passes c w x first recipe bits clauses
  unfolding write_answer
  passes e =
      let k =
      (behind_kept (λ (a : Written). number_of a ≡ 0) Err (clauses_of_product p (y_length c w))
      (λ r q. omega (arith, refusal_above_0 r))
      (first_broken (ins ++ rest)) e).0 in
      let b = kept_both (first_broken ins) (first_broken rest) (sym (in_parts ins rest) ∙ k) in
      record {
        inputs = kept_inputs c w x first recipe b.0;
        fits = kept_fits p (y_length c w) bits clauses b.1;
        is = all_passed b.0 b.1;
      }

  -- and with every test passed there is no refusal
  pub passes_all : InputsRight c w x first recipe → Fits p (y_length c w) bits clauses
      → number_of (write_answer c w x first recipe bits clauses) ≡ 0
  passes_all i f = ap number_of (all_passed (inputs_kept c w x first recipe i) (fits_kept p (y_length c w) bits clauses f))

-- ---- the rooms

answer_is : (p : product.Product) (bits clauses : List ℤ) (a : Written) → (write_by a p bits clauses).answer ≡ a
answer_is p bits clauses (Ok counts) = refl
answer_is p bits clauses (Err x) = refl

pub answer_of : (c w : ℕ) (x : List ℤ) (first : ℕ) (recipe : List ℕ) (bits clauses : List ℤ)
    → (written c w x first recipe bits clauses).answer ≡ write_answer c w x first recipe (length bits) (length clauses)
unfolding written
answer_of c w x first recipe bits clauses =
    answer_is (product_of c x first recipe) bits clauses (write_answer c w x first recipe (length bits) (length clauses))

pub record Success (c w : ℕ) (x : List ℤ) (first : ℕ) (recipe : List ℕ) (bits clauses : List ℤ) (answer : Written)
    (bits' clauses' : List ℤ) : Type 0 where
  pub tests : Passes c w x first recipe (length bits) (length clauses)
  pub some : 0 < first
  pub long : length (product_of c x first recipe).y ≡ y_length c w
  pub is : answer ≡ clauses_of_product (product_of c x first recipe) (y_length c w)
  pub words_are : words_at_exit answer clauses' ≡ clause_words (product_of c x first recipe)
  pub words_stay : drop (words_used answer) clauses' ≡ drop (words_used answer) clauses
  pub entries_are : entries_at_exit answer bits' ≡ y_entries (product_of c x first recipe)
  pub entries_stay : drop (bits_of_y answer) bits' ≡ drop (bits_of_y answer) bits

pub success : (c w : ℕ) (x : List ℤ) (first : ℕ) (recipe : List ℕ) (bits clauses : List ℤ) (answer : Written) (bits' clauses' : List ℤ)
    → writing answer bits' clauses' ≡ written c w x first recipe bits clauses → number_of answer ≡ 0
    → Success c w x first recipe bits clauses answer bits' clauses'
unfolding written
success c w x first recipe bits clauses answer bits' clauses' r z =
    let p = product_of c x first recipe in
    let ws : List ℤ = clause_words p in
    let es : List ℤ = y_entries p in
    let t = passes c w x first recipe (length bits) (length clauses)
    (sym (ap number_of (ap (λ (q : Writing). q.answer) r ∙ answer_of c w x first recipe bits clauses)) ∙ z) in
    let o = r ∙ ap (λ (a : Written). write_by a p bits clauses) t.is in
    let ea = ap (λ (q : Writing). q.answer) o in
    let eb = ap (λ (q : Writing). q.bits) o in
    let ec = ap (λ (q : Writing). q.clauses) o in
    let some_x : 0 < length x = omega (arith, t.inputs.literals, t.inputs.width.0) in
    let ly : length p.y ≡ y_length c w =
    length_of_y c x first recipe t.inputs.makes t.inputs.constant.0 some_x ∙ ap (λ (v : ℕ). y_length c v) t.inputs.literals in
    let le : length es ≡ y_length c w = length-map p.y stored ∙ ly in
    record {
      tests = t;
      some = above_0 first x some_x t.inputs.fit;
      long = ly;
      is = ea;
      words_are =
          ap₂ (λ (n : ℕ) (l : List ℤ). take n l) (ap words_used ea) ec ∙ take_sets clauses ws (length ws) refl t.fits.clauses_fit;
      words_stay =
          ap₂ (λ (n : ℕ) (l : List ℤ). drop n l) (ap words_used ea) ec ∙ drop_sets clauses ws (length ws) refl t.fits.clauses_fit
          ∙ ap (λ (n : ℕ). drop n clauses) (sym (ap words_used ea));
      entries_are = ap₂ (λ (n : ℕ) (l : List ℤ). take n l) (ap bits_of_y ea) eb ∙ take_sets bits es (y_length c w) le t.fits.bits_fit;
      entries_stay =
          ap₂ (λ (n : ℕ) (l : List ℤ). drop n l) (ap bits_of_y ea) eb ∙ drop_sets bits es (y_length c w) le t.fits.bits_fit
          ∙ ap (λ (n : ℕ). drop n bits) (sym (ap bits_of_y ea));
    }

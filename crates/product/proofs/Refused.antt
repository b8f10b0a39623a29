-- Writing refuses a recipe as checking does. Where width and literals are right, a refusal of checking is writing's own, with all its
-- fields (`refused_alike`); and a refusal of writing by a rule of a line, 4 to 7, is checking's own (`line_refused_alike`). Assumes
-- nothing.
use Rattle.std.specs.Prelude.{Ok, Err}
use Prim.Native.Nat.{ℕ, ◌≤◌}
use mathlib.Core.Path.{◌≡◌, refl, ap}
use mathlib.Core.Bool.{false}
use mathlib.Core.List.{List, [], ◌∷◌, ◌++◌}
use native.Mathlib.Omega.{arith}
use lib.Dec.{ltb}
use lib.IntN.{ℤ}
use lib.ListN.{length}
use Rattle.line.specs.Limits.{most_next, out_of_range, not_a_width}
use Rattle.line.specs.Number.{odd_part}
use Rattle.line.specs.Order.{refuses, unless_broken, first_broken, answer_by}
use Rattle.line.specs.Refusal.{refusal_number, number_of}
use Rattle.line.specs.declared.Refusal.{Refusal}
use Rattle.line.specs.declared.Refusal.TheVariants.{Constant, Width, BitRoom, ClauseRoom, Literals, Variables}
use Rattle.line.specs.Order.{Verdict}
use Rattle.line.proofs.Order.{by_test, broken_front}
use Rattle.line.proofs.Refusals.{refusal_above_0}
use Rattle.recipe.specs.Check.{recipe_judged, checked}
use Rattle.recipe.specs.Check.{Checked}
use Rattle.product.specs.Product.{Product, product_of, clause_words}
use Rattle.product.specs.Write.{not_literals, input_tests, product_tests, y_length, clauses_of_product, write_answer}
use Rattle.product.specs.Write.{Written}

-- the verdict of an answer of checking
verdict_of : (v : Verdict) (r : Refusal) → answer_by {A = Verdict} Err (Ok tt) v ≡ Err r → v ≡ Err r
verdict_of (Ok u) r e = let z : ◌≡◌ {A = ℕ} 0 1 = cc in absurd (omega arith)
verdict_of (Err x) r e = ap Err (ap check_refusal e)
  where
    check_refusal : Checked → Refusal
    check_refusal (Ok u) = r
    check_refusal (Err y) = y

-- and of one of writing
written_verdict : (behind : Written) → number_of behind ≡ 0 → (v : Verdict) (r : Refusal) → answer_by Err behind v ≡ Err r
    → v ≡ Err r
written_verdict behind z (Ok u) r e = absurd (omega (arith, ap number_of e, refusal_above_0 r))
written_verdict behind z (Err x) r e = ap Err (ap refusal_of e)
  where
    refusal_of : Written → Refusal
    refusal_of (Ok counts) = r
    refusal_of (Err y) = y

module _ (c w : ℕ) (x : List ℤ) (first : ℕ) (recipe : List ℕ) (bits clauses : ℕ) where
  abbrev p : Product
  p = product_of c x first recipe

  abbrev check_tests : List Verdict
  check_tests = refuses (out_of_range c) Constant ∷ recipe_judged (odd_part c) recipe ∷ []

  abbrev later : List Verdict
  later = product_tests p (y_length c w) bits clauses

  pub refused_alike : not_a_width w ≡ false → not_literals w x first ≡ false → (r : Refusal) → checked c recipe ≡ Err r
      → write_answer c w x first recipe bits clauses ≡ Err r
  unfolding write_answer checked
  refused_alike width literals r e =
      rw (width, literals)
      (ap (answer_by Err (clauses_of_product p (y_length c w)))
      (broken_front check_tests later r (verdict_of (first_broken check_tests) r e)))

  -- a line's refusal among the tests of writing is the check's
  abbrev Alike : Verdict → Type 0
  Alike v = (r : Refusal) → v ≡ Err r → 4 ≤ refusal_number r → refusal_number r ≤ 7 → first_broken check_tests ≡ Err r

  -- any other refusal is none of a line
  other : (y : Refusal) → (4 ≤ refusal_number y → refusal_number y ≤ 7 → ⊥) → Alike (Err y)
  other y f r e h h' =
      let q : refusal_number y ≡ refusal_number r = ap number_of_verdict e in absurd (f (omega (arith, q)) (omega (arith, q)))
    where
      number_of_verdict : Verdict → ℕ
      number_of_verdict (Ok u) = 0
      number_of_verdict (Err z) = refusal_number z

  none : Alike (Ok tt)
  none r e h h' = let z : ◌≡◌ {A = ℕ} 0 1 = cc in absurd (omega arith)

  judged_alike : out_of_range c ≡ false → (v rest : Verdict) → recipe_judged (odd_part c) recipe ≡ v → Alike rest
      → Alike (unless_broken v rest)
  judged_alike range (Ok u) rest q k = k
  judged_alike range (Err y) rest q k = λ r e h h'. rw (range, q) e

  pub line_refused_alike : (r : Refusal) → write_answer c w x first recipe bits clauses ≡ Err r → 4 ≤ refusal_number r
      → refusal_number r ≤ 7
      → checked c recipe ≡ Err r
  unfolding write_answer checked
  line_refused_alike r e h h' =
      ap (answer_by {A = Verdict} Err (Ok tt))
      (tests_alike r
      (written_verdict (clauses_of_product p (y_length c w)) refl (first_broken (input_tests c w x first recipe ++ later)) r e) h h')
    where
      tests_alike : Alike (first_broken (input_tests c w x first recipe ++ later))
      tests_alike =
          by_test Alike (out_of_range c) Constant _ (λ _. other Constant (λ a b. omega arith)) (λ range.
          by_test Alike (not_a_width w) Width _ (λ _. other Width (λ a b. omega arith)) (λ _.
          by_test Alike (not_literals w x first) Literals _ (λ _. other Literals (λ a b. omega arith)) (λ _.
          judged_alike range (recipe_judged (odd_part c) recipe) _ refl (
          by_test Alike (ltb most_next p.next) Variables _ (λ _. other Variables (λ a b. omega arith)) (λ _.
          by_test Alike (ltb bits (y_length c w)) BitRoom _ (λ _. other BitRoom (λ a b. omega arith)) (λ _.
          by_test Alike (ltb clauses (length (clause_words p))) ClauseRoom (Ok tt) (λ _. other ClauseRoom (λ a b. omega arith))
          (λ _. none)))))))

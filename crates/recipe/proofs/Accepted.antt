-- Which recipes are accepted.
--
-- Statement. `checked c recipe` is `Ok tt` exactly when `Right c recipe` (`accepted_right`, `right_accepted`): c is from 1 to 65,535;
-- the recipe is a whole number of five-byte lines, at most 32; every line has its top bit zero, a kind from 1 to 3, operands that are
-- earlier than itself, an odd coefficient of at most 1,048,575, and this coefficient is the (perhaps negative) number that its kind gives
-- from the operands' coefficients; and the last line's coefficient, or 1 where there is no line, is the odd part of c. This is demand 2's
-- first sentence. `Right` speaks of no test, no order of tests and no refusal.
--
-- Why. A line is kept exactly when it is right (`judged_says` of Judged, and back). The check is a list of tests in their order, which
-- refuses nothing exactly where each test is kept (`kept_all` and `all_kept` of line's Order); so each test's fact holds, and where each
-- fact holds every test is kept, whatever their order. Two parts of `Right` have no test of their own, since five bytes cannot break
-- them: a kind has two bits and a coefficient twenty. For the lines this is one induction: the walk from line i + 1 over n lines refuses
-- nothing exactly when these n lines are kept. The claimed coefficient is what the kind gives exactly where `claims` says so (Claims).
--
-- What follows of an accepted recipe: every operand's coefficient is odd, and below 2^20 (`coefficient_lt` of Walk), so every line has s of
-- at least 1. Assumes nothing.
use Rattle.std.specs.Prelude.{Ok, Err}
use mathlib.Core.Path.{◌≡◌, refl, ap, ◌∙◌, sym, subst}
use mathlib.Core.List.{List, [], ◌∷◌}
use mathlib.Core.Bool.{Bool, not}
use Prim.Native.Nat.{ℕ, zero, suc, ◌+◌, ◌/◌, ◌%◌, ◌≤◌, ◌<◌}
use native.Mathlib.Decide.{ℕ_discrete}
use native.Mathlib.Omega.{arith}
use lib.Dec.{eqb, ltb}
use lib.ListN.{length}
use borrow.Author.Tests.{eqb-true, eq-eqb, ltb-false, le-ltb, not-false}
use Rattle.line.specs.Limits.{out_of_range}
use Rattle.line.specs.Number.{odd_part}
use Rattle.line.specs.Order.{Verdict, refuses, first_broken}
use Rattle.line.specs.Line.{Kind, splus, sminus, minuss, kind_of, kind_gives}
use Rattle.line.specs.declared.Line.{Line}
use Rattle.line.specs.declared.Refusal.{Refusal}
use Rattle.line.specs.declared.Refusal.TheVariants.{Constant, Length, Value, Product}
use Rattle.line.proofs.Value.{Sums, sums_of_gives}
use Rattle.recipe.specs.Check.{Checked}
use Rattle.line.proofs.Order.{missed, kept_both, both_kept, kept_all, behind_kept, within, within_kept}
use Rattle.recipe.specs.Check.{judged, judged_at, line_at, coefficient_at, lines_judged, form_judged, product_at, recipe_judged}
use Rattle.recipe.specs.Check.{checked}
use Rattle.recipe.specs.Accepted.{LineRight, Makes, Right}
use Rattle.recipe.proofs.Claims.{true_claims}
use Rattle.recipe.proofs.Judged.{Says, judged_says}
use Rattle.recipe.proofs.Walk.{judged_value}

-- ---- one line

module _ (line : Line) (i l r : ℕ) where
  kept_right : line.kind ≤ 3 → line.coefficient ≤ 1048575 → judged line i l r ≡ Ok tt → LineRight line i l r
  kept_right m n e = subst (Says line i l r) e (judged_says line i l r m n)

  right_kept : LineRight line i l r → judged line i l r ≡ Ok tt
  right_kept g =
      let z = kind_gives line l r in
      judged_value line i l r (omega arith) (omega arith) g.left g.right (omega arith)
      ∙ ap (λ (b : Bool). refuses (not b) (Value (i + 1) z)) (true_claims line.coefficient z g.value)

-- ---- the lines

-- n lines from line i + 1 on are kept
abbrev KeptLines : List ℕ → ℕ → ℕ → Type 0
KeptLines s n i = (j : ℕ) → i ≤ j → j < i + n → judged_at s j ≡ Ok tt

lines_kept : (s : List ℕ) (n i : ℕ) → lines_judged s n i ≡ Ok tt → KeptLines s n i
unfolding lines_judged
lines_kept s zero i e = λ j h h'. absurd (omega arith)
lines_kept s (suc n) i e =
    let b = kept_both (judged_at s i) (lines_judged s n (suc i)) e in
    λ j h h'. elim (ℕ_discrete i j)
    [ yes p ↦ ap (judged_at s) (sym p) ∙ b.0 | no q ↦ lines_kept s n (suc i) b.1 j (omega arith) (omega arith) ]

kept_lines : (s : List ℕ) (n i : ℕ) → KeptLines s n i → lines_judged s n i ≡ Ok tt
unfolding lines_judged
kept_lines s zero i k = refl
kept_lines s (suc n) i k =
    both_kept (judged_at s i) (lines_judged s n (suc i)) (k i (omega arith) (omega arith))
    (kept_lines s n (suc i) (λ j h h'. k j (omega arith) (omega arith)))

-- ---- rules 3 to 8

module _ (d : ℕ) (s : List ℕ) where
  pub kept_makes : recipe_judged d s ≡ Ok tt → Makes d s
  unfolding recipe_judged form_judged
  kept_makes e =
      let k = kept_all (form_judged s ∷ refuses (not (eqb (product_at s) d)) Product ∷ []) e in
      let f = kept_all (
      refuses (not (eqb (length s % 5) 0)) Length ∷ refuses (ltb 160 (length s)) Length ∷ lines_judged s (length s / 5) 0 ∷ []) k.0 in
      record {
        whole = eqb-true _ _ (not-false _ (missed _ Length f.0));
        short = ltb-false _ _ (missed _ Length f.1.0);
        line =
            λ i h. kept_right (line_at s i) i _ _ (omega arith) (omega arith)
            (lines_kept s (length s / 5) 0 f.1.1.0 i (omega arith) (omega arith));
        product = eqb-true _ _ (not-false _ (missed _ Product k.1.0));
      }

  pub makes_kept : Makes d s → recipe_judged d s ≡ Ok tt
  unfolding recipe_judged form_judged
  makes_kept g =
      let lines = kept_lines s (length s / 5) 0 (λ j h h'. right_kept (line_at s j) j _ _ (g.line j (omega arith))) in
      rw (eq-eqb (length s % 5) 0 g.whole, le-ltb 160 (length s) g.short, lines, eq-eqb (product_at s) d g.product)

-- ---- the whole check

module _ (c : ℕ) (s : List ℕ) where
  pub accepted_right : checked c s ≡ Ok tt → Right c s
  unfolding checked
  accepted_right e =
      let tests = refuses (out_of_range c) Constant ∷ recipe_judged (odd_part c) s ∷ [] in
      let k =
      kept_all tests (behind_kept (λ (a : Checked). a ≡ Ok tt) Err (Ok tt) (λ x q. refused x q) (first_broken tests) e).0 in
      let h = within 65535 c (missed (out_of_range c) Constant k.0) in
      record { least = h.0; most = h.1; makes = kept_makes (odd_part c) s k.1.0 }
    where
      refused : (x : Refusal) → ◌≡◌ {A = Verdict} (Err x) (Ok tt) → ⊥
      refused x e = let z : ◌≡◌ {A = ℕ} 0 1 = cc in omega arith

  pub right_accepted : Right c s → checked c s ≡ Ok tt
  unfolding checked
  right_accepted g = rw (within_kept 65535 c g.least g.most, makes_kept (odd_part c) s g.makes)

-- ---- what follows of a right recipe

pub coefficient_odd : (d : ℕ) (s : List ℕ) → Makes d s → (j : ℕ) → j ≤ length s / 5 → coefficient_at s j % 2 ≡ 1
coefficient_odd d s g zero h = refl
coefficient_odd d s g (suc j) h = (g.line j h).odd

-- odd coefficients leave no room for a shift of 0
odd_shifts : (kind : Kind) (l s r k : ℕ) → l % 2 ≡ 1 → r % 2 ≡ 1 → k % 2 ≡ 1 → Sums kind l s r k → 1 ≤ s
odd_shifts splus l zero r k hl hr hk e = absurd (omega arith)
odd_shifts sminus l zero r k hl hr hk e = absurd (omega arith)
odd_shifts minuss l zero r k hl hr hk e = absurd (omega arith)
odd_shifts kind l (suc s) r k hl hr hk e = omega arith

pub shift_least : (d : ℕ) (s : List ℕ) → Makes d s → (i : ℕ) → i < length s / 5 → 1 ≤ (line_at s i).shift
shift_least d s g i h =
    let line = line_at s i in
    let q = g.line i h in
    odd_shifts (kind_of line.kind) _ line.shift _ line.coefficient (coefficient_odd d s g line.left (omega arith))
    (coefficient_odd d s g line.right (omega arith)) q.odd
    (sums_of_gives (kind_of line.kind) _ line.shift _ line.coefficient q.value)

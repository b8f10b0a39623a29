-- Which line a refusal tells.
--
-- Statement. Where checking refuses by 4 to 7, what it tells is of the recipe's first bad line (`refused_first_bad`): every line before
-- it is right, it breaks the rule that the number names and keeps each rule before that one, and the value is what its kind gives from
-- the operands' claimed coefficients where the rule is 7, so that it differs from the claim, and else 0. And conversely
-- (`first_bad_told`): for a constant in range and a recipe of at most 32 whole lines, whatever fits the first bad line is what is told. A
-- value has at most 52 bits with its sign (`value_bits`).
--
-- Why. The walk goes on over lines that are kept, which are right, up to the first that is not, or to the product behind the last
-- (`walked`). One recipe has one first bad line, and of that one thing is told (`first_bad_once`). Assumes nothing.
use Rattle.std.specs.Prelude.{Ok, Err}
use mathlib.Core.Path.{◌≡◌, sym, ap, subst}
use mathlib.Core.Bool.{not}
use mathlib.Core.List.{List, [], ◌∷◌}
use Prim.Native.Nat.{ℕ, zero, suc, ◌+◌, ◌/◌, ◌%◌, ◌^◌, ◌≤◌, ◌<◌}
use native.Mathlib.Decide.{ℕ_discrete, dec_le}
use native.Mathlib.Omega.{arith}
use lib.Dec.{eqb, ltb}
use lib.IntN.{ℤ, nat_abs}
use lib.ListN.{length}
use borrow.Author.Tests.{eq-eqb, le-ltb}
use Rattle.line.specs.Limits.{out_of_range}
use Rattle.line.specs.Number.{odd_part}
use Rattle.line.specs.Order.{refuses, unless_broken, first_broken, answer_by}
use Rattle.line.specs.Line.{kind_of}
use Rattle.line.specs.Refusal.{told, refusal_number, told_of}
use Rattle.line.specs.declared.Told.{Told}
use Rattle.line.specs.declared.Refusal.{Refusal}
use Rattle.line.specs.declared.Refusal.TheVariants.{Constant, Length, Product}
use Rattle.line.proofs.Order.{by_test, within_kept}
use Rattle.line.proofs.Value.{gives_small}
use Rattle.line.specs.Order.{Verdict}
use Rattle.recipe.specs.Check.{line_at, left_coefficient, right_coefficient, judged_at}
use Rattle.recipe.specs.Check.{lines_judged, form_judged, product_at, recipe_judged, checked}
use Rattle.recipe.specs.Accepted.{RightAt}
use Rattle.recipe.specs.Refused.{LineRule, form, operand, odd, value, value_told, Breaks, FirstBad}
use Rattle.recipe.proofs.Judged.{Says, judged_says, right_unbroken, breaks_once}
use Rattle.recipe.proofs.Walk.{coefficient_lt}

told_small : (e : LineRule) (z : ℤ) → nat_abs z < 2 ^ 51 → nat_abs (value_told e z) < 2 ^ 51
told_small form z h = omega arith
told_small operand z h = omega arith
told_small odd z h = omega arith
told_small value z h = h

-- the number of a rule of a line
abbrev OfALine : Told → Type 0
OfALine t = (4 ≤ t.number) × (t.number ≤ 7)

module _ (s : List ℕ) where
  -- line i + 1 is bad, and this is told of it
  abbrev BadAt : Told → ℕ → Type 0
  BadAt t i = Breaks (line_at s i) i (left_coefficient s i) (right_coefficient s i) t

  -- the verdict says this of line i + 1
  abbrev SaysAt : ℕ → Verdict → Type 0
  SaysAt i = Says (line_at s i) i (left_coefficient s i) (right_coefficient s i)

  says_at : (i : ℕ) → SaysAt i (judged_at s i)
  says_at i = judged_says (line_at s i) i (left_coefficient s i) (right_coefficient s i) (omega arith) (omega arith)

  right_not_bad : (t : Told) (i : ℕ) → RightAt s i → BadAt t i → ⊥
  right_not_bad t i = right_unbroken (line_at s i) i (left_coefficient s i) (right_coefficient s i) t

  abbrev RightBefore : ℕ → Type 0
  RightBefore i = (j : ℕ) → j < i → RightAt s j

  -- ---- the walk

  -- the verdict of a walk over the lines before line n + 1: all of them are right, or it tells of the first bad one
  abbrev Walked : ℕ → Verdict → Type 0
  Walked n (Ok u) = RightBefore n
  Walked n (Err x) = FirstBad s (told x)

  one_more : (i : ℕ) → RightBefore i → RightAt s i → RightBefore (suc i)
  one_more i b g j h =
      elim (ℕ_discrete i j) [
        | yes p ↦ subst (RightAt s) p g
        | no q ↦ b j (omega arith)
      ]

  -- one line of the walk
  turn : (m i : ℕ) → i < length s / 5 → RightBefore i → (v later : Verdict) → SaysAt i v
      → (RightBefore (suc i) → Walked m later) → Walked m (unless_broken v later)
  turn m i h b (Ok u) later g go = go (one_more i b g)
  turn m i h b (Err x) later g go = record { place = i; within = h; before = b; bad = g }

  walked : (n i : ℕ) → i + n ≤ length s / 5 → RightBefore i → Walked (i + n) (lines_judged s n i)
  unfolding lines_judged
  walked zero i h b = let z : i ≡ i + 0 = omega arith in subst RightBefore z b
  walked (suc n) i h b =
      let z : suc i + n ≡ i + suc n = omega arith in
      turn (i + suc n) i (omega arith) b (judged_at s i) (lines_judged s n (suc i)) (says_at i)
      (λ b'. subst (λ (m : ℕ). Walked m (lines_judged s n (suc i))) z (walked n (suc i) (omega arith) b'))

  all_walked : Walked (length s / 5) (lines_judged s (length s / 5) 0)
  all_walked =
      let z : 0 + length s / 5 ≡ length s / 5 = omega arith in
      subst (λ (m : ℕ). Walked m (lines_judged s (length s / 5) 0)) z (walked (length s / 5) 0 (omega arith) (λ j h. absurd (omega arith)))

  -- ---- what is told

  -- a line before the first bad one is not bad
  not_before : (t u : Told) (f : FirstBad s t) (g : FirstBad s u) → f.place < g.place → ⊥
  not_before t u f g h = right_not_bad t f.place (g.before f.place h) f.bad

  first_bad_once : (t u : Told) → FirstBad s t → FirstBad s u → t ≡ u
  first_bad_once t u f g =
      let same : g.place ≡ f.place =
      elim (dec_le f.place g.place) [
        | yes h ↦ elim (dec_le g.place f.place) [ yes k ↦ omega arith | no k ↦ absurd (not_before t u f g (omega arith)) ]
        | no h ↦ absurd (not_before u t g f (omega arith))
      ]
      in
      let i = f.place in
      breaks_once (line_at s i) i (left_coefficient s i) (right_coefficient s i) t u f.bad (subst (BadAt u) same g.bad)

  -- what a verdict tells of a line's rule is told of the first bad line
  abbrev Spoken : Verdict → Type 0
  Spoken (Ok u) = Unit {0}
  Spoken (Err x) = OfALine (told x) → FirstBad s (told x)

  unspoken : (x : Refusal) → (OfALine (told x) → ⊥) → Spoken (Err x)
  unspoken x f k = absurd (f k)

  lines_spoken : (v later : Verdict) → Walked (length s / 5) v → Spoken later → Spoken (unless_broken v later)
  lines_spoken (Ok u) later w k = k
  lines_spoken (Err x) later w k = λ _. w

  form_spoken : Spoken (form_judged s)
  unfolding form_judged
  form_spoken =
      by_test Spoken (not (eqb (length s % 5) 0)) Length _ (λ _. unspoken Length (λ k. omega (arith, k.0))) (λ _.
      by_test Spoken (ltb 160 (length s)) Length _ (λ _. unspoken Length (λ k. omega (arith, k.0))) (λ _.
      lines_spoken (lines_judged s (length s / 5) 0) (Ok tt) all_walked tt))

  behind : (v later : Verdict) → Spoken v → Spoken later → Spoken (unless_broken v later)
  behind (Ok u) later k l = l
  behind (Err x) later k l = k

  module _ (c : ℕ) where
    spoken : Spoken (first_broken (refuses (out_of_range c) Constant ∷ recipe_judged (odd_part c) s ∷ []))
    unfolding recipe_judged
    spoken =
        by_test Spoken (out_of_range c) Constant _ (λ _. unspoken Constant (λ k. omega (arith, k.0))) (λ _.
        behind (recipe_judged (odd_part c) s) (Ok tt) (behind (form_judged s) _ form_spoken
        (by_test Spoken (not (eqb (product_at s) (odd_part c))) Product (Ok tt) (λ _. unspoken Product (λ k. omega (arith, k.1))) (λ _. tt)))
        tt)

    refusal_is : (v : Verdict) (x : Refusal) → answer_by {A = Verdict} Err (Ok tt) v ≡ Err x → Spoken v → OfALine (told x)
        → FirstBad s (told x)
    refusal_is (Ok u) x e k h = let z : ◌≡◌ {A = ℕ} 0 1 = cc in absurd (omega arith)
    refusal_is (Err y) x e k h =
        let q : told y ≡ told x = ap told_of e in
        subst (FirstBad s) q (k (subst OfALine (sym q) h))

    pub refused_first_bad : (x : Refusal) → checked c s ≡ Err x → 4 ≤ refusal_number x → refusal_number x ≤ 7 → FirstBad s (told x)
    unfolding checked
    refused_first_bad x e h h' =
        refusal_is (first_broken (refuses (out_of_range c) Constant ∷ recipe_judged (odd_part c) s ∷ [])) x e spoken (h, h')

    pub first_bad_told : 1 ≤ c → c ≤ 65535 → length s % 5 ≡ 0 → length s ≤ 160 → (t : Told) → FirstBad s t → told_of (checked c s) ≡ t
    unfolding checked recipe_judged form_judged
    first_bad_told least most whole short t f =
        rw (within_kept 65535 c least most, eq-eqb (length s % 5) 0 whole, le-ltb 160 (length s) short)
        (bad_told (lines_judged s (length s / 5) 0) _ all_walked)
      where
        bad_told : (v later : Verdict) → Walked (length s / 5) v
            → told_of (answer_by {A = Verdict} Err (Ok tt) (unless_broken (unless_broken (unless_broken v (Ok tt)) later) (Ok tt))) ≡ t
        bad_told (Ok u) later w = absurd (right_not_bad t f.place (w f.place f.within) f.bad)
        bad_told (Err x) later w = first_bad_once (told x) t w f

  pub value_bits : (t : Told) → FirstBad s t → nat_abs t.value < 2 ^ 51
  value_bits t f =
      let line = line_at s f.place in
      subst (λ (z : ℤ). nat_abs z < 2 ^ 51) (sym f.bad.value)
      (told_small f.bad.rule _
      (gives_small (kind_of line.kind) _ line.shift _ (coefficient_lt s line.left) (omega arith) (coefficient_lt s line.right)))

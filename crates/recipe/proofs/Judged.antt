-- What the verdict on a line says: a line that is kept is right, and of one that breaks a rule the refusal tells the first rule that it
-- breaks, its number in the recipe, and where the rule is 7 what it gives (`judged_says`). The verdict is a chain of tests; the test that
-- broke names the rule, and those before it were passed. A line breaks no two rules first (`breaks_once`). Assumes nothing.
use Rattle.std.specs.Prelude.{Ok, Err}
use mathlib.Core.Path.{◌≡◌, refl, ap, ap₂, ◌∙◌, sym}
use mathlib.Core.Bool.{not, cond, true≢false}
use Prim.Native.Nat.{ℕ, ◌+◌, ◌%◌, ◌≤◌, ◌<◌}
use native.Mathlib.Decide.{dec_le}
use native.Mathlib.Omega.{arith}
use lib.Dec.{eqb, ltb}
use lib.IntN.{ℤ}
use borrow.Author.Tests.{eqb-true, eqb-false, ltb-true, ltb-false, not-true, not-false}
use Rattle.line.specs.Line.{kind_gives}
use Rattle.line.specs.Refusal.{told}
use Rattle.line.specs.declared.Line.{Line}
use Rattle.line.specs.declared.Told.{Told}
use Rattle.line.specs.declared.Refusal.TheVariants.{Form, Operand, Even, Value}
use Rattle.line.proofs.Order.{by_test}
use Rattle.line.specs.Order.{Verdict}
use Rattle.recipe.specs.Check.{claims, judged}
use Rattle.recipe.specs.Accepted.{LineRight}
use Rattle.recipe.specs.Refused.{LineRule, form, operand, odd, value, rule_number, Keeps, value_told, Breaks}
use Rattle.recipe.proofs.Claims.{claims_true, true_claims}

-- the rule of a number
unfoldable rule_of : ℕ → LineRule
rule_of n = cond (eqb n 4) form (cond (eqb n 5) operand (cond (eqb n 6) odd value))

rule_back : (e : LineRule) → rule_of (rule_number e) ≡ e
unfolding rule_of
rule_back form = refl
rule_back operand = refl
rule_back odd = refl
rule_back value = refl

abbrev told_by : ℕ → ℕ → ℤ → Told
told_by number line z = record { number = number; line = line; value = z }

module _ (line : Line) (i l r : ℕ) where
  abbrev given : ℤ
  given = kind_gives line l r

  -- what a verdict says of line i + 1
  abbrev pub Says : Verdict → Type 0
  Says (Ok u) = LineRight line i l r
  Says (Err x) = Breaks line i l r (told x)

  -- what is told of rule e
  abbrev told_of : LineRule → Told
  told_of e = told_by (rule_number e) (i + 1) (value_told e given)

  before : (n : ℕ) → n ≤ 7 → (4 < n → Keeps form line i l r) → (5 < n → Keeps operand line i l r) → (6 < n → Keeps odd line i l r)
      → (e : LineRule) → rule_number e < n → Keeps e line i l r
  before n m f o p form h = f h
  before n m f o p operand h = o h
  before n m f o p odd h = p h
  before n m f o p value h = absurd (omega arith)

  -- rule e is broken, and the rules before it are kept
  breaks : (e : LineRule) → rule_number e ≤ 7
      → (4 < rule_number e → Keeps form line i l r) → (5 < rule_number e → Keeps operand line i l r)
      → (6 < rule_number e → Keeps odd line i l r) → (Keeps e line i l r → ⊥) → Breaks line i l r (told_of e)
  breaks e m f o p b = record { rule = e; number = refl; line_told = refl; value = refl; kept = before (rule_number e) m f o p; broken = b }

  pub judged_says : line.kind ≤ 3 → line.coefficient ≤ 1048575 → Says (judged line i l r)
  unfolding judged
  judged_says kinds most =
      by_test Says (ltb 0 line.top) (Form (i + 1)) _ (λ e. unformed (λ k. omega (arith, ltb-true 0 line.top e, k.0))) (λ e₁.
      by_test Says (eqb line.kind 0) (Form (i + 1)) _ (λ e. unformed (λ k. omega (arith, eqb-true line.kind 0 e, k.1))) (λ e₂.
      let f : Keeps form line i l r = (omega (arith, ltb-false 0 line.top e₁), omega (arith, eqb-false line.kind 0 e₂), kinds) in
      by_test Says (ltb i line.left) (Operand (i + 1)) _ (λ e. late f (λ k. omega (arith, ltb-true i line.left e, k.0))) (λ e₃.
      by_test Says (ltb i line.right) (Operand (i + 1)) _ (λ e. late f (λ k. omega (arith, ltb-true i line.right e, k.1))) (λ e₄.
      let o : Keeps operand line i l r = (ltb-false i line.left e₃, ltb-false i line.right e₄) in
      by_test Says (eqb (line.coefficient % 2) 0) (Even (i + 1)) _
      (λ e. breaks odd (omega arith) (λ h. f) (λ h. o) (λ h. absurd (omega arith))
      (λ k. omega (arith, eqb-true (line.coefficient % 2) 0 e, k)))
      (λ e₅.
      let p : Keeps odd line i l r = omega (arith, eqb-false (line.coefficient % 2) 0 e₅) in
      by_test Says (not (claims line.coefficient given)) (Value (i + 1) given) (Ok tt)
      (λ e. breaks value (omega arith) (λ h. f) (λ h. o) (λ h. p)
      (λ k. true≢false (sym (true_claims line.coefficient given k) ∙ not-true (claims line.coefficient given) e)))
      (λ e.
      record {
        top = f.0;
        kind_least = f.1;
        kind_most = kinds;
        left = o.0;
        right = o.1;
        odd = p;
        most = most;
        value = claims_true line.coefficient given (not-false (claims line.coefficient given) e);
      }))))))
    where
      unformed : (Keeps form line i l r → ⊥) → Breaks line i l r (told_of form)
      unformed = breaks form (omega arith) (λ h. absurd (omega arith)) (λ h. absurd (omega arith)) (λ h. absurd (omega arith))

      late : Keeps form line i l r → (Keeps operand line i l r → ⊥) → Breaks line i l r (told_of operand)
      late f = breaks operand (omega arith) (λ h. f) (λ h. absurd (omega arith)) (λ h. absurd (omega arith))

  right_keeps : LineRight line i l r → (e : LineRule) → Keeps e line i l r
  right_keeps g form = (g.top, g.kind_least, g.kind_most)
  right_keeps g operand = (g.left, g.right)
  right_keeps g odd = g.odd
  right_keeps g value = g.value

  pub right_unbroken : (t : Told) → LineRight line i l r → Breaks line i l r t → ⊥
  right_unbroken t g b = b.broken (right_keeps g b.rule)

  -- what is told is told of the rule
  told_rule : (t : Told) (b : Breaks line i l r t) → t ≡ told_of b.rule
  told_rule t b =
      ap₂ (λ (n m : ℕ). told_by n m t.value) b.number b.line_told ∙ ap (told_by (rule_number b.rule) (i + 1)) b.value

  pub breaks_once : (t u : Told) → Breaks line i l r t → Breaks line i l r u → t ≡ u
  breaks_once t u b c =
      let same : rule_number b.rule ≡ rule_number c.rule =
      elim (dec_le (rule_number b.rule) (rule_number c.rule)) [
        | yes h ↦ elim (dec_le (rule_number c.rule) (rule_number b.rule)) [
          | yes k ↦ omega arith
          | no k ↦ absurd (b.broken (c.kept b.rule (omega arith)))
        ]
        | no h ↦ absurd (c.broken (b.kept c.rule (omega arith)))
      ]
      in
      told_rule t b ∙ ap told_of (sym (rule_back b.rule) ∙ ap rule_of same ∙ rule_back c.rule) ∙ sym (told_rule u c)

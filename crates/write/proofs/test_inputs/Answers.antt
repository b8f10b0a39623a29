-- `write::test_inputs`: tests 1, 2, 14 and those of the check in their order. Assumes nothing.
use Prim.Native.Nat.{ℕ}
use mathlib.Core.Path.{sym, ap, ◌∙◌}
use Rattle.line.proofs.Order.{alone}
use Rattle.recipe.specs.Check.{recipe_judged}
use Rattle.write.proofs.test_inputs.Goals as goal

pub returns-then-out_of_range : goal.returns-then-out_of_range
returns-then-out_of_range c = rw (sym c.out_of_range.ensures, c.if-out_of_range.true)

pub returns-then-not_a_width : goal.returns-then-not_a_width
returns-then-not_a_width c = rw ((sym c.out_of_range.ensures ∙ c.if-out_of_range.false), sym c.not_a_width.ensures, c.if-not_a_width.true)

pub returns-then-not_literals : goal.returns-then-not_literals
returns-then-not_literals c =
    rw (
      (sym c.out_of_range.ensures ∙ c.if-out_of_range.false),
      (sym c.not_a_width.ensures ∙ c.if-not_a_width.false),
      sym c.not_literals.ensures,
      c.if-not_literals.true,
    )

pub returns : goal.returns
returns c =
    let s = c.args.recipe.now in
    rw (
      (sym c.out_of_range.ensures ∙ c.if-out_of_range.false),
      (sym c.not_a_width.ensures ∙ c.if-not_a_width.false),
      (sym c.not_literals.ensures ∙ c.if-not_literals.false),
    )
    (c.check_lines.ensures ∙ ap (λ (d : ℕ). recipe_judged d s) c.odd_part.ensures.0 ∙ sym (alone _))

-- `recipe::judge_lines` meets its contract. The loop's invariant is `Walking`: what is left of the walk is the whole answer, and `seen`
-- holds the coefficients of the operands before. The measure is the number of lines left. Assumes nothing.
use mathlib.Core.Path.{refl, ap, ◌∙◌, sym}
use native.Mathlib.Omega.{arith}
use lib.ListN.{length}
use borrow.Author.Tests.{eq-eqb, ne_eqb, lt-ltb}
use Rattle.line.specs.declared.Line.{Line}
use Rattle.recipe.specs.Check.{form_judged}
use Rattle.recipe.proofs.Walk.{walking_begins, walking_on, walk_end, walk_broken, coefficient_lt, judged_seen}
use Rattle.recipe.proofs.judge_lines.Goals as goal

pub returns-then-length-ne0 : goal.returns-then-length-ne0
unfolding form_judged
returns-then-length-ne0 c = simp (ne_eqb _ _ c.if-length-ne0.true)

pub returns-then-length : goal.returns-then-length
unfolding form_judged
returns-then-length c = simp (eq-eqb _ _ c.if-length-ne0.false, lt-ltb 160 (length c.args.recipe.now) c.if-length.true)

pub loop-i-init : goal.loop-i-init
loop-i-init c = walking_begins _ _ c.if-length-ne0.false c.if-length.false refl refl

pub judge-requires : goal.judge-requires
judge-requires c =
    let e = c.line_at-line.ensures in
    record {
      i_lt_most_lines = omega arith;
      kind_bound = (
        omega (arith, ap (λ (x : Line). x.kind) e),
        omega (arith, ap (λ (x : Line). x.shift) e),
        omega (arith, ap (λ (x : Line). x.coefficient) e),
      );
      by_index = λ j h. omega (arith, c.loop-i.invariant.operands j h, coefficient_lt c.args.recipe.now j);
    }

pub loop-i-preserved : goal.loop-i-preserved
loop-i-preserved c =
    let l = c.loop-i in
    walking_on (c.args.recipe.now) _ l.seen l.i _ l.invariant (omega arith) (omega arith) (sym ((let l = c.loop-i in
    judged_seen (c.args.recipe.now) l.seen _ l.i c.judge.result c.judge.ensures c.line_at-line.ensures l.invariant.operands))
    ∙ c.in_default.is)
    (ap (λ (x : Line). x.coefficient) c.line_at-line.ensures)

pub returns-then-i-n : goal.returns-then-i-n
returns-then-i-n c =
    let l = c.loop-i in
    sym (l.invariant.rest ∙ walk_end _ _ l.i (omega (arith, c.if-i-n.true)))

pub returns-in-Err : goal.returns-in-Err
returns-in-Err c =
    let l = c.loop-i in
    sym (l.invariant.rest ∙ walk_broken _ _ l.i c.in-Err.x (omega arith) (sym ((let l = c.loop-i in
    judged_seen (c.args.recipe.now) l.seen _ l.i c.judge.result c.judge.ensures c.line_at-line.ensures l.invariant.operands))
    ∙ c.in-Err.is))

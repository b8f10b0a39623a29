-- `plan::fill::fill_length`: the numbers from 2 * i + 1 on are filled.
use native.Mathlib.Omega.{arith}
use Rattle.plan.proofs.Fills.{count_fits, filling_all, filling_none, lines_chosen, lines_known, split_fits}
use Rattle.plan.proofs.fill.fill_length.Goals as goal

pub loop-i-init : goal.loop-i-init
loop-i-init c =
    filling_none c.requires.0 c.requires.1 c.requires.2 c.requires.3 c.requires.4 c.requires.5 c.power-low.ensures.0 c.power-end.ensures.0

pub invariant_of-number : goal.invariant_of-number
invariant_of-number c = record { known = lines_known c.loop-i.invariant c.loop-i-test.true }

pub overflow_cast-work : goal.overflow_cast-work
overflow_cast-work c = omega (arith, split_fits c.loop-i.invariant c.loop-i-test.true c.chosen-b.ensures)

pub overflow_cast-counts : goal.overflow_cast-counts
overflow_cast-counts c = omega (arith, count_fits c.loop-i.invariant c.loop-i-test.true c.chosen-b.ensures)

pub loop-i-preserved : goal.loop-i-preserved
loop-i-preserved c = lines_chosen c.loop-i.invariant c.loop-i-test.true c.chosen-b.ensures

pub returns : goal.returns
returns c = filling_all c.loop-i.invariant c.loop-i-test.false

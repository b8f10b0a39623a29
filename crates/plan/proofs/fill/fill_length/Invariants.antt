-- `plan::fill::fill_length`: the numbers from 2 * i + 1 on are filled.
use Rattle.split.specs.Choose.{split_of}
use Rattle.plan.proofs.Fills.{Filling}
use Rattle.plan.proofs.fill.fill_length.Given as goal

abbrev pub invariant-loop-i : goal.invariant-loop-i
invariant-loop-i l = Filling split_of l.initial.work l.initial.counts l.m l.low l.work l.counts l.i

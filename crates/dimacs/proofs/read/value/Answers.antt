-- `dimacs::read::value`: what the bytes so far say, which stays small. Assumes nothing.
use Rattle.std.proofs.Common.{refl, arith}
use Rattle.wording.specs.Decimal.{value_from}
use Rattle.wording.proofs.Asking.{value_next, ten_more}
use Rattle.dimacs.proofs.read.value.Goals as goal

pub loop-b-init : goal.loop-b-init
unfolding value_from
loop-b-init c = (refl, omega arith)

pub loop-b-preserved : goal.loop-b-preserved
loop-b-preserved c = let l = c.loop-b in
    let s = c.args.s.now in (
      omega (arith, value_next s l.b-index (omega arith)),
      ten_more l.v c.from.result l.b-index l.invariant.1 (omega arith),
    )

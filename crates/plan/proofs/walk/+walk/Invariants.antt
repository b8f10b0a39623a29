-- `plan::walk::walk`: the falling number is the rank of n, bit length and zero bits together.
use Rattle.split.specs.Order.{rank}
use Rattle.plan.proofs.walk.+walk.Given as goal

abbrev pub decreases-walk : goal.decreases-walk
decreases-walk l = rank l.n

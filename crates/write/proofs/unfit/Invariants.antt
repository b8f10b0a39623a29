-- `write::unfit`: literal by literal, up to the first that does not fit (proofs/Inputs.antt). Assumes nothing.
use mathlib.Core.Path.{◌≡◌}
use lib.ListN.{drop}
use Rattle.product.specs.Write.{unfit}
use Rattle.write.proofs.unfit.Given as goal

abbrev pub invariant-loop-i : goal.invariant-loop-i
invariant-loop-i l = unfit l.first l.x ≡ unfit l.first (drop l.i l.x)

-- `write::names`: literal by literal, up to the first that names the variable (proofs/Inputs.antt). Assumes nothing.
use mathlib.Core.Path.{◌≡◌}
use lib.ListN.{drop}
use Rattle.cnf.specs.Words.{names}
use Rattle.write.proofs.names.Given as goal

abbrev pub invariant-loop-l : goal.invariant-loop-l
invariant-loop-l l = names l.v l.x ≡ names l.v (drop l.l-index l.x)

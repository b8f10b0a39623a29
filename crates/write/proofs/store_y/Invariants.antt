-- `write::store_y`: the entries one by one.
use mathlib.Core.Path.{◌≡◌}
use lib.Seq.{sets}
use Rattle.write.specs.Terms.{listed, y_entry}
use Rattle.write.proofs.store_y.Given as goal

abbrev pub invariant-loop-j : goal.invariant-loop-j
invariant-loop-j l = l.out ≡ sets l.initial.out 0 (listed (y_entry l.bits l.t) l.j)

-- `write::literals`: the literals one by one. Assumes nothing.
use mathlib.Core.Path.{◌≡◌}
use lib.Seq.{sets}
use Rattle.write.specs.Terms.{listed, plain_literal}
use Rattle.write.proofs.literals.Given as goal

abbrev pub invariant-loop-j : goal.invariant-loop-j
invariant-loop-j l = l.out ≡ sets l.initial.out 0 (listed plain_literal l.j)

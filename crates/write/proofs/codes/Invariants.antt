-- `write::codes`: the codes one by one. Assumes nothing.
use mathlib.Core.Path.{◌≡◌}
use lib.Seq.{sets}
use Rattle.write.specs.Terms.{listed, given_code}
use Rattle.write.proofs.codes.Given as goal

abbrev pub invariant-loop-j : goal.invariant-loop-j
invariant-loop-j l = l.out ≡ sets l.initial.out 0 (listed (given_code l.x) l.j)

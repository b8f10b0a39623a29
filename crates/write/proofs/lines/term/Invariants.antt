-- `write::lines::term`: the columns of an operand one by one.
use mathlib.Core.Path.{◌≡◌}
use lib.Seq.{sets}
use Rattle.write.specs.Terms.{listed, term_code}
use Rattle.write.proofs.lines.term.Given as goal

abbrev pub invariant-loop-j : goal.invariant-loop-j
invariant-loop-j l = l.out ≡ sets l.initial.out 0 (listed (term_code l.bits l.s l.f) l.j)

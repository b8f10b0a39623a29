-- `propagate::read_clause`: what is left of the reading is the whole (proofs/Scan.antt). Assumes nothing.
use mathlib.Core.Path.{◌≡◌}
use lib.ListN.{drop}
use Rattle.propagate.specs.Clause.{reading, reading_clause}
use Rattle.propagate.proofs.read_clause.Given as goal

abbrev pub invariant-loop-i : goal.invariant-loop-i
invariant-loop-i l = reading_clause l.values l.words ≡ reading l.values l.verdict l.i (drop l.i l.words)

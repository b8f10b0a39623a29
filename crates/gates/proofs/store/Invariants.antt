-- `gates::store`: the words one by one.
use mathlib.Core.Path.{◌≡◌}
use lib.ListN.{take}
use lib.Seq.{sets}
use Rattle.gates.specs.Code.{code_words}
use Rattle.gates.proofs.store.Given as goal

abbrev pub invariant-loop-j : goal.invariant-loop-j
invariant-loop-j l = l.room ≡ sets l.initial.room l.at (code_words (take l.j l.codes))

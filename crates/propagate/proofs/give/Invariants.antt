-- `propagate::give`: what is left is the whole (proofs/Giving.antt). Assumes nothing.
use mathlib.Core.Path.{◌≡◌}
use lib.ListN.{drop}
use Rattle.propagate.specs.Pass.{given_rest}
use Rattle.propagate.proofs.give.Given as goal

abbrev pub invariant-loop-w : goal.invariant-loop-w
invariant-loop-w l = given_rest l.given l.initial.values ≡ given_rest (drop l.w-index l.given) l.values

-- `propagate::pass`: what is left of the pass is the whole (proofs/Passing.antt); the measure is what is left of the allowance. Assumes
-- nothing.
use Prim.Native.Nat.{◌-◌}
use Rattle.propagate.proofs.Passing.{Passing}
use Rattle.propagate.proofs.pass.Given as goal

abbrev pub invariant-loop-rest : goal.invariant-loop-rest
invariant-loop-rest l = Passing l.words l.allowance l.initial.values l.values l.rest l.spent

abbrev pub decreases-loop-rest : goal.decreases-loop-rest
decreases-loop-rest l = l.allowance - l.spent

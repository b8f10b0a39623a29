-- `recipe::judge_lines` meets its contract. The loop's invariant is `Walking`: what is left of the walk is the whole answer, and `seen`
-- holds the coefficients of the operands before. The measure is the number of lines left. Assumes nothing.
use Prim.Native.Nat.{◌-◌}
use Rattle.recipe.proofs.Walk.{Walking}
use Rattle.recipe.proofs.judge_lines.Given as goal

abbrev pub invariant-loop-i : goal.invariant-loop-i
invariant-loop-i l = Walking l.recipe l.n l.seen l.i

abbrev pub decreases-loop-i : goal.decreases-loop-i
decreases-loop-i l = l.n - l.i

-- `plan::choose::Number::best_of`: the bits of rest are the places from p on.
use Prim.Native.Nat.{◌+◌, ◌*◌, ◌/◌, ◌^◌, ◌≤◌}
use mathlib.Core.Path.{◌≡◌}
use Rattle.split.specs.Choose.{best_below, lines, look}
use Rattle.plan.proofs.choose.Number.best_of.Given as goal

abbrev pub invariant-loop-rest : goal.invariant-loop-rest
invariant-loop-rest l = (l.b ≡ best_below lines (look l.self.work.now) l.self.n (32 * l.k + l.p)) × (1 ≤ l.p) × (l.p ≤ 32)
    × (l.rest ≡ l.places / 2 ^ l.p)

abbrev pub decreases-loop-rest : goal.decreases-loop-rest
decreases-loop-rest l = l.rest

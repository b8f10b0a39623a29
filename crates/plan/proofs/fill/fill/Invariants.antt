-- `plan::fill::fill`: before the length m all shorter ones are filled.
use Prim.Native.Nat.{◌+◌, ◌-◌, ◌^◌, ◌≤◌}
use mathlib.Core.Path.{◌≡◌}
use lib.ListN.{length}
use Rattle.line.specs.Limits.{most_bits}
use Rattle.split.specs.Choose.{line_count, split_of}
use Rattle.plan.specs.Steps.{Filled}
use Rattle.plan.proofs.fill.fill.Given as goal

abbrev pub invariant-loop-m : goal.invariant-loop-m
invariant-loop-m l = Filled split_of l.initial.work l.work (l.m - 1) × Filled (line_count split_of) l.counts l.counts (l.m - 1)
    × (l.m ≤ l.top + 1) × (length l.counts ≡ 2 ^ (most_bits - 1))

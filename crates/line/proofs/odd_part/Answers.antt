-- `line::odd_part` meets its contract. Assumes nothing.
use mathlib.Core.Path.{ap}
use Prim.Native.Nat.{ℕ, ◌/◌, ◌^◌}
use lib.Pow.{shr_le}
use Rattle.line.specs.Number.{odd_part}
use Rattle.line.proofs.odd_part.Goals as goal

pub returns : goal.returns
unfolding odd_part
returns c =
    let v = c.args.c in
    (ap (λ (t : ℕ). v / 2 ^ t) c.twos.ensures.0, shr_le v c.twos.result)

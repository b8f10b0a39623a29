-- `line::twos` meets its contract: trailing zeros are halvings. Assumes nothing.
use mathlib.Core.Path.{◌≡◌, ap, sym}
use Prim.Native.Nat.{◌<◌}
use native.Mathlib.Nat.{lt_of_le_of_lt}
use native.Mathlib.Omega.{arith}
use lib.Dec.{lit<}
use lib.Count.{trailing_le}
use Rattle.line.specs.Number.{twos, halvings_by}
use Rattle.line.proofs.Number.{twos_lt, twos_trailing}
use Rattle.line.proofs.twos.Goals as goal

pub returns-then-c-eq0 : goal.returns-then-c-eq0
unfolding twos halvings_by
returns-then-c-eq0 c =
    let e : 0 ≡ twos c.args.c = ap twos (sym c.if-c-eq0.true) in
    (e, omega arith)

pub overflow_cast-result : goal.overflow_cast-result
overflow_cast-result c = record { fits = lt_of_le_of_lt (trailing_le 64 _) (lit< tt) }

pub returns : goal.returns
returns c =
    let v = c.args.c in
    let p : 0 < v = omega (arith, c.if-c-eq0.false) in
    let e = twos_trailing 64 v p c.ranges.c.fits in
    (e, omega (arith, e, twos_lt 64 v p c.ranges.c.fits))

-- `line::bit_length` meets its contract: what leading zeros leave of 64 digits. Assumes nothing.
use mathlib.Core.Path.{◌≡◌}
use Prim.Native.Nat.{ℕ, ◌-◌, ◌^◌, ◌≤◌, ◌<◌}
use native.Mathlib.Nat.{le_trans, lt_of_le_of_lt}
use native.Mathlib.Omega.{arith}
use lib.Dec.{lit<, lit≤}
use lib.Count.{count_leading_zeros, leading_le}
use Rattle.line.specs.Number.{bit_length}
use Rattle.line.proofs.Number.{bits_leading}
use Rattle.line.proofs.bit_length.Goals as goal

-- `line::bit_length` meets its contract: what leading zeros leave of 64 digits. Assumes nothing.
digits_left : (v : ℕ) → v < 2 ^ 64 → (64 - count_leading_zeros 64 v ≡ bit_length v) × (64 - count_leading_zeros 64 v ≤ 64)
digits_left v h = omega (arith, bits_leading 64 v h)

pub overflow_cast-result : goal.overflow_cast-result
overflow_cast-result c = record { fits = lt_of_le_of_lt (leading_le 64 _) (lit< tt) }

pub overflow_sub-result : goal.overflow_sub-result
overflow_sub-result c = le_trans (leading_le 64 _) (lit≤ tt)

pub returns : goal.returns
returns c = digits_left c.args.v c.ranges.v.fits

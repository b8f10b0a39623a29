-- A number of 64 bits with a sign, as the machine holds it: in range it comes back as it was. Assumes nothing.
use Prim.Native.Nat.{◌<◌, ◌^◌}
use mathlib.Core.Path.{◌≡◌}
use lib.IntN.{ℤ}
use lib.Signed.{mag}
use mir.Syntax.{w64}
use mir.Val.{to_z, of_z}
use mir.ValLaws.{to_z-of_z}

pub held : (z : ℤ) → mag z < 2 ^ 63 → to_z w64 (of_z w64 z) ≡ z
held z h = to_z-of_z w64 z (record { sfits = h })

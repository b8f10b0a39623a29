-- A signed word of 32 bits: its sign as the machine finds it, the same number in 64 bits, and how large it can be. Assumes nothing.
use mathlib.Core.Path.{◌≡◌, ap, ◌∙◌, sym}
use mathlib.Core.Bool.{Bool}
use Prim.Native.Nat.{◌^◌, ◌≤◌}
use native.Mathlib.Omega.{arith}
use lib.Signed.{lt_z}
use lib.IntN.{ℤ, pos, negsuc, nat_abs}
use mir.Syntax.{w32, w64}
use mir.Val.{SFits, to_z, of_z}
use mir.ValLaws.{to_z-of_z}

-- a test of the sign, as the machine makes it
pub sign : (z : ℤ) (b : Bool) → SFits w32 z → lt_z (to_z w32 (of_z w32 z)) (pos 0) ≡ b → lt_z z (pos 0) ≡ b
sign z b h e = ap (λ (x : ℤ). lt_z x (pos 0)) (sym (to_z-of_z w32 z h)) ∙ e

pub widen : (z : ℤ) → SFits w32 z → SFits w64 z
widen z h = record { sfits = omega arith }

-- a 32-bit number through 64 bits is itself
pub through : (z : ℤ) → SFits w32 z → to_z w64 (of_z w64 (to_z w32 (of_z w32 z))) ≡ z
through z h = ap (λ (x : ℤ). to_z w64 (of_z w64 x)) (to_z-of_z w32 z h) ∙ to_z-of_z w64 z (widen z h)

pub abs_le : (z : ℤ) → SFits w32 z → nat_abs z ≤ 2 ^ 31
abs_le (pos n) h = omega arith
abs_le (negsuc n) h = omega arith

-- A claimed coefficient is right exactly where it is what the kind gives; and the machine's test of that, which compares bits. Assumes
-- nothing.
use mathlib.Core.Path.{◌≡◌, refl, ap}
use mathlib.Core.Bool.{true}
use Prim.Native.Nat.{ℕ, ◌<◌, ◌^◌}
use native.Mathlib.Omega.{arith}
use lib.Dec.{eqb}
use lib.IntN.{ℤ, pos, negsuc, nat_abs, pos-ne-negsuc}
use lib.Signed.{mag}
use borrow.Author.Tests.{eqb-true, eq-eqb, ne_eqb}
use mir.Syntax.{w64}
use mir.Val.{of_z}
use Rattle.recipe.specs.Check.{claims}

pub claims_true : (k : ℕ) (z : ℤ) → claims k z ≡ true → pos k ≡ z
unfolding claims
claims_true k (pos n) e = ap pos (eqb-true k n e)
claims_true k (negsuc n) e = let z : ◌≡◌ {A = ℕ} 0 1 = cc in absurd (omega arith)

pub true_claims : (k : ℕ) (z : ℤ) → pos k ≡ z → claims k z ≡ true
unfolding claims
true_claims k (pos n) e = eq-eqb k n (ap nat_abs e)
true_claims k (negsuc n) e = absurd (pos-ne-negsuc k n e)

-- a number below 2^20 has the bits of no negative one
pub claims_bits : (k : ℕ) (z : ℤ) → k < 2 ^ 20 → mag z < 2 ^ 63 → eqb k (of_z w64 z) ≡ claims k z
unfolding claims
claims_bits k (pos n) h m = refl
claims_bits k (negsuc n) h m = ne_eqb k (of_z w64 (negsuc n)) (omega arith)

-- The text of a signed word, as the machine holds it. Assumes nothing.
use mathlib.Core.Path.{◌≡◌, refl, ap, ◌∙◌, sym}
use mathlib.Core.List.{[], ◌∷◌, ◌++◌}
use Prim.Native.Nat.{zero, suc}
use native.Mathlib.Omega.{arith}
use lib.IntN.{ℤ, pos, negsuc, nat_abs}
use mir.Syntax.{w32}
use mir.Val.{SFits, to_z, of_z}
use mir.ValLaws.{to_z-of_z}
use Rattle.wording.specs.Decimal.{digits_by, decimal, signed_decimal}
use Rattle.wording.specs.File.{word_text}

pub word_zero : (z : ℤ) → z ≡ pos 0 → word_text z ≡ signed_decimal z ++ (10 ∷ [])
unfolding word_text signed_decimal decimal digits_by
word_zero (pos zero) e = refl
word_zero (pos (suc n)) e = absurd (omega (arith, ap nat_abs e))
word_zero (negsuc n) e = absurd (omega (arith, ap nat_abs e))

pub word_other : (z : ℤ) → (z ≡ pos 0 → ⊥) → word_text z ≡ signed_decimal z ++ (32 ∷ [])
unfolding word_text
word_other (pos zero) e = absurd (e refl)
word_other (pos (suc n)) e = refl
word_other (negsuc n) e = refl

-- a test for zero, as the machine makes it
pub zero_of : (z : ℤ) → SFits w32 z → of_z w32 z ≡ 0 → z ≡ pos 0
zero_of z h e = sym (to_z-of_z w32 z h) ∙ ap (to_z w32) e

pub nonzero_of : (z : ℤ) → (of_z w32 z ≡ 0 → ⊥) → z ≡ pos 0 → ⊥
nonzero_of z h e = h (ap (of_z w32) e)

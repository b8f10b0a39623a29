-- A number's digits are those that the library prints. Assumes nothing.
use mathlib.Core.Path.{◌≡◌, ap, sym, ◌∙◌}
use mathlib.Core.List.{List, [], ◌∷◌, ◌++◌}
use Prim.Native.Nat.{ℕ, zero, suc, ◌+◌, ◌/◌, ◌%◌, ◌^◌, ◌≤◌, ◌<◌, max}
use native.Mathlib.Nat.{pow-suc}
use native.Mathlib.Omega.{arith}
use lib.IntN.{ℤ, pos, negsuc}
use lib.ListN.{length, length-append}
use lib.Signed.{mag}
use mir.Syntax.{w32}
use mir.Val.{SFits, to_z, of_z}
use mir.ValLaws.{to_z-of_z}
use Rattle.std.specs.Fmt as printed
use Rattle.std.proofs.lemmas.Fmt.{length-decimal-le, decimal_by_steps, decimal_from_appends}
use Rattle.wording.specs.Decimal.{decimal, signed_decimal}
use Rattle.wording.proofs.Decimal.{decimal_one, decimal_more, decimal_short, signed_short}

pub same_decimal : (n : ℕ) → n < 2 ^ 64 → printed.decimal n ≡ decimal n
same_decimal n h =
    sym (decimal_from_appends (λ (k : ℕ) (m : ℕ). decimal m)
    (record { one = λ k m l. decimal_one m l; more = λ k m l. decimal_more m l }) 20 n h
    (length-decimal-le 20 n (omega arith) (omega arith) h))

signed_digits : (z : ℤ) → mag z < 2 ^ 31 → printed.signed_decimal z ≡ signed_decimal z
unfolding signed_decimal
signed_digits (pos n) h = same_decimal n (omega arith)
signed_digits (negsuc n) h = ap (λ (l : List ℕ). 45 ∷ l) (same_decimal (suc n) (omega arith))

-- of a number as the machine holds it
pub same_signed : (z : ℤ) → SFits w32 z → printed.signed_decimal (to_z w32 (of_z w32 z)) ≡ signed_decimal z
same_signed z h = ap printed.signed_decimal (to_z-of_z w32 z h) ∙ signed_digits z h.sfits

ten_pos : (k : ℕ) → 1 ≤ 10 ^ k
ten_pos zero = omega arith
ten_pos (suc k) = omega (arith, pow-suc 10 k, ten_pos k)

-- 10 ^ k or more has a digit more than k, and 0 has one
module _ (n : ℕ) where
  least_one : n < 10 → (k : ℕ) → 10 ^ k ≤ max n 1 → suc k ≤ 1
  least_one h zero e = omega arith
  least_one h (suc k) e = absurd (omega (arith, pow-suc 10 k, ten_pos k))

  least_more : (xs : List ℕ) → 10 ≤ n → ((k : ℕ) → 10 ^ k ≤ max (n / 10) 1 → suc k ≤ length xs)
      → (k : ℕ) → 10 ^ k ≤ max n 1 → suc k ≤ length (xs ++ ((48 + n % 10) ∷ []))
  least_more xs p ih zero e = omega (arith, length-append xs ((48 + n % 10) ∷ []))
  least_more xs p ih (suc k) e = omega (arith, length-append xs ((48 + n % 10) ∷ []), ih k (omega (arith, pow-suc 10 k)))

-- how many digits stand between two powers of ten
pub digits_are : (n k : ℕ) → n < 2 ^ 64 → 10 ^ k ≤ max n 1 → n < 10 ^ suc k → length (printed.decimal n) ≡ suc k
digits_are n k h low high =
    let least = decimal_by_steps (λ n xs. (k : ℕ) → 10 ^ k ≤ max n 1 → suc k ≤ length xs) least_one least_more n h k low in
    omega (arith, length-decimal-le (suc k) n (omega arith) high h)

-- how long a number is
pub ruleset decimals = (same_decimal, decimal_short)

pub ruleset signs = (same_signed, signed_short)

-- How many columns a line has: enough for its coefficient times x, at most L + w, and as many as y has bits.
use Prim.Native.Nat.{ℕ, zero, suc, ◌+◌, ◌*◌, ◌-◌, ◌^◌, ◌≤◌, ◌<◌}
use mathlib.Core.Path.{◌≡◌, sym, ap, ◌∙◌, subst}
use native.Mathlib.Nat.{not-suc-le-zero, pow-suc, mul_comm, mul_assoc, zero-mul, mul-le-mul, mul-le-mul_left, lt_of_le_of_lt}
use native.Mathlib.Nat.{mul-lt-mul_of_pos_right}
use native.Mathlib.Omega.{arith}
use lib.Pow.{pow_pos, pow-add}
use Rattle.line.specs.Number.{bit_length}
use Rattle.line.proofs.Number.{bits_zero, bits_le, bits_lt, bits_is, bits_shift}
use Rattle.product.specs.Lines.{columns}

-- a line of coefficient k has room for k times x
pub enough_columns : (w k x : ℕ) → x < 2 ^ w → k * x < 2 ^ columns w k
unfolding columns
enough_columns w k x h = lt_of_le_of_lt (mul-le-mul_left k (omega arith)) (bits_lt (k * (2 ^ w - 1)))

two_le_pow : (w : ℕ) → 0 < w → 2 ≤ 2 ^ w
two_le_pow zero p = absurd (not-suc-le-zero p)
two_le_pow (suc w) p = omega (arith, pow-suc 2 w, pow_pos w)

pub columns_of_0 : (w : ℕ) → columns w 0 ≡ 0
unfolding columns
columns_of_0 w = ap bit_length (zero-mul (2 ^ w - 1)) ∙ bits_zero

-- x has a column for each of its bits
pub columns_of_x : (w : ℕ) → 0 < w → columns w 1 ≡ w
unfolding columns
columns_of_x w p = bits_is w (1 * (2 ^ w - 1)) (omega (arith, two_le_pow w p)) (omega (arith, two_le_pow w p))

-- L + w columns at most, for a coefficient of at most L bits
pub columns_le : (w k L : ℕ) → k < 2 ^ L → columns w k ≤ L + w
unfolding columns
columns_le w k L h =
    bits_le (L + w) (k * (2 ^ w - 1))
    (subst (λ (p : ℕ). k * (2 ^ w - 1) < p) (sym (pow-add 2 L w))
    (lt_of_le_of_lt (mul-le-mul_left k (omega arith)) (mul-lt-mul_of_pos_right h (pow_pos w))))

-- y's bits for c = d * 2^t: t, and the columns of d
pub bit_length_of_y : (w t d : ℕ) → 0 < w → 0 < d → bit_length (d * 2 ^ t * (2 ^ w - 1)) ≡ t + columns w d
unfolding columns
bit_length_of_y w t d p q =
    let top : 0 < 2 ^ w - 1 = omega (arith, two_le_pow w p) in
    let e : d * 2 ^ t * (2 ^ w - 1) ≡ d * (2 ^ w - 1) * 2 ^ t =
    mul_assoc d (2 ^ t) (2 ^ w - 1) ∙ ap (λ (m : ℕ). d * m) (mul_comm (2 ^ t) (2 ^ w - 1)) ∙ sym (mul_assoc d (2 ^ w - 1) (2 ^ t)) in
    ap bit_length e ∙ bits_shift t (d * (2 ^ w - 1)) (omega (arith, mul-le-mul {n₁ = 1} {m₁ = 1} {n₂ = d} {m₂ = 2 ^ w - 1} q top))

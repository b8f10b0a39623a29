-- `line::join` meets its contract: neither shift loses a bit, and f's k bits fall on bits of the shifted v that are zero. Assumes nothing.
use mathlib.Core.Path.{◌≡◌, ap₂, ◌∙◌}
use Prim.Native.Nat.{ℕ, ◌*◌, ◌%◌, ◌-◌, ◌^◌, ◌≤◌}
use native.Mathlib.Omega.{arith}
use lib.Pow.{shl_exact, pow_pos}
use lib.Bits.{bit_and, bit_or, and_mask, mask_lt, or_shifted}
use Rattle.line.proofs.join.Goals as goal

-- `line::join` meets its contract: neither shift loses a bit, and f's k bits fall on bits of the shifted v that are zero. Assumes nothing.
one_shifted : (k : ℕ) → k ≤ 20 → (1 * 2 ^ k) % 2 ^ 64 ≡ 2 ^ k
one_shifted k h = shl_exact {a = 1} 1 k 64 (omega arith) (omega arith) ∙ omega arith

pub overflow_sub-result : goal.overflow_sub-result
overflow_sub-result c = omega (arith, one_shifted c.args.k c.requires.1, pow_pos c.args.k)

pub returns : goal.returns
returns c =
    let a = c.args in
    ap₂ (λ (x y : ℕ). bit_or x (bit_and a.f (y - 1))) (shl_exact {a = a.v} 40 a.k 64 c.requires.0 (omega arith))
    (one_shifted a.k c.requires.1)
    ∙ or_shifted a.v a.k (bit_and a.f (2 ^ a.k - 1)) (mask_lt a.f a.k)
    ∙ omega (arith, and_mask a.f a.k)

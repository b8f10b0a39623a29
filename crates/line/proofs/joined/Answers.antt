-- `line::joined` meets its contract: five bytes, each below those before it. Assumes nothing.
use mathlib.Core.Path.{◌≡◌}
use mathlib.Core.List.{List}
use Prim.Native.Nat.{ℕ, ◌+◌, ◌*◌}
use native.Mathlib.Omega.{arith}
use lib.ListN.{get_or}
use Rattle.line.specs.Line.{number}
use Rattle.line.proofs.joined.Goals as goal

-- `line::joined` meets its contract: five bytes, each below those before it. Assumes nothing.
byte_by_byte : (s : List ℕ) (a b c d e : ℕ) → a ≡ 0 * 256 + get_or s 0 0 → b ≡ a * 256 + get_or s 1 0 → c ≡ b * 256 + get_or s 2 0
    → d ≡ c * 256 + get_or s 3 0 → e ≡ d * 256 + get_or s 4 0
    → e ≡ number s
byte_by_byte s a b c d e h₀ h₁ h₂ h₃ h₄ = omega arith

pub returns : goal.returns
returns c =
    let c₄ = c in
    let c₃ = c₄ in
    let c₂ = c₃ in
    let c₁ = c₂ in
    byte_by_byte c₁.args.part.now c₁.byte_below-a.result c₂.byte_below-b.result c₃.byte_below-c.result
    c₄.byte_below-d.result c.byte_below.result
    c₁.byte_below-a.ensures.0 c₂.byte_below-b.ensures.0 c₃.byte_below-c.ensures.0 c₄.byte_below-d.ensures.0
    c.byte_below.ensures.0

-- `line::Line::packed` meets its contract: six fields, each below those before it. Assumes nothing.
use mathlib.Core.Path.{◌≡◌}
use Prim.Native.Nat.{ℕ, ◌+◌, ◌*◌, ◌%◌, ◌^◌, ◌<◌}
use native.Mathlib.Omega.{arith}
use Rattle.line.specs.declared.Line.{Line}
use Rattle.line.specs.Line.{forty_bits}
use Rattle.line.proofs.Line.packed.Goals as goal

-- `line::Line::packed` meets its contract: six fields, each below those before it. Assumes nothing.
field_by_field : (l : Line) (a b c d e f : ℕ) → a ≡ 0 * 2 ^ 1 + l.top % 2 ^ 1 → b ≡ a * 2 ^ 2 + l.kind % 2 ^ 2
    → c ≡ b * 2 ^ 6 + l.left % 2 ^ 6 → d ≡ c * 2 ^ 5 + l.shift % 2 ^ 5
    → e ≡ d * 2 ^ 6 + l.right % 2 ^ 6 → f ≡ e * 2 ^ 20 + l.coefficient % 2 ^ 20 → (f ≡ forty_bits l) × (f < 2 ^ 40)
field_by_field l a b c d e f h₁ h₂ h₃ h₄ h₅ h₆ = omega arith

pub returns : goal.returns
returns c =
    let c₅ = c in
    let c₄ = c₅ in
    let c₃ = c₄ in
    let c₂ = c₃ in
    let c₁ = c₂ in
    field_by_field c₁.args.self c₁.join-a.result c₂.join-b.result c₃.join-c.result c₄.join-d.result
    c₅.join-e.result c.join.result
    c₁.join-a.ensures c₂.join-b.ensures c₃.join-c.ensures c₄.join-d.ensures c₅.join-e.ensures c.join.ensures

-- A record in two parts, its first five bytes and its recipe. Assumes nothing.
use Rattle.line.specs.Refusal.{told_of as answer_told}
use Rattle.std.proofs.Common.{◌≡◌, ℕ, ◌<◌, List, ◌++◌, length, get_or, drop, ap, ◌∙◌, drop_at, arith}
use Rattle.std.proofs.lemmas.List.{get_or_append_left}
use Rattle.recipe.specs.Check.{checked}
use Rattle.compare_checks.specs.Record.{constant_of, told_of}

pub told_in_parts : (front recipe : List ℕ) → length front ≡ 5
    → told_of (front ++ recipe) ≡ answer_told (checked (constant_of front) recipe)
told_in_parts front recipe five =
    let byte : (i : ℕ) → i < 5 → get_or (front ++ recipe) i 0 ≡ get_or front i 0 =
    λ i h. get_or_append_left front recipe 0 i (omega arith) in
    let same : constant_of (front ++ recipe) ≡ constant_of front =
    grind (arith, byte 0 (omega arith), byte 1 (omega arith), byte 2 (omega arith), byte 3 (omega arith)) in
    ap (λ c. answer_told (checked c (drop 5 (front ++ recipe)))) same
    ∙ ap (λ l. answer_told (checked (constant_of front) l)) (drop_at front recipe 5 five)

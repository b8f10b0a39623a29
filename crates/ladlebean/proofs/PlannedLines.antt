-- The lines that are read off the planned recipe's bytes are those of the recipe (`planned_reads`). Assumes nothing.
use Prim.Native.Nat.{ℕ, suc, ◌+◌, ◌/◌, ◌≤◌, ◌<◌}
use mathlib.Core.Path.{◌≡◌, refl, ap, ap₂, ◌∙◌}
use mathlib.Core.List.{List, [], ◌∷◌, map}
use native.Mathlib.Omega.{arith}
use native.Mathlib.Nat.{zero-add}
use lib.ListN.{length, get_or}
use Rattle.line.specs.Limits.{line_bytes, most_constant}
use Rattle.line.specs.Number.{odd_part}
use Rattle.line.specs.declared.Line.{Line}
use Rattle.recipe.specs.Check.{line_at}
use Rattle.split.specs.Choose.{split_of}
use Rattle.split.specs.Order.{coefficients, line_for, lines_bytes, recipe_for}
use Rattle.plan.proofs.Accepts.{planned_line}
use Rattle.plan.proofs.Bytes.{bytes_length, map_length}
use Rattle.product.specs.Product.{lines_from, lines_of}

read_from : (f : ℕ → Line) (recipe xs : List ℕ) (i : ℕ) → ((j : ℕ) → j < length xs → line_at recipe (i + j) ≡ f (get_or xs j 0))
    → lines_from recipe i (length xs) ≡ map f xs
unfolding lines_from
read_from f recipe [] i h = refl
read_from f recipe (x ∷ xs) i h = ap₂ ◌∷◌
    (ap (line_at recipe) {x = i} {y = i + 0} (omega arith) ∙ h 0 (omega arith))
    (read_from f recipe xs (suc i) (λ j q. ap (line_at recipe) {x = suc i + j} {y = i + suc j} (omega arith) ∙ h (suc j) (omega arith)))

pub planned_reads : (c : ℕ) → 1 ≤ c → c ≤ most_constant
    → lines_of (lines_bytes (recipe_for split_of (odd_part c))) ≡ recipe_for split_of (odd_part c)
unfolding recipe_for
planned_reads c least most =
    let ks : List ℕ = coefficients split_of (odd_part c) in
    let ls : List Line = map (line_for split_of ks) ks in
    let bytes : List ℕ = lines_bytes ls in
    let n : length bytes / line_bytes ≡ length ks = omega (arith, bytes_length ls, map_length (line_for split_of ks) ks) in
    ap (λ (m : ℕ). lines_from bytes 0 m) n
    ∙ read_from (line_for split_of ks) bytes ks 0 (λ j q. ap (line_at bytes) (zero-add j) ∙ planned_line c least most j q)

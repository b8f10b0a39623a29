-- The lines' clauses tile the clauses that are read off the room (`tiled`), one part for each line (`parts`), and each part has at most
-- 14 * (L + w) clauses where the line's coefficient has at most L bits (`each_few`). Assumes nothing.
use Prim.Native.Nat.{ℕ, zero, suc, ◌+◌, ◌*◌, ◌/◌, ◌≤◌, ◌<◌}
use mathlib.Core.Path.{◌≡◌, refl, sym, ap, ◌∙◌, subst}
use mathlib.Core.List.{List, [], ◌∷◌, ◌++◌}
use native.Mathlib.Omega.{arith}
use lib.IntN.{ℤ}
use lib.ListN.{length, get_or}
use Rattle.line.specs.Refusal.{number_of}
use Rattle.line.specs.Number.{bit_length}
use Rattle.line.specs.declared.Line.{Line}
use Rattle.line.proofs.Number.{lt_bits}
use Rattle.recipe.specs.Check.{line_at}
use Rattle.cnf.specs.Clause.{Clause}
use Rattle.cnf.specs.Words.{clauses_of}
use Rattle.cnf.proofs.Words.{clauses_of_words}
use Rattle.product.specs.Bit.{Bit, given}
use Rattle.product.specs.Lines.{Sum, columns, encoded, line_encoded}
use Rattle.product.specs.Product.{lines_from, lines_of, product_made, product_of}
use Rattle.product.specs.ByLine.{clauses_by_line, joined, line_clauses}
use Rattle.product.specs.Write.{writing, written}
use Rattle.product.specs.Demand.{words_at_exit}
use Rattle.product.specs.Write.{Written}
use Rattle.product.proofs.Bounds.{line_few_clauses}
use Rattle.product.proofs.Given.{length_given}
use Rattle.product.proofs.Lengths.{length_lines}
use Rattle.product.proofs.AcceptedMeans.{product_of_multiplies}
use Rattle.product.proofs.Success.{success}

joined_all : (m : ℕ → ℕ) (ls : List Line) (operands : List (List Bit)) (n : ℕ)
    → joined (clauses_by_line m ls operands n) ≡ (encoded m ls operands n).clauses
unfolding joined clauses_by_line encoded
joined_all m [] operands n = refl
joined_all m (l ∷ ls) operands n =
    let s : Sum = line_encoded m l operands n in
    ap (λ (cs : List Clause). s.clauses ++ cs) (joined_all m ls (operands ++ (s.bits ∷ [])) s.next)

as_many : (m : ℕ → ℕ) (ls : List Line) (operands : List (List Bit)) (n : ℕ) → length (clauses_by_line m ls operands n) ≡ length ls
unfolding clauses_by_line
as_many m [] operands n = refl
as_many m (l ∷ ls) operands n =
    let s : Sum = line_encoded m l operands n in
    ap suc (as_many m ls (operands ++ (s.bits ∷ [])) s.next)

few_from : (w L : ℕ) (recipe : List ℕ) (k i : ℕ) (operands : List (List Bit)) (n : ℕ)
    → ((j : ℕ) → j < i + k → bit_length (line_at recipe j).coefficient ≤ L)
    → (j : ℕ) → j < k → length (get_or (clauses_by_line (columns w) (lines_from recipe i k) operands n) j []) ≤ 14 * (L + w)
unfolding clauses_by_line lines_from
few_from w L recipe zero i operands n h j q = absurd (omega arith)
few_from w L recipe (suc k) i operands n h zero q =
    line_few_clauses w L (line_at recipe i) operands n (lt_bits L (line_at recipe i).coefficient (h i (omega arith)))
few_from w L recipe (suc k) i operands n h (suc j) q =
    let s : Sum = line_encoded (columns w) (line_at recipe i) operands n in
    few_from w L recipe k (suc i) (operands ++ (s.bits ∷ [])) s.next (λ v z. h v (omega arith)) j (omega arith)

-- ---- the call

pub parts : (x : List ℤ) (first : ℕ) (recipe : List ℕ) → length (line_clauses x first recipe) ≡ length recipe / 5
unfolding line_clauses
parts x first recipe =
    as_many (columns (length (given x))) (lines_of recipe) (given x ∷ []) first ∙ length_lines recipe 0 (length recipe / 5)

pub each_few : (x : List ℤ) (first : ℕ) (recipe : List ℕ) (L : ℕ)
    → ((i : ℕ) → i < length recipe / 5 → bit_length (line_at recipe i).coefficient ≤ L)
    → (i : ℕ) → i < length recipe / 5 → length (get_or (line_clauses x first recipe) i []) ≤ 14 * (L + length x)
unfolding line_clauses
each_few x first recipe L h i q =
    subst (λ (v : ℕ). length (get_or (clauses_by_line (columns (length (given x))) (lines_of recipe) (given x ∷ []) first) i [])
    ≤ 14 * (L + v)) (length_given x)
    (few_from (length (given x)) L recipe (length recipe / 5) 0 (given x ∷ []) first (λ j k. h j (omega arith)) i q)

pub tiled : (c w : ℕ) (x : List ℤ) (first : ℕ) (recipe : List ℕ) (bits clauses : List ℤ) (answer : Written) (bits' clauses' : List ℤ)
    → writing answer bits' clauses' ≡ written c w x first recipe bits clauses → number_of answer ≡ 0
    → joined (line_clauses x first recipe) ≡ clauses_of (words_at_exit answer clauses')
unfolding line_clauses product_of product_made
tiled c w x first recipe bits clauses answer bits' clauses' r z =
    let s = success c w x first recipe bits clauses answer bits' clauses' r z in
    let p = product_of c x first recipe in
    let f = product_of_multiplies c x first recipe s.tests.inputs.makes s.some s.tests.inputs.fit in
    joined_all (columns (length (given x))) (lines_of recipe) (given x ∷ []) first
    ∙ sym (ap clauses_of s.words_are ∙ clauses_of_words p.next p.clauses f.extends.names)

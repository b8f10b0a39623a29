-- At most fourteen clauses and 64 words in a column, so at most 14 * (L + w) clauses and 64 * (L + w) words in a line whose coefficient has
-- at most L bits. From the column up this is one law, over whatever is counted of clauses.
use Prim.Native.Nat.{ℕ, zero, suc, ◌+◌, ◌*◌, ◌/◌, ◌^◌, ◌≤◌, ◌<◌}
use mathlib.Core.Path.{◌≡◌, refl, ap, ◌∙◌, subst}
use mathlib.Core.Bool.{Bool, true, false}
use mathlib.Core.List.{List, [], ◌∷◌, ◌++◌}
use native.Mathlib.Nat.{mul-suc, mul-le-mul_left}
use native.Mathlib.Omega.{arith}
use lib.IntN.{ℤ}
use lib.ListN.{length, get_or, length-append}
use Rattle.line.specs.Line.{Kind, splus, sminus, minuss, kind_of}
use Rattle.line.specs.declared.Line.{Line}
use Rattle.line.specs.Number.{bit_length}
use Rattle.line.proofs.Number.{lt_bits}
use Rattle.recipe.specs.Check.{line_at}
use Rattle.cnf.specs.Clause.{Literal, Clause}
use Rattle.cnf.specs.Words.{words}
use Rattle.cnf.proofs.Words.{words_append}
use Rattle.product.specs.Bit.{Bit, fixed, unfixed, given}
use Rattle.product.specs.Column.{fixed_sum, literals, Pair, none, equal, opposite, first_pair, Made, parity, sum_made, both, either}
use Rattle.product.specs.Column.{most, carry_made, sum_of, carry_of, carry_unless, column}
use Rattle.product.specs.Lines.{none_left, adder, fitted, line_sum, columns, line_encoded, encoded}
use Rattle.product.specs.Product.{lines_from, lines_of, product_made, product_of, clause_words}
use Rattle.product.proofs.BitLengths.{columns_le}
use Rattle.product.proofs.Lengths.{length_fitted, length_lines}
use Rattle.product.proofs.Given.{length_given}
use Rattle.product.proofs.Nexts.{Narrow, encoded_few}

-- a column has three inputs
pub inputs_few : (bs : List Bit) → fixed_sum bs + length (literals bs) ≤ length bs
inputs_few [] = omega arith
inputs_few (fixed true ∷ bs) = omega (arith, inputs_few bs)
inputs_few (fixed false ∷ bs) = omega (arith, inputs_few bs)
inputs_few (unfixed l ∷ bs) = omega (arith, inputs_few bs)

-- ---- a column

sum_clauses : (f n : ℕ) (ps : List Literal) → length ps ≤ 3 → (length (sum_made f ps n).clauses ≤ 8)
    × (length (words (sum_made f ps n).clauses) ≤ 40)
unfolding sum_made parity
sum_clauses f n [] h = omega arith
sum_clauses f n (p ∷ []) h = omega arith
sum_clauses f n (p ∷ q ∷ []) h = omega arith
sum_clauses f n (p ∷ q ∷ r ∷ []) h = omega arith
sum_clauses f n (p ∷ q ∷ r ∷ s ∷ ps) h = absurd (omega arith)

carry_clauses : (f n : ℕ) (ps : List Literal) → (length (carry_made f ps n).clauses ≤ 6)
    × (length (words (carry_made f ps n).clauses) ≤ 24)
unfolding carry_made both either most
carry_clauses f n [] = omega arith
carry_clauses zero n (p ∷ []) = omega arith
carry_clauses (suc zero) n (p ∷ []) = omega arith
carry_clauses (suc (suc f)) n (p ∷ []) = omega arith
carry_clauses zero n (p ∷ q ∷ []) = omega arith
carry_clauses (suc f) n (p ∷ q ∷ []) = omega arith
carry_clauses zero n (p ∷ q ∷ r ∷ ps) = omega arith
carry_clauses (suc f) n (p ∷ q ∷ r ∷ ps) = omega arith

-- with a pair at most one input remains, and the carry has no clause
sum_of_clauses : (k : Pair) (bs : List Bit) (n : ℕ) → length bs ≤ 3
    → (length (sum_of k bs n).clauses ≤ 8) × (length (words (sum_of k bs n).clauses) ≤ 40)
unfolding sum_of
sum_of_clauses none bs n h = sum_clauses _ n (literals bs) (omega (arith, inputs_few bs))
sum_of_clauses (equal p r) bs n h = sum_clauses _ n (literals (r ∷ [])) (omega (arith, inputs_few (r ∷ [])))
sum_of_clauses (opposite r) bs n h = sum_clauses _ n (literals (r ∷ [])) (omega (arith, inputs_few (r ∷ [])))

carry_unless_clauses : (last : Bool) (k : Pair) (bs : List Bit) (n : ℕ)
    → (length (carry_unless last k bs n).clauses ≤ 6) × (length (words (carry_unless last k bs n).clauses) ≤ 24)
unfolding carry_of carry_unless
carry_unless_clauses true k bs n = omega arith
carry_unless_clauses false none bs n = carry_clauses (fixed_sum bs) n (literals bs)
carry_unless_clauses false (equal p r) bs n = omega arith
carry_unless_clauses false (opposite r) bs n = omega arith

words_of_both : (cs ds : List Clause) → length (words (cs ++ ds)) ≡ length (words cs) + length (words ds)
words_of_both cs ds = ap length (words_append cs ds) ∙ length-append (words cs) (words ds)

column_clauses : (l r c : Bit) (last : Bool) (n : ℕ) → (length (column l r c last n).clauses ≤ 14)
    × (length (words (column l r c last n).clauses) ≤ 64)
unfolding column
column_clauses l r c last n =
    let inputs : List Bit = l ∷ r ∷ c ∷ [] in
    let k : Pair = first_pair l r c in
    let s : Made = sum_of k inputs n in
    let t : Made = carry_unless last k inputs s.next in
    let a = sum_of_clauses k inputs n (omega arith) in
    let b = carry_unless_clauses last k inputs s.next in
    (omega (arith, length-append s.clauses t.clauses, a.0, b.0), omega (arith, words_of_both s.clauses t.clauses, a.1, b.1))

-- ---- a line and a recipe: whatever is counted of clauses, if a column has at most `most` of it

-- every coefficient has at most L bits
abbrev Small : ℕ → List Line → Type 0
Small L [] = Unit {0}
Small L (l ∷ ls) = (l.coefficient < 2 ^ L) × Small L ls

small_from : (recipe : List ℕ) (L n i : ℕ) → ((j : ℕ) → j < i + n → bit_length (line_at recipe j).coefficient ≤ L)
    → Small L (lines_from recipe i n)
unfolding lines_from
small_from recipe L zero i h = tt
small_from recipe L (suc n) i h =
    (lt_bits L (line_at recipe i).coefficient (h i (omega arith)), small_from recipe L n (suc i) (λ j k. h j (omega arith)))

module _ (size : List Clause → ℕ) (most : ℕ) (none : size [] ≡ 0) (append : (cs ds : List Clause) → size (cs ++ ds) ≡ size cs + size ds)
    (column_size : (l r c : Bit) (last : Bool) (n : ℕ) → size (column l r c last n).clauses ≤ most) where
  adder_size : (ls rs : List Bit) (c : Bit) (n : ℕ) → size (adder ls rs c n).clauses ≤ most * length ls
  unfolding adder
  adder_size [] rs c n = omega (arith, none)
  adder_size (l ∷ ls) [] c n = omega (arith, none)
  adder_size (l ∷ ls) (r ∷ rs) c n =
      let k = column l r c (none_left ls) n in
      let s = adder ls rs k.carry_bit k.next in
      omega (
        arith,
        append k.clauses s.clauses,
        column_size l r c (none_left ls) n,
        adder_size ls rs k.carry_bit k.next,
        mul-suc most (length ls),
      )

  fitted_size : (m : ℕ) (ls rs : List Bit) (c : Bit) (n : ℕ) → size (adder (fitted m ls) rs c n).clauses ≤ most * m
  fitted_size m ls rs c n =
      subst (λ (k : ℕ). size (adder (fitted m ls) rs c n).clauses ≤ most * k) (length_fitted m ls) (adder_size (fitted m ls) rs c n)

  line_size : (d : Kind) (m s : ℕ) (l r : List Bit) (n : ℕ) → size (line_sum d m l s r n).clauses ≤ most * m
  unfolding line_sum
  line_size splus m s l r n = fitted_size m _ _ _ n
  line_size sminus m s l r n = fitted_size m _ _ _ n
  line_size minuss m s l r n = fitted_size m _ _ _ n

  recipe_size : (w L : ℕ) (ls : List Line) (operands : List (List Bit)) (n : ℕ) → Small L ls
      → size (encoded (columns w) ls operands n).clauses ≤ most * (L + w) * length ls
  unfolding encoded line_encoded
  recipe_size w L [] operands n h = omega (arith, none)
  recipe_size w L (l ∷ ls) operands n h =
      let s = line_encoded (columns w) l operands n in
      let u = encoded (columns w) ls (operands ++ (s.bits ∷ [])) s.next in
      omega (
        arith,
        append s.clauses u.clauses,
        recipe_size w L ls (operands ++ (s.bits ∷ [])) s.next h.1,
        line_size (kind_of l.kind) (columns w l.coefficient) l.shift (get_or operands l.left []) (get_or operands l.right []) n,
        mul-le-mul_left most (columns_le w l.coefficient L h.0),
        mul-suc (most * (L + w)) (length ls),
      )

  -- the call
  product_size : (c : ℕ) (x : List ℤ) (first : ℕ) (recipe : List ℕ) (L : ℕ)
      → ((i : ℕ) → i < length recipe / 5 → bit_length (line_at recipe i).coefficient ≤ L)
      → size (product_of c x first recipe).clauses ≤ most * (L + length x) * (length recipe / 5)
  unfolding product_of product_made
  product_size c x first recipe L h =
      let n = length recipe / 5 in
      let small : Small L (lines_of recipe) = small_from recipe L n 0 (λ j k. h j (omega arith)) in
      omega (
        arith,
        recipe_size (length (given x)) L (lines_of recipe) (given x ∷ []) first small,
        ap (λ (v : ℕ). most * (L + v) * length (lines_of recipe)) (length_given x),
        ap (λ (m : ℕ). most * (L + length x) * m) (length_lines recipe 0 n),
      )

-- the clause bound of demand 3, of each line ..
pub line_few_clauses : (w L : ℕ) (l : Line) (operands : List (List Bit)) (n : ℕ) → l.coefficient < 2 ^ L
    → length (line_encoded (columns w) l operands n).clauses ≤ 14 * (L + w)
unfolding line_encoded
line_few_clauses w L l operands n h = omega (
  arith,
  line_size length 14 refl length-append (λ l r c last n. (column_clauses l r c last n).0) (kind_of l.kind)
      (columns w l.coefficient) l.shift (get_or operands l.left []) (get_or operands l.right []) n,
  mul-le-mul_left 14 (columns_le w l.coefficient L h),
)

-- .. and of all
pub few_clauses : (c : ℕ) (x : List ℤ) (first : ℕ) (recipe : List ℕ) (L : ℕ)
    → ((i : ℕ) → i < length recipe / 5 → bit_length (line_at recipe i).coefficient ≤ L)
    → length (product_of c x first recipe).clauses ≤ 14 * (L + length x) * (length recipe / 5)
few_clauses = product_size length 14 refl length-append (λ l r c last n. (column_clauses l r c last n).0)

pub few_words : (c : ℕ) (x : List ℤ) (first : ℕ) (recipe : List ℕ) (L : ℕ)
    → ((i : ℕ) → i < length recipe / 5 → bit_length (line_at recipe i).coefficient ≤ L)
    → length (clause_words (product_of c x first recipe)) ≤ 64 * (L + length x) * (length recipe / 5)
few_words = product_size (λ (cs : List Clause). length (words cs)) 64 refl words_of_both (λ l r c last n. (column_clauses l r c last n).1)

narrow_small : (w L : ℕ) (ls : List Line) → Small L ls → Narrow (columns w) (L + w) ls
narrow_small w L [] h = tt
narrow_small w L (l ∷ ls) h = (columns_le w l.coefficient L h.0, narrow_small w L ls h.1)

-- at most two new variables a column
pub few_next : (c : ℕ) (x : List ℤ) (first : ℕ) (recipe : List ℕ) (L : ℕ)
    → ((i : ℕ) → i < length recipe / 5 → bit_length (line_at recipe i).coefficient ≤ L)
    → (product_of c x first recipe).next ≤ first + 2 * (L + length x) * (length recipe / 5)
unfolding product_of product_made
few_next c x first recipe L h =
    let n = length recipe / 5 in
    let v : ℕ = length (given x) in
    let small : Small L (lines_of recipe) = small_from recipe L n 0 (λ j k. h j (omega arith)) in
    omega (
      arith,
      encoded_few (columns v) (L + v) (lines_of recipe) (given x ∷ []) first (narrow_small v L (lines_of recipe) small),
      ap (λ (k : ℕ). 2 * (L + k) * length (lines_of recipe)) (length_given x),
      ap (λ (m : ℕ). 2 * (L + length x) * m) (length_lines recipe 0 n),
    )

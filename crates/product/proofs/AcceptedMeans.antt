-- What the check's acceptance means for the product: the lines are right, their product is the odd part of c, and y has as many bits as
-- c times the largest x.
use Prim.Native.Nat.{ℕ, zero, suc, ◌+◌, ◌-◌, ◌*◌, ◌/◌, ◌^◌, ◌≤◌, ◌<◌}
use mathlib.Core.Path.{◌≡◌, refl, sym, ap, ap₂, ◌∙◌, subst}
use mathlib.Core.Logic.{◌⊎◌, inl, inr, ⊎_elim}
use mathlib.Core.Bool.{true}
use mathlib.Core.List.{List, [], ◌∷◌, ◌++◌, map}
use native.Mathlib.Nat.{add-suc, suc-add, add-zero, zero-add, eq-or-lt_of_le}
use native.Mathlib.Omega.{arith}
use lib.IntN.{ℤ}
use lib.ListN.{length, get_or, length-append, get_or-append}
use lib.Seq.{get_or-append_seam}
use Rattle.line.specs.Number.{bit_length, twos, odd_part}
use Rattle.line.specs.declared.Line.{Line}
use Rattle.line.proofs.Number.{odd_part_odd, odd_part_whole}
use Rattle.recipe.specs.Accepted.{Makes}
use Rattle.recipe.specs.Check.{line_at, coefficient_at}
use Rattle.cnf.specs.Words.{From1, names, DistinctBelow}
use Rattle.cnf.proofs.Extend.{Fresh, Names}
use Rattle.product.specs.Bit.{given}
use Rattle.product.specs.Product.{last_or, lines_from, lines_of, product_made, product_of}
use Rattle.product.specs.Write.{y_length}
use Rattle.product.specs.Demand.{LinesRight, lines_product, BitsBelow}
use Rattle.product.proofs.BitLengths.{bit_length_of_y}
use Rattle.product.proofs.Given.{length_given, given_below, given_named}
use Rattle.product.proofs.ProductMeans.{length_y, ProductMultiplies, product_multiplies}

-- ---- the coefficients of the operands 0 to i

coefficients_to : List ℕ → ℕ → List ℕ
coefficients_to recipe zero = 1 ∷ []
coefficients_to recipe (suc i) = coefficients_to recipe i ++ ((line_at recipe i).coefficient ∷ [])

length_coefficients : (recipe : List ℕ) (i : ℕ) → length (coefficients_to recipe i) ≡ i + 1
unfolding coefficients_to
length_coefficients recipe zero = omega arith
length_coefficients recipe (suc i) =
    omega (arith, length_coefficients recipe i, length-append (coefficients_to recipe i) ((line_at recipe i).coefficient ∷ []))

coefficient_of : (recipe : List ℕ) (i j : ℕ) → j ≤ i → get_or (coefficients_to recipe i) j 0 ≡ coefficient_at recipe j
unfolding coefficients_to
coefficient_of recipe zero zero h = refl
coefficient_of recipe zero (suc j) h = absurd (omega arith)
coefficient_of recipe (suc i) j h =
    let k : ℕ = (line_at recipe i).coefficient in
    ⊎_elim
    (λ (e : j ≡ suc i).
    let q : suc i ≡ length (coefficients_to recipe i) = omega (arith, length_coefficients recipe i) in
    ap (λ (n : ℕ). get_or (coefficients_to recipe i ++ (k ∷ [])) n 0) (e ∙ q)
    ∙ (get_or-append_seam (coefficients_to recipe i) k [] 0 ∙ ap (λ (n : ℕ). coefficient_at recipe n) (sym e)))
    (λ (l : j < suc i). get_or-append (coefficients_to recipe i) (k ∷ []) 0 j (omega (arith, length_coefficients recipe i))
    ∙ coefficient_of recipe i j (omega arith))
    (eq-or-lt_of_le {n = j} {m = suc i} h)

last_line : (recipe : List ℕ) (n i : ℕ)
    → last_or (coefficient_at recipe i) (map (λ (l : Line). l.coefficient) (lines_from recipe i n)) ≡ coefficient_at recipe (i + n)
unfolding lines_from
last_line recipe zero i = ap (λ (k : ℕ). coefficient_at recipe k) (sym (add-zero i))
last_line recipe (suc n) i = last_line recipe n (suc i) ∙ ap (λ (k : ℕ). coefficient_at recipe k) (suc-add i n ∙ sym (add-suc i n))

-- ---- an accepted recipe

module _ (d : ℕ) (recipe : List ℕ) (g : Makes d recipe) where
  right_from : (n i : ℕ) → i + n ≤ length recipe / 5 → LinesRight (lines_from recipe i n) (coefficients_to recipe i)
  unfolding lines_from coefficients_to
  right_from zero i h = tt
  right_from (suc n) i h =
      let l = line_at recipe i in
      let k = g.line i (omega arith) in (
        omega (arith, k.left, length_coefficients recipe i),
        omega (arith, k.right, length_coefficients recipe i),
        rw (coefficient_of recipe i l.left k.left, coefficient_of recipe i l.right k.right) k.value,
        right_from n (suc i) (omega arith),
      )

  pub lines_right : LinesRight (lines_of recipe) (1 ∷ [])
  unfolding coefficients_to
  lines_right = right_from (length recipe / 5) 0 (omega arith)

  pub product_is : lines_product (lines_of recipe) ≡ d
  product_is =
      last_line recipe (length recipe / 5) 0 ∙ (ap (λ (k : ℕ). coefficient_at recipe k) (zero-add (length recipe / 5)) ∙ g.product)

module _ (c : ℕ) (x : List ℤ) (first : ℕ) (recipe : List ℕ) (g : Makes (odd_part c) recipe) where
  constant_is : lines_product (lines_of recipe) * 2 ^ twos c ≡ c
  constant_is = ap (λ (d : ℕ). d * 2 ^ twos c) (product_is (odd_part c) recipe g) ∙ odd_part_whole c

  -- the product is c times x, whichever variables may stand in clauses
  pub product_by : (Used : ℕ → Type 0) → Fresh Used first → BitsBelow Used first (given x)
      → ProductMultiplies Used c (given x) first (product_of c x first recipe)
  unfolding product_of
  product_by Used fresh below =
      subst (λ (k : ℕ). ProductMultiplies Used k (given x) first (product_made (twos c) (lines_of recipe) (given x) first)) constant_is
      (product_multiplies Used (twos c) (lines_of recipe) (given x) first fresh below (lines_right (odd_part c) recipe g))

  pub product_of_multiplies : 0 < first → DistinctBelow first x → ProductMultiplies From1 c (given x) first (product_of c x first recipe)
  product_of_multiplies some fit = product_by From1 (λ v h. omega arith) (given_below first x fit)

  -- its clauses name x's variables and new ones
  pub product_of_names : DistinctBelow first x
      → Names (λ u. (names u x ≡ true) ⊎ (first ≤ u)) (product_of c x first recipe).next (product_of c x first recipe).clauses
  product_of_names fit =
      (product_by (λ u. (names u x ≡ true) ⊎ (first ≤ u)) (λ v h. inr h)
      (given_named (λ u. (names u x ≡ true) ⊎ (first ≤ u)) first x fit (λ u e. inl e))).extends.names

  -- y fills its entries
  pub length_of_y : 0 < c → 0 < length x → length (product_of c x first recipe).y ≡ y_length c (length x)
  unfolding product_of
  length_of_y p q =
      let d : ℕ = lines_product (lines_of recipe) in
      let pos_d : 0 < d = omega (arith, product_is (odd_part c) recipe g, odd_part_odd c p) in
      length_y (twos c) (lines_of recipe) (given x) first (omega (arith, length_given x))
      ∙ sym (bit_length_of_y (length (given x)) (twos c) d (omega (arith, length_given x)) pos_d)
      ∙ ap₂ (λ (k v : ℕ). bit_length (k * (2 ^ v - 1))) constant_is (length_given x)

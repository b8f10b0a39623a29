-- A column: the only place that opens a variable or makes a clause (document 01, "From line to clauses").
use Rattle.std.specs.Prelude.{ℕ, zero, suc, Bool, true, false, not, List, [], ◌∷◌, ◌++◌, map, eqb}
use Rattle.std.specs.Bool.{beq}
use Rattle.cnf.specs.Clause.{Literal, Clause, signed, negation, new}
use Rattle.product.specs.Bit.{Bit, fixed, unfixed}

-- ---- the inputs

-- f: the sum of the fixed inputs
abbrev pub fixed_sum : List Bit → ℕ
fixed_sum [] = 0
fixed_sum (fixed true ∷ bs) = suc (fixed_sum bs)
fixed_sum (fixed false ∷ bs) = fixed_sum bs
fixed_sum (unfixed l ∷ bs) = fixed_sum bs

abbrev pub literals : List Bit → List Literal
literals [] = []
literals (fixed b ∷ bs) = literals bs
literals (unfixed l ∷ bs) = l ∷ literals bs

abbrev pub is_odd : ℕ → Bool
is_odd zero = false
is_odd (suc n) = not (is_odd n)

abbrev pub at_least_two : ℕ → Bool
at_least_two zero = false
at_least_two (suc zero) = false
at_least_two (suc (suc n)) = true

-- ---- pairs: two unfixed inputs of one variable (document 02, request b)

-- the first pair: equal, with its literal, or opposite; and the input that remains
pub data Pair : Type 0 where
  none : Pair
  equal : Bit → Bit → Pair
  opposite : Bit → Pair

-- whether the two are of one variable, and whether they are equal
abbrev pub pair_by : Bool → Bool → Bit → Bit → Pair → Pair
pair_by true true a r later = equal a r
pair_by true false a r later = opposite r
pair_by false same a r later = later

-- a and b with r remaining, if they are a pair; else what comes later
abbrev pub pair_or : Bit → Bit → Bit → Pair → Pair
pair_or (fixed a) b r later = later
pair_or (unfixed p) (fixed b) r later = later
pair_or (unfixed p) (unfixed q) r later = pair_by (eqb p.variable q.variable) (beq p.negated q.negated) (unfixed p) r later

-- first and second input, first and third, second and third
abbrev pub first_pair : Bit → Bit → Bit → Pair
first_pair left right over = pair_or left right over (pair_or left over right (pair_or right over left none))

-- ---- what is made

-- a bit, the clauses that tie it to the inputs, and the next free variable
pub record Made : Type 0 where
  pub bit : Bit
  pub clauses : List Clause
  pub next : ℕ

-- a bit that needs no variable, and one that is the variable n
abbrev pub plain : Bit → ℕ → Made
plain b n = record { bit = b; clauses = []; next = n }

abbrev pub opened : ℕ → List Clause → Made
opened n cs = record { bit = unfixed (new n); clauses = cs; next = suc n }

-- ---- the sum

-- z equals the parity of the inputs and o: over all input values counted up from zero, first input most significant, each input's
-- literal, negated where its value is 1, then z or its negation as the parity demands
unfoldable pub parity : List Literal → Bool → ℕ → List Clause
parity [] o z = (signed (not o) (new z) ∷ []) ∷ []
parity (p ∷ ps) o z = map (λ (c : Clause). p ∷ c) (parity ps o z) ++ map (λ (c : Clause). negation p ∷ c) (parity ps (not o) z)

unfoldable pub sum_made : ℕ → List Literal → ℕ → Made
sum_made f [] n = plain (fixed (is_odd f)) n
sum_made f (p ∷ []) n = plain (unfixed (signed (is_odd f) p)) n
sum_made f (p ∷ q ∷ ps) n = opened n (parity (p ∷ q ∷ ps) (is_odd f) n)

-- ---- the carry

unfoldable pub both : Literal → Literal → Literal → List Clause
both p q t = (p ∷ negation t ∷ []) ∷ (q ∷ negation t ∷ []) ∷ (negation p ∷ negation q ∷ t ∷ []) ∷ []

unfoldable pub either : Literal → Literal → Literal → List Clause
either p q t = (negation p ∷ t ∷ []) ∷ (negation q ∷ t ∷ []) ∷ (p ∷ q ∷ negation t ∷ []) ∷ []

unfoldable pub most : Literal → Literal → Literal → Literal → List Clause
most p q r t =
    (p ∷ q ∷ negation t ∷ [])
    ∷ (p ∷ r ∷ negation t ∷ [])
    ∷ (q ∷ r ∷ negation t ∷ [])
    ∷ (negation p ∷ negation q ∷ t ∷ [])
    ∷ (negation p ∷ negation r ∷ t ∷ [])
    ∷ (negation q ∷ negation r ∷ t ∷ [])
    ∷ []

unfoldable pub carry_made : ℕ → List Literal → ℕ → Made
carry_made f [] n = plain (fixed (at_least_two f)) n
carry_made zero (p ∷ []) n = plain (fixed false) n
carry_made (suc zero) (p ∷ []) n = plain (unfixed p) n
carry_made (suc (suc f)) (p ∷ []) n = plain (fixed true) n
carry_made zero (p ∷ q ∷ []) n = opened n (both p q (new n))
carry_made (suc f) (p ∷ q ∷ []) n = opened n (either p q (new n))
carry_made f (p ∷ q ∷ r ∷ ps) n = opened n (most p q r (new n))

-- ---- the sum and the carry of inputs with their first pair

-- both of a pair leave the sum; opposite ones flip its parity; its cases apply to what remains
unfoldable pub sum_of : Pair → List Bit → ℕ → Made
sum_of none inputs n = sum_made (fixed_sum inputs) (literals inputs) n
sum_of (equal p r) inputs n = sum_made (fixed_sum (r ∷ [])) (literals (r ∷ [])) n
sum_of (opposite r) inputs n = sum_made (suc (fixed_sum (r ∷ []))) (literals (r ∷ [])) n

-- equal ones carry their literal, opposite ones the remaining input
unfoldable pub carry_of : Pair → List Bit → ℕ → Made
carry_of none inputs n = carry_made (fixed_sum inputs) (literals inputs) n
carry_of (equal p r) inputs n = plain p n
carry_of (opposite r) inputs n = plain r n

-- the last column has no carry
unfoldable pub carry_unless : Bool → Pair → List Bit → ℕ → Made
carry_unless true pair inputs n = plain (fixed false) n
carry_unless false pair inputs n = carry_of pair inputs n

-- ---- the column: sum before carry

pub record Column : Type 0 where
  pub sum_bit : Bit
  pub carry_bit : Bit
  pub clauses : List Clause
  pub next : ℕ

-- the column of inputs with that pair
abbrev pub column_of : Pair → List Bit → Bool → ℕ → Column
column_of pair inputs last n =
    let s : Made = sum_of pair inputs n in
    let t : Made = carry_unless last pair inputs s.next in
    record { sum_bit = s.bit; carry_bit = t.bit; clauses = s.clauses ++ t.clauses; next = t.next }

-- the inputs in the order left term, right term, carry; whether the column is the last; the next free variable
unfoldable pub column : Bit → Bit → Bit → Bool → ℕ → Column
column left right over last n = column_of (first_pair left right over) (left ∷ right ∷ over ∷ []) last n

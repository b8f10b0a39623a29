-- The non-adjacent signed form of a number: digits -1, 0, 1, no two neighbouring digits nonzero. Lowest digit first.
use Rattle.std.specs.Prelude.{ℕ, zero, suc, ◌+◌, ◌*◌, ◌/◌, ◌%◌, ◌≡◌, true, false, List, [], ◌∷◌, eqb}

pub data Digit : Type 0 where
  minus nought plus : Digit

unfoldable pub weight : Digit → ℕ
weight minus = 1
weight nought = 0
weight plus = 1

unfoldable pub nonzero : List Digit → ℕ
nonzero [] = 0
nonzero (d ∷ ds) = weight d + nonzero ds

-- ---- what makes digits the form of n

unfoldable pub worth : Digit → Digit → ℕ
worth plus plus = 1
worth plus nought = 0
worth plus minus = 0
worth nought plus = 0
worth nought nought = 0
worth nought minus = 0
worth minus plus = 0
worth minus nought = 0
worth minus minus = 1

-- the digits equal to d, each at its power of two
unfoldable pub sum_of : Digit → List Digit → ℕ
sum_of d [] = 0
sum_of d (e ∷ ds) = worth d e + 2 * sum_of d ds

-- the lowest digit is 0
unfoldable pub Rests : List Digit → Type 0
Rests [] = Unit {0}
Rests (d ∷ ds) = weight d ≡ 0

unfoldable pub Apart : List Digit → Type 0
Apart [] = Unit {0}
Apart (nought ∷ ds) = Apart ds
Apart (plus ∷ ds) = Rests ds × Apart ds
Apart (minus ∷ ds) = Rests ds × Apart ds

-- the highest digit is not 0
unfoldable pub Topped : List Digit → Type 0
Topped [] = Unit {0}
Topped (d ∷ []) = weight d ≡ 1
Topped (d ∷ e ∷ ds) = Topped (e ∷ ds)

pub record SignedForm (n : ℕ) (ds : List Digit) : Type 0 where
  pub apart : Apart ds
  pub value : sum_of plus ds ≡ n + sum_of minus ds
  pub topped : Topped ds

-- ---- the form

unfoldable pub form_by : ℕ → ℕ → List Digit
form_by zero n = []
form_by (suc f) n =
    elim (eqb n 0) [
      | true ↦ []
      | false ↦ elim (eqb (n % 2) 0) [
        | true ↦ nought ∷ form_by f (n / 2)
        | false ↦ elim (eqb (n % 4) 1) [ true ↦ plus ∷ form_by f (n / 2) | false ↦ minus ∷ form_by f (n / 2 + 1) ]
      ]
    ]

unfoldable pub signed_form : ℕ → List Digit
signed_form n = form_by (suc n) n

-- Numbers in decimal, as bytes; 48 is the digit 0.
use Rattle.std.specs.Prelude.{ℕ, zero, suc, ◌+◌, ◌-◌, ◌*◌, ◌/◌, ◌%◌, List, [], ◌∷◌, ◌++◌, cond, eqb, ℤ, pos, negsuc, neg_ℤ, get_or, drop}

-- the digits of n, none for 0, if it has at most f
unfoldable pub digits_by : ℕ → ℕ → List ℕ
digits_by zero n = []
digits_by (suc f) zero = []
digits_by (suc f) (suc n) = digits_by f (suc n / 10) ++ ((48 + suc n % 10) ∷ [])

-- n without leading zeros; it has no more than n digits
unfoldable pub decimal : ℕ → List ℕ
decimal zero = 48 ∷ []
decimal (suc n) = digits_by (suc n) (suc n)

-- with a minus sign where it is below 0
unfoldable pub signed_decimal : ℤ → List ℕ
signed_decimal (pos n) = decimal n
signed_decimal (negsuc n) = 45 ∷ decimal (suc n)

-- what digits say behind a number v
unfoldable pub value_from : ℕ → List ℕ → ℕ
value_from v [] = v
value_from v (b ∷ bs) = value_from (v * 10 + (b - 48)) bs

abbrev pub value_of : List ℕ → ℕ
value_of s = value_from 0 s

-- what a number with its sign says
unfoldable pub signed_value : List ℕ → ℤ
signed_value s = cond (eqb (get_or s 0 0) 45) (neg_ℤ (pos (value_of (drop 1 s)))) (pos (value_of s))

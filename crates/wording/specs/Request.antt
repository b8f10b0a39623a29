-- What the program reads: one to five digits, a space, one or two digits, a newline, nothing else.
use Rattle.std.specs.Prelude.{ℕ, suc, ◌+◌, ◌≤◌, ◌≡◌, cond, List, [], ◌∷◌, ◌++◌, ltb, eqb, length, get_or, take, drop, Option, Some, None}
use Rattle.wording.specs.Decimal.{value_of}

-- how many digits (48 to 57) stand in front
unfoldable pub front : List ℕ → ℕ
front [] = 0
front (b ∷ bs) = cond (ltb b 48) 0 (cond (ltb 57 b) 0 (suc (front bs)))

-- what is asked: the constant and the width, where the input is a request
abbrev pub Request : Type 0
Request = Option (ℕ × ℕ)

-- one or two digits and a newline (10), behind a constant c
unfoldable pub width_asked : ℕ → List ℕ → Request
width_asked c s =
    cond (eqb (front s) 0) None
    (cond (ltb 2 (front s)) None
    (cond (eqb (length s) (front s + 1))
    (cond (eqb (get_or s (front s) 0) 10) (Some (c, value_of (take (front s) s))) None)
    None))

-- one to five digits, a space (32), and what follows it
unfoldable pub asked : List ℕ → Request
asked s =
    cond (eqb (front s) 0) None
    (cond (ltb 5 (front s)) None
    (cond (eqb (front s) (length s)) None
    (cond (eqb (get_or s (front s) 0) 32) (width_asked (value_of (take (front s) s)) (drop (front s + 1) s)) None)))

-- ---- the same said of the text, not of how it is read

abbrev pub Digits : List ℕ → Type 0
Digits [] = Unit {0}
Digits (b ∷ bs) = (48 ≤ b) × (b ≤ 57) × Digits bs

-- s is one to five digits that say c, a space, one or two digits that say w, and a newline
pub record Says (s : List ℕ) (c w : ℕ) : Type 0 where
  pub constant_digits : List ℕ
  pub width_digits : List ℕ
  pub text : s ≡ constant_digits ++ (32 ∷ (width_digits ++ (10 ∷ [])))
  pub digits : Digits constant_digits × Digits width_digits
  pub some : (1 ≤ length constant_digits) × (1 ≤ length width_digits)
  pub few : (length constant_digits ≤ 5) × (length width_digits ≤ 2)
  pub constant : c ≡ value_of constant_digits
  pub width : w ≡ value_of width_digits

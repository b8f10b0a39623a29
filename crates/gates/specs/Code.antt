-- A bit as a number, its code: 0 and 1 are the fixed bits, 2 * v is variable v, and 2 * v + 1 its negation, v at least 1.
use Rattle.std.specs.Prelude.{ℕ, suc, ◌+◌, ◌-◌, ◌*◌, ◌/◌, ◌%◌, Bool, true, false, cond, List, map, eqb, ltb, ℤ, pos, negsuc}
use Rattle.cnf.specs.Clause.{Literal}
use Rattle.cnf.specs.Words.{word}
use Rattle.product.specs.Bit.{Bit, fixed, unfixed}

-- ---- the bit behind a code

-- whether a code is that of a negation, or of the fixed 1
abbrev pub code_sign : ℕ → Bool
code_sign b = cond (eqb (b % 2) 0) false true

unfoldable pub literal_of : ℕ → Literal
literal_of b = record { variable = b / 2; negated = code_sign b }

unfoldable pub bit_of : ℕ → Bit
bit_of b = cond (ltb b 2) (fixed (code_sign b)) (unfixed (literal_of b))

abbrev pub bits_of : List ℕ → List Bit
bits_of bs = map bit_of bs

-- ---- the code behind a negation

unfoldable pub negated_code : ℕ → ℕ
negated_code b = cond (eqb (b % 2) 0) (b + 1) (b - 1)

-- negated if f is odd
unfoldable pub flipped_code : ℕ → ℕ → ℕ
flipped_code b f = cond (eqb (f % 2) 0) b (negated_code b)

-- ---- the words behind codes

-- the code 0 has the word that closes a clause
abbrev pub code_words : List ℕ → List ℤ
code_words codes = map (λ (b : ℕ). word (literal_of b)) codes

-- ---- the code of a literal that is given as a word

abbrev pub code_of_word : ℤ → ℕ
code_of_word (pos v) = 2 * v
code_of_word (negsuc v) = 2 * suc v + 1

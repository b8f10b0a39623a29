-- A recipe line (document 01, "A recipe line").
use Rattle.std.specs.Prelude.{ℕ, ◌+◌, ◌*◌, ◌/◌, ◌%◌, ◌^◌, cond, List, [], ◌∷◌, eqb, ℤ, pos, ◌-ℤ◌, get_or}
use Rattle.line.specs.declared.Line.{Line}

-- ---- the three kinds

pub data Kind : Type 0 where
  splus sminus minuss : Kind

-- the kind of a code number from 1 to 3
unfoldable pub kind_of : ℕ → Kind
kind_of code = cond (eqb code 1) splus (cond (eqb code 2) sminus minuss)

-- the coefficient that a kind gives to a line whose operands have the coefficients l and r; it may be negative
unfoldable pub gives : Kind → ℕ → ℕ → ℕ → ℤ
gives splus l s r = pos (l * 2 ^ s + r)
gives sminus l s r = pos (l * 2 ^ s) -ℤ pos r
gives minuss l s r = pos l -ℤ pos (r * 2 ^ s)

-- the coefficient that a line's kind gives
abbrev pub kind_gives : Line → ℕ → ℕ → ℤ
kind_gives line l r = gives (kind_of line.kind) l line.shift r

-- the same of any line and any coefficients: of a field and of a coefficient only the bits that the form below has for it
abbrev pub gives_within : Line → ℕ → ℕ → ℤ
gives_within line l r = gives (kind_of (line.kind % 2 ^ 2)) (l % 2 ^ 20) (line.shift % 2 ^ 5) (r % 2 ^ 20)

-- ---- forty bits, most significant first: top bit, kind (2 bits), left operand (6), s (5), right operand (6), claimed coefficient (20)

-- the number that a line's five bytes are
abbrev pub number : List ℕ → ℕ
number b = (((get_or b 0 0 * 256 + get_or b 1 0) * 256 + get_or b 2 0) * 256 + get_or b 3 0) * 256 + get_or b 4 0

-- the line that forty bits are
abbrev pub line_of : ℕ → Line
line_of v =
    record {
      top = v / 2 ^ 39;
      kind = v / 2 ^ 37 % 2 ^ 2;
      left = v / 2 ^ 31 % 2 ^ 6;
      shift = v / 2 ^ 26 % 2 ^ 5;
      right = v / 2 ^ 20 % 2 ^ 6;
      coefficient = v % 2 ^ 20;
    }

-- the forty bits of a line
abbrev pub forty_bits : Line → ℕ
forty_bits l =
    ((((l.top % 2 * 2 ^ 2 + l.kind % 2 ^ 2) * 2 ^ 6 + l.left % 2 ^ 6) * 2 ^ 5 + l.shift % 2 ^ 5) * 2 ^ 6 + l.right % 2 ^ 6) * 2 ^ 20
    + l.coefficient % 2 ^ 20

-- the five bytes of forty bits
abbrev pub bytes_of : ℕ → List ℕ
bytes_of v = v / 2 ^ 32 % 2 ^ 8 ∷ v / 2 ^ 24 % 2 ^ 8 ∷ v / 2 ^ 16 % 2 ^ 8 ∷ v / 2 ^ 8 % 2 ^ 8 ∷ v % 2 ^ 8 ∷ []

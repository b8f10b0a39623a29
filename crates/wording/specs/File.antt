-- The file's text, byte by byte.
use Rattle.std.specs.Prelude.{ℕ, zero, suc, List, [], ◌∷◌, ◌++◌, ℤ, pos, negsuc}
use Rattle.wording.specs.Decimal.{decimal, signed_decimal}

abbrev pub space : List ℕ
space = 32 ∷ []

abbrev pub newline : List ℕ
newline = 10 ∷ []

-- a name, a number and the byte behind it
abbrev pub number_text : List ℕ → ℕ → ℕ → List ℕ
number_text name n last = name ++ (decimal n ++ (last ∷ []))

-- a name and two numbers, with a space (32) between them and a newline (10) behind
abbrev pub two_numbers : List ℕ → ℕ → ℕ → List ℕ
two_numbers name m n = number_text name m 32 ++ number_text [] n 10

-- ---- line 1: `c mul `, c and w

abbrev pub c_mul : List ℕ
c_mul = 99 ∷ 32 ∷ 109 ∷ 117 ∷ 108 ∷ 32 ∷ []

unfoldable pub line_1 : ℕ → ℕ → List ℕ
line_1 c w = two_numbers c_mul c w

-- ---- line 2: `c y`, then y, lowest bit first, 0 for a fixed zero

abbrev pub c_y : List ℕ
c_y = 99 ∷ 32 ∷ 121 ∷ []

-- the entries, a space before each
unfoldable pub entries : List ℤ → List ℕ
entries [] = []
entries (y ∷ ys) = (32 ∷ signed_decimal y) ++ entries ys

unfoldable pub line_2 : List ℤ → List ℕ
line_2 ys = c_y ++ (entries ys ++ newline)

-- ---- line 3: `p cnf `, the highest variable and the clauses

abbrev pub p_cnf : List ℕ
p_cnf = 112 ∷ 32 ∷ 99 ∷ 110 ∷ 102 ∷ 32 ∷ []

unfoldable pub line_3 : ℕ → ℕ → List ℕ
line_3 highest clauses = two_numbers p_cnf highest clauses

-- ---- then the clauses in order: a word and a space, a 0 word and a newline

unfoldable pub word_text : ℤ → List ℕ
word_text (pos zero) = 48 ∷ newline
word_text (pos (suc n)) = signed_decimal (pos (suc n)) ++ space
word_text (negsuc n) = signed_decimal (negsuc n) ++ space

unfoldable pub words_text : List ℤ → List ℕ
words_text [] = []
words_text (z ∷ zs) = word_text z ++ words_text zs

unfoldable pub file_text : ℕ → ℕ → List ℤ → ℕ → ℕ → List ℤ → List ℕ
file_text c w ys highest clauses words = line_1 c w ++ (line_2 ys ++ (line_3 highest clauses ++ words_text words))

-- ---- `refused `, the number and a newline

abbrev pub refused : List ℕ
refused = 114 ∷ 101 ∷ 102 ∷ 117 ∷ 115 ∷ 101 ∷ 100 ∷ 32 ∷ []

unfoldable pub refused_text : ℕ → List ℕ
refused_text number = number_text refused number 10

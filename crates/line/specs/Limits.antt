-- The documents' limits, each with its name; the code has them as constants of `Line`.
use Rattle.std.specs.Prelude.{ℕ, ◌*◌, Bool, ◌||◌, eqb, ltb}

abbrev pub most_constant : ℕ
most_constant = 65535

abbrev pub most_width : ℕ
most_width = 16

abbrev pub line_bytes : ℕ
line_bytes = 5

abbrev pub most_lines : ℕ
most_lines = 32

abbrev pub recipe_bytes : ℕ
recipe_bytes = line_bytes * most_lines

abbrev pub most_coefficient : ℕ
most_coefficient = 1048575

-- the next free number of a call is at most this: the largest variable is one below it
abbrev pub most_next : ℕ
most_next = 2147483648

-- the bits of a constant, and of its odd part
abbrev pub most_bits : ℕ
most_bits = 16

-- whether rule 1 refuses c
abbrev pub out_of_range : ℕ → Bool
out_of_range c = eqb c 0 || ltb most_constant c

-- whether rule 2 refuses w
abbrev pub not_a_width : ℕ → Bool
not_a_width w = eqb w 0 || ltb most_width w

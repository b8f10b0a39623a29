-- The program's own rooms, each long enough for every constant and width; by document 01's limits.
use Rattle.std.specs.Prelude.{ℕ, ◌+◌, ◌-◌, ◌*◌, ◌/◌, ◌^◌}
use Rattle.line.specs.Limits.{most_bits, most_width, line_bytes}

-- the splits of the odd numbers of a constant's bits
abbrev pub program_work : ℕ
program_work = 2 ^ (most_bits - 1)

-- L div 2 lines
abbrev pub program_recipe : ℕ
program_recipe = line_bytes * (most_bits / 2)

-- c * (2^w - 1) has at most L + w bits
abbrev pub program_bits : ℕ
program_bits = most_bits + most_width

-- that many columns in each of these lines, and 64 words in a column
abbrev pub program_words : ℕ
program_words = most_bits / 2 * program_bits * 64

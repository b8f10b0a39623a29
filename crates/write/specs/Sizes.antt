-- How much writing needs at most, each number once; the code has those of its rooms as constants.
use Rattle.std.specs.Prelude.{ℕ, ◌+◌, ◌*◌}
use Rattle.line.specs.Limits.{most_lines}

-- a line's columns: 20 bits of its coefficient and 16 of x
abbrev pub most_columns : ℕ
most_columns = 36

-- the scratch room: x and each line
abbrev pub scratch_size : ℕ
scratch_size = most_columns * (most_lines + 1)

-- the words and clauses of a column are no more than these, and so those of a line
abbrev pub most_column_words : ℕ
most_column_words = 80

abbrev pub most_column_clauses : ℕ
most_column_clauses = 16

abbrev pub most_line_words : ℕ
most_line_words = most_column_words * most_columns

abbrev pub most_line_clauses : ℕ
most_line_clauses = most_column_clauses * most_columns

-- words and clauses never come near what their counts hold
abbrev pub most_counted : ℕ
most_counted = 500000

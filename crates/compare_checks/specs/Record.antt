-- A record of the program's input: a constant of four bytes, most significant first, a length of one byte, and that many bytes of a recipe.
use Rattle.line.specs.Refusal.{told_of as answer_told}
use Rattle.std.specs.Prelude.{ℕ, ◌+◌, ◌*◌, List, get_or, drop}
use Rattle.line.specs.declared.Told.{Told}
use Rattle.recipe.specs.Check.{checked}

abbrev pub constant_of : List ℕ → ℕ
constant_of bytes = ((get_or bytes 0 0 * 256 + get_or bytes 1 0) * 256 + get_or bytes 2 0) * 256 + get_or bytes 3 0

-- what checking tells of it
abbrev pub told_of : List ℕ → Told
told_of bytes = answer_told (checked (constant_of bytes) (drop 5 bytes))

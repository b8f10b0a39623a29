-- A checksum of rooms, to compare what two engines left in them.
use Rattle.std.specs.Prelude.{ℕ, ◌+◌, ◌*◌, ◌%◌, ◌^◌, List}
use Rattle.std.specs.List.{fold}

-- the sum h, with the numbers of a room behind it
abbrev pub checksum_of : ℕ → List ℕ → ℕ
checksum_of h room = fold (λ sum n. (sum * 31 + n) % 2 ^ 32) h room

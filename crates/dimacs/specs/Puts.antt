-- What a call puts into a lent room.
use Rattle.std.specs.Prelude.{ℕ, ◌+◌, ◌≤◌, ◌≡◌, List, length}
use Rattle.dimacs.specs.Put.{Put}
use Rattle.dimacs.specs.declared.put.Out.{Out}

-- there is room for n bytes more
abbrev pub Has : Out → ℕ → Type 0
Has s n = s.at + n ≤ length s.room.now

-- the same room stays lent, and b is put at its place
pub record Puts (s t : Out) (b : List ℕ) : Type 0 where
  pub same_room : t.room.ghost_name ≡ s.room.ghost_name
  pub same_length : length t.room.now ≡ length s.room.now
  pub put : Put s.room.now t.room.now s.at t.at b

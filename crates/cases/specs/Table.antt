-- A table of worked cases: what goes into each call, and what comes out of it. Rooms are given by their lengths; every entry
-- of a room is 7 before the call. Only a pass is given its value room as it is.
use Rattle.std.specs.Prelude.{ℕ, List, ℤ}

-- the chosen split of an odd n
pub record Chosen : Type 0 where
  pub n : ℕ
  pub split : ℕ

-- planning: the refusal's number, or 0, and the bytes of the lines
pub record Planned : Type 0 where
  pub c : ℕ
  pub work : ℕ
  pub recipe : ℕ
  pub number : ℕ
  pub lines : List ℕ

-- both rooms of a planning at exit
pub record PlanRooms : Type 0 where
  pub c : ℕ
  pub work : ℕ
  pub recipe : ℕ
  pub work_room : List ℕ
  pub recipe_room : List ℕ

-- checking: the refusal's number, or 0, the bad line and the value that it gives
pub record Checked : Type 0 where
  pub c : ℕ
  pub recipe : List ℕ
  pub number : ℕ
  pub line : ℕ
  pub value : ℤ

-- writing, x the variables 1 to w: the refusal's number, or 0, the bad line and the value that it gives, the counts, and y
pub record Written : Type 0 where
  pub c : ℕ
  pub w : ℕ
  pub recipe : List ℕ
  pub bits : ℕ
  pub clauses : ℕ
  pub number : ℕ
  pub line : ℕ
  pub value : ℤ
  pub words_used : ℕ
  pub clauses_written : ℕ
  pub next : ℕ
  pub y : List ℤ

-- both rooms of a writing at exit
pub record WriteRooms : Type 0 where
  pub c : ℕ
  pub w : ℕ
  pub recipe : List ℕ
  pub bits : ℕ
  pub clauses : ℕ
  pub bit_room : List ℤ
  pub clause_room : List ℤ

-- the same over given literals, from a first free number on
pub record Given : Type 0 where
  pub x : List ℤ
  pub first : ℕ
  pub call : Written

pub record GivenRooms : Type 0 where
  pub x : List ℤ
  pub first : ℕ
  pub call : WriteRooms

-- one pass over words: the literals that hold, the allowance and the value room as it comes; the refusal's number, or 0, the clauses read, and the room
-- at exit
pub record Pass : Type 0 where
  pub words : List ℤ
  pub given : List ℤ
  pub allowance : ℕ
  pub room : List ℕ
  pub number : ℕ
  pub clauses : ℕ
  pub left : List ℕ

-- what the program prints for an input
pub record Printed : Type 0 where
  pub input : List ℕ
  pub output : List ℕ

pub record Table : Type 0 where
  pub chosen : List Chosen
  pub planned : List Planned
  pub plan_rooms : List PlanRooms
  pub checked : List Checked
  pub written : List Written
  pub write_rooms : List WriteRooms
  pub given : List Given
  pub given_rooms : List GivenRooms
  pub propagated : List Pass
  pub printed : List Printed

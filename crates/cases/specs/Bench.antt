-- Document 01's "Sums done on the bench": those marked P, row by row; the last of writing as request b has it, lines and values as
-- request c has them. Where it tells the highest variable, the next free number is one more.
use Rattle.std.specs.Prelude.{[], ◌∷◌, pos}
use Rattle.cases.specs.Table.{Table}

unfoldable pub bench : Table
bench =
    record {
      chosen =
          record { n = 1; split = 0 }
          ∷ record { n = 3; split = 33 }
          ∷ record { n = 5; split = 34 }
          ∷ record { n = 7; split = 67 }
          ∷ [];
      planned =
          record { c = 53; work = 32; recipe = 15; number = 0; lines = 0x20 ∷ 0x04 ∷ 0x00 ∷ 0x00 ∷ 0x03 ∷ 0x20 ∷ 0x88 ∷ 0x00 ∷ 0x00 ∷ 0x0D ∷ 0x21 ∷ 0x08 ∷ 0x00 ∷ 0x00 ∷ 0x35 ∷ [] }
          ∷ record { c = 53; work = 32; recipe = 14; number = 12; lines = [] }
          ∷ record { c = 53; work = 31; recipe = 15; number = 11; lines = [] }
          ∷ record { c = 7; work = 4; recipe = 5; number = 0; lines = 0x40 ∷ 0x0C ∷ 0x00 ∷ 0x00 ∷ 0x07 ∷ [] }
          ∷ record { c = 1; work = 1; recipe = 0; number = 0; lines = [] }
          ∷ [];
      plan_rooms = [];
      checked =
          record { c = 59; recipe = 0x40 ∷ 0x18 ∷ 0x00 ∷ 0x00 ∷ 0x3F ∷ 0x60 ∷ 0x88 ∷ 0x00 ∷ 0x00 ∷ 0x3B ∷ []; number = 0; line = 0; value = pos 0 }
          ∷ record { c = 1965; recipe = 0x20 ∷ 0x04 ∷ 0x00 ∷ 0x00 ∷ 0x03 ∷ 0x20 ∷ 0x1C ∷ 0x10 ∷ 0x00 ∷ 0x83 ∷ 0x41 ∷ 0x10 ∷ 0x20 ∷ 0x07 ∷ 0xAD ∷ []; number = 0; line = 0; value = pos 0 }
          ∷ record { c = 2047; recipe = 0x20 ∷ 0x2C ∷ 0x00 ∷ 0x07 ∷ 0xFF ∷ []; number = 7; line = 1; value = pos 2049 }
          ∷ record { c = 49; recipe = 0x40 ∷ 0x10 ∷ 0x00 ∷ 0x00 ∷ 0x0F ∷ 0x20 ∷ 0x18 ∷ 0x10 ∷ 0x00 ∷ 0x31 ∷ []; number = 7; line = 2; value = pos 79 }
          ∷ [];
      written =
          record { c = 5; w = 2; recipe = 0x20 ∷ 0x08 ∷ 0x00 ∷ 0x00 ∷ 0x05 ∷ []; bits = 4; clauses = 0; number = 0; line = 0; value = pos 0; words_used = 0; clauses_written = 0; next = 3; y = pos 1 ∷ pos 2 ∷ pos 1 ∷ pos 2 ∷ [] }
          ∷ record { c = 7; w = 1; recipe = 0x40 ∷ 0x0C ∷ 0x00 ∷ 0x00 ∷ 0x07 ∷ []; bits = 3; clauses = 0; number = 0; line = 0; value = pos 0; words_used = 0; clauses_written = 0; next = 2; y = pos 1 ∷ pos 1 ∷ pos 1 ∷ [] }
          ∷ record { c = 6; w = 2; recipe = 0x20 ∷ 0x04 ∷ 0x00 ∷ 0x00 ∷ 0x03 ∷ []; bits = 5; clauses = 52; number = 0; line = 0; value = pos 0; words_used = 52; clauses_written = 14; next = 7; y = pos 0 ∷ pos 1 ∷ pos 3 ∷ pos 5 ∷ pos 6 ∷ [] }
          ∷ record { c = 5; w = 1; recipe = 0x20 ∷ 0x04 ∷ 0x00 ∷ 0x00 ∷ 0x03 ∷ 0x40 ∷ 0x84 ∷ 0x00 ∷ 0x00 ∷ 0x05 ∷ []; bits = 3; clauses = 0; number = 0; line = 0; value = pos 0; words_used = 0; clauses_written = 0; next = 2; y = pos 1 ∷ pos 0 ∷ pos 1 ∷ [] }
          ∷ [];
      write_rooms = [];
      given = [];
      given_rooms = [];
      propagated = [];
      printed = [];
    }

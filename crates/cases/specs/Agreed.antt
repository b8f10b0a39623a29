-- The second engine's answers. Printed by `second cases`; do not edit.
use Rattle.std.specs.Prelude.{ℕ, List, [], ◌∷◌, pos, negsuc}
use Rattle.cases.specs.Table.{Table}

-- the chosen splits of the odd numbers of at most 9 bits
unfoldable pub agreed_splits : List ℕ
agreed_splits = 0 ∷ 33 ∷ 34 ∷ 67 ∷ 35 ∷ 33 ∷ 34 ∷ 68 ∷ 36 ∷ 33 ∷ 34 ∷ 36 ∷ 35 ∷ 35 ∷ 34 ∷ 69 ∷ 37 ∷ 33 ∷ 34 ∷ 37 ∷ 35 ∷ 33 ∷ 35 ∷ 37 ∷ 36 ∷ 36 ∷ 34 ∷ 67 ∷ 35 ∷ 66 ∷ 34 ∷ 70 ∷ 38 ∷ 33 ∷ 34 ∷ 38 ∷ 35 ∷ 68 ∷ 34 ∷ 38 ∷ 36 ∷ 33 ∷ 36 ∷ 36 ∷ 35 ∷ 33 ∷ 69 ∷ 38 ∷ 37 ∷ 37 ∷ 34 ∷ 33 ∷ 68 ∷ 35 ∷ 34 ∷ 68 ∷ 36 ∷ 33 ∷ 34 ∷ 36 ∷ 35 ∷ 66 ∷ 34 ∷ 71 ∷ 39 ∷ 33 ∷ 34 ∷ 39 ∷ 35 ∷ 33 ∷ 34 ∷ 39 ∷ 36 ∷ 33 ∷ 34 ∷ 33 ∷ 36 ∷ 69 ∷ 34 ∷ 39 ∷ 37 ∷ 33 ∷ 37 ∷ 37 ∷ 35 ∷ 33 ∷ 35 ∷ 37 ∷ 36 ∷ 39 ∷ 34 ∷ 39 ∷ 35 ∷ 33 ∷ 70 ∷ 39 ∷ 38 ∷ 38 ∷ 34 ∷ 33 ∷ 35 ∷ 35 ∷ 34 ∷ 34 ∷ 36 ∷ 33 ∷ 39 ∷ 67 ∷ 69 ∷ 35 ∷ 34 ∷ 69 ∷ 37 ∷ 33 ∷ 34 ∷ 37 ∷ 35 ∷ 66 ∷ 34 ∷ 68 ∷ 36 ∷ 33 ∷ 34 ∷ 67 ∷ 35 ∷ 66 ∷ 34 ∷ 72 ∷ 40 ∷ 33 ∷ 34 ∷ 40 ∷ 35 ∷ 33 ∷ 34 ∷ 40 ∷ 36 ∷ 33 ∷ 34 ∷ 69 ∷ 35 ∷ 40 ∷ 34 ∷ 40 ∷ 37 ∷ 33 ∷ 34 ∷ 37 ∷ 37 ∷ 66 ∷ 34 ∷ 37 ∷ 36 ∷ 33 ∷ 65 ∷ 33 ∷ 35 ∷ 70 ∷ 34 ∷ 40 ∷ 38 ∷ 33 ∷ 38 ∷ 38 ∷ 35 ∷ 33 ∷ 35 ∷ 38 ∷ 36 ∷ 66 ∷ 34 ∷ 33 ∷ 35 ∷ 69 ∷ 40 ∷ 38 ∷ 37 ∷ 40 ∷ 37 ∷ 67 ∷ 35 ∷ 37 ∷ 35 ∷ 40 ∷ 36 ∷ 66 ∷ 34 ∷ 34 ∷ 35 ∷ 33 ∷ 71 ∷ 40 ∷ 39 ∷ 39 ∷ 34 ∷ 33 ∷ 35 ∷ 35 ∷ 34 ∷ 34 ∷ 36 ∷ 36 ∷ 67 ∷ 67 ∷ 35 ∷ 35 ∷ 69 ∷ 39 ∷ 37 ∷ 37 ∷ 34 ∷ 33 ∷ 70 ∷ 73 ∷ 37 ∷ 68 ∷ 36 ∷ 33 ∷ 73 ∷ 67 ∷ 70 ∷ 66 ∷ 34 ∷ 70 ∷ 38 ∷ 33 ∷ 34 ∷ 38 ∷ 35 ∷ 33 ∷ 65 ∷ 33 ∷ 69 ∷ 73 ∷ 34 ∷ 36 ∷ 35 ∷ 66 ∷ 34 ∷ 69 ∷ 37 ∷ 33 ∷ 34 ∷ 37 ∷ 35 ∷ 66 ∷ 34 ∷ 37 ∷ 36 ∷ 33 ∷ 34 ∷ 67 ∷ 35 ∷ 66 ∷ 34 ∷ 73 ∷ []

unfoldable pub agreed : Table
agreed =
    record {
      chosen =
          record { n = 1; split = 0 }
          ∷ record { n = 3; split = 33 }
          ∷ record { n = 5; split = 34 }
          ∷ record { n = 7; split = 67 }
          ∷ record { n = 9; split = 35 }
          ∷ record { n = 11; split = 33 }
          ∷ record { n = 13; split = 34 }
          ∷ record { n = 15; split = 68 }
          ∷ record { n = 17; split = 36 }
          ∷ record { n = 19; split = 33 }
          ∷ record { n = 21; split = 34 }
          ∷ record { n = 23; split = 36 }
          ∷ record { n = 25; split = 35 }
          ∷ record { n = 27; split = 35 }
          ∷ record { n = 29; split = 34 }
          ∷ record { n = 31; split = 69 }
          ∷ [];
      planned =
          record { c = 2; work = 1; recipe = 0; number = 0; lines = [] }
          ∷ record { c = 9; work = 8; recipe = 10; number = 0; lines = 32 ∷ 12 ∷ 0 ∷ 0 ∷ 9 ∷ [] }
          ∷ record { c = 23; work = 16; recipe = 10; number = 0; lines = 64 ∷ 12 ∷ 0 ∷ 0 ∷ 7 ∷ 32 ∷ 16 ∷ 16 ∷ 0 ∷ 23 ∷ [] }
          ∷ record { c = 44; work = 8; recipe = 10; number = 0; lines = 32 ∷ 8 ∷ 0 ∷ 0 ∷ 5 ∷ 32 ∷ 132 ∷ 0 ∷ 0 ∷ 11 ∷ [] }
          ∷ record { c = 45; work = 32; recipe = 15; number = 0; lines = 32 ∷ 8 ∷ 0 ∷ 0 ∷ 5 ∷ 32 ∷ 140 ∷ 16 ∷ 0 ∷ 45 ∷ [] }
          ∷ record { c = 89; work = 64; recipe = 15; number = 0; lines = 32 ∷ 8 ∷ 0 ∷ 0 ∷ 5 ∷ 32 ∷ 132 ∷ 0 ∷ 0 ∷ 11 ∷ 33 ∷ 12 ∷ 0 ∷ 0 ∷ 89 ∷ [] }
          ∷ record { c = 105; work = 64; recipe = 15; number = 0; lines = 64 ∷ 12 ∷ 0 ∷ 0 ∷ 7 ∷ 64 ∷ 144 ∷ 16 ∷ 0 ∷ 105 ∷ [] }
          ∷ record { c = 117; work = 64; recipe = 15; number = 0; lines = 64 ∷ 12 ∷ 0 ∷ 0 ∷ 7 ∷ 32 ∷ 136 ∷ 0 ∷ 0 ∷ 29 ∷ 33 ∷ 8 ∷ 0 ∷ 0 ∷ 117 ∷ [] }
          ∷ record { c = 171; work = 128; recipe = 20; number = 0; lines = 32 ∷ 8 ∷ 0 ∷ 0 ∷ 5 ∷ 32 ∷ 144 ∷ 16 ∷ 0 ∷ 85 ∷ 33 ∷ 4 ∷ 0 ∷ 0 ∷ 171 ∷ [] }
          ∷ record { c = 182; work = 64; recipe = 15; number = 0; lines = 32 ∷ 8 ∷ 0 ∷ 0 ∷ 5 ∷ 32 ∷ 140 ∷ 16 ∷ 0 ∷ 45 ∷ 33 ∷ 4 ∷ 0 ∷ 0 ∷ 91 ∷ [] }
          ∷ record { c = 213; work = 128; recipe = 20; number = 0; lines = 32 ∷ 8 ∷ 0 ∷ 0 ∷ 5 ∷ 32 ∷ 144 ∷ 16 ∷ 0 ∷ 85 ∷ 32 ∷ 28 ∷ 32 ∷ 0 ∷ 213 ∷ [] }
          ∷ record { c = 255; work = 128; recipe = 20; number = 0; lines = 64 ∷ 32 ∷ 0 ∷ 0 ∷ 255 ∷ [] }
          ∷ record { c = 341; work = 256; recipe = 20; number = 0; lines = 32 ∷ 8 ∷ 0 ∷ 0 ∷ 5 ∷ 32 ∷ 144 ∷ 16 ∷ 0 ∷ 85 ∷ 33 ∷ 8 ∷ 0 ∷ 1 ∷ 85 ∷ [] }
          ∷ record { c = 367; work = 256; recipe = 20; number = 0; lines = 64 ∷ 12 ∷ 0 ∷ 0 ∷ 7 ∷ 64 ∷ 144 ∷ 0 ∷ 0 ∷ 111 ∷ 32 ∷ 32 ∷ 32 ∷ 1 ∷ 111 ∷ [] }
          ∷ record { c = 427; work = 256; recipe = 20; number = 0; lines = 32 ∷ 8 ∷ 0 ∷ 0 ∷ 5 ∷ 32 ∷ 144 ∷ 16 ∷ 0 ∷ 85 ∷ 64 ∷ 36 ∷ 32 ∷ 1 ∷ 171 ∷ [] }
          ∷ record { c = 437; work = 256; recipe = 20; number = 0; lines = 32 ∷ 8 ∷ 0 ∷ 0 ∷ 5 ∷ 64 ∷ 144 ∷ 16 ∷ 0 ∷ 75 ∷ 64 ∷ 36 ∷ 32 ∷ 1 ∷ 181 ∷ [] }
          ∷ record { c = 459; work = 256; recipe = 20; number = 0; lines = 64 ∷ 12 ∷ 0 ∷ 0 ∷ 7 ∷ 32 ∷ 140 ∷ 0 ∷ 0 ∷ 57 ∷ 33 ∷ 8 ∷ 0 ∷ 0 ∷ 229 ∷ 33 ∷ 132 ∷ 0 ∷ 1 ∷ 203 ∷ [] }
          ∷ record { c = 491; work = 256; recipe = 20; number = 0; lines = 64 ∷ 20 ∷ 0 ∷ 0 ∷ 31 ∷ 64 ∷ 136 ∷ 0 ∷ 0 ∷ 123 ∷ 65 ∷ 8 ∷ 0 ∷ 1 ∷ 235 ∷ [] }
          ∷ record { c = 505; work = 256; recipe = 20; number = 0; lines = 64 ∷ 24 ∷ 0 ∷ 0 ∷ 63 ∷ 32 ∷ 140 ∷ 0 ∷ 1 ∷ 249 ∷ [] }
          ∷ record { c = 511; work = 256; recipe = 20; number = 0; lines = 64 ∷ 36 ∷ 0 ∷ 1 ∷ 255 ∷ [] }
          ∷ record { c = 65280; work = 128; recipe = 20; number = 0; lines = 64 ∷ 32 ∷ 0 ∷ 0 ∷ 255 ∷ [] }
          ∷ record { c = 54272; work = 32; recipe = 15; number = 0; lines = 32 ∷ 4 ∷ 0 ∷ 0 ∷ 3 ∷ 32 ∷ 136 ∷ 0 ∷ 0 ∷ 13 ∷ 33 ∷ 8 ∷ 0 ∷ 0 ∷ 53 ∷ [] }
          ∷ record { c = 173; work = 200; recipe = 33; number = 0; lines = 32 ∷ 8 ∷ 0 ∷ 0 ∷ 5 ∷ 32 ∷ 136 ∷ 0 ∷ 0 ∷ 21 ∷ 33 ∷ 12 ∷ 16 ∷ 0 ∷ 173 ∷ [] }
          ∷ record { c = 493; work = 300; recipe = 160; number = 0; lines = 64 ∷ 20 ∷ 0 ∷ 0 ∷ 31 ∷ 64 ∷ 136 ∷ 0 ∷ 0 ∷ 123 ∷ 33 ∷ 8 ∷ 0 ∷ 1 ∷ 237 ∷ [] }
          ∷ record { c = 0; work = 9; recipe = 9; number = 1; lines = [] }
          ∷ record { c = 65536; work = 9; recipe = 9; number = 1; lines = [] }
          ∷ record { c = 4294967295; work = 0; recipe = 0; number = 1; lines = [] }
          ∷ record { c = 45; work = 31; recipe = 15; number = 11; lines = [] }
          ∷ record { c = 45; work = 32; recipe = 14; number = 12; lines = [] }
          ∷ record { c = 45; work = 31; recipe = 14; number = 11; lines = [] }
          ∷ record { c = 511; work = 255; recipe = 20; number = 11; lines = [] }
          ∷ record { c = 511; work = 256; recipe = 19; number = 12; lines = [] }
          ∷ record { c = 0; work = 0; recipe = 0; number = 1; lines = [] }
          ∷ record { c = 8; work = 0; recipe = 0; number = 11; lines = [] }
          ∷ [];
      plan_rooms =
          record { c = 1; work = 3; recipe = 4; work_room = 0 ∷ 7 ∷ 7 ∷ []; recipe_room = 7 ∷ 7 ∷ 7 ∷ 7 ∷ [] }
          ∷ record { c = 12; work = 4; recipe = 8; work_room = 0 ∷ 33 ∷ 7 ∷ 7 ∷ []; recipe_room = 32 ∷ 4 ∷ 0 ∷ 0 ∷ 3 ∷ 7 ∷ 7 ∷ 7 ∷ [] }
          ∷ record { c = 23; work = 18; recipe = 12; work_room = 0 ∷ 33 ∷ 34 ∷ 67 ∷ 35 ∷ 33 ∷ 34 ∷ 68 ∷ 36 ∷ 33 ∷ 34 ∷ 36 ∷ 35 ∷ 35 ∷ 34 ∷ 69 ∷ 7 ∷ 7 ∷ []; recipe_room = 64 ∷ 12 ∷ 0 ∷ 0 ∷ 7 ∷ 32 ∷ 16 ∷ 16 ∷ 0 ∷ 23 ∷ 7 ∷ 7 ∷ [] }
          ∷ record { c = 45; work = 35; recipe = 15; work_room = 0 ∷ 33 ∷ 34 ∷ 67 ∷ 35 ∷ 33 ∷ 34 ∷ 68 ∷ 36 ∷ 33 ∷ 34 ∷ 36 ∷ 35 ∷ 35 ∷ 34 ∷ 69 ∷ 37 ∷ 33 ∷ 34 ∷ 37 ∷ 35 ∷ 33 ∷ 35 ∷ 37 ∷ 36 ∷ 36 ∷ 34 ∷ 67 ∷ 35 ∷ 66 ∷ 34 ∷ 70 ∷ 7 ∷ 7 ∷ 7 ∷ []; recipe_room = 32 ∷ 8 ∷ 0 ∷ 0 ∷ 5 ∷ 32 ∷ 140 ∷ 16 ∷ 0 ∷ 45 ∷ 7 ∷ 7 ∷ 7 ∷ 7 ∷ 7 ∷ [] }
          ∷ record { c = 45; work = 31; recipe = 20; work_room = 7 ∷ 7 ∷ 7 ∷ 7 ∷ 7 ∷ 7 ∷ 7 ∷ 7 ∷ 7 ∷ 7 ∷ 7 ∷ 7 ∷ 7 ∷ 7 ∷ 7 ∷ 7 ∷ 7 ∷ 7 ∷ 7 ∷ 7 ∷ 7 ∷ 7 ∷ 7 ∷ 7 ∷ 7 ∷ 7 ∷ 7 ∷ 7 ∷ 7 ∷ 7 ∷ 7 ∷ []; recipe_room = 7 ∷ 7 ∷ 7 ∷ 7 ∷ 7 ∷ 7 ∷ 7 ∷ 7 ∷ 7 ∷ 7 ∷ 7 ∷ 7 ∷ 7 ∷ 7 ∷ 7 ∷ 7 ∷ 7 ∷ 7 ∷ 7 ∷ 7 ∷ [] }
          ∷ record { c = 0; work = 2; recipe = 2; work_room = 7 ∷ 7 ∷ []; recipe_room = 7 ∷ 7 ∷ [] }
          ∷ [];
      checked =
          record { c = 1; recipe = []; number = 0; line = 0; value = pos 0 }
          ∷ record { c = 64; recipe = []; number = 0; line = 0; value = pos 0 }
          ∷ record { c = 3; recipe = 32 ∷ 4 ∷ 0 ∷ 0 ∷ 3 ∷ []; number = 0; line = 0; value = pos 0 }
          ∷ record { c = 53; recipe = 32 ∷ 4 ∷ 0 ∷ 0 ∷ 3 ∷ 32 ∷ 136 ∷ 0 ∷ 0 ∷ 13 ∷ 33 ∷ 8 ∷ 0 ∷ 0 ∷ 53 ∷ []; number = 0; line = 0; value = pos 0 }
          ∷ record { c = 255; recipe = 64 ∷ 32 ∷ 0 ∷ 0 ∷ 255 ∷ []; number = 0; line = 0; value = pos 0 }
          ∷ record { c = 1000; recipe = 64 ∷ 20 ∷ 0 ∷ 0 ∷ 31 ∷ 32 ∷ 136 ∷ 0 ∷ 0 ∷ 125 ∷ []; number = 0; line = 0; value = pos 0 }
          ∷ record { c = 21845; recipe = 32 ∷ 8 ∷ 0 ∷ 0 ∷ 5 ∷ 32 ∷ 144 ∷ 16 ∷ 0 ∷ 85 ∷ 33 ∷ 32 ∷ 32 ∷ 85 ∷ 85 ∷ []; number = 0; line = 0; value = pos 0 }
          ∷ record { c = 43691; recipe = 32 ∷ 8 ∷ 0 ∷ 0 ∷ 5 ∷ 32 ∷ 144 ∷ 16 ∷ 0 ∷ 85 ∷ 33 ∷ 32 ∷ 32 ∷ 85 ∷ 85 ∷ 33 ∷ 132 ∷ 0 ∷ 170 ∷ 171 ∷ []; number = 0; line = 0; value = pos 0 }
          ∷ record { c = 47803; recipe = 32 ∷ 4 ∷ 0 ∷ 0 ∷ 3 ∷ 64 ∷ 148 ∷ 16 ∷ 0 ∷ 93 ∷ 33 ∷ 32 ∷ 32 ∷ 93 ∷ 93 ∷ 33 ∷ 132 ∷ 0 ∷ 186 ∷ 187 ∷ []; number = 0; line = 0; value = pos 0 }
          ∷ record { c = 61687; recipe = 64 ∷ 12 ∷ 0 ∷ 0 ∷ 7 ∷ 64 ∷ 16 ∷ 0 ∷ 0 ∷ 15 ∷ 33 ∷ 32 ∷ 32 ∷ 15 ∷ 15 ∷ 33 ∷ 144 ∷ 16 ∷ 240 ∷ 247 ∷ []; number = 0; line = 0; value = pos 0 }
          ∷ record { c = 65535; recipe = 64 ∷ 64 ∷ 0 ∷ 255 ∷ 255 ∷ []; number = 0; line = 0; value = pos 0 }
          ∷ record { c = 47803; recipe = 160 ∷ 4 ∷ 0 ∷ 0 ∷ 3 ∷ 64 ∷ 148 ∷ 16 ∷ 0 ∷ 93 ∷ 33 ∷ 32 ∷ 32 ∷ 93 ∷ 93 ∷ 33 ∷ 132 ∷ 0 ∷ 186 ∷ 187 ∷ []; number = 4; line = 1; value = pos 0 }
          ∷ record { c = 47803; recipe = 96 ∷ 4 ∷ 0 ∷ 0 ∷ 3 ∷ 64 ∷ 148 ∷ 16 ∷ 0 ∷ 93 ∷ 33 ∷ 32 ∷ 32 ∷ 93 ∷ 93 ∷ 33 ∷ 132 ∷ 0 ∷ 186 ∷ 187 ∷ []; number = 7; line = 1; value = negsuc 0 }
          ∷ record { c = 47803; recipe = 0 ∷ 4 ∷ 0 ∷ 0 ∷ 3 ∷ 64 ∷ 148 ∷ 16 ∷ 0 ∷ 93 ∷ 33 ∷ 32 ∷ 32 ∷ 93 ∷ 93 ∷ 33 ∷ 132 ∷ 0 ∷ 186 ∷ 187 ∷ []; number = 4; line = 1; value = pos 0 }
          ∷ record { c = 47803; recipe = 36 ∷ 4 ∷ 0 ∷ 0 ∷ 3 ∷ 64 ∷ 148 ∷ 16 ∷ 0 ∷ 93 ∷ 33 ∷ 32 ∷ 32 ∷ 93 ∷ 93 ∷ 33 ∷ 132 ∷ 0 ∷ 186 ∷ 187 ∷ []; number = 5; line = 1; value = pos 0 }
          ∷ record { c = 47803; recipe = 32 ∷ 132 ∷ 0 ∷ 0 ∷ 3 ∷ 64 ∷ 148 ∷ 16 ∷ 0 ∷ 93 ∷ 33 ∷ 32 ∷ 32 ∷ 93 ∷ 93 ∷ 33 ∷ 132 ∷ 0 ∷ 186 ∷ 187 ∷ []; number = 5; line = 1; value = pos 0 }
          ∷ record { c = 47803; recipe = 32 ∷ 68 ∷ 0 ∷ 0 ∷ 3 ∷ 64 ∷ 148 ∷ 16 ∷ 0 ∷ 93 ∷ 33 ∷ 32 ∷ 32 ∷ 93 ∷ 93 ∷ 33 ∷ 132 ∷ 0 ∷ 186 ∷ 187 ∷ []; number = 7; line = 1; value = pos 131073 }
          ∷ record { c = 47803; recipe = 32 ∷ 0 ∷ 0 ∷ 0 ∷ 3 ∷ 64 ∷ 148 ∷ 16 ∷ 0 ∷ 93 ∷ 33 ∷ 32 ∷ 32 ∷ 93 ∷ 93 ∷ 33 ∷ 132 ∷ 0 ∷ 186 ∷ 187 ∷ []; number = 7; line = 1; value = pos 2 }
          ∷ record { c = 47803; recipe = 32 ∷ 6 ∷ 0 ∷ 0 ∷ 3 ∷ 64 ∷ 148 ∷ 16 ∷ 0 ∷ 93 ∷ 33 ∷ 32 ∷ 32 ∷ 93 ∷ 93 ∷ 33 ∷ 132 ∷ 0 ∷ 186 ∷ 187 ∷ []; number = 5; line = 1; value = pos 0 }
          ∷ record { c = 47803; recipe = 32 ∷ 4 ∷ 16 ∷ 0 ∷ 3 ∷ 64 ∷ 148 ∷ 16 ∷ 0 ∷ 93 ∷ 33 ∷ 32 ∷ 32 ∷ 93 ∷ 93 ∷ 33 ∷ 132 ∷ 0 ∷ 186 ∷ 187 ∷ []; number = 5; line = 1; value = pos 0 }
          ∷ record { c = 47803; recipe = 32 ∷ 4 ∷ 8 ∷ 0 ∷ 3 ∷ 64 ∷ 148 ∷ 16 ∷ 0 ∷ 93 ∷ 33 ∷ 32 ∷ 32 ∷ 93 ∷ 93 ∷ 33 ∷ 132 ∷ 0 ∷ 186 ∷ 187 ∷ []; number = 7; line = 1; value = pos 3 }
          ∷ record { c = 47803; recipe = 32 ∷ 4 ∷ 0 ∷ 2 ∷ 3 ∷ 64 ∷ 148 ∷ 16 ∷ 0 ∷ 93 ∷ 33 ∷ 32 ∷ 32 ∷ 93 ∷ 93 ∷ 33 ∷ 132 ∷ 0 ∷ 186 ∷ 187 ∷ []; number = 7; line = 1; value = pos 3 }
          ∷ record { c = 47803; recipe = 32 ∷ 4 ∷ 0 ∷ 0 ∷ 2 ∷ 64 ∷ 148 ∷ 16 ∷ 0 ∷ 93 ∷ 33 ∷ 32 ∷ 32 ∷ 93 ∷ 93 ∷ 33 ∷ 132 ∷ 0 ∷ 186 ∷ 187 ∷ []; number = 6; line = 1; value = pos 0 }
          ∷ record { c = 47803; recipe = 32 ∷ 4 ∷ 0 ∷ 0 ∷ 3 ∷ 192 ∷ 148 ∷ 16 ∷ 0 ∷ 93 ∷ 33 ∷ 32 ∷ 32 ∷ 93 ∷ 93 ∷ 33 ∷ 132 ∷ 0 ∷ 186 ∷ 187 ∷ []; number = 4; line = 2; value = pos 0 }
          ∷ record { c = 47803; recipe = 32 ∷ 4 ∷ 0 ∷ 0 ∷ 3 ∷ 96 ∷ 148 ∷ 16 ∷ 0 ∷ 93 ∷ 33 ∷ 32 ∷ 32 ∷ 93 ∷ 93 ∷ 33 ∷ 132 ∷ 0 ∷ 186 ∷ 187 ∷ []; number = 7; line = 2; value = negsuc 92 }
          ∷ record { c = 47803; recipe = 32 ∷ 4 ∷ 0 ∷ 0 ∷ 3 ∷ 64 ∷ 20 ∷ 16 ∷ 0 ∷ 93 ∷ 33 ∷ 32 ∷ 32 ∷ 93 ∷ 93 ∷ 33 ∷ 132 ∷ 0 ∷ 186 ∷ 187 ∷ []; number = 7; line = 2; value = pos 29 }
          ∷ record { c = 47803; recipe = 32 ∷ 4 ∷ 0 ∷ 0 ∷ 3 ∷ 64 ∷ 156 ∷ 16 ∷ 0 ∷ 93 ∷ 33 ∷ 32 ∷ 32 ∷ 93 ∷ 93 ∷ 33 ∷ 132 ∷ 0 ∷ 186 ∷ 187 ∷ []; number = 7; line = 2; value = pos 381 }
          ∷ record { c = 47803; recipe = 32 ∷ 4 ∷ 0 ∷ 0 ∷ 3 ∷ 64 ∷ 148 ∷ 0 ∷ 0 ∷ 93 ∷ 33 ∷ 32 ∷ 32 ∷ 93 ∷ 93 ∷ 33 ∷ 132 ∷ 0 ∷ 186 ∷ 187 ∷ []; number = 7; line = 2; value = pos 95 }
          ∷ record { c = 47803; recipe = 32 ∷ 4 ∷ 0 ∷ 0 ∷ 3 ∷ 64 ∷ 148 ∷ 24 ∷ 0 ∷ 93 ∷ 33 ∷ 32 ∷ 32 ∷ 93 ∷ 93 ∷ 33 ∷ 132 ∷ 0 ∷ 186 ∷ 187 ∷ []; number = 7; line = 2; value = pos 93 }
          ∷ record { c = 47803; recipe = 32 ∷ 4 ∷ 0 ∷ 0 ∷ 3 ∷ 64 ∷ 148 ∷ 16 ∷ 0 ∷ 92 ∷ 33 ∷ 32 ∷ 32 ∷ 93 ∷ 93 ∷ 33 ∷ 132 ∷ 0 ∷ 186 ∷ 187 ∷ []; number = 6; line = 2; value = pos 0 }
          ∷ record { c = 47803; recipe = 32 ∷ 4 ∷ 0 ∷ 0 ∷ 3 ∷ 64 ∷ 148 ∷ 16 ∷ 0 ∷ 93 ∷ 161 ∷ 32 ∷ 32 ∷ 93 ∷ 93 ∷ 33 ∷ 132 ∷ 0 ∷ 186 ∷ 187 ∷ []; number = 4; line = 3; value = pos 0 }
          ∷ record { c = 47803; recipe = 32 ∷ 4 ∷ 0 ∷ 0 ∷ 3 ∷ 64 ∷ 148 ∷ 16 ∷ 0 ∷ 93 ∷ 33 ∷ 32 ∷ 48 ∷ 93 ∷ 93 ∷ 33 ∷ 132 ∷ 0 ∷ 186 ∷ 187 ∷ []; number = 5; line = 3; value = pos 0 }
          ∷ record { c = 47803; recipe = 32 ∷ 4 ∷ 0 ∷ 0 ∷ 3 ∷ 64 ∷ 148 ∷ 16 ∷ 0 ∷ 93 ∷ 33 ∷ 32 ∷ 32 ∷ 93 ∷ 92 ∷ 33 ∷ 132 ∷ 0 ∷ 186 ∷ 187 ∷ []; number = 6; line = 3; value = pos 0 }
          ∷ record { c = 0; recipe = []; number = 1; line = 0; value = pos 0 }
          ∷ record { c = 65536; recipe = []; number = 1; line = 0; value = pos 0 }
          ∷ record { c = 9; recipe = 0 ∷ 0 ∷ 0 ∷ 0 ∷ []; number = 3; line = 0; value = pos 0 }
          ∷ record { c = 9; recipe = 32 ∷ 32 ∷ 32 ∷ 32 ∷ 32 ∷ 32 ∷ 32 ∷ 32 ∷ 32 ∷ 32 ∷ 32 ∷ 32 ∷ 32 ∷ 32 ∷ 32 ∷ 32 ∷ 32 ∷ 32 ∷ 32 ∷ 32 ∷ 32 ∷ 32 ∷ 32 ∷ 32 ∷ 32 ∷ 32 ∷ 32 ∷ 32 ∷ 32 ∷ 32 ∷ 32 ∷ 32 ∷ 32 ∷ 32 ∷ 32 ∷ 32 ∷ 32 ∷ 32 ∷ 32 ∷ 32 ∷ 32 ∷ 32 ∷ 32 ∷ 32 ∷ 32 ∷ 32 ∷ 32 ∷ 32 ∷ 32 ∷ 32 ∷ 32 ∷ 32 ∷ 32 ∷ 32 ∷ 32 ∷ 32 ∷ 32 ∷ 32 ∷ 32 ∷ 32 ∷ 32 ∷ 32 ∷ 32 ∷ 32 ∷ 32 ∷ 32 ∷ 32 ∷ 32 ∷ 32 ∷ 32 ∷ 32 ∷ 32 ∷ 32 ∷ 32 ∷ 32 ∷ 32 ∷ 32 ∷ 32 ∷ 32 ∷ 32 ∷ 32 ∷ 32 ∷ 32 ∷ 32 ∷ 32 ∷ 32 ∷ 32 ∷ 32 ∷ 32 ∷ 32 ∷ 32 ∷ 32 ∷ 32 ∷ 32 ∷ 32 ∷ 32 ∷ 32 ∷ 32 ∷ 32 ∷ 32 ∷ 32 ∷ 32 ∷ 32 ∷ 32 ∷ 32 ∷ 32 ∷ 32 ∷ 32 ∷ 32 ∷ 32 ∷ 32 ∷ 32 ∷ 32 ∷ 32 ∷ 32 ∷ 32 ∷ 32 ∷ 32 ∷ 32 ∷ 32 ∷ 32 ∷ 32 ∷ 32 ∷ 32 ∷ 32 ∷ 32 ∷ 32 ∷ 32 ∷ 32 ∷ 32 ∷ 32 ∷ 32 ∷ 32 ∷ 32 ∷ 32 ∷ 32 ∷ 32 ∷ 32 ∷ 32 ∷ 32 ∷ 32 ∷ 32 ∷ 32 ∷ 32 ∷ 32 ∷ 32 ∷ 32 ∷ 32 ∷ 32 ∷ 32 ∷ 32 ∷ 32 ∷ 32 ∷ 32 ∷ 32 ∷ 32 ∷ 32 ∷ 32 ∷ 32 ∷ 32 ∷ 32 ∷ 32 ∷ 32 ∷ 32 ∷ 32 ∷ []; number = 3; line = 0; value = pos 0 }
          ∷ record { c = 3; recipe = 32 ∷ 4 ∷ 0 ∷ 0 ∷ 3 ∷ 32 ∷ 4 ∷ 0 ∷ 0 ∷ 3 ∷ 32 ∷ 4 ∷ 0 ∷ 0 ∷ 3 ∷ 32 ∷ 4 ∷ 0 ∷ 0 ∷ 3 ∷ 32 ∷ 4 ∷ 0 ∷ 0 ∷ 3 ∷ 32 ∷ 4 ∷ 0 ∷ 0 ∷ 3 ∷ 32 ∷ 4 ∷ 0 ∷ 0 ∷ 3 ∷ 32 ∷ 4 ∷ 0 ∷ 0 ∷ 3 ∷ 32 ∷ 4 ∷ 0 ∷ 0 ∷ 3 ∷ 32 ∷ 4 ∷ 0 ∷ 0 ∷ 3 ∷ 32 ∷ 4 ∷ 0 ∷ 0 ∷ 3 ∷ 32 ∷ 4 ∷ 0 ∷ 0 ∷ 3 ∷ 32 ∷ 4 ∷ 0 ∷ 0 ∷ 3 ∷ 32 ∷ 4 ∷ 0 ∷ 0 ∷ 3 ∷ 32 ∷ 4 ∷ 0 ∷ 0 ∷ 3 ∷ 32 ∷ 4 ∷ 0 ∷ 0 ∷ 3 ∷ 32 ∷ 4 ∷ 0 ∷ 0 ∷ 3 ∷ 32 ∷ 4 ∷ 0 ∷ 0 ∷ 3 ∷ 32 ∷ 4 ∷ 0 ∷ 0 ∷ 3 ∷ 32 ∷ 4 ∷ 0 ∷ 0 ∷ 3 ∷ 32 ∷ 4 ∷ 0 ∷ 0 ∷ 3 ∷ 32 ∷ 4 ∷ 0 ∷ 0 ∷ 3 ∷ 32 ∷ 4 ∷ 0 ∷ 0 ∷ 3 ∷ 32 ∷ 4 ∷ 0 ∷ 0 ∷ 3 ∷ 32 ∷ 4 ∷ 0 ∷ 0 ∷ 3 ∷ 32 ∷ 4 ∷ 0 ∷ 0 ∷ 3 ∷ 32 ∷ 4 ∷ 0 ∷ 0 ∷ 3 ∷ 32 ∷ 4 ∷ 0 ∷ 0 ∷ 3 ∷ 32 ∷ 4 ∷ 0 ∷ 0 ∷ 3 ∷ 32 ∷ 4 ∷ 0 ∷ 0 ∷ 3 ∷ 32 ∷ 4 ∷ 0 ∷ 0 ∷ 3 ∷ 32 ∷ 4 ∷ 0 ∷ 0 ∷ 3 ∷ []; number = 0; line = 0; value = pos 0 }
          ∷ record { c = 6; recipe = 32 ∷ 8 ∷ 0 ∷ 0 ∷ 5 ∷ []; number = 8; line = 0; value = pos 0 }
          ∷ record { c = 5; recipe = 32 ∷ 8 ∷ 0 ∷ 0 ∷ 5 ∷ []; number = 0; line = 0; value = pos 0 }
          ∷ record { c = 1; recipe = 96 ∷ 124 ∷ 0 ∷ 0 ∷ 1 ∷ []; number = 7; line = 1; value = negsuc 2147483646 }
          ∷ record { c = 1; recipe = 32 ∷ 80 ∷ 0 ∷ 0 ∷ 1 ∷ []; number = 7; line = 1; value = pos 1048577 }
          ∷ record { c = 1; recipe = 64 ∷ 80 ∷ 15 ∷ 255 ∷ 255 ∷ []; number = 8; line = 0; value = pos 0 }
          ∷ record { c = 1; recipe = 95 ∷ 255 ∷ 255 ∷ 255 ∷ 254 ∷ []; number = 5; line = 1; value = pos 0 }
          ∷ record { c = 1; recipe = 160 ∷ 132 ∷ 0 ∷ 0 ∷ 3 ∷ []; number = 4; line = 1; value = pos 0 }
          ∷ record { c = 1; recipe = 0 ∷ 4 ∷ 16 ∷ 0 ∷ 3 ∷ []; number = 4; line = 1; value = pos 0 }
          ∷ record { c = 1; recipe = 32 ∷ 132 ∷ 0 ∷ 0 ∷ 2 ∷ []; number = 5; line = 1; value = pos 0 }
          ∷ record { c = 1; recipe = 32 ∷ 4 ∷ 16 ∷ 0 ∷ 2 ∷ []; number = 5; line = 1; value = pos 0 }
          ∷ record { c = 1; recipe = 32 ∷ 4 ∷ 0 ∷ 0 ∷ 4 ∷ []; number = 6; line = 1; value = pos 0 }
          ∷ record { c = 1965; recipe = 32 ∷ 4 ∷ 0 ∷ 0 ∷ 3 ∷ 0 ∷ 28 ∷ 16 ∷ 0 ∷ 131 ∷ 65 ∷ 16 ∷ 32 ∷ 7 ∷ 173 ∷ []; number = 4; line = 2; value = pos 0 }
          ∷ record { c = 1965; recipe = 32 ∷ 4 ∷ 0 ∷ 0 ∷ 3 ∷ 160 ∷ 28 ∷ 16 ∷ 0 ∷ 131 ∷ 65 ∷ 16 ∷ 32 ∷ 7 ∷ 173 ∷ []; number = 4; line = 2; value = pos 0 }
          ∷ record { c = 3; recipe = 32 ∷ 4 ∷ 16 ∷ 0 ∷ 3 ∷ []; number = 5; line = 1; value = pos 0 }
          ∷ record { c = 1965; recipe = 32 ∷ 4 ∷ 0 ∷ 0 ∷ 3 ∷ 32 ∷ 28 ∷ 16 ∷ 0 ∷ 131 ∷ 65 ∷ 16 ∷ 48 ∷ 7 ∷ 173 ∷ []; number = 5; line = 3; value = pos 0 }
          ∷ record { c = 1965; recipe = 32 ∷ 4 ∷ 0 ∷ 0 ∷ 3 ∷ 33 ∷ 28 ∷ 16 ∷ 0 ∷ 131 ∷ 65 ∷ 16 ∷ 32 ∷ 7 ∷ 173 ∷ []; number = 5; line = 2; value = pos 0 }
          ∷ record { c = 1965; recipe = 32 ∷ 4 ∷ 0 ∷ 0 ∷ 5 ∷ 32 ∷ 28 ∷ 16 ∷ 0 ∷ 131 ∷ 65 ∷ 16 ∷ 32 ∷ 7 ∷ 173 ∷ []; number = 7; line = 1; value = pos 3 }
          ∷ record { c = 5; recipe = 32 ∷ 4 ∷ 0 ∷ 0 ∷ 3 ∷ 32 ∷ 4 ∷ 0 ∷ 0 ∷ 3 ∷ 32 ∷ 4 ∷ 0 ∷ 0 ∷ 3 ∷ 32 ∷ 4 ∷ 0 ∷ 0 ∷ 3 ∷ 32 ∷ 4 ∷ 0 ∷ 0 ∷ 3 ∷ 32 ∷ 4 ∷ 0 ∷ 0 ∷ 3 ∷ 32 ∷ 4 ∷ 0 ∷ 0 ∷ 3 ∷ 32 ∷ 4 ∷ 0 ∷ 0 ∷ 3 ∷ 32 ∷ 4 ∷ 0 ∷ 0 ∷ 3 ∷ 32 ∷ 4 ∷ 0 ∷ 0 ∷ 3 ∷ 32 ∷ 4 ∷ 0 ∷ 0 ∷ 3 ∷ 32 ∷ 4 ∷ 0 ∷ 0 ∷ 3 ∷ 32 ∷ 4 ∷ 0 ∷ 0 ∷ 3 ∷ 32 ∷ 4 ∷ 0 ∷ 0 ∷ 3 ∷ 32 ∷ 4 ∷ 0 ∷ 0 ∷ 3 ∷ 32 ∷ 4 ∷ 0 ∷ 0 ∷ 3 ∷ 32 ∷ 4 ∷ 0 ∷ 0 ∷ 3 ∷ 32 ∷ 4 ∷ 0 ∷ 0 ∷ 3 ∷ 32 ∷ 4 ∷ 0 ∷ 0 ∷ 3 ∷ 32 ∷ 4 ∷ 0 ∷ 0 ∷ 3 ∷ 32 ∷ 4 ∷ 0 ∷ 0 ∷ 3 ∷ 32 ∷ 4 ∷ 0 ∷ 0 ∷ 3 ∷ 32 ∷ 4 ∷ 0 ∷ 0 ∷ 3 ∷ 32 ∷ 4 ∷ 0 ∷ 0 ∷ 3 ∷ 32 ∷ 4 ∷ 0 ∷ 0 ∷ 3 ∷ 32 ∷ 4 ∷ 0 ∷ 0 ∷ 3 ∷ 32 ∷ 4 ∷ 0 ∷ 0 ∷ 3 ∷ 32 ∷ 4 ∷ 0 ∷ 0 ∷ 3 ∷ 32 ∷ 4 ∷ 0 ∷ 0 ∷ 3 ∷ 32 ∷ 4 ∷ 0 ∷ 0 ∷ 3 ∷ 32 ∷ 4 ∷ 0 ∷ 0 ∷ 3 ∷ 32 ∷ 4 ∷ 0 ∷ 0 ∷ 5 ∷ []; number = 7; line = 32; value = pos 3 }
          ∷ record { c = 1965; recipe = 32 ∷ 4 ∷ 0 ∷ 0 ∷ 3 ∷ 32 ∷ 28 ∷ 16 ∷ 0 ∷ 132 ∷ 65 ∷ 16 ∷ 32 ∷ 7 ∷ 173 ∷ []; number = 6; line = 2; value = pos 0 }
          ∷ record { c = 1965; recipe = 32 ∷ 4 ∷ 0 ∷ 0 ∷ 3 ∷ 64 ∷ 16 ∷ 0 ∷ 0 ∷ 15 ∷ 64 ∷ 128 ∷ 32 ∷ 7 ∷ 173 ∷ []; number = 7; line = 3; value = negsuc 11 }
          ∷ record { c = 1; recipe = 96 ∷ 4 ∷ 15 ∷ 255 ∷ 255 ∷ []; number = 7; line = 1; value = negsuc 0 }
          ∷ record { c = 1; recipe = 64 ∷ 0 ∷ 0 ∷ 0 ∷ 1 ∷ []; number = 7; line = 1; value = pos 0 }
          ∷ record { c = 1; recipe = 32 ∷ 4 ∷ 0 ∷ 0 ∷ 3 ∷ 32 ∷ 124 ∷ 16 ∷ 0 ∷ 3 ∷ []; number = 7; line = 2; value = pos 2147483651 }
          ∷ record { c = 1; recipe = 64 ∷ 80 ∷ 15 ∷ 255 ∷ 255 ∷ 96 ∷ 124 ∷ 16 ∷ 0 ∷ 1 ∷ []; number = 7; line = 2; value = negsuc 2251797666201598 }
          ∷ record { c = 1; recipe = 64 ∷ 80 ∷ 15 ∷ 255 ∷ 255 ∷ 32 ∷ 252 ∷ 31 ∷ 255 ∷ 255 ∷ []; number = 7; line = 2; value = pos 2251797667250175 }
          ∷ record { c = 1965; recipe = 32 ∷ 4 ∷ 0 ∷ 0 ∷ 3 ∷ 32 ∷ 28 ∷ 16 ∷ 0 ∷ 133 ∷ 1 ∷ 16 ∷ 32 ∷ 7 ∷ 173 ∷ []; number = 7; line = 2; value = pos 131 }
          ∷ record { c = 1967; recipe = 32 ∷ 4 ∷ 0 ∷ 0 ∷ 3 ∷ 32 ∷ 28 ∷ 16 ∷ 0 ∷ 131 ∷ 65 ∷ 16 ∷ 32 ∷ 7 ∷ 171 ∷ []; number = 7; line = 3; value = pos 1965 }
          ∷ record { c = 1967; recipe = 32 ∷ 4 ∷ 0 ∷ 0 ∷ 3 ∷ 32 ∷ 28 ∷ 16 ∷ 0 ∷ 131 ∷ 65 ∷ 16 ∷ 32 ∷ 7 ∷ 173 ∷ []; number = 8; line = 0; value = pos 0 }
          ∷ [];
      written =
          record { c = 1; w = 16; recipe = []; bits = 16; clauses = 0; number = 0; line = 0; value = pos 0; words_used = 0; clauses_written = 0; next = 17; y = pos 1 ∷ pos 2 ∷ pos 3 ∷ pos 4 ∷ pos 5 ∷ pos 6 ∷ pos 7 ∷ pos 8 ∷ pos 9 ∷ pos 10 ∷ pos 11 ∷ pos 12 ∷ pos 13 ∷ pos 14 ∷ pos 15 ∷ pos 16 ∷ [] }
          ∷ record { c = 1; w = 16; recipe = []; bits = 15; clauses = 0; number = 9; line = 0; value = pos 0; words_used = 0; clauses_written = 0; next = 0; y = [] }
          ∷ record { c = 3; w = 2; recipe = 32 ∷ 4 ∷ 0 ∷ 0 ∷ 3 ∷ []; bits = 4; clauses = 52; number = 0; line = 0; value = pos 0; words_used = 52; clauses_written = 14; next = 7; y = pos 1 ∷ pos 3 ∷ pos 5 ∷ pos 6 ∷ [] }
          ∷ record { c = 3; w = 2; recipe = 32 ∷ 4 ∷ 0 ∷ 0 ∷ 3 ∷ []; bits = 4; clauses = 51; number = 10; line = 0; value = pos 0; words_used = 0; clauses_written = 0; next = 0; y = [] }
          ∷ record { c = 3; w = 2; recipe = 32 ∷ 4 ∷ 0 ∷ 0 ∷ 3 ∷ []; bits = 3; clauses = 52; number = 9; line = 0; value = pos 0; words_used = 0; clauses_written = 0; next = 0; y = [] }
          ∷ record { c = 6; w = 2; recipe = 32 ∷ 4 ∷ 0 ∷ 0 ∷ 3 ∷ []; bits = 5; clauses = 52; number = 0; line = 0; value = pos 0; words_used = 52; clauses_written = 14; next = 7; y = pos 0 ∷ pos 1 ∷ pos 3 ∷ pos 5 ∷ pos 6 ∷ [] }
          ∷ record { c = 6; w = 2; recipe = 32 ∷ 4 ∷ 0 ∷ 0 ∷ 3 ∷ []; bits = 5; clauses = 51; number = 10; line = 0; value = pos 0; words_used = 0; clauses_written = 0; next = 0; y = [] }
          ∷ record { c = 6; w = 2; recipe = 32 ∷ 4 ∷ 0 ∷ 0 ∷ 3 ∷ []; bits = 4; clauses = 52; number = 9; line = 0; value = pos 0; words_used = 0; clauses_written = 0; next = 0; y = [] }
          ∷ record { c = 7; w = 3; recipe = 64 ∷ 12 ∷ 0 ∷ 0 ∷ 7 ∷ []; bits = 6; clauses = 120; number = 0; line = 0; value = pos 0; words_used = 120; clauses_written = 32; next = 13; y = pos 1 ∷ pos 4 ∷ pos 6 ∷ pos 8 ∷ pos 10 ∷ pos 12 ∷ [] }
          ∷ record { c = 7; w = 3; recipe = 64 ∷ 12 ∷ 0 ∷ 0 ∷ 7 ∷ []; bits = 6; clauses = 119; number = 10; line = 0; value = pos 0; words_used = 0; clauses_written = 0; next = 0; y = [] }
          ∷ record { c = 7; w = 3; recipe = 64 ∷ 12 ∷ 0 ∷ 0 ∷ 7 ∷ []; bits = 5; clauses = 120; number = 9; line = 0; value = pos 0; words_used = 0; clauses_written = 0; next = 0; y = [] }
          ∷ record { c = 11; w = 1; recipe = 32 ∷ 8 ∷ 0 ∷ 0 ∷ 5 ∷ 32 ∷ 132 ∷ 0 ∷ 0 ∷ 11 ∷ []; bits = 4; clauses = 0; number = 0; line = 0; value = pos 0; words_used = 0; clauses_written = 0; next = 2; y = pos 1 ∷ pos 1 ∷ pos 0 ∷ pos 1 ∷ [] }
          ∷ record { c = 11; w = 1; recipe = 32 ∷ 8 ∷ 0 ∷ 0 ∷ 5 ∷ 32 ∷ 132 ∷ 0 ∷ 0 ∷ 11 ∷ []; bits = 3; clauses = 0; number = 9; line = 0; value = pos 0; words_used = 0; clauses_written = 0; next = 0; y = [] }
          ∷ record { c = 12; w = 4; recipe = 32 ∷ 4 ∷ 0 ∷ 0 ∷ 3 ∷ []; bits = 8; clauses = 180; number = 0; line = 0; value = pos 0; words_used = 180; clauses_written = 42; next = 13; y = pos 0 ∷ pos 0 ∷ pos 1 ∷ pos 5 ∷ pos 7 ∷ pos 9 ∷ pos 11 ∷ pos 12 ∷ [] }
          ∷ record { c = 12; w = 4; recipe = 32 ∷ 4 ∷ 0 ∷ 0 ∷ 3 ∷ []; bits = 8; clauses = 179; number = 10; line = 0; value = pos 0; words_used = 0; clauses_written = 0; next = 0; y = [] }
          ∷ record { c = 12; w = 4; recipe = 32 ∷ 4 ∷ 0 ∷ 0 ∷ 3 ∷ []; bits = 7; clauses = 180; number = 9; line = 0; value = pos 0; words_used = 0; clauses_written = 0; next = 0; y = [] }
          ∷ record { c = 45; w = 2; recipe = 32 ∷ 8 ∷ 0 ∷ 0 ∷ 5 ∷ 32 ∷ 140 ∷ 16 ∷ 0 ∷ 45 ∷ []; bits = 8; clauses = 104; number = 0; line = 0; value = pos 0; words_used = 104; clauses_written = 28; next = 11; y = pos 1 ∷ pos 2 ∷ pos 1 ∷ pos 3 ∷ pos 5 ∷ pos 7 ∷ pos 9 ∷ pos 10 ∷ [] }
          ∷ record { c = 45; w = 2; recipe = 32 ∷ 8 ∷ 0 ∷ 0 ∷ 5 ∷ 32 ∷ 140 ∷ 16 ∷ 0 ∷ 45 ∷ []; bits = 8; clauses = 103; number = 10; line = 0; value = pos 0; words_used = 0; clauses_written = 0; next = 0; y = [] }
          ∷ record { c = 45; w = 2; recipe = 32 ∷ 8 ∷ 0 ∷ 0 ∷ 5 ∷ 32 ∷ 140 ∷ 16 ∷ 0 ∷ 45 ∷ []; bits = 7; clauses = 104; number = 9; line = 0; value = pos 0; words_used = 0; clauses_written = 0; next = 0; y = [] }
          ∷ record { c = 53; w = 3; recipe = 32 ∷ 4 ∷ 0 ∷ 0 ∷ 3 ∷ 32 ∷ 136 ∷ 0 ∷ 0 ∷ 13 ∷ 33 ∷ 8 ∷ 0 ∷ 0 ∷ 53 ∷ []; bits = 9; clauses = 408; number = 0; line = 0; value = pos 0; words_used = 408; clauses_written = 106; next = 32; y = pos 1 ∷ pos 2 ∷ pos 19 ∷ pos 21 ∷ pos 23 ∷ pos 25 ∷ pos 27 ∷ pos 29 ∷ pos 31 ∷ [] }
          ∷ record { c = 53; w = 3; recipe = 32 ∷ 4 ∷ 0 ∷ 0 ∷ 3 ∷ 32 ∷ 136 ∷ 0 ∷ 0 ∷ 13 ∷ 33 ∷ 8 ∷ 0 ∷ 0 ∷ 53 ∷ []; bits = 9; clauses = 407; number = 10; line = 0; value = pos 0; words_used = 0; clauses_written = 0; next = 0; y = [] }
          ∷ record { c = 53; w = 3; recipe = 32 ∷ 4 ∷ 0 ∷ 0 ∷ 3 ∷ 32 ∷ 136 ∷ 0 ∷ 0 ∷ 13 ∷ 33 ∷ 8 ∷ 0 ∷ 0 ∷ 53 ∷ []; bits = 8; clauses = 408; number = 9; line = 0; value = pos 0; words_used = 0; clauses_written = 0; next = 0; y = [] }
          ∷ record { c = 59; w = 2; recipe = 64 ∷ 16 ∷ 0 ∷ 0 ∷ 15 ∷ 64 ∷ 136 ∷ 0 ∷ 0 ∷ 59 ∷ []; bits = 8; clauses = 240; number = 0; line = 0; value = pos 0; words_used = 240; clauses_written = 64; next = 21; y = pos 1 ∷ pos 8 ∷ pos 10 ∷ pos 12 ∷ pos 14 ∷ pos 16 ∷ pos 18 ∷ pos 20 ∷ [] }
          ∷ record { c = 59; w = 2; recipe = 64 ∷ 16 ∷ 0 ∷ 0 ∷ 15 ∷ 64 ∷ 136 ∷ 0 ∷ 0 ∷ 59 ∷ []; bits = 8; clauses = 239; number = 10; line = 0; value = pos 0; words_used = 0; clauses_written = 0; next = 0; y = [] }
          ∷ record { c = 59; w = 2; recipe = 64 ∷ 16 ∷ 0 ∷ 0 ∷ 15 ∷ 64 ∷ 136 ∷ 0 ∷ 0 ∷ 59 ∷ []; bits = 7; clauses = 240; number = 9; line = 0; value = pos 0; words_used = 0; clauses_written = 0; next = 0; y = [] }
          ∷ record { c = 255; w = 4; recipe = 64 ∷ 32 ∷ 0 ∷ 0 ∷ 255 ∷ []; bits = 12; clauses = 172; number = 0; line = 0; value = pos 0; words_used = 172; clauses_written = 46; next = 18; y = pos 1 ∷ pos 5 ∷ pos 7 ∷ pos 9 ∷ negsuc 9 ∷ negsuc 9 ∷ negsuc 9 ∷ negsuc 9 ∷ pos 11 ∷ pos 13 ∷ pos 15 ∷ pos 17 ∷ [] }
          ∷ record { c = 255; w = 4; recipe = 64 ∷ 32 ∷ 0 ∷ 0 ∷ 255 ∷ []; bits = 12; clauses = 171; number = 10; line = 0; value = pos 0; words_used = 0; clauses_written = 0; next = 0; y = [] }
          ∷ record { c = 255; w = 4; recipe = 64 ∷ 32 ∷ 0 ∷ 0 ∷ 255 ∷ []; bits = 11; clauses = 172; number = 9; line = 0; value = pos 0; words_used = 0; clauses_written = 0; next = 0; y = [] }
          ∷ record { c = 21845; w = 5; recipe = 32 ∷ 8 ∷ 0 ∷ 0 ∷ 5 ∷ 32 ∷ 144 ∷ 16 ∷ 0 ∷ 85 ∷ 33 ∷ 32 ∷ 32 ∷ 85 ∷ 85 ∷ []; bits = 20; clauses = 934; number = 0; line = 0; value = pos 0; words_used = 934; clauses_written = 225; next = 54; y = pos 1 ∷ pos 2 ∷ pos 6 ∷ pos 8 ∷ pos 16 ∷ pos 18 ∷ pos 20 ∷ pos 22 ∷ pos 31 ∷ pos 33 ∷ pos 35 ∷ pos 37 ∷ pos 39 ∷ pos 41 ∷ pos 43 ∷ pos 45 ∷ pos 47 ∷ pos 49 ∷ pos 51 ∷ pos 53 ∷ [] }
          ∷ record { c = 21845; w = 5; recipe = 32 ∷ 8 ∷ 0 ∷ 0 ∷ 5 ∷ 32 ∷ 144 ∷ 16 ∷ 0 ∷ 85 ∷ 33 ∷ 32 ∷ 32 ∷ 85 ∷ 85 ∷ []; bits = 20; clauses = 933; number = 10; line = 0; value = pos 0; words_used = 0; clauses_written = 0; next = 0; y = [] }
          ∷ record { c = 21845; w = 5; recipe = 32 ∷ 8 ∷ 0 ∷ 0 ∷ 5 ∷ 32 ∷ 144 ∷ 16 ∷ 0 ∷ 85 ∷ 33 ∷ 32 ∷ 32 ∷ 85 ∷ 85 ∷ []; bits = 19; clauses = 934; number = 9; line = 0; value = pos 0; words_used = 0; clauses_written = 0; next = 0; y = [] }
          ∷ record { c = 65535; w = 3; recipe = 64 ∷ 64 ∷ 0 ∷ 255 ∷ 255 ∷ []; bits = 19; clauses = 120; number = 0; line = 0; value = pos 0; words_used = 120; clauses_written = 32; next = 13; y = pos 1 ∷ pos 4 ∷ pos 6 ∷ negsuc 6 ∷ negsuc 6 ∷ negsuc 6 ∷ negsuc 6 ∷ negsuc 6 ∷ negsuc 6 ∷ negsuc 6 ∷ negsuc 6 ∷ negsuc 6 ∷ negsuc 6 ∷ negsuc 6 ∷ negsuc 6 ∷ negsuc 6 ∷ pos 8 ∷ pos 10 ∷ pos 12 ∷ [] }
          ∷ record { c = 65535; w = 3; recipe = 64 ∷ 64 ∷ 0 ∷ 255 ∷ 255 ∷ []; bits = 19; clauses = 119; number = 10; line = 0; value = pos 0; words_used = 0; clauses_written = 0; next = 0; y = [] }
          ∷ record { c = 65535; w = 3; recipe = 64 ∷ 64 ∷ 0 ∷ 255 ∷ 255 ∷ []; bits = 18; clauses = 120; number = 9; line = 0; value = pos 0; words_used = 0; clauses_written = 0; next = 0; y = [] }
          ∷ record { c = 59; w = 2; recipe = 64 ∷ 24 ∷ 0 ∷ 0 ∷ 63 ∷ 96 ∷ 136 ∷ 0 ∷ 0 ∷ 59 ∷ []; bits = 8; clauses = 252; number = 0; line = 0; value = pos 0; words_used = 252; clauses_written = 64; next = 19; y = pos 1 ∷ pos 3 ∷ pos 8 ∷ pos 10 ∷ pos 12 ∷ pos 14 ∷ pos 16 ∷ pos 18 ∷ [] }
          ∷ record { c = 59; w = 2; recipe = 64 ∷ 24 ∷ 0 ∷ 0 ∷ 63 ∷ 96 ∷ 136 ∷ 0 ∷ 0 ∷ 59 ∷ []; bits = 8; clauses = 251; number = 10; line = 0; value = pos 0; words_used = 0; clauses_written = 0; next = 0; y = [] }
          ∷ record { c = 59; w = 2; recipe = 64 ∷ 24 ∷ 0 ∷ 0 ∷ 63 ∷ 96 ∷ 136 ∷ 0 ∷ 0 ∷ 59 ∷ []; bits = 7; clauses = 252; number = 9; line = 0; value = pos 0; words_used = 0; clauses_written = 0; next = 0; y = [] }
          ∷ record { c = 5; w = 3; recipe = 32 ∷ 4 ∷ 0 ∷ 0 ∷ 3 ∷ 64 ∷ 132 ∷ 0 ∷ 0 ∷ 5 ∷ []; bits = 6; clauses = 248; number = 0; line = 0; value = pos 0; words_used = 248; clauses_written = 60; next = 17; y = pos 1 ∷ pos 2 ∷ pos 10 ∷ pos 12 ∷ pos 14 ∷ pos 16 ∷ [] }
          ∷ record { c = 5; w = 3; recipe = 32 ∷ 4 ∷ 0 ∷ 0 ∷ 3 ∷ 64 ∷ 132 ∷ 0 ∷ 0 ∷ 5 ∷ []; bits = 6; clauses = 247; number = 10; line = 0; value = pos 0; words_used = 0; clauses_written = 0; next = 0; y = [] }
          ∷ record { c = 5; w = 3; recipe = 32 ∷ 4 ∷ 0 ∷ 0 ∷ 3 ∷ 64 ∷ 132 ∷ 0 ∷ 0 ∷ 5 ∷ []; bits = 5; clauses = 248; number = 9; line = 0; value = pos 0; words_used = 0; clauses_written = 0; next = 0; y = [] }
          ∷ record { c = 3; w = 2; recipe = 32 ∷ 8 ∷ 0 ∷ 0 ∷ 5 ∷ 64 ∷ 8 ∷ 0 ∷ 0 ∷ 3 ∷ 32 ∷ 4 ∷ 0 ∷ 0 ∷ 3 ∷ []; bits = 4; clauses = 120; number = 0; line = 0; value = pos 0; words_used = 120; clauses_written = 32; next = 12; y = pos 1 ∷ pos 8 ∷ pos 10 ∷ pos 11 ∷ [] }
          ∷ record { c = 3; w = 2; recipe = 32 ∷ 8 ∷ 0 ∷ 0 ∷ 5 ∷ 64 ∷ 8 ∷ 0 ∷ 0 ∷ 3 ∷ 32 ∷ 4 ∷ 0 ∷ 0 ∷ 3 ∷ []; bits = 4; clauses = 119; number = 10; line = 0; value = pos 0; words_used = 0; clauses_written = 0; next = 0; y = [] }
          ∷ record { c = 3; w = 2; recipe = 32 ∷ 8 ∷ 0 ∷ 0 ∷ 5 ∷ 64 ∷ 8 ∷ 0 ∷ 0 ∷ 3 ∷ 32 ∷ 4 ∷ 0 ∷ 0 ∷ 3 ∷ []; bits = 3; clauses = 120; number = 9; line = 0; value = pos 0; words_used = 0; clauses_written = 0; next = 0; y = [] }
          ∷ record { c = 20; w = 1; recipe = 32 ∷ 8 ∷ 0 ∷ 0 ∷ 5 ∷ 96 ∷ 132 ∷ 0 ∷ 0 ∷ 3 ∷ 65 ∷ 4 ∷ 0 ∷ 0 ∷ 5 ∷ []; bits = 5; clauses = 0; number = 0; line = 0; value = pos 0; words_used = 0; clauses_written = 0; next = 2; y = pos 0 ∷ pos 0 ∷ pos 1 ∷ pos 0 ∷ pos 1 ∷ [] }
          ∷ record { c = 20; w = 1; recipe = 32 ∷ 8 ∷ 0 ∷ 0 ∷ 5 ∷ 96 ∷ 132 ∷ 0 ∷ 0 ∷ 3 ∷ 65 ∷ 4 ∷ 0 ∷ 0 ∷ 5 ∷ []; bits = 4; clauses = 0; number = 9; line = 0; value = pos 0; words_used = 0; clauses_written = 0; next = 0; y = [] }
          ∷ record { c = 5; w = 1; recipe = 32 ∷ 4 ∷ 0 ∷ 0 ∷ 3 ∷ 64 ∷ 132 ∷ 0 ∷ 0 ∷ 5 ∷ []; bits = 3; clauses = 0; number = 0; line = 0; value = pos 0; words_used = 0; clauses_written = 0; next = 2; y = pos 1 ∷ pos 0 ∷ pos 1 ∷ [] }
          ∷ record { c = 0; w = 0; recipe = 32 ∷ 4 ∷ 0 ∷ 0 ∷ 3 ∷ []; bits = 3; clauses = 51; number = 1; line = 0; value = pos 0; words_used = 0; clauses_written = 0; next = 0; y = [] }
          ∷ record { c = 65536; w = 3; recipe = 32 ∷ 4 ∷ 0 ∷ 0 ∷ 3 ∷ []; bits = 3; clauses = 51; number = 1; line = 0; value = pos 0; words_used = 0; clauses_written = 0; next = 0; y = [] }
          ∷ record { c = 3; w = 0; recipe = 32 ∷ 8 ∷ 0 ∷ 0 ∷ 5 ∷ []; bits = 3; clauses = 51; number = 2; line = 0; value = pos 0; words_used = 0; clauses_written = 0; next = 0; y = [] }
          ∷ record { c = 3; w = 17; recipe = 32 ∷ 8 ∷ 0 ∷ 0 ∷ 5 ∷ []; bits = 3; clauses = 51; number = 2; line = 0; value = pos 0; words_used = 0; clauses_written = 0; next = 0; y = [] }
          ∷ record { c = 3; w = 4294967295; recipe = 32 ∷ 4 ∷ 0 ∷ 0 ∷ 3 ∷ []; bits = 3; clauses = 51; number = 2; line = 0; value = pos 0; words_used = 0; clauses_written = 0; next = 0; y = [] }
          ∷ record { c = 5; w = 2; recipe = 32 ∷ 4 ∷ 0 ∷ 0 ∷ 3 ∷ []; bits = 3; clauses = 51; number = 8; line = 0; value = pos 0; words_used = 0; clauses_written = 0; next = 0; y = [] }
          ∷ record { c = 3; w = 2; recipe = 32 ∷ 4 ∷ 0 ∷ 0 ∷ 3 ∷ []; bits = 3; clauses = 51; number = 9; line = 0; value = pos 0; words_used = 0; clauses_written = 0; next = 0; y = [] }
          ∷ record { c = 3; w = 2; recipe = 160 ∷ 4 ∷ 0 ∷ 0 ∷ 3 ∷ []; bits = 3; clauses = 51; number = 4; line = 1; value = pos 0; words_used = 0; clauses_written = 0; next = 0; y = [] }
          ∷ record { c = 1965; w = 2; recipe = 32 ∷ 4 ∷ 0 ∷ 0 ∷ 3 ∷ 0 ∷ 28 ∷ 16 ∷ 0 ∷ 131 ∷ 65 ∷ 16 ∷ 32 ∷ 7 ∷ 173 ∷ []; bits = 3; clauses = 51; number = 4; line = 2; value = pos 0; words_used = 0; clauses_written = 0; next = 0; y = [] }
          ∷ record { c = 1965; w = 16; recipe = 32 ∷ 4 ∷ 0 ∷ 0 ∷ 3 ∷ 32 ∷ 28 ∷ 16 ∷ 0 ∷ 131 ∷ 65 ∷ 16 ∷ 48 ∷ 7 ∷ 173 ∷ []; bits = 3; clauses = 51; number = 5; line = 3; value = pos 0; words_used = 0; clauses_written = 0; next = 0; y = [] }
          ∷ record { c = 1965; w = 3; recipe = 32 ∷ 4 ∷ 0 ∷ 0 ∷ 3 ∷ 64 ∷ 16 ∷ 0 ∷ 0 ∷ 15 ∷ 64 ∷ 128 ∷ 32 ∷ 7 ∷ 173 ∷ []; bits = 3; clauses = 51; number = 7; line = 3; value = negsuc 11; words_used = 0; clauses_written = 0; next = 0; y = [] }
          ∷ [];
      write_rooms =
          record { c = 1; w = 16; recipe = []; bits = 18; clauses = 3; bit_room = pos 1 ∷ pos 2 ∷ pos 3 ∷ pos 4 ∷ pos 5 ∷ pos 6 ∷ pos 7 ∷ pos 8 ∷ pos 9 ∷ pos 10 ∷ pos 11 ∷ pos 12 ∷ pos 13 ∷ pos 14 ∷ pos 15 ∷ pos 16 ∷ pos 7 ∷ pos 7 ∷ []; clause_room = pos 7 ∷ pos 7 ∷ pos 7 ∷ [] }
          ∷ record { c = 3; w = 2; recipe = 32 ∷ 4 ∷ 0 ∷ 0 ∷ 3 ∷ []; bits = 6; clauses = 55; bit_room = pos 1 ∷ pos 3 ∷ pos 5 ∷ pos 6 ∷ pos 7 ∷ pos 7 ∷ []; clause_room = pos 1 ∷ pos 2 ∷ negsuc 2 ∷ pos 0 ∷ pos 1 ∷ negsuc 1 ∷ pos 3 ∷ pos 0 ∷ negsuc 0 ∷ pos 2 ∷ pos 3 ∷ pos 0 ∷ negsuc 0 ∷ negsuc 1 ∷ negsuc 2 ∷ pos 0 ∷ pos 1 ∷ negsuc 3 ∷ pos 0 ∷ pos 2 ∷ negsuc 3 ∷ pos 0 ∷ negsuc 0 ∷ negsuc 1 ∷ pos 4 ∷ pos 0 ∷ pos 2 ∷ pos 4 ∷ negsuc 4 ∷ pos 0 ∷ pos 2 ∷ negsuc 3 ∷ pos 5 ∷ pos 0 ∷ negsuc 1 ∷ pos 4 ∷ pos 5 ∷ pos 0 ∷ negsuc 1 ∷ negsuc 3 ∷ negsuc 4 ∷ pos 0 ∷ pos 2 ∷ negsuc 5 ∷ pos 0 ∷ pos 4 ∷ negsuc 5 ∷ pos 0 ∷ negsuc 1 ∷ negsuc 3 ∷ pos 6 ∷ pos 0 ∷ pos 7 ∷ pos 7 ∷ pos 7 ∷ [] }
          ∷ record { c = 6; w = 2; recipe = 32 ∷ 4 ∷ 0 ∷ 0 ∷ 3 ∷ []; bits = 7; clauses = 55; bit_room = pos 0 ∷ pos 1 ∷ pos 3 ∷ pos 5 ∷ pos 6 ∷ pos 7 ∷ pos 7 ∷ []; clause_room = pos 1 ∷ pos 2 ∷ negsuc 2 ∷ pos 0 ∷ pos 1 ∷ negsuc 1 ∷ pos 3 ∷ pos 0 ∷ negsuc 0 ∷ pos 2 ∷ pos 3 ∷ pos 0 ∷ negsuc 0 ∷ negsuc 1 ∷ negsuc 2 ∷ pos 0 ∷ pos 1 ∷ negsuc 3 ∷ pos 0 ∷ pos 2 ∷ negsuc 3 ∷ pos 0 ∷ negsuc 0 ∷ negsuc 1 ∷ pos 4 ∷ pos 0 ∷ pos 2 ∷ pos 4 ∷ negsuc 4 ∷ pos 0 ∷ pos 2 ∷ negsuc 3 ∷ pos 5 ∷ pos 0 ∷ negsuc 1 ∷ pos 4 ∷ pos 5 ∷ pos 0 ∷ negsuc 1 ∷ negsuc 3 ∷ negsuc 4 ∷ pos 0 ∷ pos 2 ∷ negsuc 5 ∷ pos 0 ∷ pos 4 ∷ negsuc 5 ∷ pos 0 ∷ negsuc 1 ∷ negsuc 3 ∷ pos 6 ∷ pos 0 ∷ pos 7 ∷ pos 7 ∷ pos 7 ∷ [] }
          ∷ record { c = 7; w = 3; recipe = 64 ∷ 12 ∷ 0 ∷ 0 ∷ 7 ∷ []; bits = 8; clauses = 123; bit_room = pos 1 ∷ pos 4 ∷ pos 6 ∷ pos 8 ∷ pos 10 ∷ pos 12 ∷ pos 7 ∷ pos 7 ∷ []; clause_room = negsuc 1 ∷ negsuc 0 ∷ negsuc 3 ∷ pos 0 ∷ negsuc 1 ∷ pos 1 ∷ pos 4 ∷ pos 0 ∷ pos 2 ∷ negsuc 0 ∷ pos 4 ∷ pos 0 ∷ pos 2 ∷ pos 1 ∷ negsuc 3 ∷ pos 0 ∷ negsuc 1 ∷ negsuc 4 ∷ pos 0 ∷ negsuc 0 ∷ negsuc 4 ∷ pos 0 ∷ pos 2 ∷ pos 1 ∷ pos 5 ∷ pos 0 ∷ negsuc 2 ∷ pos 5 ∷ negsuc 5 ∷ pos 0 ∷ negsuc 2 ∷ negsuc 4 ∷ pos 6 ∷ pos 0 ∷ pos 3 ∷ pos 5 ∷ pos 6 ∷ pos 0 ∷ pos 3 ∷ negsuc 4 ∷ negsuc 5 ∷ pos 0 ∷ negsuc 2 ∷ negsuc 6 ∷ pos 0 ∷ pos 5 ∷ negsuc 6 ∷ pos 0 ∷ pos 3 ∷ negsuc 4 ∷ pos 7 ∷ pos 0 ∷ pos 1 ∷ pos 7 ∷ pos 8 ∷ pos 0 ∷ pos 1 ∷ negsuc 6 ∷ negsuc 7 ∷ pos 0 ∷ negsuc 0 ∷ pos 7 ∷ negsuc 7 ∷ pos 0 ∷ negsuc 0 ∷ negsuc 6 ∷ pos 8 ∷ pos 0 ∷ negsuc 0 ∷ pos 9 ∷ pos 0 ∷ negsuc 6 ∷ pos 9 ∷ pos 0 ∷ pos 1 ∷ pos 7 ∷ negsuc 8 ∷ pos 0 ∷ pos 2 ∷ pos 9 ∷ pos 10 ∷ pos 0 ∷ pos 2 ∷ negsuc 8 ∷ negsuc 9 ∷ pos 0 ∷ negsuc 1 ∷ pos 9 ∷ negsuc 9 ∷ pos 0 ∷ negsuc 1 ∷ negsuc 8 ∷ pos 10 ∷ pos 0 ∷ negsuc 1 ∷ pos 11 ∷ pos 0 ∷ negsuc 8 ∷ pos 11 ∷ pos 0 ∷ pos 2 ∷ pos 9 ∷ negsuc 10 ∷ pos 0 ∷ pos 3 ∷ pos 11 ∷ pos 12 ∷ pos 0 ∷ pos 3 ∷ negsuc 10 ∷ negsuc 11 ∷ pos 0 ∷ negsuc 2 ∷ pos 11 ∷ negsuc 11 ∷ pos 0 ∷ negsuc 2 ∷ negsuc 10 ∷ pos 12 ∷ pos 0 ∷ pos 7 ∷ pos 7 ∷ pos 7 ∷ [] }
          ∷ record { c = 11; w = 1; recipe = 32 ∷ 8 ∷ 0 ∷ 0 ∷ 5 ∷ 32 ∷ 132 ∷ 0 ∷ 0 ∷ 11 ∷ []; bits = 6; clauses = 3; bit_room = pos 1 ∷ pos 1 ∷ pos 0 ∷ pos 1 ∷ pos 7 ∷ pos 7 ∷ []; clause_room = pos 7 ∷ pos 7 ∷ pos 7 ∷ [] }
          ∷ record { c = 12; w = 4; recipe = 32 ∷ 4 ∷ 0 ∷ 0 ∷ 3 ∷ []; bits = 10; clauses = 183; bit_room = pos 0 ∷ pos 0 ∷ pos 1 ∷ pos 5 ∷ pos 7 ∷ pos 9 ∷ pos 11 ∷ pos 12 ∷ pos 7 ∷ pos 7 ∷ []; clause_room = pos 1 ∷ pos 2 ∷ negsuc 4 ∷ pos 0 ∷ pos 1 ∷ negsuc 1 ∷ pos 5 ∷ pos 0 ∷ negsuc 0 ∷ pos 2 ∷ pos 5 ∷ pos 0 ∷ negsuc 0 ∷ negsuc 1 ∷ negsuc 4 ∷ pos 0 ∷ pos 1 ∷ negsuc 5 ∷ pos 0 ∷ pos 2 ∷ negsuc 5 ∷ pos 0 ∷ negsuc 0 ∷ negsuc 1 ∷ pos 6 ∷ pos 0 ∷ pos 2 ∷ pos 3 ∷ pos 6 ∷ negsuc 6 ∷ pos 0 ∷ pos 2 ∷ pos 3 ∷ negsuc 5 ∷ pos 7 ∷ pos 0 ∷ pos 2 ∷ negsuc 2 ∷ pos 6 ∷ pos 7 ∷ pos 0 ∷ pos 2 ∷ negsuc 2 ∷ negsuc 5 ∷ negsuc 6 ∷ pos 0 ∷ negsuc 1 ∷ pos 3 ∷ pos 6 ∷ pos 7 ∷ pos 0 ∷ negsuc 1 ∷ pos 3 ∷ negsuc 5 ∷ negsuc 6 ∷ pos 0 ∷ negsuc 1 ∷ negsuc 2 ∷ pos 6 ∷ negsuc 6 ∷ pos 0 ∷ negsuc 1 ∷ negsuc 2 ∷ negsuc 5 ∷ pos 7 ∷ pos 0 ∷ pos 2 ∷ pos 3 ∷ negsuc 7 ∷ pos 0 ∷ pos 2 ∷ pos 6 ∷ negsuc 7 ∷ pos 0 ∷ pos 3 ∷ pos 6 ∷ negsuc 7 ∷ pos 0 ∷ negsuc 1 ∷ negsuc 2 ∷ pos 8 ∷ pos 0 ∷ negsuc 1 ∷ negsuc 5 ∷ pos 8 ∷ pos 0 ∷ negsuc 2 ∷ negsuc 5 ∷ pos 8 ∷ pos 0 ∷ pos 3 ∷ pos 4 ∷ pos 8 ∷ negsuc 8 ∷ pos 0 ∷ pos 3 ∷ pos 4 ∷ negsuc 7 ∷ pos 9 ∷ pos 0 ∷ pos 3 ∷ negsuc 3 ∷ pos 8 ∷ pos 9 ∷ pos 0 ∷ pos 3 ∷ negsuc 3 ∷ negsuc 7 ∷ negsuc 8 ∷ pos 0 ∷ negsuc 2 ∷ pos 4 ∷ pos 8 ∷ pos 9 ∷ pos 0 ∷ negsuc 2 ∷ pos 4 ∷ negsuc 7 ∷ negsuc 8 ∷ pos 0 ∷ negsuc 2 ∷ negsuc 3 ∷ pos 8 ∷ negsuc 8 ∷ pos 0 ∷ negsuc 2 ∷ negsuc 3 ∷ negsuc 7 ∷ pos 9 ∷ pos 0 ∷ pos 3 ∷ pos 4 ∷ negsuc 9 ∷ pos 0 ∷ pos 3 ∷ pos 8 ∷ negsuc 9 ∷ pos 0 ∷ pos 4 ∷ pos 8 ∷ negsuc 9 ∷ pos 0 ∷ negsuc 2 ∷ negsuc 3 ∷ pos 10 ∷ pos 0 ∷ negsuc 2 ∷ negsuc 7 ∷ pos 10 ∷ pos 0 ∷ negsuc 3 ∷ negsuc 7 ∷ pos 10 ∷ pos 0 ∷ pos 4 ∷ pos 10 ∷ negsuc 10 ∷ pos 0 ∷ pos 4 ∷ negsuc 9 ∷ pos 11 ∷ pos 0 ∷ negsuc 3 ∷ pos 10 ∷ pos 11 ∷ pos 0 ∷ negsuc 3 ∷ negsuc 9 ∷ negsuc 10 ∷ pos 0 ∷ pos 4 ∷ negsuc 11 ∷ pos 0 ∷ pos 10 ∷ negsuc 11 ∷ pos 0 ∷ negsuc 3 ∷ negsuc 9 ∷ pos 12 ∷ pos 0 ∷ pos 7 ∷ pos 7 ∷ pos 7 ∷ [] }
          ∷ record { c = 45; w = 2; recipe = 32 ∷ 8 ∷ 0 ∷ 0 ∷ 5 ∷ 32 ∷ 140 ∷ 16 ∷ 0 ∷ 45 ∷ []; bits = 10; clauses = 107; bit_room = pos 1 ∷ pos 2 ∷ pos 1 ∷ pos 3 ∷ pos 5 ∷ pos 7 ∷ pos 9 ∷ pos 10 ∷ pos 7 ∷ pos 7 ∷ []; clause_room = pos 1 ∷ pos 2 ∷ negsuc 2 ∷ pos 0 ∷ pos 1 ∷ negsuc 1 ∷ pos 3 ∷ pos 0 ∷ negsuc 0 ∷ pos 2 ∷ pos 3 ∷ pos 0 ∷ negsuc 0 ∷ negsuc 1 ∷ negsuc 2 ∷ pos 0 ∷ pos 1 ∷ negsuc 3 ∷ pos 0 ∷ pos 2 ∷ negsuc 3 ∷ pos 0 ∷ negsuc 0 ∷ negsuc 1 ∷ pos 4 ∷ pos 0 ∷ pos 2 ∷ pos 4 ∷ negsuc 4 ∷ pos 0 ∷ pos 2 ∷ negsuc 3 ∷ pos 5 ∷ pos 0 ∷ negsuc 1 ∷ pos 4 ∷ pos 5 ∷ pos 0 ∷ negsuc 1 ∷ negsuc 3 ∷ negsuc 4 ∷ pos 0 ∷ pos 2 ∷ negsuc 5 ∷ pos 0 ∷ pos 4 ∷ negsuc 5 ∷ pos 0 ∷ negsuc 1 ∷ negsuc 3 ∷ pos 6 ∷ pos 0 ∷ pos 1 ∷ pos 6 ∷ negsuc 6 ∷ pos 0 ∷ pos 1 ∷ negsuc 5 ∷ pos 7 ∷ pos 0 ∷ negsuc 0 ∷ pos 6 ∷ pos 7 ∷ pos 0 ∷ negsuc 0 ∷ negsuc 5 ∷ negsuc 6 ∷ pos 0 ∷ pos 1 ∷ negsuc 7 ∷ pos 0 ∷ pos 6 ∷ negsuc 7 ∷ pos 0 ∷ negsuc 0 ∷ negsuc 5 ∷ pos 8 ∷ pos 0 ∷ pos 2 ∷ pos 8 ∷ negsuc 8 ∷ pos 0 ∷ pos 2 ∷ negsuc 7 ∷ pos 9 ∷ pos 0 ∷ negsuc 1 ∷ pos 8 ∷ pos 9 ∷ pos 0 ∷ negsuc 1 ∷ negsuc 7 ∷ negsuc 8 ∷ pos 0 ∷ pos 2 ∷ negsuc 9 ∷ pos 0 ∷ pos 8 ∷ negsuc 9 ∷ pos 0 ∷ negsuc 1 ∷ negsuc 7 ∷ pos 10 ∷ pos 0 ∷ pos 7 ∷ pos 7 ∷ pos 7 ∷ [] }
          ∷ record { c = 53; w = 3; recipe = 32 ∷ 4 ∷ 0 ∷ 0 ∷ 3 ∷ 32 ∷ 136 ∷ 0 ∷ 0 ∷ 13 ∷ 33 ∷ 8 ∷ 0 ∷ 0 ∷ 53 ∷ []; bits = 11; clauses = 411; bit_room = pos 1 ∷ pos 2 ∷ pos 19 ∷ pos 21 ∷ pos 23 ∷ pos 25 ∷ pos 27 ∷ pos 29 ∷ pos 31 ∷ pos 7 ∷ pos 7 ∷ []; clause_room = pos 1 ∷ pos 2 ∷ negsuc 3 ∷ pos 0 ∷ pos 1 ∷ negsuc 1 ∷ pos 4 ∷ pos 0 ∷ negsuc 0 ∷ pos 2 ∷ pos 4 ∷ pos 0 ∷ negsuc 0 ∷ negsuc 1 ∷ negsuc 3 ∷ pos 0 ∷ pos 1 ∷ negsuc 4 ∷ pos 0 ∷ pos 2 ∷ negsuc 4 ∷ pos 0 ∷ negsuc 0 ∷ negsuc 1 ∷ pos 5 ∷ pos 0 ∷ pos 2 ∷ pos 3 ∷ pos 5 ∷ negsuc 5 ∷ pos 0 ∷ pos 2 ∷ pos 3 ∷ negsuc 4 ∷ pos 6 ∷ pos 0 ∷ pos 2 ∷ negsuc 2 ∷ pos 5 ∷ pos 6 ∷ pos 0 ∷ pos 2 ∷ negsuc 2 ∷ negsuc 4 ∷ negsuc 5 ∷ pos 0 ∷ negsuc 1 ∷ pos 3 ∷ pos 5 ∷ pos 6 ∷ pos 0 ∷ negsuc 1 ∷ pos 3 ∷ negsuc 4 ∷ negsuc 5 ∷ pos 0 ∷ negsuc 1 ∷ negsuc 2 ∷ pos 5 ∷ negsuc 5 ∷ pos 0 ∷ negsuc 1 ∷ negsuc 2 ∷ negsuc 4 ∷ pos 6 ∷ pos 0 ∷ pos 2 ∷ pos 3 ∷ negsuc 6 ∷ pos 0 ∷ pos 2 ∷ pos 5 ∷ negsuc 6 ∷ pos 0 ∷ pos 3 ∷ pos 5 ∷ negsuc 6 ∷ pos 0 ∷ negsuc 1 ∷ negsuc 2 ∷ pos 7 ∷ pos 0 ∷ negsuc 1 ∷ negsuc 4 ∷ pos 7 ∷ pos 0 ∷ negsuc 2 ∷ negsuc 4 ∷ pos 7 ∷ pos 0 ∷ pos 3 ∷ pos 7 ∷ negsuc 7 ∷ pos 0 ∷ pos 3 ∷ negsuc 6 ∷ pos 8 ∷ pos 0 ∷ negsuc 2 ∷ pos 7 ∷ pos 8 ∷ pos 0 ∷ negsuc 2 ∷ negsuc 6 ∷ negsuc 7 ∷ pos 0 ∷ pos 3 ∷ negsuc 8 ∷ pos 0 ∷ pos 7 ∷ negsuc 8 ∷ pos 0 ∷ negsuc 2 ∷ negsuc 6 ∷ pos 9 ∷ pos 0 ∷ pos 1 ∷ pos 3 ∷ negsuc 9 ∷ pos 0 ∷ pos 1 ∷ negsuc 2 ∷ pos 10 ∷ pos 0 ∷ negsuc 0 ∷ pos 3 ∷ pos 10 ∷ pos 0 ∷ negsuc 0 ∷ negsuc 2 ∷ negsuc 9 ∷ pos 0 ∷ pos 1 ∷ negsuc 10 ∷ pos 0 ∷ pos 3 ∷ negsuc 10 ∷ pos 0 ∷ negsuc 0 ∷ negsuc 2 ∷ pos 11 ∷ pos 0 ∷ pos 4 ∷ pos 11 ∷ negsuc 11 ∷ pos 0 ∷ pos 4 ∷ negsuc 10 ∷ pos 12 ∷ pos 0 ∷ negsuc 3 ∷ pos 11 ∷ pos 12 ∷ pos 0 ∷ negsuc 3 ∷ negsuc 10 ∷ negsuc 11 ∷ pos 0 ∷ pos 4 ∷ negsuc 12 ∷ pos 0 ∷ pos 11 ∷ negsuc 12 ∷ pos 0 ∷ negsuc 3 ∷ negsuc 10 ∷ pos 13 ∷ pos 0 ∷ pos 6 ∷ pos 13 ∷ negsuc 13 ∷ pos 0 ∷ pos 6 ∷ negsuc 12 ∷ pos 14 ∷ pos 0 ∷ negsuc 5 ∷ pos 13 ∷ pos 14 ∷ pos 0 ∷ negsuc 5 ∷ negsuc 12 ∷ negsuc 13 ∷ pos 0 ∷ pos 6 ∷ negsuc 14 ∷ pos 0 ∷ pos 13 ∷ negsuc 14 ∷ pos 0 ∷ negsuc 5 ∷ negsuc 12 ∷ pos 15 ∷ pos 0 ∷ pos 8 ∷ pos 15 ∷ negsuc 15 ∷ pos 0 ∷ pos 8 ∷ negsuc 14 ∷ pos 16 ∷ pos 0 ∷ negsuc 7 ∷ pos 15 ∷ pos 16 ∷ pos 0 ∷ negsuc 7 ∷ negsuc 14 ∷ negsuc 15 ∷ pos 0 ∷ pos 8 ∷ negsuc 16 ∷ pos 0 ∷ pos 15 ∷ negsuc 16 ∷ pos 0 ∷ negsuc 7 ∷ negsuc 14 ∷ pos 17 ∷ pos 0 ∷ pos 9 ∷ pos 17 ∷ negsuc 17 ∷ pos 0 ∷ pos 9 ∷ negsuc 16 ∷ pos 18 ∷ pos 0 ∷ negsuc 8 ∷ pos 17 ∷ pos 18 ∷ pos 0 ∷ negsuc 8 ∷ negsuc 16 ∷ negsuc 17 ∷ pos 0 ∷ pos 1 ∷ pos 3 ∷ negsuc 18 ∷ pos 0 ∷ pos 1 ∷ negsuc 2 ∷ pos 19 ∷ pos 0 ∷ negsuc 0 ∷ pos 3 ∷ pos 19 ∷ pos 0 ∷ negsuc 0 ∷ negsuc 2 ∷ negsuc 18 ∷ pos 0 ∷ pos 1 ∷ negsuc 19 ∷ pos 0 ∷ pos 3 ∷ negsuc 19 ∷ pos 0 ∷ negsuc 0 ∷ negsuc 2 ∷ pos 20 ∷ pos 0 ∷ pos 2 ∷ pos 20 ∷ negsuc 20 ∷ pos 0 ∷ pos 2 ∷ negsuc 19 ∷ pos 21 ∷ pos 0 ∷ negsuc 1 ∷ pos 20 ∷ pos 21 ∷ pos 0 ∷ negsuc 1 ∷ negsuc 19 ∷ negsuc 20 ∷ pos 0 ∷ pos 2 ∷ negsuc 21 ∷ pos 0 ∷ pos 20 ∷ negsuc 21 ∷ pos 0 ∷ negsuc 1 ∷ negsuc 19 ∷ pos 22 ∷ pos 0 ∷ pos 10 ∷ pos 22 ∷ negsuc 22 ∷ pos 0 ∷ pos 10 ∷ negsuc 21 ∷ pos 23 ∷ pos 0 ∷ negsuc 9 ∷ pos 22 ∷ pos 23 ∷ pos 0 ∷ negsuc 9 ∷ negsuc 21 ∷ negsuc 22 ∷ pos 0 ∷ pos 10 ∷ negsuc 23 ∷ pos 0 ∷ pos 22 ∷ negsuc 23 ∷ pos 0 ∷ negsuc 9 ∷ negsuc 21 ∷ pos 24 ∷ pos 0 ∷ pos 12 ∷ pos 24 ∷ negsuc 24 ∷ pos 0 ∷ pos 12 ∷ negsuc 23 ∷ pos 25 ∷ pos 0 ∷ negsuc 11 ∷ pos 24 ∷ pos 25 ∷ pos 0 ∷ negsuc 11 ∷ negsuc 23 ∷ negsuc 24 ∷ pos 0 ∷ pos 12 ∷ negsuc 25 ∷ pos 0 ∷ pos 24 ∷ negsuc 25 ∷ pos 0 ∷ negsuc 11 ∷ negsuc 23 ∷ pos 26 ∷ pos 0 ∷ pos 14 ∷ pos 26 ∷ negsuc 26 ∷ pos 0 ∷ pos 14 ∷ negsuc 25 ∷ pos 27 ∷ pos 0 ∷ negsuc 13 ∷ pos 26 ∷ pos 27 ∷ pos 0 ∷ negsuc 13 ∷ negsuc 25 ∷ negsuc 26 ∷ pos 0 ∷ pos 14 ∷ negsuc 27 ∷ pos 0 ∷ pos 26 ∷ negsuc 27 ∷ pos 0 ∷ negsuc 13 ∷ negsuc 25 ∷ pos 28 ∷ pos 0 ∷ pos 16 ∷ pos 28 ∷ negsuc 28 ∷ pos 0 ∷ pos 16 ∷ negsuc 27 ∷ pos 29 ∷ pos 0 ∷ negsuc 15 ∷ pos 28 ∷ pos 29 ∷ pos 0 ∷ negsuc 15 ∷ negsuc 27 ∷ negsuc 28 ∷ pos 0 ∷ pos 16 ∷ negsuc 29 ∷ pos 0 ∷ pos 28 ∷ negsuc 29 ∷ pos 0 ∷ negsuc 15 ∷ negsuc 27 ∷ pos 30 ∷ pos 0 ∷ pos 18 ∷ pos 30 ∷ negsuc 30 ∷ pos 0 ∷ pos 18 ∷ negsuc 29 ∷ pos 31 ∷ pos 0 ∷ negsuc 17 ∷ pos 30 ∷ pos 31 ∷ pos 0 ∷ negsuc 17 ∷ negsuc 29 ∷ negsuc 30 ∷ pos 0 ∷ pos 7 ∷ pos 7 ∷ pos 7 ∷ [] }
          ∷ record { c = 59; w = 2; recipe = 64 ∷ 16 ∷ 0 ∷ 0 ∷ 15 ∷ 64 ∷ 136 ∷ 0 ∷ 0 ∷ 59 ∷ []; bits = 10; clauses = 243; bit_room = pos 1 ∷ pos 8 ∷ pos 10 ∷ pos 12 ∷ pos 14 ∷ pos 16 ∷ pos 18 ∷ pos 20 ∷ pos 7 ∷ pos 7 ∷ []; clause_room = negsuc 1 ∷ negsuc 0 ∷ negsuc 2 ∷ pos 0 ∷ negsuc 1 ∷ pos 1 ∷ pos 3 ∷ pos 0 ∷ pos 2 ∷ negsuc 0 ∷ pos 3 ∷ pos 0 ∷ pos 2 ∷ pos 1 ∷ negsuc 2 ∷ pos 0 ∷ negsuc 1 ∷ negsuc 3 ∷ pos 0 ∷ negsuc 0 ∷ negsuc 3 ∷ pos 0 ∷ pos 2 ∷ pos 1 ∷ pos 4 ∷ pos 0 ∷ pos 1 ∷ pos 4 ∷ pos 5 ∷ pos 0 ∷ pos 1 ∷ negsuc 3 ∷ negsuc 4 ∷ pos 0 ∷ negsuc 0 ∷ pos 4 ∷ negsuc 4 ∷ pos 0 ∷ negsuc 0 ∷ negsuc 3 ∷ pos 5 ∷ pos 0 ∷ negsuc 0 ∷ pos 6 ∷ pos 0 ∷ negsuc 3 ∷ pos 6 ∷ pos 0 ∷ pos 1 ∷ pos 4 ∷ negsuc 5 ∷ pos 0 ∷ pos 2 ∷ pos 6 ∷ pos 7 ∷ pos 0 ∷ pos 2 ∷ negsuc 5 ∷ negsuc 6 ∷ pos 0 ∷ negsuc 1 ∷ pos 6 ∷ negsuc 6 ∷ pos 0 ∷ negsuc 1 ∷ negsuc 5 ∷ pos 7 ∷ pos 0 ∷ negsuc 1 ∷ negsuc 0 ∷ negsuc 7 ∷ pos 0 ∷ negsuc 1 ∷ pos 1 ∷ pos 8 ∷ pos 0 ∷ pos 2 ∷ negsuc 0 ∷ pos 8 ∷ pos 0 ∷ pos 2 ∷ pos 1 ∷ negsuc 7 ∷ pos 0 ∷ negsuc 1 ∷ negsuc 8 ∷ pos 0 ∷ negsuc 0 ∷ negsuc 8 ∷ pos 0 ∷ pos 2 ∷ pos 1 ∷ pos 9 ∷ pos 0 ∷ pos 1 ∷ pos 9 ∷ pos 10 ∷ pos 0 ∷ pos 1 ∷ negsuc 8 ∷ negsuc 9 ∷ pos 0 ∷ negsuc 0 ∷ pos 9 ∷ negsuc 9 ∷ pos 0 ∷ negsuc 0 ∷ negsuc 8 ∷ pos 10 ∷ pos 0 ∷ negsuc 0 ∷ pos 11 ∷ pos 0 ∷ negsuc 8 ∷ pos 11 ∷ pos 0 ∷ pos 1 ∷ pos 9 ∷ negsuc 10 ∷ pos 0 ∷ pos 3 ∷ pos 11 ∷ pos 12 ∷ pos 0 ∷ pos 3 ∷ negsuc 10 ∷ negsuc 11 ∷ pos 0 ∷ negsuc 2 ∷ pos 11 ∷ negsuc 11 ∷ pos 0 ∷ negsuc 2 ∷ negsuc 10 ∷ pos 12 ∷ pos 0 ∷ negsuc 2 ∷ pos 13 ∷ pos 0 ∷ negsuc 10 ∷ pos 13 ∷ pos 0 ∷ pos 3 ∷ pos 11 ∷ negsuc 12 ∷ pos 0 ∷ negsuc 3 ∷ pos 13 ∷ pos 14 ∷ pos 0 ∷ negsuc 3 ∷ negsuc 12 ∷ negsuc 13 ∷ pos 0 ∷ pos 4 ∷ pos 13 ∷ negsuc 13 ∷ pos 0 ∷ pos 4 ∷ negsuc 12 ∷ pos 14 ∷ pos 0 ∷ pos 4 ∷ pos 15 ∷ pos 0 ∷ negsuc 12 ∷ pos 15 ∷ pos 0 ∷ negsuc 3 ∷ pos 13 ∷ negsuc 14 ∷ pos 0 ∷ negsuc 3 ∷ pos 15 ∷ pos 16 ∷ pos 0 ∷ negsuc 3 ∷ negsuc 14 ∷ negsuc 15 ∷ pos 0 ∷ pos 4 ∷ pos 15 ∷ negsuc 15 ∷ pos 0 ∷ pos 4 ∷ negsuc 14 ∷ pos 16 ∷ pos 0 ∷ pos 4 ∷ pos 17 ∷ pos 0 ∷ negsuc 14 ∷ pos 17 ∷ pos 0 ∷ negsuc 3 ∷ pos 15 ∷ negsuc 16 ∷ pos 0 ∷ pos 5 ∷ pos 17 ∷ pos 18 ∷ pos 0 ∷ pos 5 ∷ negsuc 16 ∷ negsuc 17 ∷ pos 0 ∷ negsuc 4 ∷ pos 17 ∷ negsuc 17 ∷ pos 0 ∷ negsuc 4 ∷ negsuc 16 ∷ pos 18 ∷ pos 0 ∷ negsuc 4 ∷ pos 19 ∷ pos 0 ∷ negsuc 16 ∷ pos 19 ∷ pos 0 ∷ pos 5 ∷ pos 17 ∷ negsuc 18 ∷ pos 0 ∷ pos 7 ∷ pos 19 ∷ pos 20 ∷ pos 0 ∷ pos 7 ∷ negsuc 18 ∷ negsuc 19 ∷ pos 0 ∷ negsuc 6 ∷ pos 19 ∷ negsuc 19 ∷ pos 0 ∷ negsuc 6 ∷ negsuc 18 ∷ pos 20 ∷ pos 0 ∷ pos 7 ∷ pos 7 ∷ pos 7 ∷ [] }
          ∷ record { c = 255; w = 4; recipe = 64 ∷ 32 ∷ 0 ∷ 0 ∷ 255 ∷ []; bits = 14; clauses = 175; bit_room = pos 1 ∷ pos 5 ∷ pos 7 ∷ pos 9 ∷ negsuc 9 ∷ negsuc 9 ∷ negsuc 9 ∷ negsuc 9 ∷ pos 11 ∷ pos 13 ∷ pos 15 ∷ pos 17 ∷ pos 7 ∷ pos 7 ∷ []; clause_room = negsuc 1 ∷ negsuc 0 ∷ negsuc 4 ∷ pos 0 ∷ negsuc 1 ∷ pos 1 ∷ pos 5 ∷ pos 0 ∷ pos 2 ∷ negsuc 0 ∷ pos 5 ∷ pos 0 ∷ pos 2 ∷ pos 1 ∷ negsuc 4 ∷ pos 0 ∷ negsuc 1 ∷ negsuc 5 ∷ pos 0 ∷ negsuc 0 ∷ negsuc 5 ∷ pos 0 ∷ pos 2 ∷ pos 1 ∷ pos 6 ∷ pos 0 ∷ negsuc 2 ∷ pos 6 ∷ negsuc 6 ∷ pos 0 ∷ negsuc 2 ∷ negsuc 5 ∷ pos 7 ∷ pos 0 ∷ pos 3 ∷ pos 6 ∷ pos 7 ∷ pos 0 ∷ pos 3 ∷ negsuc 5 ∷ negsuc 6 ∷ pos 0 ∷ negsuc 2 ∷ negsuc 7 ∷ pos 0 ∷ pos 6 ∷ negsuc 7 ∷ pos 0 ∷ pos 3 ∷ negsuc 5 ∷ pos 8 ∷ pos 0 ∷ negsuc 3 ∷ pos 8 ∷ negsuc 8 ∷ pos 0 ∷ negsuc 3 ∷ negsuc 7 ∷ pos 9 ∷ pos 0 ∷ pos 4 ∷ pos 8 ∷ pos 9 ∷ pos 0 ∷ pos 4 ∷ negsuc 7 ∷ negsuc 8 ∷ pos 0 ∷ negsuc 3 ∷ negsuc 9 ∷ pos 0 ∷ pos 8 ∷ negsuc 9 ∷ pos 0 ∷ pos 4 ∷ negsuc 7 ∷ pos 10 ∷ pos 0 ∷ pos 1 ∷ pos 10 ∷ pos 11 ∷ pos 0 ∷ pos 1 ∷ negsuc 9 ∷ negsuc 10 ∷ pos 0 ∷ negsuc 0 ∷ pos 10 ∷ negsuc 10 ∷ pos 0 ∷ negsuc 0 ∷ negsuc 9 ∷ pos 11 ∷ pos 0 ∷ negsuc 0 ∷ pos 12 ∷ pos 0 ∷ negsuc 9 ∷ pos 12 ∷ pos 0 ∷ pos 1 ∷ pos 10 ∷ negsuc 11 ∷ pos 0 ∷ pos 2 ∷ pos 12 ∷ pos 13 ∷ pos 0 ∷ pos 2 ∷ negsuc 11 ∷ negsuc 12 ∷ pos 0 ∷ negsuc 1 ∷ pos 12 ∷ negsuc 12 ∷ pos 0 ∷ negsuc 1 ∷ negsuc 11 ∷ pos 13 ∷ pos 0 ∷ negsuc 1 ∷ pos 14 ∷ pos 0 ∷ negsuc 11 ∷ pos 14 ∷ pos 0 ∷ pos 2 ∷ pos 12 ∷ negsuc 13 ∷ pos 0 ∷ pos 3 ∷ pos 14 ∷ pos 15 ∷ pos 0 ∷ pos 3 ∷ negsuc 13 ∷ negsuc 14 ∷ pos 0 ∷ negsuc 2 ∷ pos 14 ∷ negsuc 14 ∷ pos 0 ∷ negsuc 2 ∷ negsuc 13 ∷ pos 15 ∷ pos 0 ∷ negsuc 2 ∷ pos 16 ∷ pos 0 ∷ negsuc 13 ∷ pos 16 ∷ pos 0 ∷ pos 3 ∷ pos 14 ∷ negsuc 15 ∷ pos 0 ∷ pos 4 ∷ pos 16 ∷ pos 17 ∷ pos 0 ∷ pos 4 ∷ negsuc 15 ∷ negsuc 16 ∷ pos 0 ∷ negsuc 3 ∷ pos 16 ∷ negsuc 16 ∷ pos 0 ∷ negsuc 3 ∷ negsuc 15 ∷ pos 17 ∷ pos 0 ∷ pos 7 ∷ pos 7 ∷ pos 7 ∷ [] }
          ∷ record { c = 65535; w = 3; recipe = 64 ∷ 64 ∷ 0 ∷ 255 ∷ 255 ∷ []; bits = 21; clauses = 123; bit_room = pos 1 ∷ pos 4 ∷ pos 6 ∷ negsuc 6 ∷ negsuc 6 ∷ negsuc 6 ∷ negsuc 6 ∷ negsuc 6 ∷ negsuc 6 ∷ negsuc 6 ∷ negsuc 6 ∷ negsuc 6 ∷ negsuc 6 ∷ negsuc 6 ∷ negsuc 6 ∷ negsuc 6 ∷ pos 8 ∷ pos 10 ∷ pos 12 ∷ pos 7 ∷ pos 7 ∷ []; clause_room = negsuc 1 ∷ negsuc 0 ∷ negsuc 3 ∷ pos 0 ∷ negsuc 1 ∷ pos 1 ∷ pos 4 ∷ pos 0 ∷ pos 2 ∷ negsuc 0 ∷ pos 4 ∷ pos 0 ∷ pos 2 ∷ pos 1 ∷ negsuc 3 ∷ pos 0 ∷ negsuc 1 ∷ negsuc 4 ∷ pos 0 ∷ negsuc 0 ∷ negsuc 4 ∷ pos 0 ∷ pos 2 ∷ pos 1 ∷ pos 5 ∷ pos 0 ∷ negsuc 2 ∷ pos 5 ∷ negsuc 5 ∷ pos 0 ∷ negsuc 2 ∷ negsuc 4 ∷ pos 6 ∷ pos 0 ∷ pos 3 ∷ pos 5 ∷ pos 6 ∷ pos 0 ∷ pos 3 ∷ negsuc 4 ∷ negsuc 5 ∷ pos 0 ∷ negsuc 2 ∷ negsuc 6 ∷ pos 0 ∷ pos 5 ∷ negsuc 6 ∷ pos 0 ∷ pos 3 ∷ negsuc 4 ∷ pos 7 ∷ pos 0 ∷ pos 1 ∷ pos 7 ∷ pos 8 ∷ pos 0 ∷ pos 1 ∷ negsuc 6 ∷ negsuc 7 ∷ pos 0 ∷ negsuc 0 ∷ pos 7 ∷ negsuc 7 ∷ pos 0 ∷ negsuc 0 ∷ negsuc 6 ∷ pos 8 ∷ pos 0 ∷ negsuc 0 ∷ pos 9 ∷ pos 0 ∷ negsuc 6 ∷ pos 9 ∷ pos 0 ∷ pos 1 ∷ pos 7 ∷ negsuc 8 ∷ pos 0 ∷ pos 2 ∷ pos 9 ∷ pos 10 ∷ pos 0 ∷ pos 2 ∷ negsuc 8 ∷ negsuc 9 ∷ pos 0 ∷ negsuc 1 ∷ pos 9 ∷ negsuc 9 ∷ pos 0 ∷ negsuc 1 ∷ negsuc 8 ∷ pos 10 ∷ pos 0 ∷ negsuc 1 ∷ pos 11 ∷ pos 0 ∷ negsuc 8 ∷ pos 11 ∷ pos 0 ∷ pos 2 ∷ pos 9 ∷ negsuc 10 ∷ pos 0 ∷ pos 3 ∷ pos 11 ∷ pos 12 ∷ pos 0 ∷ pos 3 ∷ negsuc 10 ∷ negsuc 11 ∷ pos 0 ∷ negsuc 2 ∷ pos 11 ∷ negsuc 11 ∷ pos 0 ∷ negsuc 2 ∷ negsuc 10 ∷ pos 12 ∷ pos 0 ∷ pos 7 ∷ pos 7 ∷ pos 7 ∷ [] }
          ∷ record { c = 59; w = 2; recipe = 64 ∷ 24 ∷ 0 ∷ 0 ∷ 63 ∷ 96 ∷ 136 ∷ 0 ∷ 0 ∷ 59 ∷ []; bits = 10; clauses = 255; bit_room = pos 1 ∷ pos 3 ∷ pos 8 ∷ pos 10 ∷ pos 12 ∷ pos 14 ∷ pos 16 ∷ pos 18 ∷ pos 7 ∷ pos 7 ∷ []; clause_room = negsuc 1 ∷ negsuc 0 ∷ negsuc 2 ∷ pos 0 ∷ negsuc 1 ∷ pos 1 ∷ pos 3 ∷ pos 0 ∷ pos 2 ∷ negsuc 0 ∷ pos 3 ∷ pos 0 ∷ pos 2 ∷ pos 1 ∷ negsuc 2 ∷ pos 0 ∷ negsuc 1 ∷ negsuc 3 ∷ pos 0 ∷ negsuc 0 ∷ negsuc 3 ∷ pos 0 ∷ pos 2 ∷ pos 1 ∷ pos 4 ∷ pos 0 ∷ pos 1 ∷ pos 4 ∷ pos 5 ∷ pos 0 ∷ pos 1 ∷ negsuc 3 ∷ negsuc 4 ∷ pos 0 ∷ negsuc 0 ∷ pos 4 ∷ negsuc 4 ∷ pos 0 ∷ negsuc 0 ∷ negsuc 3 ∷ pos 5 ∷ pos 0 ∷ negsuc 0 ∷ pos 6 ∷ pos 0 ∷ negsuc 3 ∷ pos 6 ∷ pos 0 ∷ pos 1 ∷ pos 4 ∷ negsuc 5 ∷ pos 0 ∷ pos 2 ∷ pos 6 ∷ pos 7 ∷ pos 0 ∷ pos 2 ∷ negsuc 5 ∷ negsuc 6 ∷ pos 0 ∷ negsuc 1 ∷ pos 6 ∷ negsuc 6 ∷ pos 0 ∷ negsuc 1 ∷ negsuc 5 ∷ pos 7 ∷ pos 0 ∷ negsuc 3 ∷ negsuc 0 ∷ pos 8 ∷ pos 0 ∷ negsuc 3 ∷ pos 1 ∷ negsuc 7 ∷ pos 0 ∷ pos 4 ∷ negsuc 0 ∷ negsuc 7 ∷ pos 0 ∷ pos 4 ∷ pos 1 ∷ pos 8 ∷ pos 0 ∷ pos 4 ∷ pos 9 ∷ pos 0 ∷ pos 1 ∷ pos 9 ∷ pos 0 ∷ negsuc 3 ∷ negsuc 0 ∷ negsuc 8 ∷ pos 0 ∷ negsuc 3 ∷ negsuc 1 ∷ pos 9 ∷ negsuc 9 ∷ pos 0 ∷ negsuc 3 ∷ negsuc 1 ∷ negsuc 8 ∷ pos 10 ∷ pos 0 ∷ negsuc 3 ∷ pos 2 ∷ pos 9 ∷ pos 10 ∷ pos 0 ∷ negsuc 3 ∷ pos 2 ∷ negsuc 8 ∷ negsuc 9 ∷ pos 0 ∷ pos 4 ∷ negsuc 1 ∷ pos 9 ∷ pos 10 ∷ pos 0 ∷ pos 4 ∷ negsuc 1 ∷ negsuc 8 ∷ negsuc 9 ∷ pos 0 ∷ pos 4 ∷ pos 2 ∷ pos 9 ∷ negsuc 9 ∷ pos 0 ∷ pos 4 ∷ pos 2 ∷ negsuc 8 ∷ pos 10 ∷ pos 0 ∷ negsuc 3 ∷ negsuc 1 ∷ negsuc 10 ∷ pos 0 ∷ negsuc 3 ∷ pos 9 ∷ negsuc 10 ∷ pos 0 ∷ negsuc 1 ∷ pos 9 ∷ negsuc 10 ∷ pos 0 ∷ pos 4 ∷ pos 2 ∷ pos 11 ∷ pos 0 ∷ pos 4 ∷ negsuc 8 ∷ pos 11 ∷ pos 0 ∷ pos 2 ∷ negsuc 8 ∷ pos 11 ∷ pos 0 ∷ negsuc 3 ∷ pos 11 ∷ pos 12 ∷ pos 0 ∷ negsuc 3 ∷ negsuc 10 ∷ negsuc 11 ∷ pos 0 ∷ pos 4 ∷ pos 11 ∷ negsuc 11 ∷ pos 0 ∷ pos 4 ∷ negsuc 10 ∷ pos 12 ∷ pos 0 ∷ pos 4 ∷ pos 13 ∷ pos 0 ∷ negsuc 10 ∷ pos 13 ∷ pos 0 ∷ negsuc 3 ∷ pos 11 ∷ negsuc 12 ∷ pos 0 ∷ negsuc 3 ∷ pos 13 ∷ pos 14 ∷ pos 0 ∷ negsuc 3 ∷ negsuc 12 ∷ negsuc 13 ∷ pos 0 ∷ pos 4 ∷ pos 13 ∷ negsuc 13 ∷ pos 0 ∷ pos 4 ∷ negsuc 12 ∷ pos 14 ∷ pos 0 ∷ pos 4 ∷ pos 15 ∷ pos 0 ∷ negsuc 12 ∷ pos 15 ∷ pos 0 ∷ negsuc 3 ∷ pos 13 ∷ negsuc 14 ∷ pos 0 ∷ pos 5 ∷ pos 15 ∷ pos 16 ∷ pos 0 ∷ pos 5 ∷ negsuc 14 ∷ negsuc 15 ∷ pos 0 ∷ negsuc 4 ∷ pos 15 ∷ negsuc 15 ∷ pos 0 ∷ negsuc 4 ∷ negsuc 14 ∷ pos 16 ∷ pos 0 ∷ negsuc 4 ∷ pos 17 ∷ pos 0 ∷ negsuc 14 ∷ pos 17 ∷ pos 0 ∷ pos 5 ∷ pos 15 ∷ negsuc 16 ∷ pos 0 ∷ pos 7 ∷ pos 17 ∷ pos 18 ∷ pos 0 ∷ pos 7 ∷ negsuc 16 ∷ negsuc 17 ∷ pos 0 ∷ negsuc 6 ∷ pos 17 ∷ negsuc 17 ∷ pos 0 ∷ negsuc 6 ∷ negsuc 16 ∷ pos 18 ∷ pos 0 ∷ pos 7 ∷ pos 7 ∷ pos 7 ∷ [] }
          ∷ record { c = 5; w = 3; recipe = 32 ∷ 4 ∷ 0 ∷ 0 ∷ 3 ∷ 64 ∷ 132 ∷ 0 ∷ 0 ∷ 5 ∷ []; bits = 8; clauses = 251; bit_room = pos 1 ∷ pos 2 ∷ pos 10 ∷ pos 12 ∷ pos 14 ∷ pos 16 ∷ pos 7 ∷ pos 7 ∷ []; clause_room = pos 1 ∷ pos 2 ∷ negsuc 3 ∷ pos 0 ∷ pos 1 ∷ negsuc 1 ∷ pos 4 ∷ pos 0 ∷ negsuc 0 ∷ pos 2 ∷ pos 4 ∷ pos 0 ∷ negsuc 0 ∷ negsuc 1 ∷ negsuc 3 ∷ pos 0 ∷ pos 1 ∷ negsuc 4 ∷ pos 0 ∷ pos 2 ∷ negsuc 4 ∷ pos 0 ∷ negsuc 0 ∷ negsuc 1 ∷ pos 5 ∷ pos 0 ∷ pos 2 ∷ pos 3 ∷ pos 5 ∷ negsuc 5 ∷ pos 0 ∷ pos 2 ∷ pos 3 ∷ negsuc 4 ∷ pos 6 ∷ pos 0 ∷ pos 2 ∷ negsuc 2 ∷ pos 5 ∷ pos 6 ∷ pos 0 ∷ pos 2 ∷ negsuc 2 ∷ negsuc 4 ∷ negsuc 5 ∷ pos 0 ∷ negsuc 1 ∷ pos 3 ∷ pos 5 ∷ pos 6 ∷ pos 0 ∷ negsuc 1 ∷ pos 3 ∷ negsuc 4 ∷ negsuc 5 ∷ pos 0 ∷ negsuc 1 ∷ negsuc 2 ∷ pos 5 ∷ negsuc 5 ∷ pos 0 ∷ negsuc 1 ∷ negsuc 2 ∷ negsuc 4 ∷ pos 6 ∷ pos 0 ∷ pos 2 ∷ pos 3 ∷ negsuc 6 ∷ pos 0 ∷ pos 2 ∷ pos 5 ∷ negsuc 6 ∷ pos 0 ∷ pos 3 ∷ pos 5 ∷ negsuc 6 ∷ pos 0 ∷ negsuc 1 ∷ negsuc 2 ∷ pos 7 ∷ pos 0 ∷ negsuc 1 ∷ negsuc 4 ∷ pos 7 ∷ pos 0 ∷ negsuc 2 ∷ negsuc 4 ∷ pos 7 ∷ pos 0 ∷ pos 3 ∷ pos 7 ∷ negsuc 7 ∷ pos 0 ∷ pos 3 ∷ negsuc 6 ∷ pos 8 ∷ pos 0 ∷ negsuc 2 ∷ pos 7 ∷ pos 8 ∷ pos 0 ∷ negsuc 2 ∷ negsuc 6 ∷ negsuc 7 ∷ pos 0 ∷ pos 3 ∷ negsuc 8 ∷ pos 0 ∷ pos 7 ∷ negsuc 8 ∷ pos 0 ∷ negsuc 2 ∷ negsuc 6 ∷ pos 9 ∷ pos 0 ∷ pos 4 ∷ negsuc 2 ∷ negsuc 1 ∷ negsuc 9 ∷ pos 0 ∷ pos 4 ∷ negsuc 2 ∷ pos 2 ∷ pos 10 ∷ pos 0 ∷ pos 4 ∷ pos 3 ∷ negsuc 1 ∷ pos 10 ∷ pos 0 ∷ pos 4 ∷ pos 3 ∷ pos 2 ∷ negsuc 9 ∷ pos 0 ∷ negsuc 3 ∷ negsuc 2 ∷ negsuc 1 ∷ pos 10 ∷ pos 0 ∷ negsuc 3 ∷ negsuc 2 ∷ pos 2 ∷ negsuc 9 ∷ pos 0 ∷ negsuc 3 ∷ pos 3 ∷ negsuc 1 ∷ negsuc 9 ∷ pos 0 ∷ negsuc 3 ∷ pos 3 ∷ pos 2 ∷ pos 10 ∷ pos 0 ∷ pos 4 ∷ negsuc 2 ∷ negsuc 10 ∷ pos 0 ∷ pos 4 ∷ negsuc 1 ∷ negsuc 10 ∷ pos 0 ∷ negsuc 2 ∷ negsuc 1 ∷ negsuc 10 ∷ pos 0 ∷ negsuc 3 ∷ pos 3 ∷ pos 11 ∷ pos 0 ∷ negsuc 3 ∷ pos 2 ∷ pos 11 ∷ pos 0 ∷ pos 3 ∷ pos 2 ∷ pos 11 ∷ pos 0 ∷ pos 6 ∷ pos 11 ∷ pos 12 ∷ pos 0 ∷ pos 6 ∷ negsuc 10 ∷ negsuc 11 ∷ pos 0 ∷ negsuc 5 ∷ pos 11 ∷ negsuc 11 ∷ pos 0 ∷ negsuc 5 ∷ negsuc 10 ∷ pos 12 ∷ pos 0 ∷ negsuc 5 ∷ pos 13 ∷ pos 0 ∷ negsuc 10 ∷ pos 13 ∷ pos 0 ∷ pos 6 ∷ pos 11 ∷ negsuc 12 ∷ pos 0 ∷ pos 8 ∷ pos 13 ∷ pos 14 ∷ pos 0 ∷ pos 8 ∷ negsuc 12 ∷ negsuc 13 ∷ pos 0 ∷ negsuc 7 ∷ pos 13 ∷ negsuc 13 ∷ pos 0 ∷ negsuc 7 ∷ negsuc 12 ∷ pos 14 ∷ pos 0 ∷ negsuc 7 ∷ pos 15 ∷ pos 0 ∷ negsuc 12 ∷ pos 15 ∷ pos 0 ∷ pos 8 ∷ pos 13 ∷ negsuc 14 ∷ pos 0 ∷ pos 9 ∷ pos 15 ∷ pos 16 ∷ pos 0 ∷ pos 9 ∷ negsuc 14 ∷ negsuc 15 ∷ pos 0 ∷ negsuc 8 ∷ pos 15 ∷ negsuc 15 ∷ pos 0 ∷ negsuc 8 ∷ negsuc 14 ∷ pos 16 ∷ pos 0 ∷ pos 7 ∷ pos 7 ∷ pos 7 ∷ [] }
          ∷ record { c = 3; w = 2; recipe = 32 ∷ 8 ∷ 0 ∷ 0 ∷ 5 ∷ 64 ∷ 8 ∷ 0 ∷ 0 ∷ 3 ∷ 32 ∷ 4 ∷ 0 ∷ 0 ∷ 3 ∷ []; bits = 6; clauses = 123; bit_room = pos 1 ∷ pos 8 ∷ pos 10 ∷ pos 11 ∷ pos 7 ∷ pos 7 ∷ []; clause_room = negsuc 1 ∷ negsuc 0 ∷ negsuc 2 ∷ pos 0 ∷ negsuc 1 ∷ pos 1 ∷ pos 3 ∷ pos 0 ∷ pos 2 ∷ negsuc 0 ∷ pos 3 ∷ pos 0 ∷ pos 2 ∷ pos 1 ∷ negsuc 2 ∷ pos 0 ∷ negsuc 1 ∷ negsuc 3 ∷ pos 0 ∷ negsuc 0 ∷ negsuc 3 ∷ pos 0 ∷ pos 2 ∷ pos 1 ∷ pos 4 ∷ pos 0 ∷ pos 1 ∷ pos 4 ∷ pos 5 ∷ pos 0 ∷ pos 1 ∷ negsuc 3 ∷ negsuc 4 ∷ pos 0 ∷ negsuc 0 ∷ pos 4 ∷ negsuc 4 ∷ pos 0 ∷ negsuc 0 ∷ negsuc 3 ∷ pos 5 ∷ pos 0 ∷ negsuc 0 ∷ pos 6 ∷ pos 0 ∷ negsuc 3 ∷ pos 6 ∷ pos 0 ∷ pos 1 ∷ pos 4 ∷ negsuc 5 ∷ pos 0 ∷ pos 2 ∷ pos 6 ∷ pos 7 ∷ pos 0 ∷ pos 2 ∷ negsuc 5 ∷ negsuc 6 ∷ pos 0 ∷ negsuc 1 ∷ pos 6 ∷ negsuc 6 ∷ pos 0 ∷ negsuc 1 ∷ negsuc 5 ∷ pos 7 ∷ pos 0 ∷ pos 1 ∷ pos 2 ∷ negsuc 7 ∷ pos 0 ∷ pos 1 ∷ negsuc 1 ∷ pos 8 ∷ pos 0 ∷ negsuc 0 ∷ pos 2 ∷ pos 8 ∷ pos 0 ∷ negsuc 0 ∷ negsuc 1 ∷ negsuc 7 ∷ pos 0 ∷ pos 1 ∷ negsuc 8 ∷ pos 0 ∷ pos 2 ∷ negsuc 8 ∷ pos 0 ∷ negsuc 0 ∷ negsuc 1 ∷ pos 9 ∷ pos 0 ∷ pos 2 ∷ pos 9 ∷ negsuc 9 ∷ pos 0 ∷ pos 2 ∷ negsuc 8 ∷ pos 10 ∷ pos 0 ∷ negsuc 1 ∷ pos 9 ∷ pos 10 ∷ pos 0 ∷ negsuc 1 ∷ negsuc 8 ∷ negsuc 9 ∷ pos 0 ∷ pos 2 ∷ negsuc 10 ∷ pos 0 ∷ pos 9 ∷ negsuc 10 ∷ pos 0 ∷ negsuc 1 ∷ negsuc 8 ∷ pos 11 ∷ pos 0 ∷ pos 7 ∷ pos 7 ∷ pos 7 ∷ [] }
          ∷ record { c = 20; w = 1; recipe = 32 ∷ 8 ∷ 0 ∷ 0 ∷ 5 ∷ 96 ∷ 132 ∷ 0 ∷ 0 ∷ 3 ∷ 65 ∷ 4 ∷ 0 ∷ 0 ∷ 5 ∷ []; bits = 7; clauses = 3; bit_room = pos 0 ∷ pos 0 ∷ pos 1 ∷ pos 0 ∷ pos 1 ∷ pos 7 ∷ pos 7 ∷ []; clause_room = pos 7 ∷ pos 7 ∷ pos 7 ∷ [] }
          ∷ record { c = 3; w = 2; recipe = 32 ∷ 4 ∷ 0 ∷ 0 ∷ 3 ∷ []; bits = 4; clauses = 5; bit_room = pos 7 ∷ pos 7 ∷ pos 7 ∷ pos 7 ∷ []; clause_room = pos 7 ∷ pos 7 ∷ pos 7 ∷ pos 7 ∷ pos 7 ∷ [] }
          ∷ record { c = 3; w = 2; recipe = 32 ∷ 4 ∷ 0 ∷ 0 ∷ 3 ∷ []; bits = 3; clauses = 52; bit_room = pos 7 ∷ pos 7 ∷ pos 7 ∷ []; clause_room = pos 7 ∷ pos 7 ∷ pos 7 ∷ pos 7 ∷ pos 7 ∷ pos 7 ∷ pos 7 ∷ pos 7 ∷ pos 7 ∷ pos 7 ∷ pos 7 ∷ pos 7 ∷ pos 7 ∷ pos 7 ∷ pos 7 ∷ pos 7 ∷ pos 7 ∷ pos 7 ∷ pos 7 ∷ pos 7 ∷ pos 7 ∷ pos 7 ∷ pos 7 ∷ pos 7 ∷ pos 7 ∷ pos 7 ∷ pos 7 ∷ pos 7 ∷ pos 7 ∷ pos 7 ∷ pos 7 ∷ pos 7 ∷ pos 7 ∷ pos 7 ∷ pos 7 ∷ pos 7 ∷ pos 7 ∷ pos 7 ∷ pos 7 ∷ pos 7 ∷ pos 7 ∷ pos 7 ∷ pos 7 ∷ pos 7 ∷ pos 7 ∷ pos 7 ∷ pos 7 ∷ pos 7 ∷ pos 7 ∷ pos 7 ∷ pos 7 ∷ pos 7 ∷ [] }
          ∷ [];
      given =
          record { x = pos 1 ∷ pos 2 ∷ []; first = 3; call = record { c = 3; w = 2; recipe = 32 ∷ 4 ∷ 0 ∷ 0 ∷ 3 ∷ []; bits = 4; clauses = 52; number = 0; line = 0; value = pos 0; words_used = 52; clauses_written = 14; next = 7; y = pos 1 ∷ pos 3 ∷ pos 5 ∷ pos 6 ∷ [] } }
          ∷ record { x = negsuc 0 ∷ pos 2 ∷ []; first = 3; call = record { c = 3; w = 2; recipe = 32 ∷ 4 ∷ 0 ∷ 0 ∷ 3 ∷ []; bits = 4; clauses = 52; number = 0; line = 0; value = pos 0; words_used = 52; clauses_written = 14; next = 7; y = negsuc 0 ∷ pos 3 ∷ pos 5 ∷ pos 6 ∷ [] } }
          ∷ record { x = negsuc 76 ∷ pos 5 ∷ []; first = 1000000; call = record { c = 3; w = 2; recipe = 32 ∷ 4 ∷ 0 ∷ 0 ∷ 3 ∷ []; bits = 4; clauses = 52; number = 0; line = 0; value = pos 0; words_used = 52; clauses_written = 14; next = 1000004; y = negsuc 76 ∷ pos 1000000 ∷ pos 1000002 ∷ pos 1000003 ∷ [] } }
          ∷ record { x = negsuc 2 ∷ negsuc 899999 ∷ []; first = 900001; call = record { c = 6; w = 2; recipe = 32 ∷ 4 ∷ 0 ∷ 0 ∷ 3 ∷ []; bits = 5; clauses = 52; number = 0; line = 0; value = pos 0; words_used = 52; clauses_written = 14; next = 900005; y = pos 0 ∷ negsuc 2 ∷ pos 900001 ∷ pos 900003 ∷ pos 900004 ∷ [] } }
          ∷ record { x = negsuc 1 ∷ pos 1 ∷ []; first = 3; call = record { c = 5; w = 2; recipe = 32 ∷ 8 ∷ 0 ∷ 0 ∷ 5 ∷ []; bits = 4; clauses = 0; number = 0; line = 0; value = pos 0; words_used = 0; clauses_written = 0; next = 3; y = negsuc 1 ∷ pos 1 ∷ negsuc 1 ∷ pos 1 ∷ [] } }
          ∷ record { x = negsuc 3 ∷ []; first = 9; call = record { c = 7; w = 1; recipe = 64 ∷ 12 ∷ 0 ∷ 0 ∷ 7 ∷ []; bits = 3; clauses = 0; number = 0; line = 0; value = pos 0; words_used = 0; clauses_written = 0; next = 9; y = negsuc 3 ∷ negsuc 3 ∷ negsuc 3 ∷ [] } }
          ∷ record { x = negsuc 2147483646 ∷ []; first = 2147483648; call = record { c = 5; w = 1; recipe = 32 ∷ 4 ∷ 0 ∷ 0 ∷ 3 ∷ 64 ∷ 132 ∷ 0 ∷ 0 ∷ 5 ∷ []; bits = 3; clauses = 0; number = 0; line = 0; value = pos 0; words_used = 0; clauses_written = 0; next = 2147483648; y = negsuc 2147483646 ∷ pos 0 ∷ negsuc 2147483646 ∷ [] } }
          ∷ record { x = pos 3 ∷ negsuc 0 ∷ []; first = 4; call = record { c = 59; w = 2; recipe = 64 ∷ 24 ∷ 0 ∷ 0 ∷ 63 ∷ 96 ∷ 136 ∷ 0 ∷ 0 ∷ 59 ∷ []; bits = 8; clauses = 252; number = 0; line = 0; value = pos 0; words_used = 252; clauses_written = 64; next = 20; y = pos 3 ∷ pos 4 ∷ pos 9 ∷ pos 11 ∷ pos 13 ∷ pos 15 ∷ pos 17 ∷ pos 19 ∷ [] } }
          ∷ record { x = negsuc 0 ∷ []; first = 2; call = record { c = 21; w = 1; recipe = 64 ∷ 12 ∷ 0 ∷ 0 ∷ 7 ∷ 32 ∷ 132 ∷ 16 ∷ 0 ∷ 21 ∷ []; bits = 5; clauses = 0; number = 0; line = 0; value = pos 0; words_used = 0; clauses_written = 0; next = 2; y = negsuc 0 ∷ pos 0 ∷ negsuc 0 ∷ pos 0 ∷ negsuc 0 ∷ [] } }
          ∷ record { x = pos 2 ∷ []; first = 3; call = record { c = 5; w = 1; recipe = 32 ∷ 4 ∷ 0 ∷ 0 ∷ 3 ∷ 64 ∷ 12 ∷ 16 ∷ 0 ∷ 5 ∷ []; bits = 3; clauses = 0; number = 0; line = 0; value = pos 0; words_used = 0; clauses_written = 0; next = 3; y = pos 2 ∷ pos 0 ∷ pos 2 ∷ [] } }
          ∷ record { x = negsuc 5 ∷ []; first = 9; call = record { c = 5; w = 1; recipe = 64 ∷ 12 ∷ 0 ∷ 0 ∷ 7 ∷ 96 ∷ 132 ∷ 0 ∷ 0 ∷ 5 ∷ []; bits = 3; clauses = 0; number = 0; line = 0; value = pos 0; words_used = 0; clauses_written = 0; next = 9; y = negsuc 5 ∷ pos 0 ∷ negsuc 5 ∷ [] } }
          ∷ record { x = negsuc 2 ∷ []; first = 4; call = record { c = 14; w = 1; recipe = 64 ∷ 12 ∷ 0 ∷ 0 ∷ 7 ∷ 64 ∷ 132 ∷ 16 ∷ 0 ∷ 7 ∷ []; bits = 4; clauses = 0; number = 0; line = 0; value = pos 0; words_used = 0; clauses_written = 0; next = 4; y = pos 0 ∷ negsuc 2 ∷ negsuc 2 ∷ negsuc 2 ∷ [] } }
          ∷ record { x = negsuc 1 ∷ pos 1 ∷ []; first = 3; call = record { c = 9; w = 2; recipe = 32 ∷ 8 ∷ 0 ∷ 0 ∷ 5 ∷ 32 ∷ 8 ∷ 16 ∷ 0 ∷ 9 ∷ []; bits = 5; clauses = 0; number = 0; line = 0; value = pos 0; words_used = 0; clauses_written = 0; next = 3; y = negsuc 1 ∷ pos 1 ∷ pos 0 ∷ negsuc 1 ∷ pos 1 ∷ [] } }
          ∷ record { x = pos 2 ∷ negsuc 0 ∷ negsuc 2 ∷ []; first = 4; call = record { c = 1; w = 3; recipe = 64 ∷ 4 ∷ 0 ∷ 0 ∷ 1 ∷ []; bits = 3; clauses = 0; number = 0; line = 0; value = pos 0; words_used = 0; clauses_written = 0; next = 4; y = pos 2 ∷ negsuc 0 ∷ negsuc 2 ∷ [] } }
          ∷ record { x = pos 5 ∷ negsuc 2 ∷ []; first = 8; call = record { c = 15; w = 2; recipe = 32 ∷ 8 ∷ 0 ∷ 0 ∷ 5 ∷ 64 ∷ 136 ∷ 16 ∷ 0 ∷ 15 ∷ []; bits = 6; clauses = 68; number = 0; line = 0; value = pos 0; words_used = 68; clauses_written = 18; next = 13; y = pos 5 ∷ pos 8 ∷ negsuc 8 ∷ negsuc 8 ∷ pos 10 ∷ pos 12 ∷ [] } }
          ∷ record { x = negsuc 0 ∷ pos 2 ∷ []; first = 3; call = record { c = 567; w = 2; recipe = 64 ∷ 24 ∷ 0 ∷ 0 ∷ 63 ∷ 32 ∷ 136 ∷ 16 ∷ 1 ∷ 59 ∷ 65 ∷ 4 ∷ 16 ∷ 2 ∷ 55 ∷ []; bits = 11; clauses = 200; number = 0; line = 0; value = pos 0; words_used = 200; clauses_written = 50; next = 15; y = negsuc 0 ∷ pos 3 ∷ negsuc 3 ∷ pos 8 ∷ pos 10 ∷ pos 11 ∷ pos 5 ∷ pos 7 ∷ pos 0 ∷ pos 12 ∷ pos 14 ∷ [] } }
          ∷ record { x = negsuc 1 ∷ negsuc 0 ∷ []; first = 3; call = record { c = 7; w = 2; recipe = 64 ∷ 20 ∷ 0 ∷ 0 ∷ 31 ∷ 96 ∷ 144 ∷ 0 ∷ 0 ∷ 15 ∷ 32 ∷ 8 ∷ 32 ∷ 0 ∷ 19 ∷ 65 ∷ 132 ∷ 16 ∷ 0 ∷ 7 ∷ []; bits = 5; clauses = 266; number = 0; line = 0; value = pos 0; words_used = 266; clauses_written = 65; next = 18; y = negsuc 1 ∷ pos 3 ∷ negsuc 3 ∷ pos 11 ∷ pos 13 ∷ [] } }
          ∷ record { x = []; first = 9; call = record { c = 3; w = 2; recipe = 32 ∷ 4 ∷ 0 ∷ 0 ∷ 3 ∷ []; bits = 4; clauses = 52; number = 14; line = 0; value = pos 0; words_used = 0; clauses_written = 0; next = 0; y = [] } }
          ∷ record { x = pos 1 ∷ []; first = 9; call = record { c = 3; w = 2; recipe = 32 ∷ 4 ∷ 0 ∷ 0 ∷ 3 ∷ []; bits = 4; clauses = 52; number = 14; line = 0; value = pos 0; words_used = 0; clauses_written = 0; next = 0; y = [] } }
          ∷ record { x = pos 1 ∷ negsuc 1 ∷ pos 3 ∷ []; first = 9; call = record { c = 3; w = 2; recipe = 32 ∷ 4 ∷ 0 ∷ 0 ∷ 3 ∷ []; bits = 4; clauses = 52; number = 14; line = 0; value = pos 0; words_used = 0; clauses_written = 0; next = 0; y = [] } }
          ∷ record { x = pos 0 ∷ negsuc 5 ∷ pos 7 ∷ pos 8 ∷ []; first = 9; call = record { c = 3; w = 4; recipe = 32 ∷ 4 ∷ 0 ∷ 0 ∷ 3 ∷ []; bits = 6; clauses = 180; number = 14; line = 0; value = pos 0; words_used = 0; clauses_written = 0; next = 0; y = [] } }
          ∷ record { x = pos 5 ∷ pos 0 ∷ pos 7 ∷ pos 8 ∷ []; first = 9; call = record { c = 3; w = 4; recipe = 32 ∷ 4 ∷ 0 ∷ 0 ∷ 3 ∷ []; bits = 6; clauses = 180; number = 14; line = 0; value = pos 0; words_used = 0; clauses_written = 0; next = 0; y = [] } }
          ∷ record { x = pos 5 ∷ negsuc 5 ∷ pos 0 ∷ pos 8 ∷ []; first = 9; call = record { c = 3; w = 4; recipe = 32 ∷ 4 ∷ 0 ∷ 0 ∷ 3 ∷ []; bits = 6; clauses = 180; number = 14; line = 0; value = pos 0; words_used = 0; clauses_written = 0; next = 0; y = [] } }
          ∷ record { x = pos 5 ∷ negsuc 5 ∷ pos 7 ∷ pos 0 ∷ []; first = 9; call = record { c = 3; w = 4; recipe = 32 ∷ 4 ∷ 0 ∷ 0 ∷ 3 ∷ []; bits = 6; clauses = 180; number = 14; line = 0; value = pos 0; words_used = 0; clauses_written = 0; next = 0; y = [] } }
          ∷ record { x = pos 9 ∷ pos 2 ∷ []; first = 9; call = record { c = 3; w = 2; recipe = 32 ∷ 4 ∷ 0 ∷ 0 ∷ 3 ∷ []; bits = 4; clauses = 52; number = 14; line = 0; value = pos 0; words_used = 0; clauses_written = 0; next = 0; y = [] } }
          ∷ record { x = pos 8 ∷ negsuc 8 ∷ []; first = 9; call = record { c = 3; w = 2; recipe = 32 ∷ 4 ∷ 0 ∷ 0 ∷ 3 ∷ []; bits = 4; clauses = 52; number = 14; line = 0; value = pos 0; words_used = 0; clauses_written = 0; next = 0; y = [] } }
          ∷ record { x = pos 1 ∷ []; first = 0; call = record { c = 1; w = 1; recipe = []; bits = 1; clauses = 0; number = 14; line = 0; value = pos 0; words_used = 0; clauses_written = 0; next = 0; y = [] } }
          ∷ record { x = negsuc 0 ∷ []; first = 1; call = record { c = 1; w = 1; recipe = []; bits = 1; clauses = 0; number = 14; line = 0; value = pos 0; words_used = 0; clauses_written = 0; next = 0; y = [] } }
          ∷ record { x = negsuc 0 ∷ []; first = 2; call = record { c = 1; w = 1; recipe = []; bits = 1; clauses = 0; number = 0; line = 0; value = pos 0; words_used = 0; clauses_written = 0; next = 2; y = negsuc 0 ∷ [] } }
          ∷ record { x = pos 1 ∷ negsuc 1 ∷ []; first = 2; call = record { c = 1; w = 2; recipe = []; bits = 2; clauses = 0; number = 14; line = 0; value = pos 0; words_used = 0; clauses_written = 0; next = 0; y = [] } }
          ∷ record { x = negsuc 2147483647 ∷ []; first = 2147483648; call = record { c = 1; w = 1; recipe = []; bits = 1; clauses = 0; number = 14; line = 0; value = pos 0; words_used = 0; clauses_written = 0; next = 0; y = [] } }
          ∷ record { x = negsuc 2147483647 ∷ []; first = 2147483649; call = record { c = 1; w = 1; recipe = []; bits = 1; clauses = 0; number = 15; line = 0; value = pos 0; words_used = 0; clauses_written = 0; next = 0; y = [] } }
          ∷ record { x = negsuc 1 ∷ negsuc 1 ∷ negsuc 5 ∷ pos 8 ∷ []; first = 12; call = record { c = 3; w = 4; recipe = 32 ∷ 4 ∷ 0 ∷ 0 ∷ 3 ∷ []; bits = 6; clauses = 180; number = 14; line = 0; value = pos 0; words_used = 0; clauses_written = 0; next = 0; y = [] } }
          ∷ record { x = negsuc 1 ∷ pos 2 ∷ negsuc 5 ∷ pos 8 ∷ []; first = 12; call = record { c = 3; w = 4; recipe = 32 ∷ 4 ∷ 0 ∷ 0 ∷ 3 ∷ []; bits = 6; clauses = 180; number = 14; line = 0; value = pos 0; words_used = 0; clauses_written = 0; next = 0; y = [] } }
          ∷ record { x = negsuc 1 ∷ pos 4 ∷ negsuc 1 ∷ pos 8 ∷ []; first = 12; call = record { c = 3; w = 4; recipe = 32 ∷ 4 ∷ 0 ∷ 0 ∷ 3 ∷ []; bits = 6; clauses = 180; number = 14; line = 0; value = pos 0; words_used = 0; clauses_written = 0; next = 0; y = [] } }
          ∷ record { x = negsuc 1 ∷ pos 4 ∷ pos 2 ∷ pos 8 ∷ []; first = 12; call = record { c = 3; w = 4; recipe = 32 ∷ 4 ∷ 0 ∷ 0 ∷ 3 ∷ []; bits = 6; clauses = 180; number = 14; line = 0; value = pos 0; words_used = 0; clauses_written = 0; next = 0; y = [] } }
          ∷ record { x = negsuc 1 ∷ pos 4 ∷ pos 4 ∷ pos 8 ∷ []; first = 12; call = record { c = 3; w = 4; recipe = 32 ∷ 4 ∷ 0 ∷ 0 ∷ 3 ∷ []; bits = 6; clauses = 180; number = 14; line = 0; value = pos 0; words_used = 0; clauses_written = 0; next = 0; y = [] } }
          ∷ record { x = negsuc 1 ∷ pos 4 ∷ negsuc 3 ∷ pos 8 ∷ []; first = 12; call = record { c = 3; w = 4; recipe = 32 ∷ 4 ∷ 0 ∷ 0 ∷ 3 ∷ []; bits = 6; clauses = 180; number = 14; line = 0; value = pos 0; words_used = 0; clauses_written = 0; next = 0; y = [] } }
          ∷ record { x = negsuc 1 ∷ pos 4 ∷ negsuc 5 ∷ negsuc 1 ∷ []; first = 12; call = record { c = 3; w = 4; recipe = 32 ∷ 4 ∷ 0 ∷ 0 ∷ 3 ∷ []; bits = 6; clauses = 180; number = 14; line = 0; value = pos 0; words_used = 0; clauses_written = 0; next = 0; y = [] } }
          ∷ record { x = negsuc 1 ∷ pos 4 ∷ negsuc 5 ∷ pos 2 ∷ []; first = 12; call = record { c = 3; w = 4; recipe = 32 ∷ 4 ∷ 0 ∷ 0 ∷ 3 ∷ []; bits = 6; clauses = 180; number = 14; line = 0; value = pos 0; words_used = 0; clauses_written = 0; next = 0; y = [] } }
          ∷ record { x = negsuc 1 ∷ pos 4 ∷ negsuc 5 ∷ pos 4 ∷ []; first = 12; call = record { c = 3; w = 4; recipe = 32 ∷ 4 ∷ 0 ∷ 0 ∷ 3 ∷ []; bits = 6; clauses = 180; number = 14; line = 0; value = pos 0; words_used = 0; clauses_written = 0; next = 0; y = [] } }
          ∷ record { x = negsuc 1 ∷ pos 4 ∷ negsuc 5 ∷ negsuc 3 ∷ []; first = 12; call = record { c = 3; w = 4; recipe = 32 ∷ 4 ∷ 0 ∷ 0 ∷ 3 ∷ []; bits = 6; clauses = 180; number = 14; line = 0; value = pos 0; words_used = 0; clauses_written = 0; next = 0; y = [] } }
          ∷ record { x = negsuc 1 ∷ pos 4 ∷ negsuc 5 ∷ negsuc 5 ∷ []; first = 12; call = record { c = 3; w = 4; recipe = 32 ∷ 4 ∷ 0 ∷ 0 ∷ 3 ∷ []; bits = 6; clauses = 180; number = 14; line = 0; value = pos 0; words_used = 0; clauses_written = 0; next = 0; y = [] } }
          ∷ record { x = negsuc 1 ∷ pos 4 ∷ negsuc 5 ∷ pos 6 ∷ []; first = 12; call = record { c = 3; w = 4; recipe = 32 ∷ 4 ∷ 0 ∷ 0 ∷ 3 ∷ []; bits = 6; clauses = 180; number = 14; line = 0; value = pos 0; words_used = 0; clauses_written = 0; next = 0; y = [] } }
          ∷ record { x = negsuc 4 ∷ pos 2147483643 ∷ []; first = 2147483644; call = record { c = 3; w = 2; recipe = 32 ∷ 4 ∷ 0 ∷ 0 ∷ 3 ∷ []; bits = 4; clauses = 52; number = 0; line = 0; value = pos 0; words_used = 52; clauses_written = 14; next = 2147483648; y = negsuc 4 ∷ pos 2147483644 ∷ pos 2147483646 ∷ pos 2147483647 ∷ [] } }
          ∷ record { x = negsuc 4 ∷ pos 2147483643 ∷ []; first = 2147483645; call = record { c = 3; w = 2; recipe = 32 ∷ 4 ∷ 0 ∷ 0 ∷ 3 ∷ []; bits = 4; clauses = 52; number = 15; line = 0; value = pos 0; words_used = 0; clauses_written = 0; next = 0; y = [] } }
          ∷ record { x = negsuc 4 ∷ pos 2147483647 ∷ []; first = 4294967295; call = record { c = 3; w = 2; recipe = 32 ∷ 4 ∷ 0 ∷ 0 ∷ 3 ∷ []; bits = 4; clauses = 52; number = 15; line = 0; value = pos 0; words_used = 0; clauses_written = 0; next = 0; y = [] } }
          ∷ record { x = pos 2147483647 ∷ negsuc 4 ∷ pos 7 ∷ negsuc 2147483645 ∷ []; first = 2147483648; call = record { c = 1; w = 4; recipe = []; bits = 4; clauses = 0; number = 0; line = 0; value = pos 0; words_used = 0; clauses_written = 0; next = 2147483648; y = pos 2147483647 ∷ negsuc 4 ∷ pos 7 ∷ negsuc 2147483645 ∷ [] } }
          ∷ record { x = pos 2147483647 ∷ negsuc 4 ∷ pos 7 ∷ negsuc 2147483645 ∷ []; first = 2147483649; call = record { c = 1; w = 4; recipe = []; bits = 4; clauses = 0; number = 15; line = 0; value = pos 0; words_used = 0; clauses_written = 0; next = 0; y = [] } }
          ∷ record { x = pos 1 ∷ []; first = 4294967295; call = record { c = 1; w = 1; recipe = []; bits = 1; clauses = 0; number = 15; line = 0; value = pos 0; words_used = 0; clauses_written = 0; next = 0; y = [] } }
          ∷ record { x = []; first = 1; call = record { c = 0; w = 0; recipe = []; bits = 9; clauses = 99; number = 1; line = 0; value = pos 0; words_used = 0; clauses_written = 0; next = 0; y = [] } }
          ∷ record { x = pos 1 ∷ []; first = 1; call = record { c = 1; w = 0; recipe = []; bits = 9; clauses = 99; number = 2; line = 0; value = pos 0; words_used = 0; clauses_written = 0; next = 0; y = [] } }
          ∷ record { x = pos 1 ∷ negsuc 0 ∷ []; first = 3; call = record { c = 3; w = 2; recipe = 32 ∷ 4 ∷ 0 ∷ 0 ∷ 5 ∷ 0 ∷ []; bits = 9; clauses = 99; number = 14; line = 0; value = pos 0; words_used = 0; clauses_written = 0; next = 0; y = [] } }
          ∷ record { x = pos 1 ∷ negsuc 1 ∷ []; first = 3; call = record { c = 3; w = 2; recipe = 32 ∷ 4 ∷ 0 ∷ 0 ∷ 5 ∷ 0 ∷ []; bits = 9; clauses = 99; number = 3; line = 0; value = pos 0; words_used = 0; clauses_written = 0; next = 0; y = [] } }
          ∷ record { x = pos 1 ∷ negsuc 1 ∷ []; first = 3; call = record { c = 3; w = 2; recipe = 32 ∷ 4 ∷ 0 ∷ 0 ∷ 5 ∷ []; bits = 9; clauses = 99; number = 7; line = 1; value = pos 3; words_used = 0; clauses_written = 0; next = 0; y = [] } }
          ∷ record { x = pos 1 ∷ negsuc 0 ∷ []; first = 3; call = record { c = 5; w = 2; recipe = 32 ∷ 4 ∷ 0 ∷ 0 ∷ 3 ∷ 96 ∷ 132 ∷ 16 ∷ 0 ∷ 5 ∷ []; bits = 9; clauses = 99; number = 14; line = 0; value = pos 0; words_used = 0; clauses_written = 0; next = 0; y = [] } }
          ∷ record { x = pos 1 ∷ negsuc 1 ∷ []; first = 2147483648; call = record { c = 5; w = 2; recipe = 32 ∷ 4 ∷ 0 ∷ 0 ∷ 3 ∷ 96 ∷ 132 ∷ 16 ∷ 0 ∷ 5 ∷ []; bits = 9; clauses = 99; number = 7; line = 2; value = negsuc 2; words_used = 0; clauses_written = 0; next = 0; y = [] } }
          ∷ record { x = pos 1 ∷ negsuc 1 ∷ []; first = 2147483648; call = record { c = 5; w = 2; recipe = 32 ∷ 4 ∷ 0 ∷ 0 ∷ 3 ∷ []; bits = 9; clauses = 99; number = 8; line = 0; value = pos 0; words_used = 0; clauses_written = 0; next = 0; y = [] } }
          ∷ record { x = pos 1 ∷ negsuc 1 ∷ []; first = 2147483648; call = record { c = 3; w = 2; recipe = 32 ∷ 4 ∷ 0 ∷ 0 ∷ 3 ∷ []; bits = 3; clauses = 52; number = 15; line = 0; value = pos 0; words_used = 0; clauses_written = 0; next = 0; y = [] } }
          ∷ record { x = pos 1 ∷ negsuc 1 ∷ []; first = 2147483648; call = record { c = 3; w = 2; recipe = 32 ∷ 4 ∷ 0 ∷ 0 ∷ 3 ∷ []; bits = 4; clauses = 51; number = 15; line = 0; value = pos 0; words_used = 0; clauses_written = 0; next = 0; y = [] } }
          ∷ record { x = pos 1 ∷ negsuc 1 ∷ []; first = 3; call = record { c = 3; w = 2; recipe = 32 ∷ 4 ∷ 0 ∷ 0 ∷ 3 ∷ []; bits = 3; clauses = 51; number = 9; line = 0; value = pos 0; words_used = 0; clauses_written = 0; next = 0; y = [] } }
          ∷ record { x = pos 1 ∷ negsuc 1 ∷ []; first = 3; call = record { c = 3; w = 2; recipe = 32 ∷ 4 ∷ 0 ∷ 0 ∷ 3 ∷ []; bits = 4; clauses = 51; number = 10; line = 0; value = pos 0; words_used = 0; clauses_written = 0; next = 0; y = [] } }
          ∷ record { x = pos 1 ∷ negsuc 1 ∷ []; first = 3; call = record { c = 15; w = 2; recipe = 32 ∷ 8 ∷ 0 ∷ 0 ∷ 5 ∷ 64 ∷ 136 ∷ 16 ∷ 0 ∷ 15 ∷ []; bits = 6; clauses = 67; number = 10; line = 0; value = pos 0; words_used = 0; clauses_written = 0; next = 0; y = [] } }
          ∷ [];
      given_rooms =
          record { x = negsuc 0 ∷ pos 2 ∷ []; first = 3; call = record { c = 3; w = 2; recipe = 32 ∷ 4 ∷ 0 ∷ 0 ∷ 3 ∷ []; bits = 6; clauses = 55; bit_room = negsuc 0 ∷ pos 3 ∷ pos 5 ∷ pos 6 ∷ pos 7 ∷ pos 7 ∷ []; clause_room = negsuc 0 ∷ pos 2 ∷ negsuc 2 ∷ pos 0 ∷ negsuc 0 ∷ negsuc 1 ∷ pos 3 ∷ pos 0 ∷ pos 1 ∷ pos 2 ∷ pos 3 ∷ pos 0 ∷ pos 1 ∷ negsuc 1 ∷ negsuc 2 ∷ pos 0 ∷ negsuc 0 ∷ negsuc 3 ∷ pos 0 ∷ pos 2 ∷ negsuc 3 ∷ pos 0 ∷ pos 1 ∷ negsuc 1 ∷ pos 4 ∷ pos 0 ∷ pos 2 ∷ pos 4 ∷ negsuc 4 ∷ pos 0 ∷ pos 2 ∷ negsuc 3 ∷ pos 5 ∷ pos 0 ∷ negsuc 1 ∷ pos 4 ∷ pos 5 ∷ pos 0 ∷ negsuc 1 ∷ negsuc 3 ∷ negsuc 4 ∷ pos 0 ∷ pos 2 ∷ negsuc 5 ∷ pos 0 ∷ pos 4 ∷ negsuc 5 ∷ pos 0 ∷ negsuc 1 ∷ negsuc 3 ∷ pos 6 ∷ pos 0 ∷ pos 7 ∷ pos 7 ∷ pos 7 ∷ [] } }
          ∷ record { x = negsuc 4 ∷ negsuc 2147483642 ∷ []; first = 2147483644; call = record { c = 3; w = 2; recipe = 32 ∷ 4 ∷ 0 ∷ 0 ∷ 3 ∷ []; bits = 6; clauses = 55; bit_room = negsuc 4 ∷ pos 2147483644 ∷ pos 2147483646 ∷ pos 2147483647 ∷ pos 7 ∷ pos 7 ∷ []; clause_room = negsuc 4 ∷ negsuc 2147483642 ∷ negsuc 2147483643 ∷ pos 0 ∷ negsuc 4 ∷ pos 2147483643 ∷ pos 2147483644 ∷ pos 0 ∷ pos 5 ∷ negsuc 2147483642 ∷ pos 2147483644 ∷ pos 0 ∷ pos 5 ∷ pos 2147483643 ∷ negsuc 2147483643 ∷ pos 0 ∷ negsuc 4 ∷ negsuc 2147483644 ∷ pos 0 ∷ negsuc 2147483642 ∷ negsuc 2147483644 ∷ pos 0 ∷ pos 5 ∷ pos 2147483643 ∷ pos 2147483645 ∷ pos 0 ∷ negsuc 2147483642 ∷ pos 2147483645 ∷ negsuc 2147483645 ∷ pos 0 ∷ negsuc 2147483642 ∷ negsuc 2147483644 ∷ pos 2147483646 ∷ pos 0 ∷ pos 2147483643 ∷ pos 2147483645 ∷ pos 2147483646 ∷ pos 0 ∷ pos 2147483643 ∷ negsuc 2147483644 ∷ negsuc 2147483645 ∷ pos 0 ∷ negsuc 2147483642 ∷ negsuc 2147483646 ∷ pos 0 ∷ pos 2147483645 ∷ negsuc 2147483646 ∷ pos 0 ∷ pos 2147483643 ∷ negsuc 2147483644 ∷ pos 2147483647 ∷ pos 0 ∷ pos 7 ∷ pos 7 ∷ pos 7 ∷ [] } }
          ∷ record { x = pos 40 ∷ negsuc 16 ∷ []; first = 900; call = record { c = 6; w = 2; recipe = 32 ∷ 4 ∷ 0 ∷ 0 ∷ 3 ∷ []; bits = 7; clauses = 55; bit_room = pos 0 ∷ pos 40 ∷ pos 900 ∷ pos 902 ∷ pos 903 ∷ pos 7 ∷ pos 7 ∷ []; clause_room = pos 40 ∷ negsuc 16 ∷ negsuc 899 ∷ pos 0 ∷ pos 40 ∷ pos 17 ∷ pos 900 ∷ pos 0 ∷ negsuc 39 ∷ negsuc 16 ∷ pos 900 ∷ pos 0 ∷ negsuc 39 ∷ pos 17 ∷ negsuc 899 ∷ pos 0 ∷ pos 40 ∷ negsuc 900 ∷ pos 0 ∷ negsuc 16 ∷ negsuc 900 ∷ pos 0 ∷ negsuc 39 ∷ pos 17 ∷ pos 901 ∷ pos 0 ∷ negsuc 16 ∷ pos 901 ∷ negsuc 901 ∷ pos 0 ∷ negsuc 16 ∷ negsuc 900 ∷ pos 902 ∷ pos 0 ∷ pos 17 ∷ pos 901 ∷ pos 902 ∷ pos 0 ∷ pos 17 ∷ negsuc 900 ∷ negsuc 901 ∷ pos 0 ∷ negsuc 16 ∷ negsuc 902 ∷ pos 0 ∷ pos 901 ∷ negsuc 902 ∷ pos 0 ∷ pos 17 ∷ negsuc 900 ∷ pos 903 ∷ pos 0 ∷ pos 7 ∷ pos 7 ∷ pos 7 ∷ [] } }
          ∷ record { x = negsuc 8 ∷ []; first = 12; call = record { c = 5; w = 1; recipe = 32 ∷ 4 ∷ 0 ∷ 0 ∷ 3 ∷ 64 ∷ 132 ∷ 0 ∷ 0 ∷ 5 ∷ []; bits = 5; clauses = 3; bit_room = negsuc 8 ∷ pos 0 ∷ negsuc 8 ∷ pos 7 ∷ pos 7 ∷ []; clause_room = pos 7 ∷ pos 7 ∷ pos 7 ∷ [] } }
          ∷ record { x = negsuc 8 ∷ pos 4 ∷ []; first = 12; call = record { c = 15; w = 2; recipe = 32 ∷ 8 ∷ 0 ∷ 0 ∷ 5 ∷ 64 ∷ 136 ∷ 16 ∷ 0 ∷ 15 ∷ []; bits = 8; clauses = 71; bit_room = negsuc 8 ∷ pos 12 ∷ negsuc 12 ∷ negsuc 12 ∷ pos 14 ∷ pos 16 ∷ pos 7 ∷ pos 7 ∷ []; clause_room = negsuc 3 ∷ pos 9 ∷ negsuc 11 ∷ pos 0 ∷ negsuc 3 ∷ negsuc 8 ∷ pos 12 ∷ pos 0 ∷ pos 4 ∷ pos 9 ∷ pos 12 ∷ pos 0 ∷ pos 4 ∷ negsuc 8 ∷ negsuc 11 ∷ pos 0 ∷ negsuc 3 ∷ negsuc 12 ∷ pos 0 ∷ pos 9 ∷ negsuc 12 ∷ pos 0 ∷ pos 4 ∷ negsuc 8 ∷ pos 13 ∷ pos 0 ∷ negsuc 8 ∷ pos 13 ∷ pos 14 ∷ pos 0 ∷ negsuc 8 ∷ negsuc 12 ∷ negsuc 13 ∷ pos 0 ∷ pos 9 ∷ pos 13 ∷ negsuc 13 ∷ pos 0 ∷ pos 9 ∷ negsuc 12 ∷ pos 14 ∷ pos 0 ∷ pos 9 ∷ pos 15 ∷ pos 0 ∷ negsuc 12 ∷ pos 15 ∷ pos 0 ∷ negsuc 8 ∷ pos 13 ∷ negsuc 14 ∷ pos 0 ∷ pos 4 ∷ pos 15 ∷ pos 16 ∷ pos 0 ∷ pos 4 ∷ negsuc 14 ∷ negsuc 15 ∷ pos 0 ∷ negsuc 3 ∷ pos 15 ∷ negsuc 15 ∷ pos 0 ∷ negsuc 3 ∷ negsuc 14 ∷ pos 16 ∷ pos 0 ∷ pos 7 ∷ pos 7 ∷ pos 7 ∷ [] } }
          ∷ record { x = negsuc 4 ∷ pos 4 ∷ []; first = 2147483645; call = record { c = 3; w = 2; recipe = 32 ∷ 4 ∷ 0 ∷ 0 ∷ 3 ∷ []; bits = 6; clauses = 55; bit_room = pos 7 ∷ pos 7 ∷ pos 7 ∷ pos 7 ∷ pos 7 ∷ pos 7 ∷ []; clause_room = pos 7 ∷ pos 7 ∷ pos 7 ∷ pos 7 ∷ pos 7 ∷ pos 7 ∷ pos 7 ∷ pos 7 ∷ pos 7 ∷ pos 7 ∷ pos 7 ∷ pos 7 ∷ pos 7 ∷ pos 7 ∷ pos 7 ∷ pos 7 ∷ pos 7 ∷ pos 7 ∷ pos 7 ∷ pos 7 ∷ pos 7 ∷ pos 7 ∷ pos 7 ∷ pos 7 ∷ pos 7 ∷ pos 7 ∷ pos 7 ∷ pos 7 ∷ pos 7 ∷ pos 7 ∷ pos 7 ∷ pos 7 ∷ pos 7 ∷ pos 7 ∷ pos 7 ∷ pos 7 ∷ pos 7 ∷ pos 7 ∷ pos 7 ∷ pos 7 ∷ pos 7 ∷ pos 7 ∷ pos 7 ∷ pos 7 ∷ pos 7 ∷ pos 7 ∷ pos 7 ∷ pos 7 ∷ pos 7 ∷ pos 7 ∷ pos 7 ∷ pos 7 ∷ pos 7 ∷ pos 7 ∷ pos 7 ∷ [] } }
          ∷ record { x = negsuc 3 ∷ pos 4 ∷ []; first = 5; call = record { c = 3; w = 2; recipe = 32 ∷ 4 ∷ 0 ∷ 0 ∷ 3 ∷ []; bits = 6; clauses = 55; bit_room = pos 7 ∷ pos 7 ∷ pos 7 ∷ pos 7 ∷ pos 7 ∷ pos 7 ∷ []; clause_room = pos 7 ∷ pos 7 ∷ pos 7 ∷ pos 7 ∷ pos 7 ∷ pos 7 ∷ pos 7 ∷ pos 7 ∷ pos 7 ∷ pos 7 ∷ pos 7 ∷ pos 7 ∷ pos 7 ∷ pos 7 ∷ pos 7 ∷ pos 7 ∷ pos 7 ∷ pos 7 ∷ pos 7 ∷ pos 7 ∷ pos 7 ∷ pos 7 ∷ pos 7 ∷ pos 7 ∷ pos 7 ∷ pos 7 ∷ pos 7 ∷ pos 7 ∷ pos 7 ∷ pos 7 ∷ pos 7 ∷ pos 7 ∷ pos 7 ∷ pos 7 ∷ pos 7 ∷ pos 7 ∷ pos 7 ∷ pos 7 ∷ pos 7 ∷ pos 7 ∷ pos 7 ∷ pos 7 ∷ pos 7 ∷ pos 7 ∷ pos 7 ∷ pos 7 ∷ pos 7 ∷ pos 7 ∷ pos 7 ∷ pos 7 ∷ pos 7 ∷ pos 7 ∷ pos 7 ∷ pos 7 ∷ pos 7 ∷ [] } }
          ∷ [];
      propagated =
          record { words = []; given = []; allowance = 0; room = []; number = 0; clauses = 0; left = [] }
          ∷ record { words = []; given = pos 3 ∷ negsuc 1 ∷ []; allowance = 0; room = 2 ∷ 2 ∷ 2 ∷ 2 ∷ []; number = 0; clauses = 0; left = 2 ∷ 0 ∷ 1 ∷ 2 ∷ [] }
          ∷ record { words = pos 1 ∷ pos 0 ∷ []; given = []; allowance = 1; room = 2 ∷ []; number = 0; clauses = 1; left = 1 ∷ [] }
          ∷ record { words = negsuc 1 ∷ pos 0 ∷ []; given = []; allowance = 1; room = 2 ∷ 2 ∷ 2 ∷ []; number = 0; clauses = 1; left = 2 ∷ 0 ∷ 2 ∷ [] }
          ∷ record { words = pos 1 ∷ negsuc 1 ∷ pos 0 ∷ []; given = pos 2 ∷ []; allowance = 1; room = 2 ∷ 2 ∷ []; number = 0; clauses = 1; left = 1 ∷ 1 ∷ [] }
          ∷ record { words = pos 2 ∷ pos 2 ∷ pos 0 ∷ []; given = []; allowance = 1; room = 2 ∷ 2 ∷ []; number = 0; clauses = 1; left = 2 ∷ 1 ∷ [] }
          ∷ record { words = negsuc 2 ∷ pos 1 ∷ negsuc 2 ∷ pos 2 ∷ negsuc 2 ∷ pos 0 ∷ []; given = negsuc 0 ∷ negsuc 1 ∷ []; allowance = 1; room = 2 ∷ 2 ∷ 2 ∷ []; number = 0; clauses = 1; left = 0 ∷ 0 ∷ 0 ∷ [] }
          ∷ record { words = negsuc 0 ∷ pos 2 ∷ pos 0 ∷ negsuc 1 ∷ pos 3 ∷ pos 0 ∷ []; given = pos 1 ∷ []; allowance = 2; room = 2 ∷ 2 ∷ 2 ∷ []; number = 0; clauses = 2; left = 1 ∷ 1 ∷ 1 ∷ [] }
          ∷ record { words = negsuc 1 ∷ pos 3 ∷ pos 0 ∷ negsuc 0 ∷ pos 2 ∷ pos 0 ∷ []; given = pos 1 ∷ []; allowance = 2; room = 2 ∷ 2 ∷ 2 ∷ []; number = 0; clauses = 2; left = 1 ∷ 1 ∷ 2 ∷ [] }
          ∷ record { words = pos 1 ∷ pos 2 ∷ pos 0 ∷ negsuc 0 ∷ pos 0 ∷ []; given = []; allowance = 2; room = 2 ∷ 2 ∷ []; number = 0; clauses = 2; left = 0 ∷ 2 ∷ [] }
          ∷ record { words = pos 1 ∷ pos 2 ∷ pos 0 ∷ []; given = pos 1 ∷ []; allowance = 1; room = 2 ∷ 2 ∷ []; number = 0; clauses = 1; left = 1 ∷ 2 ∷ [] }
          ∷ record { words = pos 2 ∷ negsuc 0 ∷ pos 0 ∷ []; given = negsuc 0 ∷ []; allowance = 1; room = 2 ∷ 2 ∷ []; number = 0; clauses = 1; left = 0 ∷ 2 ∷ [] }
          ∷ record { words = pos 1 ∷ pos 2 ∷ pos 0 ∷ []; given = negsuc 1 ∷ pos 1 ∷ []; allowance = 1; room = 2 ∷ 2 ∷ []; number = 0; clauses = 1; left = 1 ∷ 0 ∷ [] }
          ∷ record { words = pos 1 ∷ pos 0 ∷ pos 1 ∷ pos 0 ∷ []; given = []; allowance = 2; room = 2 ∷ []; number = 0; clauses = 2; left = 1 ∷ [] }
          ∷ record { words = pos 1 ∷ pos 2 ∷ pos 0 ∷ []; given = []; allowance = 1; room = 2 ∷ 2 ∷ []; number = 0; clauses = 1; left = 2 ∷ 2 ∷ [] }
          ∷ record { words = pos 1 ∷ pos 2 ∷ pos 3 ∷ pos 0 ∷ []; given = negsuc 1 ∷ []; allowance = 1; room = 2 ∷ 2 ∷ 2 ∷ []; number = 0; clauses = 1; left = 2 ∷ 0 ∷ 2 ∷ [] }
          ∷ record { words = pos 1 ∷ negsuc 0 ∷ pos 0 ∷ []; given = []; allowance = 1; room = 2 ∷ []; number = 0; clauses = 1; left = 2 ∷ [] }
          ∷ record { words = pos 1 ∷ pos 1 ∷ negsuc 0 ∷ pos 0 ∷ []; given = []; allowance = 1; room = 2 ∷ []; number = 0; clauses = 1; left = 2 ∷ [] }
          ∷ record { words = pos 1 ∷ pos 2 ∷ negsuc 1 ∷ pos 0 ∷ []; given = negsuc 0 ∷ []; allowance = 1; room = 2 ∷ 2 ∷ []; number = 0; clauses = 1; left = 0 ∷ 2 ∷ [] }
          ∷ record { words = pos 1 ∷ negsuc 0 ∷ pos 0 ∷ []; given = negsuc 0 ∷ []; allowance = 1; room = 2 ∷ []; number = 0; clauses = 1; left = 0 ∷ [] }
          ∷ record { words = pos 1 ∷ pos 0 ∷ []; given = []; allowance = 0; room = 2 ∷ []; number = 20; clauses = 0; left = 2 ∷ [] }
          ∷ record { words = pos 1 ∷ pos 0 ∷ pos 2 ∷ pos 0 ∷ []; given = []; allowance = 1; room = 2 ∷ 2 ∷ []; number = 20; clauses = 0; left = 2 ∷ 2 ∷ [] }
          ∷ record { words = pos 1 ∷ pos 0 ∷ pos 2 ∷ pos 0 ∷ []; given = []; allowance = 18446744073709551615; room = 2 ∷ 2 ∷ []; number = 0; clauses = 2; left = 1 ∷ 1 ∷ [] }
          ∷ record { words = pos 0 ∷ []; given = []; allowance = 0; room = []; number = 20; clauses = 0; left = [] }
          ∷ record { words = pos 1 ∷ []; given = []; allowance = 0; room = 2 ∷ []; number = 20; clauses = 0; left = 2 ∷ [] }
          ∷ record { words = pos 1 ∷ pos 0 ∷ pos 3 ∷ pos 0 ∷ []; given = []; allowance = 1; room = 2 ∷ 2 ∷ []; number = 20; clauses = 0; left = 2 ∷ 2 ∷ [] }
          ∷ record { words = pos 1 ∷ pos 0 ∷ negsuc 0 ∷ []; given = []; allowance = 1; room = 2 ∷ []; number = 20; clauses = 0; left = 2 ∷ [] }
          ∷ record { words = pos 1 ∷ []; given = []; allowance = 1; room = 2 ∷ []; number = 21; clauses = 0; left = 2 ∷ [] }
          ∷ record { words = pos 1 ∷ pos 0 ∷ pos 2 ∷ []; given = []; allowance = 2; room = 2 ∷ 2 ∷ []; number = 21; clauses = 0; left = 2 ∷ 2 ∷ [] }
          ∷ record { words = pos 2 ∷ pos 0 ∷ []; given = []; allowance = 1; room = 2 ∷ []; number = 21; clauses = 0; left = 2 ∷ [] }
          ∷ record { words = negsuc 1 ∷ pos 0 ∷ []; given = []; allowance = 1; room = 2 ∷ []; number = 21; clauses = 0; left = 2 ∷ [] }
          ∷ record { words = pos 1 ∷ pos 0 ∷ []; given = []; allowance = 1; room = []; number = 21; clauses = 0; left = [] }
          ∷ record { words = pos 1 ∷ pos 2 ∷ pos 0 ∷ []; given = pos 1 ∷ []; allowance = 1; room = 2 ∷ []; number = 21; clauses = 0; left = 2 ∷ [] }
          ∷ record { words = negsuc 2147483647 ∷ pos 0 ∷ []; given = []; allowance = 1; room = 2 ∷ 2 ∷ []; number = 21; clauses = 0; left = 2 ∷ 2 ∷ [] }
          ∷ record { words = pos 1 ∷ pos 2147483647 ∷ pos 0 ∷ []; given = []; allowance = 1; room = 2 ∷ []; number = 21; clauses = 0; left = 2 ∷ [] }
          ∷ record { words = negsuc 0 ∷ []; given = pos 1 ∷ []; allowance = 1; room = 2 ∷ []; number = 21; clauses = 0; left = 2 ∷ [] }
          ∷ record { words = negsuc 0 ∷ pos 2 ∷ pos 0 ∷ []; given = pos 1 ∷ []; allowance = 1; room = 2 ∷ []; number = 21; clauses = 0; left = 2 ∷ [] }
          ∷ record { words = pos 2 ∷ pos 0 ∷ pos 0 ∷ []; given = []; allowance = 1; room = 2 ∷ []; number = 21; clauses = 0; left = 2 ∷ [] }
          ∷ record { words = pos 0 ∷ []; given = []; allowance = 1; room = []; number = 22; clauses = 0; left = [] }
          ∷ record { words = pos 1 ∷ pos 0 ∷ pos 0 ∷ []; given = []; allowance = 2; room = 2 ∷ []; number = 22; clauses = 0; left = 2 ∷ [] }
          ∷ record { words = pos 1 ∷ pos 0 ∷ negsuc 0 ∷ pos 0 ∷ []; given = []; allowance = 2; room = 2 ∷ []; number = 22; clauses = 0; left = 2 ∷ [] }
          ∷ record { words = negsuc 0 ∷ negsuc 1 ∷ negsuc 0 ∷ pos 0 ∷ []; given = pos 1 ∷ pos 2 ∷ []; allowance = 1; room = 2 ∷ 2 ∷ []; number = 22; clauses = 0; left = 2 ∷ 2 ∷ [] }
          ∷ record { words = negsuc 0 ∷ pos 0 ∷ pos 2 ∷ []; given = pos 1 ∷ []; allowance = 2; room = 2 ∷ []; number = 22; clauses = 0; left = 2 ∷ [] }
          ∷ record { words = pos 0 ∷ pos 0 ∷ []; given = []; allowance = 1; room = 2 ∷ []; number = 22; clauses = 0; left = 2 ∷ [] }
          ∷ record { words = []; given = []; allowance = 0; room = 3 ∷ []; number = 26; clauses = 0; left = 3 ∷ [] }
          ∷ record { words = []; given = []; allowance = 0; room = 2 ∷ 1 ∷ []; number = 26; clauses = 0; left = 2 ∷ 1 ∷ [] }
          ∷ record { words = []; given = []; allowance = 0; room = 0 ∷ 2 ∷ []; number = 26; clauses = 0; left = 0 ∷ 2 ∷ [] }
          ∷ record { words = pos 1 ∷ pos 0 ∷ []; given = pos 0 ∷ []; allowance = 1; room = 2 ∷ []; number = 26; clauses = 0; left = 2 ∷ [] }
          ∷ record { words = pos 1 ∷ pos 0 ∷ []; given = pos 2 ∷ []; allowance = 1; room = 2 ∷ []; number = 26; clauses = 0; left = 2 ∷ [] }
          ∷ record { words = pos 1 ∷ pos 0 ∷ []; given = negsuc 1 ∷ []; allowance = 1; room = 2 ∷ []; number = 26; clauses = 0; left = 2 ∷ [] }
          ∷ record { words = pos 1 ∷ pos 0 ∷ []; given = pos 1 ∷ pos 1 ∷ []; allowance = 1; room = 2 ∷ []; number = 26; clauses = 0; left = 2 ∷ [] }
          ∷ record { words = pos 1 ∷ pos 0 ∷ []; given = negsuc 0 ∷ pos 1 ∷ []; allowance = 1; room = 2 ∷ []; number = 26; clauses = 0; left = 2 ∷ [] }
          ∷ record { words = pos 1 ∷ pos 0 ∷ []; given = negsuc 2147483647 ∷ []; allowance = 1; room = 2 ∷ []; number = 26; clauses = 0; left = 2 ∷ [] }
          ∷ record { words = pos 1 ∷ pos 0 ∷ []; given = pos 2147483647 ∷ []; allowance = 1; room = 2 ∷ []; number = 26; clauses = 0; left = 2 ∷ [] }
          ∷ record { words = []; given = pos 1 ∷ []; allowance = 0; room = []; number = 26; clauses = 0; left = [] }
          ∷ record { words = negsuc 1 ∷ []; given = pos 1 ∷ pos 2 ∷ negsuc 0 ∷ []; allowance = 0; room = 2 ∷ 2 ∷ []; number = 26; clauses = 0; left = 2 ∷ 2 ∷ [] }
          ∷ record { words = pos 0 ∷ pos 5 ∷ []; given = []; allowance = 0; room = 1 ∷ []; number = 26; clauses = 0; left = 1 ∷ [] }
          ∷ record { words = pos 1 ∷ pos 2 ∷ negsuc 2 ∷ pos 0 ∷ pos 1 ∷ negsuc 1 ∷ pos 3 ∷ pos 0 ∷ negsuc 0 ∷ pos 2 ∷ pos 3 ∷ pos 0 ∷ negsuc 0 ∷ negsuc 1 ∷ negsuc 2 ∷ pos 0 ∷ pos 1 ∷ negsuc 3 ∷ pos 0 ∷ pos 2 ∷ negsuc 3 ∷ pos 0 ∷ negsuc 0 ∷ negsuc 1 ∷ pos 4 ∷ pos 0 ∷ pos 2 ∷ pos 4 ∷ negsuc 4 ∷ pos 0 ∷ pos 2 ∷ negsuc 3 ∷ pos 5 ∷ pos 0 ∷ negsuc 1 ∷ pos 4 ∷ pos 5 ∷ pos 0 ∷ negsuc 1 ∷ negsuc 3 ∷ negsuc 4 ∷ pos 0 ∷ pos 2 ∷ negsuc 5 ∷ pos 0 ∷ pos 4 ∷ negsuc 5 ∷ pos 0 ∷ negsuc 1 ∷ negsuc 3 ∷ pos 6 ∷ pos 0 ∷ []; given = negsuc 0 ∷ negsuc 1 ∷ []; allowance = 14; room = 2 ∷ 2 ∷ 2 ∷ 2 ∷ 2 ∷ 2 ∷ []; number = 0; clauses = 14; left = 0 ∷ 0 ∷ 0 ∷ 0 ∷ 0 ∷ 0 ∷ [] }
          ∷ record { words = pos 1 ∷ pos 2 ∷ negsuc 2 ∷ pos 0 ∷ pos 1 ∷ negsuc 1 ∷ pos 3 ∷ pos 0 ∷ negsuc 0 ∷ pos 2 ∷ pos 3 ∷ pos 0 ∷ negsuc 0 ∷ negsuc 1 ∷ negsuc 2 ∷ pos 0 ∷ pos 1 ∷ negsuc 3 ∷ pos 0 ∷ pos 2 ∷ negsuc 3 ∷ pos 0 ∷ negsuc 0 ∷ negsuc 1 ∷ pos 4 ∷ pos 0 ∷ pos 2 ∷ pos 4 ∷ negsuc 4 ∷ pos 0 ∷ pos 2 ∷ negsuc 3 ∷ pos 5 ∷ pos 0 ∷ negsuc 1 ∷ pos 4 ∷ pos 5 ∷ pos 0 ∷ negsuc 1 ∷ negsuc 3 ∷ negsuc 4 ∷ pos 0 ∷ pos 2 ∷ negsuc 5 ∷ pos 0 ∷ pos 4 ∷ negsuc 5 ∷ pos 0 ∷ negsuc 1 ∷ negsuc 3 ∷ pos 6 ∷ pos 0 ∷ []; given = pos 1 ∷ negsuc 1 ∷ []; allowance = 14; room = 2 ∷ 2 ∷ 2 ∷ 2 ∷ 2 ∷ 2 ∷ []; number = 0; clauses = 14; left = 1 ∷ 0 ∷ 1 ∷ 0 ∷ 0 ∷ 0 ∷ [] }
          ∷ record { words = pos 1 ∷ pos 2 ∷ negsuc 2 ∷ pos 0 ∷ pos 1 ∷ negsuc 1 ∷ pos 3 ∷ pos 0 ∷ negsuc 0 ∷ pos 2 ∷ pos 3 ∷ pos 0 ∷ negsuc 0 ∷ negsuc 1 ∷ negsuc 2 ∷ pos 0 ∷ pos 1 ∷ negsuc 3 ∷ pos 0 ∷ pos 2 ∷ negsuc 3 ∷ pos 0 ∷ negsuc 0 ∷ negsuc 1 ∷ pos 4 ∷ pos 0 ∷ pos 2 ∷ pos 4 ∷ negsuc 4 ∷ pos 0 ∷ pos 2 ∷ negsuc 3 ∷ pos 5 ∷ pos 0 ∷ negsuc 1 ∷ pos 4 ∷ pos 5 ∷ pos 0 ∷ negsuc 1 ∷ negsuc 3 ∷ negsuc 4 ∷ pos 0 ∷ pos 2 ∷ negsuc 5 ∷ pos 0 ∷ pos 4 ∷ negsuc 5 ∷ pos 0 ∷ negsuc 1 ∷ negsuc 3 ∷ pos 6 ∷ pos 0 ∷ []; given = negsuc 0 ∷ pos 2 ∷ []; allowance = 14; room = 2 ∷ 2 ∷ 2 ∷ 2 ∷ 2 ∷ 2 ∷ []; number = 0; clauses = 14; left = 0 ∷ 1 ∷ 1 ∷ 0 ∷ 1 ∷ 0 ∷ [] }
          ∷ record { words = pos 1 ∷ pos 2 ∷ negsuc 2 ∷ pos 0 ∷ pos 1 ∷ negsuc 1 ∷ pos 3 ∷ pos 0 ∷ negsuc 0 ∷ pos 2 ∷ pos 3 ∷ pos 0 ∷ negsuc 0 ∷ negsuc 1 ∷ negsuc 2 ∷ pos 0 ∷ pos 1 ∷ negsuc 3 ∷ pos 0 ∷ pos 2 ∷ negsuc 3 ∷ pos 0 ∷ negsuc 0 ∷ negsuc 1 ∷ pos 4 ∷ pos 0 ∷ pos 2 ∷ pos 4 ∷ negsuc 4 ∷ pos 0 ∷ pos 2 ∷ negsuc 3 ∷ pos 5 ∷ pos 0 ∷ negsuc 1 ∷ pos 4 ∷ pos 5 ∷ pos 0 ∷ negsuc 1 ∷ negsuc 3 ∷ negsuc 4 ∷ pos 0 ∷ pos 2 ∷ negsuc 5 ∷ pos 0 ∷ pos 4 ∷ negsuc 5 ∷ pos 0 ∷ negsuc 1 ∷ negsuc 3 ∷ pos 6 ∷ pos 0 ∷ []; given = pos 1 ∷ pos 2 ∷ []; allowance = 14; room = 2 ∷ 2 ∷ 2 ∷ 2 ∷ 2 ∷ 2 ∷ []; number = 0; clauses = 14; left = 1 ∷ 1 ∷ 0 ∷ 1 ∷ 0 ∷ 1 ∷ [] }
          ∷ record { words = pos 2 ∷ pos 3 ∷ negsuc 3 ∷ pos 0 ∷ pos 2 ∷ negsuc 2 ∷ pos 4 ∷ pos 0 ∷ negsuc 1 ∷ pos 3 ∷ pos 4 ∷ pos 0 ∷ negsuc 1 ∷ negsuc 2 ∷ negsuc 3 ∷ pos 0 ∷ pos 2 ∷ negsuc 4 ∷ pos 0 ∷ pos 3 ∷ negsuc 4 ∷ pos 0 ∷ negsuc 1 ∷ negsuc 2 ∷ pos 5 ∷ pos 0 ∷ negsuc 0 ∷ pos 5 ∷ negsuc 5 ∷ pos 0 ∷ negsuc 0 ∷ negsuc 4 ∷ pos 6 ∷ pos 0 ∷ pos 1 ∷ pos 5 ∷ pos 6 ∷ pos 0 ∷ pos 1 ∷ negsuc 4 ∷ negsuc 5 ∷ pos 0 ∷ negsuc 0 ∷ negsuc 6 ∷ pos 0 ∷ pos 5 ∷ negsuc 6 ∷ pos 0 ∷ pos 1 ∷ negsuc 4 ∷ pos 7 ∷ pos 0 ∷ pos 3 ∷ pos 7 ∷ negsuc 7 ∷ pos 0 ∷ pos 3 ∷ negsuc 6 ∷ pos 8 ∷ pos 0 ∷ negsuc 2 ∷ pos 7 ∷ pos 8 ∷ pos 0 ∷ negsuc 2 ∷ negsuc 6 ∷ negsuc 7 ∷ pos 0 ∷ pos 3 ∷ negsuc 8 ∷ pos 0 ∷ pos 7 ∷ negsuc 8 ∷ pos 0 ∷ negsuc 2 ∷ negsuc 6 ∷ pos 9 ∷ pos 0 ∷ []; given = negsuc 1 ∷ pos 1 ∷ negsuc 2 ∷ []; allowance = 21; room = 2 ∷ 2 ∷ 2 ∷ 2 ∷ 2 ∷ 2 ∷ 2 ∷ 2 ∷ 2 ∷ []; number = 0; clauses = 21; left = 1 ∷ 0 ∷ 0 ∷ 0 ∷ 0 ∷ 0 ∷ 0 ∷ 0 ∷ 0 ∷ [] }
          ∷ record { words = pos 2 ∷ pos 3 ∷ negsuc 3 ∷ pos 0 ∷ pos 2 ∷ negsuc 2 ∷ pos 4 ∷ pos 0 ∷ negsuc 1 ∷ pos 3 ∷ pos 4 ∷ pos 0 ∷ negsuc 1 ∷ negsuc 2 ∷ negsuc 3 ∷ pos 0 ∷ pos 2 ∷ negsuc 4 ∷ pos 0 ∷ pos 3 ∷ negsuc 4 ∷ pos 0 ∷ negsuc 1 ∷ negsuc 2 ∷ pos 5 ∷ pos 0 ∷ negsuc 0 ∷ pos 5 ∷ negsuc 5 ∷ pos 0 ∷ negsuc 0 ∷ negsuc 4 ∷ pos 6 ∷ pos 0 ∷ pos 1 ∷ pos 5 ∷ pos 6 ∷ pos 0 ∷ pos 1 ∷ negsuc 4 ∷ negsuc 5 ∷ pos 0 ∷ negsuc 0 ∷ negsuc 6 ∷ pos 0 ∷ pos 5 ∷ negsuc 6 ∷ pos 0 ∷ pos 1 ∷ negsuc 4 ∷ pos 7 ∷ pos 0 ∷ pos 3 ∷ pos 7 ∷ negsuc 7 ∷ pos 0 ∷ pos 3 ∷ negsuc 6 ∷ pos 8 ∷ pos 0 ∷ negsuc 2 ∷ pos 7 ∷ pos 8 ∷ pos 0 ∷ negsuc 2 ∷ negsuc 6 ∷ negsuc 7 ∷ pos 0 ∷ pos 3 ∷ negsuc 8 ∷ pos 0 ∷ pos 7 ∷ negsuc 8 ∷ pos 0 ∷ negsuc 2 ∷ negsuc 6 ∷ pos 9 ∷ pos 0 ∷ []; given = pos 2 ∷ pos 1 ∷ negsuc 2 ∷ []; allowance = 21; room = 2 ∷ 2 ∷ 2 ∷ 2 ∷ 2 ∷ 2 ∷ 2 ∷ 2 ∷ 2 ∷ []; number = 0; clauses = 21; left = 1 ∷ 1 ∷ 0 ∷ 1 ∷ 0 ∷ 0 ∷ 0 ∷ 0 ∷ 0 ∷ [] }
          ∷ record { words = pos 2 ∷ pos 3 ∷ negsuc 3 ∷ pos 0 ∷ pos 2 ∷ negsuc 2 ∷ pos 4 ∷ pos 0 ∷ negsuc 1 ∷ pos 3 ∷ pos 4 ∷ pos 0 ∷ negsuc 1 ∷ negsuc 2 ∷ negsuc 3 ∷ pos 0 ∷ pos 2 ∷ negsuc 4 ∷ pos 0 ∷ pos 3 ∷ negsuc 4 ∷ pos 0 ∷ negsuc 1 ∷ negsuc 2 ∷ pos 5 ∷ pos 0 ∷ negsuc 0 ∷ pos 5 ∷ negsuc 5 ∷ pos 0 ∷ negsuc 0 ∷ negsuc 4 ∷ pos 6 ∷ pos 0 ∷ pos 1 ∷ pos 5 ∷ pos 6 ∷ pos 0 ∷ pos 1 ∷ negsuc 4 ∷ negsuc 5 ∷ pos 0 ∷ negsuc 0 ∷ negsuc 6 ∷ pos 0 ∷ pos 5 ∷ negsuc 6 ∷ pos 0 ∷ pos 1 ∷ negsuc 4 ∷ pos 7 ∷ pos 0 ∷ pos 3 ∷ pos 7 ∷ negsuc 7 ∷ pos 0 ∷ pos 3 ∷ negsuc 6 ∷ pos 8 ∷ pos 0 ∷ negsuc 2 ∷ pos 7 ∷ pos 8 ∷ pos 0 ∷ negsuc 2 ∷ negsuc 6 ∷ negsuc 7 ∷ pos 0 ∷ pos 3 ∷ negsuc 8 ∷ pos 0 ∷ pos 7 ∷ negsuc 8 ∷ pos 0 ∷ negsuc 2 ∷ negsuc 6 ∷ pos 9 ∷ pos 0 ∷ []; given = negsuc 1 ∷ negsuc 0 ∷ negsuc 2 ∷ []; allowance = 21; room = 2 ∷ 2 ∷ 2 ∷ 2 ∷ 2 ∷ 2 ∷ 2 ∷ 2 ∷ 2 ∷ []; number = 0; clauses = 21; left = 0 ∷ 0 ∷ 0 ∷ 0 ∷ 0 ∷ 1 ∷ 0 ∷ 0 ∷ 0 ∷ [] }
          ∷ record { words = pos 2 ∷ pos 3 ∷ negsuc 3 ∷ pos 0 ∷ pos 2 ∷ negsuc 2 ∷ pos 4 ∷ pos 0 ∷ negsuc 1 ∷ pos 3 ∷ pos 4 ∷ pos 0 ∷ negsuc 1 ∷ negsuc 2 ∷ negsuc 3 ∷ pos 0 ∷ pos 2 ∷ negsuc 4 ∷ pos 0 ∷ pos 3 ∷ negsuc 4 ∷ pos 0 ∷ negsuc 1 ∷ negsuc 2 ∷ pos 5 ∷ pos 0 ∷ negsuc 0 ∷ pos 5 ∷ negsuc 5 ∷ pos 0 ∷ negsuc 0 ∷ negsuc 4 ∷ pos 6 ∷ pos 0 ∷ pos 1 ∷ pos 5 ∷ pos 6 ∷ pos 0 ∷ pos 1 ∷ negsuc 4 ∷ negsuc 5 ∷ pos 0 ∷ negsuc 0 ∷ negsuc 6 ∷ pos 0 ∷ pos 5 ∷ negsuc 6 ∷ pos 0 ∷ pos 1 ∷ negsuc 4 ∷ pos 7 ∷ pos 0 ∷ pos 3 ∷ pos 7 ∷ negsuc 7 ∷ pos 0 ∷ pos 3 ∷ negsuc 6 ∷ pos 8 ∷ pos 0 ∷ negsuc 2 ∷ pos 7 ∷ pos 8 ∷ pos 0 ∷ negsuc 2 ∷ negsuc 6 ∷ negsuc 7 ∷ pos 0 ∷ pos 3 ∷ negsuc 8 ∷ pos 0 ∷ pos 7 ∷ negsuc 8 ∷ pos 0 ∷ negsuc 2 ∷ negsuc 6 ∷ pos 9 ∷ pos 0 ∷ []; given = pos 2 ∷ negsuc 0 ∷ negsuc 2 ∷ []; allowance = 21; room = 2 ∷ 2 ∷ 2 ∷ 2 ∷ 2 ∷ 2 ∷ 2 ∷ 2 ∷ 2 ∷ []; number = 0; clauses = 21; left = 0 ∷ 1 ∷ 0 ∷ 1 ∷ 0 ∷ 1 ∷ 0 ∷ 0 ∷ 0 ∷ [] }
          ∷ record { words = pos 2 ∷ pos 3 ∷ negsuc 3 ∷ pos 0 ∷ pos 2 ∷ negsuc 2 ∷ pos 4 ∷ pos 0 ∷ negsuc 1 ∷ pos 3 ∷ pos 4 ∷ pos 0 ∷ negsuc 1 ∷ negsuc 2 ∷ negsuc 3 ∷ pos 0 ∷ pos 2 ∷ negsuc 4 ∷ pos 0 ∷ pos 3 ∷ negsuc 4 ∷ pos 0 ∷ negsuc 1 ∷ negsuc 2 ∷ pos 5 ∷ pos 0 ∷ negsuc 0 ∷ pos 5 ∷ negsuc 5 ∷ pos 0 ∷ negsuc 0 ∷ negsuc 4 ∷ pos 6 ∷ pos 0 ∷ pos 1 ∷ pos 5 ∷ pos 6 ∷ pos 0 ∷ pos 1 ∷ negsuc 4 ∷ negsuc 5 ∷ pos 0 ∷ negsuc 0 ∷ negsuc 6 ∷ pos 0 ∷ pos 5 ∷ negsuc 6 ∷ pos 0 ∷ pos 1 ∷ negsuc 4 ∷ pos 7 ∷ pos 0 ∷ pos 3 ∷ pos 7 ∷ negsuc 7 ∷ pos 0 ∷ pos 3 ∷ negsuc 6 ∷ pos 8 ∷ pos 0 ∷ negsuc 2 ∷ pos 7 ∷ pos 8 ∷ pos 0 ∷ negsuc 2 ∷ negsuc 6 ∷ negsuc 7 ∷ pos 0 ∷ pos 3 ∷ negsuc 8 ∷ pos 0 ∷ pos 7 ∷ negsuc 8 ∷ pos 0 ∷ negsuc 2 ∷ negsuc 6 ∷ pos 9 ∷ pos 0 ∷ []; given = negsuc 1 ∷ pos 1 ∷ pos 3 ∷ []; allowance = 21; room = 2 ∷ 2 ∷ 2 ∷ 2 ∷ 2 ∷ 2 ∷ 2 ∷ 2 ∷ 2 ∷ []; number = 0; clauses = 21; left = 1 ∷ 0 ∷ 1 ∷ 1 ∷ 0 ∷ 0 ∷ 0 ∷ 1 ∷ 0 ∷ [] }
          ∷ record { words = pos 2 ∷ pos 3 ∷ negsuc 3 ∷ pos 0 ∷ pos 2 ∷ negsuc 2 ∷ pos 4 ∷ pos 0 ∷ negsuc 1 ∷ pos 3 ∷ pos 4 ∷ pos 0 ∷ negsuc 1 ∷ negsuc 2 ∷ negsuc 3 ∷ pos 0 ∷ pos 2 ∷ negsuc 4 ∷ pos 0 ∷ pos 3 ∷ negsuc 4 ∷ pos 0 ∷ negsuc 1 ∷ negsuc 2 ∷ pos 5 ∷ pos 0 ∷ negsuc 0 ∷ pos 5 ∷ negsuc 5 ∷ pos 0 ∷ negsuc 0 ∷ negsuc 4 ∷ pos 6 ∷ pos 0 ∷ pos 1 ∷ pos 5 ∷ pos 6 ∷ pos 0 ∷ pos 1 ∷ negsuc 4 ∷ negsuc 5 ∷ pos 0 ∷ negsuc 0 ∷ negsuc 6 ∷ pos 0 ∷ pos 5 ∷ negsuc 6 ∷ pos 0 ∷ pos 1 ∷ negsuc 4 ∷ pos 7 ∷ pos 0 ∷ pos 3 ∷ pos 7 ∷ negsuc 7 ∷ pos 0 ∷ pos 3 ∷ negsuc 6 ∷ pos 8 ∷ pos 0 ∷ negsuc 2 ∷ pos 7 ∷ pos 8 ∷ pos 0 ∷ negsuc 2 ∷ negsuc 6 ∷ negsuc 7 ∷ pos 0 ∷ pos 3 ∷ negsuc 8 ∷ pos 0 ∷ pos 7 ∷ negsuc 8 ∷ pos 0 ∷ negsuc 2 ∷ negsuc 6 ∷ pos 9 ∷ pos 0 ∷ []; given = pos 2 ∷ pos 1 ∷ pos 3 ∷ []; allowance = 21; room = 2 ∷ 2 ∷ 2 ∷ 2 ∷ 2 ∷ 2 ∷ 2 ∷ 2 ∷ 2 ∷ []; number = 0; clauses = 21; left = 1 ∷ 1 ∷ 1 ∷ 0 ∷ 1 ∷ 1 ∷ 0 ∷ 1 ∷ 0 ∷ [] }
          ∷ record { words = pos 2 ∷ pos 3 ∷ negsuc 3 ∷ pos 0 ∷ pos 2 ∷ negsuc 2 ∷ pos 4 ∷ pos 0 ∷ negsuc 1 ∷ pos 3 ∷ pos 4 ∷ pos 0 ∷ negsuc 1 ∷ negsuc 2 ∷ negsuc 3 ∷ pos 0 ∷ pos 2 ∷ negsuc 4 ∷ pos 0 ∷ pos 3 ∷ negsuc 4 ∷ pos 0 ∷ negsuc 1 ∷ negsuc 2 ∷ pos 5 ∷ pos 0 ∷ negsuc 0 ∷ pos 5 ∷ negsuc 5 ∷ pos 0 ∷ negsuc 0 ∷ negsuc 4 ∷ pos 6 ∷ pos 0 ∷ pos 1 ∷ pos 5 ∷ pos 6 ∷ pos 0 ∷ pos 1 ∷ negsuc 4 ∷ negsuc 5 ∷ pos 0 ∷ negsuc 0 ∷ negsuc 6 ∷ pos 0 ∷ pos 5 ∷ negsuc 6 ∷ pos 0 ∷ pos 1 ∷ negsuc 4 ∷ pos 7 ∷ pos 0 ∷ pos 3 ∷ pos 7 ∷ negsuc 7 ∷ pos 0 ∷ pos 3 ∷ negsuc 6 ∷ pos 8 ∷ pos 0 ∷ negsuc 2 ∷ pos 7 ∷ pos 8 ∷ pos 0 ∷ negsuc 2 ∷ negsuc 6 ∷ negsuc 7 ∷ pos 0 ∷ pos 3 ∷ negsuc 8 ∷ pos 0 ∷ pos 7 ∷ negsuc 8 ∷ pos 0 ∷ negsuc 2 ∷ negsuc 6 ∷ pos 9 ∷ pos 0 ∷ []; given = negsuc 1 ∷ negsuc 0 ∷ pos 3 ∷ []; allowance = 21; room = 2 ∷ 2 ∷ 2 ∷ 2 ∷ 2 ∷ 2 ∷ 2 ∷ 2 ∷ 2 ∷ []; number = 0; clauses = 21; left = 0 ∷ 0 ∷ 1 ∷ 1 ∷ 0 ∷ 1 ∷ 0 ∷ 1 ∷ 0 ∷ [] }
          ∷ record { words = pos 2 ∷ pos 3 ∷ negsuc 3 ∷ pos 0 ∷ pos 2 ∷ negsuc 2 ∷ pos 4 ∷ pos 0 ∷ negsuc 1 ∷ pos 3 ∷ pos 4 ∷ pos 0 ∷ negsuc 1 ∷ negsuc 2 ∷ negsuc 3 ∷ pos 0 ∷ pos 2 ∷ negsuc 4 ∷ pos 0 ∷ pos 3 ∷ negsuc 4 ∷ pos 0 ∷ negsuc 1 ∷ negsuc 2 ∷ pos 5 ∷ pos 0 ∷ negsuc 0 ∷ pos 5 ∷ negsuc 5 ∷ pos 0 ∷ negsuc 0 ∷ negsuc 4 ∷ pos 6 ∷ pos 0 ∷ pos 1 ∷ pos 5 ∷ pos 6 ∷ pos 0 ∷ pos 1 ∷ negsuc 4 ∷ negsuc 5 ∷ pos 0 ∷ negsuc 0 ∷ negsuc 6 ∷ pos 0 ∷ pos 5 ∷ negsuc 6 ∷ pos 0 ∷ pos 1 ∷ negsuc 4 ∷ pos 7 ∷ pos 0 ∷ pos 3 ∷ pos 7 ∷ negsuc 7 ∷ pos 0 ∷ pos 3 ∷ negsuc 6 ∷ pos 8 ∷ pos 0 ∷ negsuc 2 ∷ pos 7 ∷ pos 8 ∷ pos 0 ∷ negsuc 2 ∷ negsuc 6 ∷ negsuc 7 ∷ pos 0 ∷ pos 3 ∷ negsuc 8 ∷ pos 0 ∷ pos 7 ∷ negsuc 8 ∷ pos 0 ∷ negsuc 2 ∷ negsuc 6 ∷ pos 9 ∷ pos 0 ∷ []; given = pos 2 ∷ negsuc 0 ∷ pos 3 ∷ []; allowance = 21; room = 2 ∷ 2 ∷ 2 ∷ 2 ∷ 2 ∷ 2 ∷ 2 ∷ 2 ∷ 2 ∷ []; number = 0; clauses = 21; left = 0 ∷ 1 ∷ 1 ∷ 0 ∷ 1 ∷ 0 ∷ 1 ∷ 0 ∷ 1 ∷ [] }
          ∷ record { words = negsuc 0 ∷ pos 3 ∷ negsuc 4 ∷ pos 0 ∷ negsuc 0 ∷ negsuc 2 ∷ pos 5 ∷ pos 0 ∷ pos 1 ∷ pos 3 ∷ pos 5 ∷ pos 0 ∷ pos 1 ∷ negsuc 2 ∷ negsuc 4 ∷ pos 0 ∷ negsuc 0 ∷ negsuc 5 ∷ pos 0 ∷ pos 3 ∷ negsuc 5 ∷ pos 0 ∷ pos 1 ∷ negsuc 2 ∷ pos 6 ∷ pos 0 ∷ negsuc 2 ∷ pos 6 ∷ pos 7 ∷ pos 0 ∷ negsuc 2 ∷ negsuc 5 ∷ negsuc 6 ∷ pos 0 ∷ pos 3 ∷ pos 6 ∷ negsuc 6 ∷ pos 0 ∷ pos 3 ∷ negsuc 5 ∷ pos 7 ∷ pos 0 ∷ pos 3 ∷ pos 8 ∷ pos 0 ∷ negsuc 5 ∷ pos 8 ∷ pos 0 ∷ negsuc 2 ∷ pos 6 ∷ negsuc 7 ∷ pos 0 ∷ pos 1 ∷ pos 8 ∷ pos 9 ∷ pos 0 ∷ pos 1 ∷ negsuc 7 ∷ negsuc 8 ∷ pos 0 ∷ negsuc 0 ∷ pos 8 ∷ negsuc 8 ∷ pos 0 ∷ negsuc 0 ∷ negsuc 7 ∷ pos 9 ∷ pos 0 ∷ []; given = pos 3 ∷ negsuc 0 ∷ []; allowance = 18; room = 2 ∷ 2 ∷ 2 ∷ 2 ∷ 2 ∷ 2 ∷ 2 ∷ 2 ∷ 2 ∷ []; number = 0; clauses = 18; left = 0 ∷ 2 ∷ 1 ∷ 2 ∷ 0 ∷ 1 ∷ 0 ∷ 1 ∷ 0 ∷ [] }
          ∷ record { words = negsuc 0 ∷ pos 3 ∷ negsuc 4 ∷ pos 0 ∷ negsuc 0 ∷ negsuc 2 ∷ pos 5 ∷ pos 0 ∷ pos 1 ∷ pos 3 ∷ pos 5 ∷ pos 0 ∷ pos 1 ∷ negsuc 2 ∷ negsuc 4 ∷ pos 0 ∷ negsuc 0 ∷ negsuc 5 ∷ pos 0 ∷ pos 3 ∷ negsuc 5 ∷ pos 0 ∷ pos 1 ∷ negsuc 2 ∷ pos 6 ∷ pos 0 ∷ negsuc 2 ∷ pos 6 ∷ pos 7 ∷ pos 0 ∷ negsuc 2 ∷ negsuc 5 ∷ negsuc 6 ∷ pos 0 ∷ pos 3 ∷ pos 6 ∷ negsuc 6 ∷ pos 0 ∷ pos 3 ∷ negsuc 5 ∷ pos 7 ∷ pos 0 ∷ pos 3 ∷ pos 8 ∷ pos 0 ∷ negsuc 5 ∷ pos 8 ∷ pos 0 ∷ negsuc 2 ∷ pos 6 ∷ negsuc 7 ∷ pos 0 ∷ pos 1 ∷ pos 8 ∷ pos 9 ∷ pos 0 ∷ pos 1 ∷ negsuc 7 ∷ negsuc 8 ∷ pos 0 ∷ negsuc 0 ∷ pos 8 ∷ negsuc 8 ∷ pos 0 ∷ negsuc 0 ∷ negsuc 7 ∷ pos 9 ∷ pos 0 ∷ []; given = negsuc 2 ∷ negsuc 0 ∷ []; allowance = 18; room = 2 ∷ 2 ∷ 2 ∷ 2 ∷ 2 ∷ 2 ∷ 2 ∷ 2 ∷ 2 ∷ []; number = 0; clauses = 18; left = 0 ∷ 2 ∷ 0 ∷ 2 ∷ 1 ∷ 0 ∷ 0 ∷ 1 ∷ 0 ∷ [] }
          ∷ record { words = negsuc 0 ∷ pos 3 ∷ negsuc 4 ∷ pos 0 ∷ negsuc 0 ∷ negsuc 2 ∷ pos 5 ∷ pos 0 ∷ pos 1 ∷ pos 3 ∷ pos 5 ∷ pos 0 ∷ pos 1 ∷ negsuc 2 ∷ negsuc 4 ∷ pos 0 ∷ negsuc 0 ∷ negsuc 5 ∷ pos 0 ∷ pos 3 ∷ negsuc 5 ∷ pos 0 ∷ pos 1 ∷ negsuc 2 ∷ pos 6 ∷ pos 0 ∷ negsuc 2 ∷ pos 6 ∷ pos 7 ∷ pos 0 ∷ negsuc 2 ∷ negsuc 5 ∷ negsuc 6 ∷ pos 0 ∷ pos 3 ∷ pos 6 ∷ negsuc 6 ∷ pos 0 ∷ pos 3 ∷ negsuc 5 ∷ pos 7 ∷ pos 0 ∷ pos 3 ∷ pos 8 ∷ pos 0 ∷ negsuc 5 ∷ pos 8 ∷ pos 0 ∷ negsuc 2 ∷ pos 6 ∷ negsuc 7 ∷ pos 0 ∷ pos 1 ∷ pos 8 ∷ pos 9 ∷ pos 0 ∷ pos 1 ∷ negsuc 7 ∷ negsuc 8 ∷ pos 0 ∷ negsuc 0 ∷ pos 8 ∷ negsuc 8 ∷ pos 0 ∷ negsuc 0 ∷ negsuc 7 ∷ pos 9 ∷ pos 0 ∷ []; given = pos 3 ∷ pos 1 ∷ []; allowance = 18; room = 2 ∷ 2 ∷ 2 ∷ 2 ∷ 2 ∷ 2 ∷ 2 ∷ 2 ∷ 2 ∷ []; number = 0; clauses = 18; left = 1 ∷ 2 ∷ 1 ∷ 2 ∷ 1 ∷ 0 ∷ 1 ∷ 0 ∷ 0 ∷ [] }
          ∷ record { words = negsuc 0 ∷ pos 3 ∷ negsuc 4 ∷ pos 0 ∷ negsuc 0 ∷ negsuc 2 ∷ pos 5 ∷ pos 0 ∷ pos 1 ∷ pos 3 ∷ pos 5 ∷ pos 0 ∷ pos 1 ∷ negsuc 2 ∷ negsuc 4 ∷ pos 0 ∷ negsuc 0 ∷ negsuc 5 ∷ pos 0 ∷ pos 3 ∷ negsuc 5 ∷ pos 0 ∷ pos 1 ∷ negsuc 2 ∷ pos 6 ∷ pos 0 ∷ negsuc 2 ∷ pos 6 ∷ pos 7 ∷ pos 0 ∷ negsuc 2 ∷ negsuc 5 ∷ negsuc 6 ∷ pos 0 ∷ pos 3 ∷ pos 6 ∷ negsuc 6 ∷ pos 0 ∷ pos 3 ∷ negsuc 5 ∷ pos 7 ∷ pos 0 ∷ pos 3 ∷ pos 8 ∷ pos 0 ∷ negsuc 5 ∷ pos 8 ∷ pos 0 ∷ negsuc 2 ∷ pos 6 ∷ negsuc 7 ∷ pos 0 ∷ pos 1 ∷ pos 8 ∷ pos 9 ∷ pos 0 ∷ pos 1 ∷ negsuc 7 ∷ negsuc 8 ∷ pos 0 ∷ negsuc 0 ∷ pos 8 ∷ negsuc 8 ∷ pos 0 ∷ negsuc 0 ∷ negsuc 7 ∷ pos 9 ∷ pos 0 ∷ []; given = negsuc 2 ∷ pos 1 ∷ []; allowance = 18; room = 2 ∷ 2 ∷ 2 ∷ 2 ∷ 2 ∷ 2 ∷ 2 ∷ 2 ∷ 2 ∷ []; number = 0; clauses = 18; left = 1 ∷ 2 ∷ 0 ∷ 2 ∷ 0 ∷ 0 ∷ 0 ∷ 1 ∷ 1 ∷ [] }
          ∷ record { words = pos 1 ∷ pos 2 ∷ negsuc 2 ∷ pos 0 ∷ pos 1 ∷ negsuc 1 ∷ pos 3 ∷ pos 0 ∷ negsuc 0 ∷ pos 2 ∷ pos 3 ∷ pos 0 ∷ negsuc 0 ∷ negsuc 1 ∷ negsuc 2 ∷ pos 0 ∷ pos 1 ∷ negsuc 3 ∷ pos 0 ∷ pos 2 ∷ negsuc 3 ∷ pos 0 ∷ negsuc 0 ∷ negsuc 1 ∷ pos 4 ∷ pos 0 ∷ pos 2 ∷ pos 4 ∷ negsuc 4 ∷ pos 0 ∷ pos 2 ∷ negsuc 3 ∷ pos 5 ∷ pos 0 ∷ negsuc 1 ∷ pos 4 ∷ pos 5 ∷ pos 0 ∷ negsuc 1 ∷ negsuc 3 ∷ negsuc 4 ∷ pos 0 ∷ pos 2 ∷ negsuc 5 ∷ pos 0 ∷ pos 4 ∷ negsuc 5 ∷ pos 0 ∷ negsuc 1 ∷ negsuc 3 ∷ pos 6 ∷ pos 0 ∷ []; given = pos 1 ∷ pos 2 ∷ []; allowance = 13; room = 2 ∷ 2 ∷ 2 ∷ 2 ∷ 2 ∷ 2 ∷ []; number = 20; clauses = 0; left = 2 ∷ 2 ∷ 2 ∷ 2 ∷ 2 ∷ 2 ∷ [] }
          ∷ record { words = pos 1 ∷ pos 2 ∷ negsuc 2 ∷ pos 0 ∷ pos 1 ∷ negsuc 1 ∷ pos 3 ∷ pos 0 ∷ negsuc 0 ∷ pos 2 ∷ pos 3 ∷ pos 0 ∷ negsuc 0 ∷ negsuc 1 ∷ negsuc 2 ∷ pos 0 ∷ pos 1 ∷ negsuc 3 ∷ pos 0 ∷ pos 2 ∷ negsuc 3 ∷ pos 0 ∷ negsuc 0 ∷ negsuc 1 ∷ pos 4 ∷ pos 0 ∷ pos 2 ∷ pos 4 ∷ negsuc 4 ∷ pos 0 ∷ pos 2 ∷ negsuc 3 ∷ pos 5 ∷ pos 0 ∷ negsuc 1 ∷ pos 4 ∷ pos 5 ∷ pos 0 ∷ negsuc 1 ∷ negsuc 3 ∷ negsuc 4 ∷ pos 0 ∷ pos 2 ∷ negsuc 5 ∷ pos 0 ∷ pos 4 ∷ negsuc 5 ∷ pos 0 ∷ negsuc 1 ∷ negsuc 3 ∷ pos 6 ∷ pos 0 ∷ []; given = pos 1 ∷ pos 2 ∷ []; allowance = 14; room = 2 ∷ 2 ∷ 2 ∷ 2 ∷ 2 ∷ []; number = 21; clauses = 0; left = 2 ∷ 2 ∷ 2 ∷ 2 ∷ 2 ∷ [] }
          ∷ record { words = pos 1 ∷ pos 2 ∷ negsuc 2 ∷ pos 0 ∷ pos 1 ∷ negsuc 1 ∷ pos 3 ∷ pos 0 ∷ negsuc 0 ∷ pos 2 ∷ pos 3 ∷ pos 0 ∷ negsuc 0 ∷ negsuc 1 ∷ negsuc 2 ∷ pos 0 ∷ pos 1 ∷ negsuc 3 ∷ pos 0 ∷ pos 2 ∷ negsuc 3 ∷ pos 0 ∷ negsuc 0 ∷ negsuc 1 ∷ pos 4 ∷ pos 0 ∷ pos 2 ∷ pos 4 ∷ negsuc 4 ∷ pos 0 ∷ pos 2 ∷ negsuc 3 ∷ pos 5 ∷ pos 0 ∷ negsuc 1 ∷ pos 4 ∷ pos 5 ∷ pos 0 ∷ negsuc 1 ∷ negsuc 3 ∷ negsuc 4 ∷ pos 0 ∷ pos 2 ∷ negsuc 5 ∷ pos 0 ∷ pos 4 ∷ negsuc 5 ∷ pos 0 ∷ negsuc 1 ∷ negsuc 3 ∷ pos 6 ∷ pos 0 ∷ []; given = pos 2 ∷ []; allowance = 14; room = 2 ∷ 2 ∷ 2 ∷ 2 ∷ 2 ∷ 2 ∷ []; number = 0; clauses = 14; left = 2 ∷ 1 ∷ 2 ∷ 2 ∷ 2 ∷ 2 ∷ [] }
          ∷ [];
      printed =
          record { input = 51 ∷ 32 ∷ 50 ∷ 10 ∷ []; output = 99 ∷ 32 ∷ 109 ∷ 117 ∷ 108 ∷ 32 ∷ 51 ∷ 32 ∷ 50 ∷ 10 ∷ 99 ∷ 32 ∷ 121 ∷ 32 ∷ 49 ∷ 32 ∷ 51 ∷ 32 ∷ 53 ∷ 32 ∷ 54 ∷ 10 ∷ 112 ∷ 32 ∷ 99 ∷ 110 ∷ 102 ∷ 32 ∷ 54 ∷ 32 ∷ 49 ∷ 52 ∷ 10 ∷ 49 ∷ 32 ∷ 50 ∷ 32 ∷ 45 ∷ 51 ∷ 32 ∷ 48 ∷ 10 ∷ 49 ∷ 32 ∷ 45 ∷ 50 ∷ 32 ∷ 51 ∷ 32 ∷ 48 ∷ 10 ∷ 45 ∷ 49 ∷ 32 ∷ 50 ∷ 32 ∷ 51 ∷ 32 ∷ 48 ∷ 10 ∷ 45 ∷ 49 ∷ 32 ∷ 45 ∷ 50 ∷ 32 ∷ 45 ∷ 51 ∷ 32 ∷ 48 ∷ 10 ∷ 49 ∷ 32 ∷ 45 ∷ 52 ∷ 32 ∷ 48 ∷ 10 ∷ 50 ∷ 32 ∷ 45 ∷ 52 ∷ 32 ∷ 48 ∷ 10 ∷ 45 ∷ 49 ∷ 32 ∷ 45 ∷ 50 ∷ 32 ∷ 52 ∷ 32 ∷ 48 ∷ 10 ∷ 50 ∷ 32 ∷ 52 ∷ 32 ∷ 45 ∷ 53 ∷ 32 ∷ 48 ∷ 10 ∷ 50 ∷ 32 ∷ 45 ∷ 52 ∷ 32 ∷ 53 ∷ 32 ∷ 48 ∷ 10 ∷ 45 ∷ 50 ∷ 32 ∷ 52 ∷ 32 ∷ 53 ∷ 32 ∷ 48 ∷ 10 ∷ 45 ∷ 50 ∷ 32 ∷ 45 ∷ 52 ∷ 32 ∷ 45 ∷ 53 ∷ 32 ∷ 48 ∷ 10 ∷ 50 ∷ 32 ∷ 45 ∷ 54 ∷ 32 ∷ 48 ∷ 10 ∷ 52 ∷ 32 ∷ 45 ∷ 54 ∷ 32 ∷ 48 ∷ 10 ∷ 45 ∷ 50 ∷ 32 ∷ 45 ∷ 52 ∷ 32 ∷ 54 ∷ 32 ∷ 48 ∷ 10 ∷ [] }
          ∷ record { input = 48 ∷ 48 ∷ 48 ∷ 48 ∷ 51 ∷ 32 ∷ 48 ∷ 50 ∷ 10 ∷ []; output = 99 ∷ 32 ∷ 109 ∷ 117 ∷ 108 ∷ 32 ∷ 51 ∷ 32 ∷ 50 ∷ 10 ∷ 99 ∷ 32 ∷ 121 ∷ 32 ∷ 49 ∷ 32 ∷ 51 ∷ 32 ∷ 53 ∷ 32 ∷ 54 ∷ 10 ∷ 112 ∷ 32 ∷ 99 ∷ 110 ∷ 102 ∷ 32 ∷ 54 ∷ 32 ∷ 49 ∷ 52 ∷ 10 ∷ 49 ∷ 32 ∷ 50 ∷ 32 ∷ 45 ∷ 51 ∷ 32 ∷ 48 ∷ 10 ∷ 49 ∷ 32 ∷ 45 ∷ 50 ∷ 32 ∷ 51 ∷ 32 ∷ 48 ∷ 10 ∷ 45 ∷ 49 ∷ 32 ∷ 50 ∷ 32 ∷ 51 ∷ 32 ∷ 48 ∷ 10 ∷ 45 ∷ 49 ∷ 32 ∷ 45 ∷ 50 ∷ 32 ∷ 45 ∷ 51 ∷ 32 ∷ 48 ∷ 10 ∷ 49 ∷ 32 ∷ 45 ∷ 52 ∷ 32 ∷ 48 ∷ 10 ∷ 50 ∷ 32 ∷ 45 ∷ 52 ∷ 32 ∷ 48 ∷ 10 ∷ 45 ∷ 49 ∷ 32 ∷ 45 ∷ 50 ∷ 32 ∷ 52 ∷ 32 ∷ 48 ∷ 10 ∷ 50 ∷ 32 ∷ 52 ∷ 32 ∷ 45 ∷ 53 ∷ 32 ∷ 48 ∷ 10 ∷ 50 ∷ 32 ∷ 45 ∷ 52 ∷ 32 ∷ 53 ∷ 32 ∷ 48 ∷ 10 ∷ 45 ∷ 50 ∷ 32 ∷ 52 ∷ 32 ∷ 53 ∷ 32 ∷ 48 ∷ 10 ∷ 45 ∷ 50 ∷ 32 ∷ 45 ∷ 52 ∷ 32 ∷ 45 ∷ 53 ∷ 32 ∷ 48 ∷ 10 ∷ 50 ∷ 32 ∷ 45 ∷ 54 ∷ 32 ∷ 48 ∷ 10 ∷ 52 ∷ 32 ∷ 45 ∷ 54 ∷ 32 ∷ 48 ∷ 10 ∷ 45 ∷ 50 ∷ 32 ∷ 45 ∷ 52 ∷ 32 ∷ 54 ∷ 32 ∷ 48 ∷ 10 ∷ [] }
          ∷ record { input = 49 ∷ 32 ∷ 49 ∷ 10 ∷ []; output = 99 ∷ 32 ∷ 109 ∷ 117 ∷ 108 ∷ 32 ∷ 49 ∷ 32 ∷ 49 ∷ 10 ∷ 99 ∷ 32 ∷ 121 ∷ 32 ∷ 49 ∷ 10 ∷ 112 ∷ 32 ∷ 99 ∷ 110 ∷ 102 ∷ 32 ∷ 49 ∷ 32 ∷ 48 ∷ 10 ∷ [] }
          ∷ record { input = 54 ∷ 32 ∷ 50 ∷ 10 ∷ []; output = 99 ∷ 32 ∷ 109 ∷ 117 ∷ 108 ∷ 32 ∷ 54 ∷ 32 ∷ 50 ∷ 10 ∷ 99 ∷ 32 ∷ 121 ∷ 32 ∷ 48 ∷ 32 ∷ 49 ∷ 32 ∷ 51 ∷ 32 ∷ 53 ∷ 32 ∷ 54 ∷ 10 ∷ 112 ∷ 32 ∷ 99 ∷ 110 ∷ 102 ∷ 32 ∷ 54 ∷ 32 ∷ 49 ∷ 52 ∷ 10 ∷ 49 ∷ 32 ∷ 50 ∷ 32 ∷ 45 ∷ 51 ∷ 32 ∷ 48 ∷ 10 ∷ 49 ∷ 32 ∷ 45 ∷ 50 ∷ 32 ∷ 51 ∷ 32 ∷ 48 ∷ 10 ∷ 45 ∷ 49 ∷ 32 ∷ 50 ∷ 32 ∷ 51 ∷ 32 ∷ 48 ∷ 10 ∷ 45 ∷ 49 ∷ 32 ∷ 45 ∷ 50 ∷ 32 ∷ 45 ∷ 51 ∷ 32 ∷ 48 ∷ 10 ∷ 49 ∷ 32 ∷ 45 ∷ 52 ∷ 32 ∷ 48 ∷ 10 ∷ 50 ∷ 32 ∷ 45 ∷ 52 ∷ 32 ∷ 48 ∷ 10 ∷ 45 ∷ 49 ∷ 32 ∷ 45 ∷ 50 ∷ 32 ∷ 52 ∷ 32 ∷ 48 ∷ 10 ∷ 50 ∷ 32 ∷ 52 ∷ 32 ∷ 45 ∷ 53 ∷ 32 ∷ 48 ∷ 10 ∷ 50 ∷ 32 ∷ 45 ∷ 52 ∷ 32 ∷ 53 ∷ 32 ∷ 48 ∷ 10 ∷ 45 ∷ 50 ∷ 32 ∷ 52 ∷ 32 ∷ 53 ∷ 32 ∷ 48 ∷ 10 ∷ 45 ∷ 50 ∷ 32 ∷ 45 ∷ 52 ∷ 32 ∷ 45 ∷ 53 ∷ 32 ∷ 48 ∷ 10 ∷ 50 ∷ 32 ∷ 45 ∷ 54 ∷ 32 ∷ 48 ∷ 10 ∷ 52 ∷ 32 ∷ 45 ∷ 54 ∷ 32 ∷ 48 ∷ 10 ∷ 45 ∷ 50 ∷ 32 ∷ 45 ∷ 52 ∷ 32 ∷ 54 ∷ 32 ∷ 48 ∷ 10 ∷ [] }
          ∷ record { input = 53 ∷ 51 ∷ 32 ∷ 49 ∷ 10 ∷ []; output = 99 ∷ 32 ∷ 109 ∷ 117 ∷ 108 ∷ 32 ∷ 53 ∷ 51 ∷ 32 ∷ 49 ∷ 10 ∷ 99 ∷ 32 ∷ 121 ∷ 32 ∷ 49 ∷ 32 ∷ 48 ∷ 32 ∷ 49 ∷ 32 ∷ 48 ∷ 32 ∷ 49 ∷ 32 ∷ 49 ∷ 10 ∷ 112 ∷ 32 ∷ 99 ∷ 110 ∷ 102 ∷ 32 ∷ 49 ∷ 32 ∷ 48 ∷ 10 ∷ [] }
          ∷ record { input = 53 ∷ 49 ∷ 49 ∷ 32 ∷ 50 ∷ 10 ∷ []; output = 99 ∷ 32 ∷ 109 ∷ 117 ∷ 108 ∷ 32 ∷ 53 ∷ 49 ∷ 49 ∷ 32 ∷ 50 ∷ 10 ∷ 99 ∷ 32 ∷ 121 ∷ 32 ∷ 49 ∷ 32 ∷ 51 ∷ 32 ∷ 45 ∷ 52 ∷ 32 ∷ 45 ∷ 52 ∷ 32 ∷ 45 ∷ 52 ∷ 32 ∷ 45 ∷ 52 ∷ 32 ∷ 45 ∷ 52 ∷ 32 ∷ 45 ∷ 52 ∷ 32 ∷ 45 ∷ 52 ∷ 32 ∷ 53 ∷ 32 ∷ 55 ∷ 10 ∷ 112 ∷ 32 ∷ 99 ∷ 110 ∷ 102 ∷ 32 ∷ 55 ∷ 32 ∷ 49 ∷ 56 ∷ 10 ∷ 45 ∷ 50 ∷ 32 ∷ 45 ∷ 49 ∷ 32 ∷ 45 ∷ 51 ∷ 32 ∷ 48 ∷ 10 ∷ 45 ∷ 50 ∷ 32 ∷ 49 ∷ 32 ∷ 51 ∷ 32 ∷ 48 ∷ 10 ∷ 50 ∷ 32 ∷ 45 ∷ 49 ∷ 32 ∷ 51 ∷ 32 ∷ 48 ∷ 10 ∷ 50 ∷ 32 ∷ 49 ∷ 32 ∷ 45 ∷ 51 ∷ 32 ∷ 48 ∷ 10 ∷ 45 ∷ 50 ∷ 32 ∷ 45 ∷ 52 ∷ 32 ∷ 48 ∷ 10 ∷ 45 ∷ 49 ∷ 32 ∷ 45 ∷ 52 ∷ 32 ∷ 48 ∷ 10 ∷ 50 ∷ 32 ∷ 49 ∷ 32 ∷ 52 ∷ 32 ∷ 48 ∷ 10 ∷ 49 ∷ 32 ∷ 52 ∷ 32 ∷ 53 ∷ 32 ∷ 48 ∷ 10 ∷ 49 ∷ 32 ∷ 45 ∷ 52 ∷ 32 ∷ 45 ∷ 53 ∷ 32 ∷ 48 ∷ 10 ∷ 45 ∷ 49 ∷ 32 ∷ 52 ∷ 32 ∷ 45 ∷ 53 ∷ 32 ∷ 48 ∷ 10 ∷ 45 ∷ 49 ∷ 32 ∷ 45 ∷ 52 ∷ 32 ∷ 53 ∷ 32 ∷ 48 ∷ 10 ∷ 45 ∷ 49 ∷ 32 ∷ 54 ∷ 32 ∷ 48 ∷ 10 ∷ 45 ∷ 52 ∷ 32 ∷ 54 ∷ 32 ∷ 48 ∷ 10 ∷ 49 ∷ 32 ∷ 52 ∷ 32 ∷ 45 ∷ 54 ∷ 32 ∷ 48 ∷ 10 ∷ 50 ∷ 32 ∷ 54 ∷ 32 ∷ 55 ∷ 32 ∷ 48 ∷ 10 ∷ 50 ∷ 32 ∷ 45 ∷ 54 ∷ 32 ∷ 45 ∷ 55 ∷ 32 ∷ 48 ∷ 10 ∷ 45 ∷ 50 ∷ 32 ∷ 54 ∷ 32 ∷ 45 ∷ 55 ∷ 32 ∷ 48 ∷ 10 ∷ 45 ∷ 50 ∷ 32 ∷ 45 ∷ 54 ∷ 32 ∷ 55 ∷ 32 ∷ 48 ∷ 10 ∷ [] }
          ∷ record { input = 48 ∷ 32 ∷ 50 ∷ 10 ∷ []; output = 114 ∷ 101 ∷ 102 ∷ 117 ∷ 115 ∷ 101 ∷ 100 ∷ 32 ∷ 49 ∷ 10 ∷ [] }
          ∷ record { input = 54 ∷ 53 ∷ 53 ∷ 51 ∷ 54 ∷ 32 ∷ 50 ∷ 10 ∷ []; output = 114 ∷ 101 ∷ 102 ∷ 117 ∷ 115 ∷ 101 ∷ 100 ∷ 32 ∷ 49 ∷ 10 ∷ [] }
          ∷ record { input = 57 ∷ 57 ∷ 57 ∷ 57 ∷ 57 ∷ 32 ∷ 57 ∷ 57 ∷ 10 ∷ []; output = 114 ∷ 101 ∷ 102 ∷ 117 ∷ 115 ∷ 101 ∷ 100 ∷ 32 ∷ 49 ∷ 10 ∷ [] }
          ∷ record { input = 51 ∷ 32 ∷ 48 ∷ 10 ∷ []; output = 114 ∷ 101 ∷ 102 ∷ 117 ∷ 115 ∷ 101 ∷ 100 ∷ 32 ∷ 50 ∷ 10 ∷ [] }
          ∷ record { input = 51 ∷ 32 ∷ 49 ∷ 55 ∷ 10 ∷ []; output = 114 ∷ 101 ∷ 102 ∷ 117 ∷ 115 ∷ 101 ∷ 100 ∷ 32 ∷ 50 ∷ 10 ∷ [] }
          ∷ record { input = []; output = 114 ∷ 101 ∷ 102 ∷ 117 ∷ 115 ∷ 101 ∷ 100 ∷ 32 ∷ 49 ∷ 51 ∷ 10 ∷ [] }
          ∷ record { input = 10 ∷ []; output = 114 ∷ 101 ∷ 102 ∷ 117 ∷ 115 ∷ 101 ∷ 100 ∷ 32 ∷ 49 ∷ 51 ∷ 10 ∷ [] }
          ∷ record { input = 51 ∷ []; output = 114 ∷ 101 ∷ 102 ∷ 117 ∷ 115 ∷ 101 ∷ 100 ∷ 32 ∷ 49 ∷ 51 ∷ 10 ∷ [] }
          ∷ record { input = 51 ∷ 32 ∷ 50 ∷ []; output = 114 ∷ 101 ∷ 102 ∷ 117 ∷ 115 ∷ 101 ∷ 100 ∷ 32 ∷ 49 ∷ 51 ∷ 10 ∷ [] }
          ∷ record { input = 51 ∷ 32 ∷ 50 ∷ 13 ∷ 10 ∷ []; output = 114 ∷ 101 ∷ 102 ∷ 117 ∷ 115 ∷ 101 ∷ 100 ∷ 32 ∷ 49 ∷ 51 ∷ 10 ∷ [] }
          ∷ record { input = 51 ∷ 32 ∷ 32 ∷ 50 ∷ 10 ∷ []; output = 114 ∷ 101 ∷ 102 ∷ 117 ∷ 115 ∷ 101 ∷ 100 ∷ 32 ∷ 49 ∷ 51 ∷ 10 ∷ [] }
          ∷ record { input = 32 ∷ 51 ∷ 32 ∷ 50 ∷ 10 ∷ []; output = 114 ∷ 101 ∷ 102 ∷ 117 ∷ 115 ∷ 101 ∷ 100 ∷ 32 ∷ 49 ∷ 51 ∷ 10 ∷ [] }
          ∷ record { input = 51 ∷ 32 ∷ 50 ∷ 10 ∷ 10 ∷ []; output = 114 ∷ 101 ∷ 102 ∷ 117 ∷ 115 ∷ 101 ∷ 100 ∷ 32 ∷ 49 ∷ 51 ∷ 10 ∷ [] }
          ∷ record { input = 49 ∷ 50 ∷ 51 ∷ 52 ∷ 53 ∷ 54 ∷ 32 ∷ 50 ∷ 10 ∷ []; output = 114 ∷ 101 ∷ 102 ∷ 117 ∷ 115 ∷ 101 ∷ 100 ∷ 32 ∷ 49 ∷ 51 ∷ 10 ∷ [] }
          ∷ record { input = 51 ∷ 32 ∷ 48 ∷ 48 ∷ 50 ∷ 10 ∷ []; output = 114 ∷ 101 ∷ 102 ∷ 117 ∷ 115 ∷ 101 ∷ 100 ∷ 32 ∷ 49 ∷ 51 ∷ 10 ∷ [] }
          ∷ record { input = 51 ∷ 32 ∷ 45 ∷ 50 ∷ 10 ∷ []; output = 114 ∷ 101 ∷ 102 ∷ 117 ∷ 115 ∷ 101 ∷ 100 ∷ 32 ∷ 49 ∷ 51 ∷ 10 ∷ [] }
          ∷ [];
    }

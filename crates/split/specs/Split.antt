-- The splits of an odd number n > 1 (document 01, "The planner"): its kind and p, from 1 to N = the bit length of n.
use Rattle.std.specs.Prelude.{ℕ, ◌+◌, ◌-◌, ◌/◌, ◌%◌, ◌^◌, Bool, ◌&&◌, eqb, ltb, leb}
use Rattle.line.specs.Number.{bit_length}
use Rattle.line.specs.Line.{Kind, splus, sminus, minuss, kind_of}

unfoldable pub low : ℕ → ℕ → ℕ
low p n = n % 2 ^ p

unfoldable pub high : ℕ → ℕ → ℕ
high p n = n / 2 ^ p

unfoldable pub left_at : Kind → ℕ → ℕ → ℕ
left_at splus p n = high p n
left_at sminus p n = high p n + 1
left_at minuss p n = 2 ^ bit_length n - 2 ^ p + low p n

unfoldable pub right_at : Kind → ℕ → ℕ → ℕ
right_at splus p n = low p n
right_at sminus p n = 2 ^ p - low p n
right_at minuss p n = 2 ^ (bit_length n - p) - 1 - high p n

-- whether n has a split of the kind at p. At p = N high is 0, so SMINUS asks no more of it there.
unfoldable pub legal_at : Kind → ℕ → ℕ → Bool
legal_at splus p n = leb 1 p && ltb p (bit_length n) && eqb (high p n % 2) 1
legal_at sminus p n = leb 1 p && leb p (bit_length n) && eqb (high p n % 2) 0
legal_at minuss p n = leb 1 p && ltb p (bit_length n) && eqb (high p n % 2) 0

-- ---- a split as one number: 32 * kind + p

abbrev pub kind : ℕ → Kind
kind s = kind_of (s / 32)

abbrev pub left : ℕ → ℕ → ℕ
left s n = left_at (kind s) (s % 32) n

abbrev pub right : ℕ → ℕ → ℕ
right s n = right_at (kind s) (s % 32) n

-- whether s is a split of n: its kind's code is one of 1 to 3
abbrev pub legal : ℕ → ℕ → Bool
legal s n = leb 1 (s / 32) && leb (s / 32) 3 && legal_at (kind s) (s % 32) n

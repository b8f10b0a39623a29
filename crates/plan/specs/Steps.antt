-- What the steps of planning ask and give: the walk, the count, the choice, the fill, the order, the lines.
use Rattle.std.specs.Prelude.{ℕ, suc, ◌+◌, ◌-◌, ◌/◌, ◌%◌, ◌^◌, ◌≤◌, ◌<◌, ◌≡◌, Bool, true, false, List, ◌⊎◌, eqb, length, drop}
use Rattle.std.proofs.lemmas.List.Edits.{sets}
use Rattle.line.specs.Limits.{most_lines}
use Rattle.line.specs.Number.{bit_length}
use Rattle.line.specs.Line.{kind_of}
use Rattle.split.specs.Split.{legal_at, legal}
use Rattle.split.specs.Reach.{turn, follow, reach, member, adds, Held}
use Rattle.split.specs.Choose.{lines, line_count, look, splits}

-- the places of a set's room: one for each line of a recipe
abbrev pub set_room : ℕ
set_room = most_lines

-- an odd n of few bits, with a legal split
pub record Splits (k p n : ℕ) : Type 0 where
  pub big : 1 < n
  pub odd : n % 2 ≡ 1
  pub few : bit_length n < 32
  pub short : p < 32
  pub one : 1 ≤ k
  pub three : k ≤ 3
  pub is_legal : legal_at (kind_of k) p n ≡ true

-- ---- the set walk

-- the answer r to: x is above 1 and not of the set
pub record Fresh (x : ℕ) (set : List ℕ) (r : Bool) : Type 0 where
  pub when : r ≡ true → (1 < x) × (member x set ≡ false)
  pub unless : r ≡ false → (x < 2) ⊎ (member x set ≡ true)

-- what following n's split s asks: s is legal, the table reaches as far as n's bit length, its splits are legal before n's turn, and the
-- set, which lacks n, holds what its members reach and leaves room
pub record Ready (work set : List ℕ) (s n : ℕ) : Type 0 where
  pub big : 1 < n
  pub odd : n % 2 ≡ 1
  pub few : bit_length n < 32
  pub is_legal : legal s n ≡ true
  pub long : 2 ^ (bit_length n - 1) ≤ length work
  pub legals : (m : ℕ) → 1 < m → m % 2 ≡ 1 → turn m < turn n → legal (look work m) m ≡ true
  pub held : Held (look work) set
  pub new : member n set ≡ false
  pub room : length (adds (follow (reach (look work)) s n) set) ≤ set_room

-- ---- the choice

-- the table has n's place and legal splits before n's turn, a split of n has room for its set, and the counts, which have n's place too,
-- are how many coefficients each number before n's turn has
pub record Known (work counts : List ℕ) (n : ℕ) : Type 0 where
  pub big : 1 < n
  pub odd : n % 2 ≡ 1
  pub few : bit_length n < 32
  pub long : 2 ^ (bit_length n - 1) ≤ length work
  pub wide : 2 ^ (bit_length n - 1) ≤ length counts
  pub legals : (m : ℕ) → 1 < m → m % 2 ≡ 1 → turn m < turn n → legal (look work m) m ≡ true
  pub room : (s : ℕ) → legal s n ≡ true → lines (look work) s n ≤ set_room
  pub counted : (m : ℕ) → m % 2 ≡ 1 → turn m < turn n → look counts m ≡ line_count (look work) m

-- bit p of places says whether n has a split of the kind k at p
abbrev pub Places : ℕ → ℕ → ℕ → Type 0
Places k places n = (p : ℕ) → 1 ≤ p → legal_at (kind_of k) p n ≡ eqb (places / 2 ^ p % 2) 1

-- operands l and r, with a and c coefficients, give a split fewest or more
abbrev pub Hopeless : ℕ → ℕ → ℕ → ℕ → ℕ → Type 0
Hopeless l a r c fewest =
    (fewest ≤ a + 1)
    ⊎ ((fewest ≤ c + 1)
    ⊎ (((bit_length l < bit_length r) × (fewest ≤ a + 2)) ⊎ ((bit_length r < bit_length l) × (fewest ≤ c + 2))))

-- ---- the table

-- a room that holds v of each odd number of at most k bits; all past these stays
pub record Filled (v : ℕ → ℕ) (entry exit : List ℕ) (k : ℕ) : Type 0 where
  pub same : length exit ≡ length entry
  pub known : (m : ℕ) → m % 2 ≡ 1 → bit_length m ≤ k → look exit m ≡ v m
  pub rest : drop (2 ^ (k - 1)) exit ≡ drop (2 ^ (k - 1)) entry

-- the same of a lookup's splits, as one list
pub record HoldsSplits (t : ℕ → ℕ) (entry : List ℕ) (top : ℕ) (exit : List ℕ) : Type 0 where
  pub holds : exit ≡ sets entry 0 (splits t top)
  pub same : length exit ≡ length entry
  pub known : (m : ℕ) → m % 2 ≡ 1 → bit_length m ≤ top → look exit m ≡ t m

-- ---- the lines in order

-- the table has legal splits up to d's turn, and d's set has room
pub record Whole (work : List ℕ) (d : ℕ) : Type 0 where
  pub odd : d % 2 ≡ 1
  pub few : bit_length d < 32
  pub long : 2 ^ (bit_length d - 1) ≤ length work
  pub legals : (m : ℕ) → 1 < m → m % 2 ≡ 1 → turn m < suc (turn d) → legal (look work m) m ≡ true
  pub room : line_count (look work) d ≤ set_room

-- a line that can be written: its coefficient's split is in the table and legal
pub record WritesLine (work : List ℕ) (x : ℕ) : Type 0 where
  pub splits : Splits (look work x / 32) (look work x % 32) x
  pub inside : x / 2 < length work

-- What is demanded of the clauses (demand 2), as definitions: of the inside's general form, and of the call on the words and entries that
-- stand in the rooms.
use Rattle.std.specs.Prelude.{ℕ, zero, suc, ◌+◌, ◌-◌, ◌*◌, ◌≤◌, ◌<◌, ◌≡◌, Bool, true, false, not, List, [], ◌∷◌, ◌++◌, map, ℤ, pos, negsuc, length, get_or, take, drop}
use Rattle.line.specs.Line.{kind_of, gives}
use Rattle.line.specs.declared.Line.{Line}
use Rattle.cnf.specs.Clause.{Assignment, satisfies, clauses_name}
use Rattle.cnf.specs.Words.{clauses_of, satisfies_words, names, highest_named}
use Rattle.product.specs.Bit.{Bit, fixed, unfixed, num, reads}
use Rattle.product.specs.Product.{Product, last_or}
use Rattle.product.specs.Renaming.{word_renamed, renaming}
use Rattle.product.specs.Write.{words_used, clauses_written, next_free, bits_of_y}
use Rattle.product.specs.Write.{Written}

-- ---- lines that are right, and their product

-- each line names operands that come earlier and has the coefficient that its kind gives; ks are the coefficients of the operands so far
abbrev pub LinesRight : List Line → List ℕ → Type 0
LinesRight [] ks = Unit {0}
LinesRight (l ∷ ls) ks =
    (l.left < length ks) × (l.right < length ks)
    × (pos l.coefficient ≡ gives (kind_of l.kind) (get_or ks l.left 0) l.shift (get_or ks l.right 0))
    × LinesRight ls (ks ++ (l.coefficient ∷ []))

-- the last line's coefficient, or 1 if there is no line
abbrev pub lines_product : List Line → ℕ
lines_product ls = last_or 1 (map (λ (l : Line). l.coefficient) ls)

-- ---- the inside's general form: x is any bits over the variables below n, and n is the first free variable

-- b is fixed, or a literal of a variable below n; of all variables those may stand in clauses that are Used
abbrev pub BitBelow : (ℕ → Type 0) → ℕ → Bit → Type 0
BitBelow Used n (fixed b) = Unit {0}
BitBelow Used n (unfixed l) = Used l.variable × (l.variable < n)

abbrev pub BitsBelow : (ℕ → Type 0) → ℕ → List Bit → Type 0
BitsBelow Used n [] = Unit {0}
BitsBelow Used n (b ∷ bs) = BitBelow Used n b × BitsBelow Used n bs

-- the two assignments give the variables from 1 to n - 1 the same values
abbrev pub Same : ℕ → Assignment → Assignment → Type 0
Same n α β = (v : ℕ) → 0 < v → v < n → α v ≡ β v

-- each assignment of the variables below n extends to exactly one of those below next that satisfies the clauses, and there y is c times x
pub record Multiplies (c : ℕ) (x : List Bit) (n : ℕ) (p : Product) : Type 0 where
  pub existence : (α : Assignment) → (β : Assignment) × Same n α β × (satisfies β p.clauses ≡ true)
  pub uniqueness : (α β : Assignment) → Same n α β → satisfies α p.clauses ≡ true → satisfies β p.clauses ≡ true → Same p.next α β
  pub value : (α : Assignment) → satisfies α p.clauses ≡ true → reads α p.y ≡ c * reads α x

-- ---- the call: an assignment of the variables below n is the list of the values of the variables 1 to n - 1

abbrev pub assignment : List Bool → Assignment
assignment values v = get_or values (v - 1) false

-- the value of a literal as a word, and of an entry of the bit room, where 0 is a bit fixed at 0
abbrev pub entry_value : Assignment → ℤ → ℕ
entry_value α (pos zero) = 0
entry_value α (pos (suc v)) = num (α (suc v))
entry_value α (negsuc v) = num (not (α (suc v)))

-- the number that literals or entries read as, lowest first
abbrev pub entries_read : Assignment → List ℤ → ℕ
entries_read α [] = 0
entries_read α (b ∷ bs) = entry_value α b + 2 * entries_read α bs

-- demand 2 at an assignment `before` of the variables below first: it extends to one of the variables below next that satisfies the words,
-- to no other, and there y is c times the number that the given literals x read as
pub record Demand2 (c : ℕ) (x : List ℤ) (first next : ℕ) (ws entries : List ℤ) (before : List Bool) : Type 0 where
  pub values : List Bool
  pub long : length values ≡ next - 1
  pub extends : take (first - 1) values ≡ before
  pub existence : satisfies_words (assignment values) ws ≡ true
  pub uniqueness : (others : List Bool) → length others ≡ next - 1 → take (first - 1) others ≡ before
      → satisfies_words (assignment others) ws ≡ true → others ≡ values
  pub value : entries_read (assignment values) entries ≡ c * entries_read (assignment before) x

-- ---- document 01's call: x is the variables 1 to w

-- the number that values are, lowest first
abbrev pub number_of : List Bool → ℕ
number_of [] = 0
number_of (b ∷ bs) = num b + 2 * number_of bs

-- demand 2 at the input v, which is the first w values: one list of values satisfies the words, no other does, and there y is c times v
pub record PlainDemand2 (c w v highest : ℕ) (ws entries : List ℤ) : Type 0 where
  pub values : List Bool
  pub long : length values ≡ highest
  pub input : number_of (take w values) ≡ v
  pub existence : satisfies_words (assignment values) ws ≡ true
  pub uniqueness : (others : List Bool) → length others ≡ highest → number_of (take w others) ≡ v
      → satisfies_words (assignment others) ws ≡ true → others ≡ values
  pub value : entries_read (assignment values) entries ≡ c * v

-- ---- any result of the call

-- the words and the entries that stand in the rooms at exit
abbrev pub words_at_exit : Written → List ℤ → List ℤ
words_at_exit answer clauses' = take (words_used answer) clauses'

abbrev pub entries_at_exit : Written → List ℤ → List ℤ
entries_at_exit answer bits' = take (bits_of_y answer) bits'

-- the answer's counts, counted off the rooms; words and entries past them stay. The next free number is one past the highest variable that
-- the words name, and first where none is new
pub record Counted (first : ℕ) (bits clauses : List ℤ) (answer : Written) (bits' clauses' : List ℤ) : Type 0 where
  pub words : length (words_at_exit answer clauses') ≡ words_used answer
  pub words_stay : drop (words_used answer) clauses' ≡ drop (words_used answer) clauses
  pub clauses_read : length (clauses_of (words_at_exit answer clauses')) ≡ clauses_written answer
  pub next : suc (highest_named (first - 1) (words_at_exit answer clauses')) ≡ next_free answer
  pub entries : length (entries_at_exit answer bits') ≡ bits_of_y answer
  pub entries_stay : drop (bits_of_y answer) bits' ≡ drop (bits_of_y answer) bits

-- the new variables are those from first to next - 1: each stands in some clause, and no other does but x's
pub record Opened (x : List ℤ) (first next : ℕ) (ws : List ℤ) : Type 0 where
  pub each : (v : ℕ) → first ≤ v → v < next → clauses_name v (clauses_of ws) ≡ true
  pub no_other : (v : ℕ) → clauses_name v (clauses_of ws) ≡ true → names v x ≡ false → (first ≤ v) × (v < next)

-- what a call leaves over the literals x and from first on, beside what document 01's leaves: the same with the variables renamed, distinct
-- ones to distinct ones, and the same counts
pub record Renamed (x : List ℤ) (first : ℕ) (plain : Written) (plain_bits plain_clauses : List ℤ) (answer : Written)
    (bits' clauses' : List ℤ) : Type 0 where
  pub distinct : (u v : ℕ) → (renaming x first u).variable ≡ (renaming x first v).variable → u ≡ v
  pub words : words_at_exit answer clauses' ≡ map (word_renamed (renaming x first)) (words_at_exit plain plain_clauses)
  pub entries : entries_at_exit answer bits' ≡ map (word_renamed (renaming x first)) (entries_at_exit plain plain_bits)
  pub words_same : words_used answer ≡ words_used plain
  pub clauses_same : clauses_written answer ≡ clauses_written plain
  pub bits_same : bits_of_y answer ≡ bits_of_y plain
  pub opened_same : next_free answer - first ≡ next_free plain - suc (length x)

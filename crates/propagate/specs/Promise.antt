-- What the answers of a pass are to mean: for clauses that open variables step by step, and for any words.
use Rattle.std.specs.Prelude.{ℕ, ◌≤◌, ◌<◌, ◌≡◌, ◌⊎◌, true, List, [], ◌∷◌, eqb, ℤ, length, Ok}
use Rattle.cnf.specs.Clause.{Clause, Assignment, value, satisfies}
use Rattle.cnf.specs.Words.{named, names, literal_of_word}
use Rattle.propagate.specs.Clause.{wanted, byte, value_at}
use Rattle.propagate.specs.Pass.{Propagating}

-- ---- what stands in the room

-- as an assignment
abbrev pub read_off : List ℕ → Assignment
read_off room v = eqb (value_at room v) 1

-- each literal is true there
abbrev pub TrueIn : List ℕ → List ℤ → Type 0
TrueIn room [] = Unit {0}
TrueIn room (g ∷ gs) = (value_at room (named g) ≡ wanted g) × TrueIn room gs

-- ---- clauses that open the variables from n up to next: every clause is read, and every variable opened is set

-- the variables that may stand in them: those given, and those from n on
abbrev pub GivenOrNew : List ℤ → ℕ → ℕ → Type 0
GivenOrNew given n v = (names v given ≡ true) ⊎ (n ≤ v)

pub record SetsAll (n next : ℕ) (cs : List Clause) (given : List ℤ) (room : List ℕ) (o : Propagating) : Type 0 where
  pub read : o.answer ≡ Ok (length cs)
  pub long : length o.room ≡ length room
  pub holds : TrueIn o.room given
  pub set : (v : ℕ) → n ≤ v → v < next → value_at o.room v < 2
  pub rest : (v : ℕ) → next ≤ v → value_at o.room v ≡ 2
  pub satisfied : satisfies (read_off o.room) cs ≡ true

-- ---- any words: what a pass says follows from the clauses and the given literals

-- the given literals are true in α
abbrev pub GivenTrue : Assignment → List ℤ → Type 0
GivenTrue α [] = Unit {0}
GivenTrue α (g ∷ gs) = (value α (literal_of_word g) ≡ true) × GivenTrue α gs

-- every value in the room is α's
abbrev pub Agrees : Assignment → List ℕ → Type 0
Agrees α room = (v : ℕ) → 0 < v → value_at room v < 2 → value_at room v ≡ byte (α v)

-- Variables, literals and clauses, and their meaning under an assignment.
use Rattle.std.specs.Prelude.{ℕ, ◌≡◌, ◌⊎◌, Bool, true, false, not, ◌&&◌, ◌||◌, List, [], ◌∷◌, eqb}

-- a variable's number, and whether it stands negated
pub record Literal : Type 0 where
  pub variable : ℕ
  pub negated : Bool

abbrev pub Clause : Type 0
Clause = List Literal

abbrev pub Assignment : Type 0
Assignment = ℕ → Bool

-- b, negated where s is true
abbrev pub flips : Bool → Bool → Bool
flips true b = not b
flips false b = b

-- the literal l, negated where s is true
abbrev pub signed : Bool → Literal → Literal
signed s l = record { variable = l.variable; negated = flips s l.negated }

abbrev pub negation : Literal → Literal
negation l = signed true l

-- the variable n as a literal
abbrev pub new : ℕ → Literal
new n = record { variable = n; negated = false }

abbrev pub value : Assignment → Literal → Bool
value α l = flips l.negated (α l.variable)

-- a clause holds when one literal holds
abbrev pub holds : Assignment → Clause → Bool
holds α [] = false
holds α (l ∷ c) = value α l || holds α c

abbrev pub satisfies : Assignment → List Clause → Bool
satisfies α [] = true
satisfies α (c ∷ cs) = holds α c && satisfies α cs

-- ---- the variables that clauses name

abbrev pub clause_names : ℕ → Clause → Bool
clause_names v [] = false
clause_names v (l ∷ c) = eqb l.variable v || clause_names v c

-- whether v stands in some clause
abbrev pub clauses_name : ℕ → List Clause → Bool
clauses_name v [] = false
clauses_name v (c ∷ cs) = clause_names v c || clauses_name v cs

-- ---- no variable twice

-- each literal is of another variable
abbrev pub Distinct : Clause → Type 0
Distinct [] = Unit {0}
Distinct (l ∷ c) = (clause_names l.variable c ≡ false) × Distinct c

abbrev pub AllDistinct : List Clause → Type 0
AllDistinct [] = Unit {0}
AllDistinct (c ∷ cs) = Distinct c × AllDistinct cs

-- x stands in the list: a literal in a clause, or a clause among clauses
abbrev pub StandsIn : {A : Type 0} → A → List A → Type 0
StandsIn x [] = ⊥
StandsIn x (y ∷ ys) = (x ≡ y) ⊎ StandsIn x ys

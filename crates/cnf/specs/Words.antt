-- The words of a clause room and their DIMACS meaning.
use Rattle.std.specs.Prelude.{ℕ, zero, suc, ◌<◌, max, ◌≡◌, Bool, true, false, ◌||◌, List, [], ◌∷◌, ◌++◌, map, eqb, ℤ, pos, negsuc, nat_abs, neg_ℤ}
use Rattle.cnf.specs.Clause.{Literal, Clause, Assignment, satisfies}

-- the variables of DIMACS, where a word 0 closes a clause
abbrev pub From1 : ℕ → Type 0
From1 v = 0 < v

-- ---- from clauses to words

abbrev pub word_by : Bool → ℕ → ℤ
word_by false v = pos v
word_by true v = neg_ℤ (pos v)

-- a literal's word: its variable's number, below 0 where it stands negated
abbrev pub word : Literal → ℤ
word l = word_by l.negated l.variable

-- the clauses' words, each clause closed by a 0 word
abbrev pub words : List Clause → List ℤ
words [] = []
words (c ∷ cs) = map word c ++ (pos 0 ∷ words cs)

-- ---- from words to clauses

-- the clauses that words are, with c the literals read since the last 0: the words up to each 0 are a clause
unfoldable pub clauses_from : Clause → List ℤ → List Clause
clauses_from c [] = []
clauses_from c (pos zero ∷ ws) = c ∷ clauses_from [] ws
clauses_from c (pos (suc v) ∷ ws) = clauses_from (c ++ (record { variable = suc v; negated = false } ∷ [])) ws
clauses_from c (negsuc v ∷ ws) = clauses_from (c ++ (record { variable = suc v; negated = true } ∷ [])) ws

abbrev pub clauses_of : List ℤ → List Clause
clauses_of ws = clauses_from [] ws

-- whether the assignment satisfies the clauses that words are
abbrev pub satisfies_words : Assignment → List ℤ → Bool
satisfies_words α ws = satisfies α (clauses_of ws)

-- the literal that a word is
abbrev pub literal_of_word : ℤ → Literal
literal_of_word (pos v) = record { variable = v; negated = false }
literal_of_word (negsuc v) = record { variable = suc v; negated = true }

-- the variable that a word names; 0 for a word that closes a clause
abbrev pub named : ℤ → ℕ
named w = nat_abs w

-- whether words name variable v
abbrev pub names : ℕ → List ℤ → Bool
names v [] = false
names v (w ∷ ws) = eqb (named w) v || names v ws

-- literals of variables from 1 to n - 1, each of another variable
abbrev pub DistinctBelow : ℕ → List ℤ → Type 0
DistinctBelow n [] = Unit {0}
DistinctBelow n (l ∷ ls) = (0 < named l) × (named l < n) × (names (named l) ls ≡ false) × DistinctBelow n ls

-- the highest variable that words name, and at least h
abbrev pub highest_named : ℕ → List ℤ → ℕ
highest_named h [] = h
highest_named h (w ∷ ws) = highest_named (max h (named w)) ws

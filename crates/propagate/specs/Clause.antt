-- What a value room says of a clause. A room has one byte for each variable, that of v at v - 1: 0 false, 1 true, 2 unknown.
use Rattle.std.specs.Prelude.{ℕ, zero, suc, ◌-◌, Bool, true, false, cond, ◌&&◌, List, [], ◌∷◌, eqb, ltb, ℤ, pos, negsuc, length, get_or}
use Rattle.std.specs.Prelude.{Option, Some, None}
use Rattle.cnf.specs.Words.{named}
use Rattle.propagate.specs.declared.Verdict.{Verdict}
use Rattle.propagate.specs.declared.Verdict.TheVariants.{AllFalse, Sets, Passes}
use Rattle.propagate.specs.declared.Reading.{Reading}

-- the value of its variable at which a word's literal is true
abbrev pub wanted : ℤ → ℕ
wanted (pos v) = 1
wanted (negsuc v) = 0

-- the byte of a value
abbrev pub byte : Bool → ℕ
byte true = 1
byte false = 0

abbrev pub value_at : List ℕ → ℕ → ℕ
value_at room v = get_or room (v - 1) 2

-- ---- one literal more

-- an unknown one: the single one so far, perhaps repeated, sets its variable
abbrev pub with_unknown : Verdict → ℕ → ℕ → Verdict
with_unknown AllFalse v wants = Sets v wants
with_unknown (Sets u value) v wants = cond (eqb u v && eqb value wants) (Sets u value) Passes
with_unknown Passes v wants = Passes

-- a true one: passed; a false one: as it was
unfoldable pub with_literal : Verdict → ℕ → ℕ → ℕ → Verdict
with_literal d v wants value = cond (eqb value wants) Passes (cond (ltb value 2) d (with_unknown d v wants))

-- ---- the first clause of words: its verdict and how many words it has; none where they end inside it or a variable is above the room

abbrev pub closed : Verdict → ℕ → Option Reading
closed d n = Some (record { verdict = d; words = n })

-- by the variable that a word names: the word 0 closes the clause
abbrev pub closed_or : ℕ → Option Reading → Option Reading → Option Reading
closed_or zero shut later = shut
closed_or (suc v) shut later = later

abbrev pub unless_above : Bool → Option Reading → Option Reading
unless_above true later = None
unless_above false later = later

unfoldable pub reading : List ℕ → Verdict → ℕ → List ℤ → Option Reading
reading room d n [] = None
reading room d n (w ∷ ws) =
    closed_or (named w) (closed d (suc n))
    (unless_above (ltb (length room) (named w)) (reading room (with_literal d (named w) (wanted w) (value_at room (named w))) (suc n) ws))

abbrev pub reading_clause : List ℕ → List ℤ → Option Reading
reading_clause room ws = reading room AllFalse 0 ws

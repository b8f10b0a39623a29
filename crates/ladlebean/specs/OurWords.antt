-- Document 02 i: one pass over the words that writing left. Given are literals below the first free number, among them each of x or its
-- negation; y is c times the number that these literals say, read off the value room.
use Rattle.std.specs.Prelude.{ℕ, ◌+◌, ◌*◌, ◌≡◌, Bool, false, ◌&&◌, ◌||◌, List, [], ◌∷◌, eqb, ℤ}
use Rattle.cnf.specs.Words.{named, clauses_of}
use Rattle.product.specs.Bit.{num}
use Rattle.product.specs.Demand.{entries_read}
use Rattle.propagate.specs.Clause.{wanted}
use Rattle.propagate.specs.Pass.{Propagating}
use Rattle.propagate.specs.Promise.{read_off, SetsAll}

-- whether the literal l is one of those given: of the same variable and the same sign
abbrev pub says : List ℤ → ℤ → Bool
says [] l = false
says (g ∷ gs) l = (eqb (named g) (named l) && eqb (wanted g) (wanted l)) || says gs l

-- the number that the given literals say, lowest bit first: a bit is 1 where its literal of x is given, and 0 where its negation is
abbrev pub number_given : List ℤ → List ℤ → ℕ
number_given gs [] = 0
number_given gs (l ∷ x) = num (says gs l) + 2 * number_given gs x

-- the pass reads every clause that the words are, sets every variable from first to the one before the next free one and none from there
-- on, and the entries read as c times the number that is given
pub record PassMultiplies (c : ℕ) (x : List ℤ) (first next : ℕ) (ws entries given : List ℤ) (room : List ℕ) (o : Propagating) : Type 0
  where
    pub sets : SetsAll first next (clauses_of ws) given room o
    pub value : entries_read (read_off o.room) entries ≡ c * number_given given x

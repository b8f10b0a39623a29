-- Gates of codes: the clauses that they stand for, what these take, and the rest of a clause room behind them.
use Rattle.std.specs.Prelude.{cond, List, [], ◌∷◌, ◌++◌, ltb, ℤ, length}
use Rattle.std.proofs.lemmas.List.Edits.{sets}
use Rattle.cnf.specs.Clause.{Clause}
use Rattle.cnf.specs.Words.{words}
use Rattle.product.specs.Column.{parity, both, most}
use Rattle.gates.specs.Code.{literal_of}
use Rattle.gates.specs.declared.Gate.{Gate}
use Rattle.gates.specs.declared.Gate.TheVariants.{Empty, ParityOfTwo, ParityOfThree, Both, Most}
use Rattle.gates.specs.declared.Taken.{Taken}

-- the last code is that of the new variable, or of its negation
abbrev pub gate_clauses : Gate → List Clause
gate_clauses Empty = []
gate_clauses (ParityOfTwo p q z) = parity (literal_of p ∷ literal_of q ∷ []) (literal_of z).negated (literal_of z).variable
gate_clauses (ParityOfThree p q r z) =
    parity (literal_of p ∷ literal_of q ∷ literal_of r ∷ []) (literal_of z).negated (literal_of z).variable
gate_clauses (Both p q t) = both (literal_of p) (literal_of q) (literal_of t)
gate_clauses (Most p q r t) = most (literal_of p) (literal_of q) (literal_of r) (literal_of t)

-- the sum's, then the carry's
unfoldable pub column_clauses : Gate → Gate → List Clause
column_clauses sum carry = gate_clauses sum ++ gate_clauses carry

unfoldable pub taken : List Clause → Taken
taken cs = record { words = length (words cs); clauses = length cs }

-- the words from the front of the rest on, where they fit; else the rest stays
unfoldable pub after : List Clause → List ℤ → List ℤ
after cs rest = cond (ltb (length rest) (length (words cs))) rest (sets rest 0 (words cs))

-- The words of gates and columns: how many they are, what codes have them, and where they go.
use Prim.Native.Nat.{ℕ, ◌+◌, ◌<◌, ◌≤◌}
use mathlib.Core.Path.{◌≡◌, refl, ap, ap₂, ◌∙◌}
use mathlib.Core.List.{List}
use native.Mathlib.Omega.{arith}
use lib.Dec.{lit≤}
use lib.IntN.{ℤ, pos}
use lib.ListN.{length, length-append}
use lib.Seq.{sets}
use borrow.Author.Tests.{lt-ltb, le-ltb}
use Rattle.cnf.specs.Clause.{Clause}
use Rattle.cnf.specs.Words.{word, words}
use Rattle.cnf.proofs.Words.{words_append}
use Rattle.product.specs.Column.{parity, both, most}
use Rattle.gates.specs.Code.{literal_of}
use Rattle.gates.specs.Gate.{gate_clauses, column_clauses, taken, after}
use Rattle.gates.specs.declared.Gate.{Gate}
use Rattle.gates.specs.declared.Gate.TheVariants.{Empty, ParityOfTwo, ParityOfThree, Both, Most}
use Rattle.gates.specs.declared.Taken.{Taken}
use Rattle.line.proofs.Room.{and_then}
use Rattle.cnf.proofs.Flips.{flips_false, not_twice}
use Rattle.gates.proofs.Codes.{literal_negated}

-- ---- how many

gate_few : (g : Gate) → (length (words (gate_clauses g)) ≤ 40) × (length (gate_clauses g) ≤ 8)
unfolding parity both most
gate_few Empty = (lit≤ tt, lit≤ tt)
gate_few (ParityOfTwo p q z) = (lit≤ tt, lit≤ tt)
gate_few (ParityOfThree p q r z) = (lit≤ tt, lit≤ tt)
gate_few (Both p q t) = (lit≤ tt, lit≤ tt)
gate_few (Most p q r t) = (lit≤ tt, lit≤ tt)

pub gate_taken_few : (g : Gate) → ((taken (gate_clauses g)).words ≤ 40) × ((taken (gate_clauses g)).clauses ≤ 8)
unfolding taken
gate_taken_few g = gate_few g

pub column_words : (a b : Gate) → length (words (column_clauses a b)) ≡ length (words (gate_clauses a)) + length (words (gate_clauses b))
unfolding column_clauses
column_words a b =
    ap (λ (l : List ℤ). length l) (words_append (gate_clauses a) (gate_clauses b))
    ∙ length-append (words (gate_clauses a)) (words (gate_clauses b))

-- a column takes what its two gates take
pub column_taken_is : (a b : Gate) → taken (column_clauses a b)
    ≡ record {
      words = (taken (gate_clauses a)).words + (taken (gate_clauses b)).words;
      clauses = (taken (gate_clauses a)).clauses + (taken (gate_clauses b)).clauses;
    }
unfolding taken column_clauses
column_taken_is a b =
    ap₂ (λ (w c : ℕ). record { words = w; clauses = c }) (column_words a b) (length-append (gate_clauses a) (gate_clauses b))

pub column_few : (a b : Gate) → ((taken (column_clauses a b)).words ≤ 80) × ((taken (column_clauses a b)).clauses ≤ 16)
column_few a b =
    let e = column_taken_is a b in (
      omega (arith, ap (λ (t : Taken). t.words) e, gate_taken_few a, gate_taken_few b),
      omega (arith, ap (λ (t : Taken). t.clauses) e, gate_taken_few a, gate_taken_few b),
    )

-- ---- which codes

-- the code 0 closes a clause
pub zero_word : word (literal_of 0) ≡ pos 0
unfolding literal_of
zero_word = refl

-- ---- where they go

module _ (cs : List Clause) (rest : List ℤ) where
  pub fits : length (words cs) ≤ length rest → sets rest 0 (words cs) ≡ after cs rest
  unfolding after
  fits h = rw (le-ltb (length rest) (length (words cs)) h) refl

  pub stays : length rest < length (words cs) → rest ≡ after cs rest
  unfolding after
  stays h = rw (lt-ltb (length rest) (length (words cs)) h) refl

  -- the same, by the words that are counted for them
  pub taken_fits : (taken cs).words ≤ length rest → sets rest 0 (words cs) ≡ after cs rest
  unfolding taken
  taken_fits h = fits h

  pub taken_stays : length rest < (taken cs).words → rest ≡ after cs rest
  unfolding taken
  taken_stays h = stays h

-- ---- what the gates' functions are proved by

pub ruleset code_steps = (literal_negated, zero_word, flips_false, not_twice)

pub ruleset gate_steps = (gate_taken_few, and_then, words_append)

pub ruleset column_steps = (column_words, taken_fits, taken_stays)

-- Writing: from a constant, a width, literals for x, a first free number, a recipe and two rooms to the answer and the rooms at exit.
use Rattle.std.specs.Prelude.{ℕ, suc, ◌-◌, ◌*◌, ◌^◌, Bool, false, not, ◌||◌, List, [], ◌∷◌, ◌++◌, eqb, ltb, ℤ, length, Result, Ok, Err}
use Rattle.std.proofs.lemmas.List.Edits.{sets}
use Rattle.line.specs.Limits.{most_next, out_of_range, not_a_width}
use Rattle.line.specs.Number.{bit_length, odd_part}
use Rattle.line.specs.Order.{refuses, in_order}
use Rattle.line.specs.declared.Refusal.{Refusal}
use Rattle.line.specs.declared.Refusal.TheVariants.{Constant, Width, BitRoom, ClauseRoom, Literals, Variables}
use Rattle.line.specs.Order.{Verdict}
use Rattle.recipe.specs.Check.{recipe_judged}
use Rattle.cnf.specs.Words.{named, names}
use Rattle.product.specs.Bit.{numbered}
use Rattle.product.specs.Product.{Product, product_of, plain_product_of, y_entries, clause_words}
use Rattle.product.specs.declared.Counts.{Counts}

-- ---- what writing answers, and its counts, zero in a refusal

abbrev pub Written : Type 0
Written = Result Counts Refusal

abbrev pub counts_of : Written → Counts
counts_of (Ok counts) = counts
counts_of (Err x) = record { words = 0; clauses = 0; next = 0; bits = 0 }

abbrev pub words_used : Written → ℕ
words_used a = (counts_of a).words

abbrev pub clauses_written : Written → ℕ
clauses_written a = (counts_of a).clauses

abbrev pub next_free : Written → ℕ
next_free a = (counts_of a).next

abbrev pub bits_of_y : Written → ℕ
bits_of_y a = (counts_of a).bits

-- ---- the tests

-- whether a literal is 0, or its variable isn't below the first free number, or two literals name one variable
abbrev pub unfit : ℕ → List ℤ → Bool
unfit first [] = false
unfit first (l ∷ ls) = eqb (named l) 0 || (not (ltb (named l) first) || (names (named l) ls || unfit first ls))

-- whether rule 14 refuses the literals x: not w of them, or unfit
abbrev pub not_literals : ℕ → List ℤ → ℕ → Bool
not_literals w x first = not (eqb (length x) w) || unfit first x

-- 1, 2, 14 and 3 to 8
abbrev pub input_tests : ℕ → ℕ → List ℤ → ℕ → List ℕ → List Verdict
input_tests c w x first recipe =
    refuses (out_of_range c) Constant
    ∷ refuses (not_a_width w) Width
    ∷ refuses (not_literals w x first) Literals
    ∷ recipe_judged (odd_part c) recipe ∷ []

-- 9 and 10, by what is needed: bits of y and words; bits and clauses are the rooms' lengths
abbrev pub room_tests : ℕ → ℕ → ℕ → ℕ → List Verdict
room_tests y words bits clauses = refuses (ltb bits y) BitRoom ∷ refuses (ltb clauses words) ClauseRoom ∷ []

-- 15, 9 and 10
abbrev pub need_tests : ℕ → ℕ → ℕ → ℕ → ℕ → List Verdict
need_tests next y words bits clauses = refuses (ltb most_next next) Variables ∷ room_tests y words bits clauses

abbrev pub product_tests : Product → ℕ → ℕ → ℕ → List Verdict
product_tests p y bits clauses = need_tests p.next y (length (clause_words p)) bits clauses

-- ---- the answer

-- the bits of y
abbrev pub y_length : ℕ → ℕ → ℕ
y_length c w = bit_length (c * (2 ^ w - 1))

abbrev pub clauses_of_product : Product → ℕ → Written
clauses_of_product p bits = Ok (record { words = length (clause_words p); clauses = length p.clauses; next = p.next; bits = bits })

unfoldable pub write_answer : ℕ → ℕ → List ℤ → ℕ → List ℕ → ℕ → ℕ → Written
write_answer c w x first recipe bits clauses =
    let p : Product = product_of c x first recipe in
    in_order Err (input_tests c w x first recipe ++ product_tests p (y_length c w) bits clauses) (clauses_of_product p (y_length c w))

-- ---- the rooms at exit

-- what a call of writing leaves
pub record Writing : Type 0 where
  pub answer : Written
  pub bits : List ℤ
  pub clauses : List ℤ

abbrev pub writing : Written → List ℤ → List ℤ → Writing
writing answer bits clauses = record { answer = answer; bits = bits; clauses = clauses }

-- a refusal leaves both rooms as they came
abbrev pub write_by : Written → Product → List ℤ → List ℤ → Writing
write_by (Ok counts) p bit_room clause_room =
    writing (Ok counts) (sets bit_room 0 (y_entries p)) (sets clause_room 0 (clause_words p))
write_by (Err x) p bit_room clause_room = writing (Err x) bit_room clause_room

-- behind the check: a product whose y has the given number of bits
abbrev pub product_written : Product → ℕ → List ℤ → List ℤ → Writing
product_written p y bit_room clause_room =
    write_by (in_order Err (product_tests p y (length bit_room) (length clause_room)) (clauses_of_product p y)) p bit_room clause_room

unfoldable pub written : ℕ → ℕ → List ℤ → ℕ → List ℕ → List ℤ → List ℤ → Writing
written c w x first recipe bit_room clause_room =
    write_by (write_answer c w x first recipe (length bit_room) (length clause_room)) (product_of c x first recipe) bit_room clause_room

-- ---- document 01's call: x is the variables 1 to w

abbrev pub plain_written : ℕ → ℕ → List ℕ → List ℤ → List ℤ → Writing
plain_written c w recipe bit_room clause_room = written c w (numbered 1 w) (suc w) recipe bit_room clause_room

-- by document 01's order: it never refuses by 14 or 15
unfoldable pub plain_answer : ℕ → ℕ → List ℕ → ℕ → ℕ → Written
plain_answer c w recipe bits clauses =
    let p : Product = plain_product_of c w recipe in
    in_order Err
    (refuses (out_of_range c) Constant
    ∷ refuses (not_a_width w) Width
    ∷ recipe_judged (odd_part c) recipe
    ∷ room_tests (y_length c w) (length (clause_words p)) bits clauses)
    (clauses_of_product p (y_length c w))

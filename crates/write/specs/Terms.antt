-- The terms of a line, the bits of x and the entries of y, in codes and entry by entry, as loops store them.
use Rattle.std.specs.Prelude.{ℕ, zero, suc, ◌+◌, ◌-◌, ◌*◌, Bool, not, cond, ◌||◌, List, [], ◌∷◌, ◌++◌, eqb, ltb, ℤ, pos, get_or, take, drop}
use Rattle.line.specs.Line.{Kind, splus, sminus, minuss}
use Rattle.cnf.specs.Words.{word, named, names}
use Rattle.gates.specs.Code.{literal_of, flipped_code, code_of_word}
use Rattle.write.specs.Sizes.{most_columns}

-- f 0 to f (m - 1)
unfoldable pub listed : {A : Type 0} → (ℕ → A) → ℕ → List A
listed f zero = []
listed f (suc m) = listed f m ++ (f m ∷ [])

-- entry j of codes with s zeros put below
abbrev pub shifted_code : List ℕ → ℕ → ℕ → ℕ
shifted_code bits s j = cond (ltb j s) 0 (get_or bits (j - s) 0)

-- column j of a term: an operand shifted by s, negated if f is odd
unfoldable pub term_code : List ℕ → ℕ → ℕ → ℕ → ℕ
term_code bits s f j = flipped_code (shifted_code bits s j) f

-- by the kind: the left term's shift, the right term's, and 1 where the right term is taken off
unfoldable pub shift_of_left : Kind → ℕ → ℕ
shift_of_left splus s = s
shift_of_left sminus s = s
shift_of_left minuss s = 0

unfoldable pub shift_of_right : Kind → ℕ → ℕ
shift_of_right splus s = 0
shift_of_right sminus s = 0
shift_of_right minuss s = s

unfoldable pub taken_off : Kind → ℕ
taken_off splus = 0
taken_off sminus = 1
taken_off minuss = 1

-- operand i of a scratch room, which has 36 entries for each
unfoldable pub operand_at : List ℕ → ℕ → List ℕ
operand_at scratch i = take most_columns (drop (most_columns * i) scratch)

-- bit j of given literals, and literal j of document 01's x
abbrev pub given_code : List ℤ → ℕ → ℕ
given_code x j = code_of_word (get_or x j (pos 0))

abbrev pub plain_literal : ℕ → ℤ
plain_literal j = pos (j + 1)

-- whether literal i is 0, or its variable isn't below first, or a later literal names it
unfoldable pub unfit_at : ℕ → List ℤ → ℕ → Bool
unfit_at first x i =
    let v : ℕ = named (get_or x i (pos 0)) in
    eqb v 0 || (not (ltb v first) || names v (drop (i + 1) x))

-- entry j of y: t zeros, then the words of the product's bits
unfoldable pub y_entry : List ℕ → ℕ → ℕ → ℤ
y_entry bits t j = cond (ltb j t) (pos 0) (word (literal_of (get_or bits (j - t) 0)))

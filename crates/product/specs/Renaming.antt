-- Other names for the variables: what is written over the variables 1 to w, said over given literals and from another first free number on.
use Rattle.std.specs.Prelude.{ℕ, zero, suc, ◌+◌, List, [], ◌∷◌, ℤ, pos, negsuc}
use Rattle.cnf.specs.Clause.{Literal, signed, new}
use Rattle.cnf.specs.Words.{word, literal_of_word}

-- the literal that each variable becomes
abbrev pub Renaming : Type 0
Renaming = ℕ → Literal

abbrev pub literal_renamed : Renaming → Literal → Literal
literal_renamed ρ l = signed l.negated (ρ l.variable)

-- the 0 that closes a clause, or stands for a bit fixed at 0, stays
abbrev pub word_renamed : Renaming → ℤ → ℤ
word_renamed ρ (pos zero) = pos zero
word_renamed ρ (pos (suc v)) = word (literal_renamed ρ (literal_of_word (pos (suc v))))
word_renamed ρ (negsuc v) = word (literal_renamed ρ (literal_of_word (negsuc v)))

-- variable i + 1 becomes literal i of x, and those behind x's, in turn, the variables from first on
unfoldable pub name : List ℤ → ℕ → ℕ → Literal
name [] first i = new (first + i)
name (l ∷ ls) first zero = literal_of_word l
name (l ∷ ls) first (suc i) = name ls first i

unfoldable pub renaming : List ℤ → ℕ → Renaming
renaming x first zero = new 0
renaming x first (suc i) = name x first i

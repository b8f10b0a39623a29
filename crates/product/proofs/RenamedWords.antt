-- The words of renamed clauses and the entries of renamed bits are the words and entries, each renamed.
use Prim.Native.Nat.{ℕ, zero, suc, ◌<◌}
use mathlib.Core.Path.{◌≡◌, refl, sym, ap, ap₂, ◌∙◌}
use mathlib.Core.Bool.{Bool, true, false}
use mathlib.Core.List.{List, [], ◌∷◌, ◌++◌, map, map-append}
use native.Mathlib.Nat.{not-suc-le-zero}
use lib.IntN.{ℤ, pos}
use Rattle.cnf.specs.Clause.{Literal, Clause}
use Rattle.cnf.specs.Words.{From1, word_by, word, words}
use Rattle.cnf.proofs.Extend.{Literals, Names}
use Rattle.product.specs.Bit.{Bit, fixed, unfixed, stored}
use Rattle.product.specs.Renaming.{Renaming, literal_renamed, word_renamed}
use Rattle.product.specs.Demand.{BitsBelow}
use Rattle.product.proofs.Renamed.{clause_renamed, clauses_renamed, bits_renamed}

module _ (ρ : Renaming) (n : ℕ) where
  word_of_renamed : (l : Literal) → 0 < l.variable → word (literal_renamed ρ l) ≡ word_renamed ρ (word l)
  word_of_renamed l h = go l.negated l.variable h
    where
      go : (s : Bool) (v : ℕ) → 0 < v → word (literal_renamed ρ (record { variable = v; negated = s })) ≡ word_renamed ρ (word_by s v)
      go s zero h = absurd (not-suc-le-zero h)
      go false (suc v) h = refl
      go true (suc v) h = refl

  clause_words_renamed : (c : Clause) → Literals From1 n c → map word (clause_renamed ρ c) ≡ map (word_renamed ρ) (map word c)
  clause_words_renamed [] i = refl
  clause_words_renamed (l ∷ c) i = ap₂ (λ (w : ℤ) (ws : List ℤ). w ∷ ws) (word_of_renamed l i.0.0) (clause_words_renamed c i.1)

  pub words_renamed : (cs : List Clause) → Names From1 n cs → words (clauses_renamed ρ cs) ≡ map (word_renamed ρ) (words cs)
  words_renamed [] i = refl
  words_renamed (c ∷ cs) i =
      ap₂ (λ (a b : List ℤ). a ++ (pos 0 ∷ b)) (clause_words_renamed c i.0) (words_renamed cs i.1)
      ∙ sym (map-append (word_renamed ρ) (map word c) (pos 0 ∷ words cs))

  pub entries_renamed : (bs : List Bit) → BitsBelow From1 n bs → map stored (bits_renamed ρ bs) ≡ map (word_renamed ρ) (map stored bs)
  entries_renamed [] i = refl
  entries_renamed (fixed b ∷ bs) i = ap (λ (ws : List ℤ). pos 0 ∷ ws) (entries_renamed bs i.1)
  entries_renamed (unfixed l ∷ bs) i = ap₂ (λ (w : ℤ) (ws : List ℤ). w ∷ ws) (word_of_renamed l i.0.0) (entries_renamed bs i.1)

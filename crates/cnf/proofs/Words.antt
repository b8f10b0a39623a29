-- Clauses that are written as words and read off them again are the same clauses; the variables that words name, and the highest of them.
use Prim.Native.Nat.{ℕ, zero, suc, ◌<◌, max}
use mathlib.Core.Path.{◌≡◌, refl, sym, ap, ◌∙◌}
use mathlib.Core.Logic.{◌⊎◌, inl, inr, ⊎_elim}
use mathlib.Core.Bool.{Bool, true, false, ◌||◌, false≢true}
use mathlib.Core.List.{List, [], ◌∷◌, ◌++◌, map, append-nil, append_assoc}
use native.Mathlib.Nat.{not-suc-le-zero, max-zero, suc-max-suc}
use native.Mathlib.Omega.{arith}
use borrow.Author.Tests.{eqb-true, eqb-false, eq-eqb}
use lib.Dec.{eqb}
use lib.IntN.{ℤ, pos}
use Rattle.cnf.specs.Clause.{Literal, Clause}
use Rattle.cnf.specs.Words.{From1, word_by, word, words, clauses_from, clauses_of, named, names, DistinctBelow, highest_named}
use Rattle.cnf.proofs.Extend.{Literals, Names, past_clause, past, or_true, or_false}

pub words_append : (cs ds : List Clause) → words (cs ++ ds) ≡ words cs ++ words ds
words_append [] ds = refl
words_append (c ∷ cs) ds =
    ap (λ (ws : List ℤ). map word c ++ (pos 0 ∷ ws)) (words_append cs ds) ∙ sym (append_assoc (map word c) (pos 0 ∷ words cs) (words ds))

-- ---- reading

read_literal : (c : Clause) (l : Literal) (ws : List ℤ) → 0 < l.variable → clauses_from c (word l ∷ ws) ≡ clauses_from (c ++ (l ∷ [])) ws
unfolding clauses_from
read_literal c l ws h = go l.negated l.variable h
  where
    go : (s : Bool) (v : ℕ) → 0 < v → clauses_from c (word_by s v ∷ ws) ≡ clauses_from (c ++ (record { variable = v; negated = s } ∷ [])) ws
    go s zero h = absurd (not-suc-le-zero h)
    go false (suc v) h = refl
    go true (suc v) h = refl

read_clause : (n : ℕ) (c d : Clause) (ws : List ℤ) → Literals From1 n d
    → clauses_from c (map word d ++ (pos 0 ∷ ws)) ≡ (c ++ d) ∷ clauses_from [] ws
unfolding clauses_from
read_clause n c [] ws i = ap (λ (e : Clause). e ∷ clauses_from [] ws) (sym (append-nil c))
read_clause n c (l ∷ d) ws i =
    read_literal c l (map word d ++ (pos 0 ∷ ws)) i.0.0
    ∙ read_clause n (c ++ (l ∷ [])) d ws i.1
    ∙ ap (λ (e : Clause). e ∷ clauses_from [] ws) (append_assoc c (l ∷ []) d)

pub clauses_of_words : (n : ℕ) (cs : List Clause) → Names From1 n cs → clauses_of (words cs) ≡ cs
unfolding clauses_from
clauses_of_words n [] i = refl
clauses_of_words n (c ∷ cs) i = read_clause n [] c (words cs) i.0 ∙ ap (λ (ds : List Clause). c ∷ ds) (clauses_of_words n cs i.1)

-- ---- the variables that words name

pub names_either : (v : ℕ) (g : ℤ) (gs : List ℤ) → names v (g ∷ gs) ≡ true → (v ≡ named g) ⊎ (names v gs ≡ true)
names_either v g gs e = ⊎_elim (λ h. inl (sym (eqb-true (named g) v h))) (λ h. inr h) (or_true (eqb (named g) v) (names v gs) e)

pub names_none : (v : ℕ) (g : ℤ) (gs : List ℤ) → names v (g ∷ gs) ≡ false → (v ≡ named g → ⊥) × (names v gs ≡ false)
names_none v g gs e =
    let o = or_false (eqb (named g) v) (names v gs) e in
    (λ q. eqb-false (named g) v o.0 (sym q), o.1)

pub names_first : (v : ℕ) (g : ℤ) (gs : List ℤ) → v ≡ named g → names v (g ∷ gs) ≡ true
names_first v g gs e = ap (λ (b : Bool). b || names v gs) (eq-eqb (named g) v (sym e))

pub names_later : (v : ℕ) (g : ℤ) (gs : List ℤ) → names v gs ≡ true → names v (g ∷ gs) ≡ true
names_later v g gs e = go (eqb (named g) v)
  where
    go : (b : Bool) → b || names v gs ≡ true
    go true = refl
    go false = e

pub names_below : (n : ℕ) (gs : List ℤ) (v : ℕ) → DistinctBelow n gs → names v gs ≡ true → (0 < v) × (v < n)
names_below n [] v d m = absurd (false≢true m)
names_below n (g ∷ gs) v d m =
    ⊎_elim (λ (e : v ≡ named g). (omega (arith, d.0), omega (arith, d.1))) (names_below n gs v d.3) (names_either v g gs m)

pub named_word : (l : Literal) → named (word l) ≡ l.variable
named_word l = go l.negated l.variable
  where
    go : (s : Bool) (v : ℕ) → named (word_by s v) ≡ v
    go false v = refl
    go true zero = refl
    go true (suc v) = refl

-- ---- the highest variable

highest_clause : (h : ℕ) (c : Clause) (ws : List ℤ) → (k : ℕ) × (suc k ≡ past_clause (suc h) c)
    × (highest_named h (map word c ++ (pos 0 ∷ ws)) ≡ highest_named k ws)
highest_clause h [] ws = (h, refl, ap (λ (k : ℕ). highest_named k ws) (max-zero h))
highest_clause h (l ∷ c) ws =
    let k = highest_clause (max h l.variable) c ws in (
      k.0,
      k.1 ∙ ap (λ (n : ℕ). past_clause n c) (sym (suc-max-suc h l.variable)),
      ap (λ (v : ℕ). highest_named (max h v) (map word c ++ (pos 0 ∷ ws))) (named_word l) ∙ k.2,
    )

pub highest_of_words : (h : ℕ) (cs : List Clause) → suc (highest_named h (words cs)) ≡ past (suc h) cs
highest_of_words h [] = refl
highest_of_words h (c ∷ cs) =
    let k = highest_clause h c (words cs) in
    ap suc k.2 ∙ highest_of_words k.0 cs ∙ ap (λ (n : ℕ). past n cs) k.1

-- The first clause of words, a word at a time. Assumes nothing.
use mathlib.Core.Path.{◌≡◌, refl, sym, ap, ap₂, ◌∙◌}
use mathlib.Core.Bool.{Bool}
use mathlib.Core.List.{List, ◌∷◌}
use Prim.Native.Nat.{ℕ, zero, suc, ◌+◌, ◌-◌, ◌≤◌, ◌<◌}
use native.Mathlib.Numerals.{add-one}
use native.Mathlib.Omega.{arith}
use lib.Dec.{ltb}
use lib.IntN.{ℤ, pos, negsuc}
use lib.ListN.{length, get_or, drop}
use lib.Seq.{drop-cons}
use Rattle.std.proofs.lemmas.List.{drop_all, get_or_default}
use borrow.Author.Tests.{lt-ltb, le-ltb}
use Rattle.std.specs.Prelude.{None}
use Rattle.cnf.specs.Words.{named}
use Rattle.propagate.specs.Clause.{wanted, value_at, with_literal, closed, unless_above, reading}
use Rattle.propagate.specs.declared.Verdict.{Verdict}

-- ---- one word

pub reading_closed : (room : List ℕ) (d : Verdict) (n : ℕ) (w : ℤ) (ws : List ℤ) → named w ≡ 0
    → reading room d n (w ∷ ws) ≡ closed d (suc n)
unfolding reading
reading_closed room d n (pos zero) ws e = refl
reading_closed room d n (pos (suc v)) ws e = absurd (omega arith)
reading_closed room d n (negsuc v) ws e = absurd (omega arith)

-- a literal
reading_literal : (room : List ℕ) (d : Verdict) (n : ℕ) (w : ℤ) (ws : List ℤ) → (named w ≡ 0 → ⊥)
    → reading room d n (w ∷ ws)
    ≡ unless_above (ltb (length room) (named w)) (reading room (with_literal d (named w) (wanted w) (value_at room (named w))) (suc n) ws)
unfolding reading
reading_literal room d n (pos zero) ws f = absurd (f refl)
reading_literal room d n (pos (suc v)) ws f = refl
reading_literal room d n (negsuc v) ws f = refl

pub reading_above : (room : List ℕ) (d : Verdict) (n : ℕ) (w : ℤ) (ws : List ℤ) → length room < named w → reading room d n (w ∷ ws) ≡ None
reading_above room d n w ws h =
    reading_literal room d n w ws (λ e. omega arith)
    ∙ ap (λ (b : Bool). unless_above b (reading room (with_literal d (named w) (wanted w) (value_at room (named w))) (suc n) ws))
    (lt-ltb (length room) (named w) h)

pub reading_on : (room : List ℕ) (d : Verdict) (n : ℕ) (w : ℤ) (ws : List ℤ) → (named w ≡ 0 → ⊥) → named w ≤ length room
    → reading room d n (w ∷ ws) ≡ reading room (with_literal d (named w) (wanted w) (value_at room (named w))) (suc n) ws
reading_on room d n w ws f h =
    reading_literal room d n w ws f
    ∙ ap (λ (b : Bool). unless_above b (reading room (with_literal d (named w) (wanted w) (value_at room (named w))) (suc n) ws))
    (le-ltb (length room) (named w) h)

-- ---- the loop over the words: what is left of the reading is the whole

module _ (room : List ℕ) (d : Verdict) (i : ℕ) (ws : List ℤ) where
  pub words_end : length ws ≤ i → reading room d i (drop i ws) ≡ None
  unfolding reading
  words_end h = ap (reading room d i) (drop_all i ws h)

  module _ (h : i < length ws) where
    next_word : reading room d i (drop i ws) ≡ reading room d i (get_or ws i (pos 0) ∷ drop (suc i) ws)
    next_word = ap (reading room d i) (drop-cons ws i (pos 0) h)

    pub word_closes : named (get_or ws i (pos 0)) ≡ 0 → reading room d i (drop i ws) ≡ closed d (i + 1)
    word_closes z =
        next_word ∙ reading_closed room d i (get_or ws i (pos 0)) (drop (suc i) ws) z ∙ ap (closed d) (sym (add-one i))

    pub word_above : length room < named (get_or ws i (pos 0)) → reading room d i (drop i ws) ≡ None
    word_above l = next_word ∙ reading_above room d i (get_or ws i (pos 0)) (drop (suc i) ws) l

    pub word_read : (v : ℕ) → v ≡ named (get_or ws i (pos 0)) → (v ≡ 0 → ⊥) → v ≤ length room
        → reading room d i (drop i ws)
        ≡ reading room (with_literal d v (wanted (get_or ws i (pos 0))) (get_or room (v - 1) 0)) (i + 1) (drop (i + 1) ws)
    word_read v e f l =
        let w = get_or ws i (pos 0) in
        next_word ∙ reading_on room d i w (drop (suc i) ws) (λ z. f (e ∙ z)) (omega arith)
        ∙ ap₂ (λ (n k : ℕ). reading room (with_literal d n (wanted w) (get_or room (n - 1) 2)) k (drop k ws)) (sym e) (sym (add-one i))
        ∙ ap (λ (b : ℕ). reading room (with_literal d v (wanted w) b) (i + 1) (drop (i + 1) ws))
        (get_or_default room (v - 1) 2 0 (omega (arith, f)))

-- a reading word by word
pub ruleset word_by_word = (words_end, word_closes, word_above, word_read)

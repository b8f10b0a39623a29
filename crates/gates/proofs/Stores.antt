-- The words of codes, as the machine finds them and one after another in a room.
use Prim.Native.Nat.{ℕ, zero, suc, ◌+◌, ◌/◌, ◌%◌, ◌<◌, ◌^◌}
use mathlib.Core.Path.{◌≡◌, sym, ap, ◌∙◌}
use mathlib.Core.List.{List, [], ◌∷◌, ◌++◌, map-append}
use native.Mathlib.Numerals.{add-one}
use native.Mathlib.Omega.{arith}
use lib.IntN.{ℤ, pos, neg_ℤ, ◌-ℤ◌, +ℤ_idl}
use lib.ListN.{length, get_or, take, set, length-map}
use lib.Seq.{sets, take-suc, length-take-le}
use lib.Signed.{mag}
use mir.Syntax.{w32}
use mir.Val.{SFits, to_z, of_z}
use mir.ValLaws.{to_z_pos, to_z-of_z}
use Rattle.line.proofs.Room.{store_next}
use Rattle.cnf.specs.Words.{word}
use Rattle.gates.specs.Code.{literal_of, code_words}
use Rattle.gates.proofs.Codes.{word_even, word_odd}

-- ---- signed words

neg_fits : (n : ℕ) → n < 2 ^ 31 → SFits w32 (neg_ℤ (pos n))
neg_fits zero h = record { sfits = omega arith }
neg_fits (suc n) h = record { sfits = omega arith }

-- the negation of a number that was cast from an unsigned one
pub minus : (n : ℕ) → n < 2 ^ 31 → pos 0 -ℤ to_z w32 n ≡ neg_ℤ (pos n)
minus n h = ap (λ (z : ℤ). pos 0 -ℤ z) (to_z_pos w32 n h) ∙ +ℤ_idl (neg_ℤ (pos n))

pub minus_fits : (n : ℕ) → n < 2 ^ 31 → SFits w32 (pos 0 -ℤ to_z w32 n)
minus_fits n h = rw (minus n h) (neg_fits n h)

-- the word of a code, as the machine finds it from the code's half: even, and odd
pub word_plain : (b : ℕ) → b < 2 ^ 32 → b % 2 ≡ 0 → to_z w32 (b / 2) ≡ word (literal_of b)
word_plain b h e = to_z_pos w32 (b / 2) (omega arith) ∙ sym (word_even b e)

pub word_minus : (b : ℕ) → b < 2 ^ 32 → (b % 2 ≡ 0 → ⊥) → to_z w32 (of_z w32 (pos 0 -ℤ to_z w32 (b / 2))) ≡ word (literal_of b)
word_minus b h e =
    let f : b / 2 < 2 ^ 31 = omega arith in
    to_z-of_z w32 _ (minus_fits (b / 2) f) ∙ (minus (b / 2) f ∙ sym (word_odd b e))

-- what `word` is proved by
pub ruleset word_steps = (word_plain, word_minus, minus_fits)

-- ---- one after another

-- the word of one code more
pub words_more : (room : List ℤ) (codes : List ℕ) (i j : ℕ) (z : ℤ) → j < length codes → mag z < 2 ^ 31
    → z ≡ word (literal_of (get_or codes j 0))
    → set (sets room i (code_words (take j codes))) (i + j) (to_z w32 (of_z w32 z)) ≡ sets room i (code_words (take (j + 1) codes))
words_more room codes i j z h f e =
    let w : ℤ = word (literal_of (get_or codes j 0)) in
    let front = code_words (take j codes) in
    let more : code_words (take (j + 1) codes) ≡ front ++ (w ∷ []) =
    ap (λ (k : ℕ). code_words (take k codes)) (add-one j)
    ∙ (ap code_words (take-suc codes j 0 h) ∙ map-append (λ (b : ℕ). word (literal_of b)) (take j codes) (get_or codes j 0 ∷ [])) in
    ap (λ (v : ℤ). set (sets room i front) (i + j) v) (to_z-of_z w32 z (record { sfits = f }) ∙ e)
    ∙ (store_next room front w i j (length-map (take j codes) (λ (b : ℕ). word (literal_of b)) ∙ length-take-le j codes (omega arith))
    ∙ ap (λ (ws : List ℤ). sets room i ws) (sym more))

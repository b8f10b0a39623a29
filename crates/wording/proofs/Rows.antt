-- The texts of entries and of words, one more. Assumes nothing.
use mathlib.Core.Path.{◌≡◌, refl, ap, ◌∙◌, sym}
use mathlib.Core.List.{List, [], ◌∷◌, ◌++◌, append_assoc}
use Prim.Native.Nat.{ℕ, ◌+◌, ◌<◌}
use native.Mathlib.Numerals.{add-one}
use lib.IntN.{ℤ}
use lib.ListN.{length, get_or, take}
use lib.Seq.{take-suc}
use Rattle.wording.specs.Decimal.{signed_decimal}
use Rattle.wording.specs.File.{entries, word_text, words_text}

entries_append : (xs ys : List ℤ) → entries (xs ++ ys) ≡ entries xs ++ entries ys
unfolding entries
entries_append [] ys = refl
entries_append (x ∷ xs) ys =
    ap (λ (t : List ℕ). (32 ∷ signed_decimal x) ++ t) (entries_append xs ys)
    ∙ sym (append_assoc (32 ∷ signed_decimal x) (entries xs) (entries ys))

nil_right : (xs : List ℕ) → xs ++ [] ≡ xs
nil_right [] = refl
nil_right (x ∷ xs) = ap (λ (t : List ℕ). x ∷ t) (nil_right xs)

pub entries_more : (ys : List ℤ) (i : ℕ) (d : ℤ) → i < length ys
    → entries (take (i + 1) ys) ≡ entries (take i ys) ++ (32 ∷ signed_decimal (get_or ys i d))
unfolding entries
entries_more ys i d h =
    rw (add-one, take-suc ys i d h)
    (entries_append (take i ys) (get_or ys i d ∷ [])
    ∙ ap (λ (t : List ℕ). entries (take i ys) ++ t) (nil_right (32 ∷ signed_decimal (get_or ys i d))))

words_append : (xs ys : List ℤ) → words_text (xs ++ ys) ≡ words_text xs ++ words_text ys
unfolding words_text
words_append [] ys = refl
words_append (x ∷ xs) ys =
    ap (λ (t : List ℕ). word_text x ++ t) (words_append xs ys) ∙ sym (append_assoc (word_text x) (words_text xs) (words_text ys))

pub words_more : (ys : List ℤ) (i : ℕ) (d : ℤ) → i < length ys
    → words_text (take (i + 1) ys) ≡ words_text (take i ys) ++ word_text (get_or ys i d)
unfolding words_text
words_more ys i d h =
    rw (add-one, take-suc ys i d h)
    (words_append (take i ys) (get_or ys i d ∷ [])
    ∙ ap (λ (t : List ℕ). words_text (take i ys) ++ t) (nil_right (word_text (get_or ys i d))))

-- The code of a given literal, by its sign; and the bits behind the codes of given literals. Assumes nothing.
use Prim.Native.Nat.{ℕ, suc, ◌+◌, ◌*◌, ◌<◌, ◌≤◌}
use mathlib.Core.Path.{◌≡◌, refl, sym, ap, ap₂, ◌∙◌}
use mathlib.Core.Bool.{true, false, false≢true}
use mathlib.Core.List.{List, [], ◌∷◌, map}
use native.Mathlib.Omega.{arith}
use borrow.Author.Tests.{ltb-true}
use lib.IntN.{ℤ, pos, negsuc}
use lib.Signed.{lt_z}
use Rattle.cnf.specs.Clause.{negation}
use Rattle.cnf.specs.Words.{named, literal_of_word, DistinctBelow}
use Rattle.product.specs.Bit.{Bit, unfixed, given}
use Rattle.gates.specs.Code.{literal_of, bits_of, code_of_word}
use Rattle.gates.proofs.Codes.{negated_even, literal_negated, literal_new, bit_literal}

pub code_minus : (z : ℤ) → lt_z z (pos 0) ≡ true → 2 * named z + 1 ≡ code_of_word z
code_minus (pos n) e = absurd (omega (arith, ltb-true n 0 e))
code_minus (negsuc n) e = refl

pub code_plain : (z : ℤ) → lt_z z (pos 0) ≡ false → 2 * named z ≡ code_of_word z
code_plain (pos n) e = refl
code_plain (negsuc n) e = absurd (false≢true (sym e))

literal_given : (z : ℤ) → literal_of (code_of_word z) ≡ literal_of_word z
literal_given (pos v) = literal_new v
literal_given (negsuc v) =
    ap literal_of (sym (negated_even (2 * suc v) (omega arith))) ∙ literal_negated (2 * suc v) ∙ ap negation (literal_new (suc v))

code_large : (z : ℤ) → 0 < named z → 2 ≤ code_of_word z
code_large (pos v) h = omega arith
code_large (negsuc v) h = omega arith

-- the codes of given literals are their bits
pub bits_given : (first : ℕ) (x : List ℤ) → DistinctBelow first x → bits_of (map code_of_word x) ≡ given x
bits_given first [] i = refl
bits_given first (l ∷ ls) i =
    ap₂ (λ (b : Bit) (bs : List Bit). b ∷ bs) (bit_literal (code_of_word l) (code_large l i.0) ∙ ap unfixed (literal_given l))
    (bits_given first ls i.3)

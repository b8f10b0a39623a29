-- How many bits there are: in a term, in a sum of two terms, in a line, in the list of every operand.
use Prim.Native.Nat.{ℕ, zero, suc, ◌+◌}
use mathlib.Core.Path.{◌≡◌, refl, sym, ap, ◌∙◌}
use mathlib.Core.List.{List, [], ◌∷◌, ◌++◌, map}
use native.Mathlib.Omega.{arith}
use lib.ListN.{length, length-append, length-map}
use Rattle.line.specs.Line.{Kind, splus, sminus, minuss}
use Rattle.line.specs.declared.Line.{Line}
use Rattle.product.specs.Bit.{Bit, flip}
use Rattle.product.specs.Lines.{adder, shifted, fitted, line_sum, line_encoded, encoded}
use Rattle.product.specs.Product.{lines_from}

pub length_shifted : (t : ℕ) (bs : List Bit) → length (shifted t bs) ≡ t + length bs
unfolding shifted
length_shifted zero bs = omega arith
length_shifted (suc t) bs = omega (arith, length_shifted t bs)

pub length_fitted : (m : ℕ) (bs : List Bit) → length (fitted m bs) ≡ m
unfolding fitted
length_fitted zero bs = refl
length_fitted (suc m) [] = ap suc (length_fitted m [])
length_fitted (suc m) (b ∷ bs) = ap suc (length_fitted m bs)

pub length_flipped : (m : ℕ) (bs : List Bit) → length (map flip (fitted m bs)) ≡ m
length_flipped m bs = length-map (fitted m bs) flip ∙ length_fitted m bs

pub length_adder : (ls rs : List Bit) (c : Bit) (n : ℕ) → length ls ≡ length rs → length (adder ls rs c n).bits ≡ length ls
unfolding adder
length_adder [] rs c n e = refl
length_adder (l ∷ ls) [] c n e = absurd (omega arith)
length_adder (l ∷ ls) (r ∷ rs) c n e = ap suc (length_adder ls rs _ _ (omega arith))

-- a line has a bit in each column
pub length_line : (d : Kind) (m s : ℕ) (l r : List Bit) (n : ℕ) → length (line_sum d m l s r n).bits ≡ m
unfolding line_sum
length_line splus m s l r n = length_adder (fitted m _) (fitted m _) _ n (length_fitted m _ ∙ sym (length_fitted m _)) ∙ length_fitted m _
length_line sminus m s l r n =
    length_adder (fitted m _) (map flip (fitted m _)) _ n (length_fitted m _ ∙ sym (length_flipped m _)) ∙ length_fitted m _
length_line minuss m s l r n =
    length_adder (fitted m _) (map flip (fitted m _)) _ n (length_fitted m _ ∙ sym (length_flipped m _)) ∙ length_fitted m _

-- one operand more for each line
pub length_operands : (m : ℕ → ℕ) (ls : List Line) (operands : List (List Bit)) (n : ℕ)
    → length (encoded m ls operands n).operands ≡ length operands + length ls
unfolding encoded
length_operands m [] operands n = omega arith
length_operands m (l ∷ ls) operands n =
    let s = line_encoded m l operands n in
    omega (arith, length_operands m ls (operands ++ (s.bits ∷ [])) s.next, length-append operands (s.bits ∷ []))

pub length_lines : (recipe : List ℕ) (i n : ℕ) → length (lines_from recipe i n) ≡ n
unfolding lines_from
length_lines recipe i zero = refl
length_lines recipe i (suc n) = ap suc (length_lines recipe (suc i) n)

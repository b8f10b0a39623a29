-- The first i of a list, and one more; whether a list has a number; and the place of a number in a table.
use Prim.Native.Nat.{ℕ, ◌+◌, ◌-◌, ◌/◌, ◌^◌, ◌≤◌, ◌<◌}
use mathlib.Core.Path.{◌≡◌, sym, ap, ◌∙◌}
use mathlib.Core.Bool.{Bool, ◌||◌}
use mathlib.Core.List.{List, [], ◌∷◌, ◌++◌}
use mathlib.Core.Logic.{⊎_elim}
use native.Mathlib.Omega.{arith}
use native.Mathlib.Numerals.{add-one}
use lib.Dec.{eqb}
use lib.ListN.{length, take, get_or}
use lib.Pow.{pow_mono}
use lib.Seq.{take-suc}
use borrow.Author.Tests.{eq-eqb, ne_eqb}
use Rattle.std.specs.List.{list_any}
use Rattle.line.specs.Number.{bit_length}
use Rattle.line.proofs.Number.{bits_lt, bits_pos}
use Rattle.split.specs.Reach.{member}
use Rattle.split.proofs.Choose.{same_or}
use Rattle.split.proofs.Sets.{member_here, member_none, member_skip}
use Rattle.split.proofs.Splits.{pow_even}

pub take_next : (l : List ℕ) (i : ℕ) → i < length l → take (i + 1) l ≡ take i l ++ (get_or l i 0 ∷ [])
take_next l i h = ap (λ (n : ℕ). take n l) (add-one i) ∙ take-suc l i 0 h

-- the library's test of a slice is that of a set
pub any_member : (x : ℕ) (l : List ℕ) → list_any (λ (y : ℕ). eqb y x) l ≡ member x l
any_member x [] = sym (member_none x)
any_member x (y ∷ l) = ⊎_elim
    (λ e. ap (λ (b : Bool). b || list_any (λ (z : ℕ). eqb z x) l) (eq-eqb y x (sym e)) ∙ sym (member_here x y l (eq-eqb x y e)))
    (λ ne. ap (λ (b : Bool). b || list_any (λ (z : ℕ). eqb z x) l) (ne_eqb y x (λ e. ne (sym e)))
    ∙ (any_member x l ∙ sym (member_skip x y l (ne_eqb x y ne))))
    (same_or x y)

-- a table that reaches as far as n's bit length has a place for each number of no more bits
pub in_table : (l : List ℕ) (x n : ℕ) → 0 < x → bit_length x ≤ bit_length n → 2 ^ (bit_length n - 1) ≤ length l → x / 2 < length l
in_table l x n some le long =
    omega (
      arith,
      bits_lt x,
      pow_even (bit_length x) (bits_pos x some),
      pow_mono {i = bit_length x - 1} {j = bit_length n - 1} (omega arith),
    )

-- Tables that a loop stores entry by entry.
use Prim.Native.Nat.{ℕ, zero, suc, ◌+◌, ◌-◌, ◌*◌, ◌<◌, ◌≤◌, ◌^◌}
use mathlib.Core.Path.{◌≡◌, refl, sym, ap, ◌∙◌}
use mathlib.Core.List.{List, [], ◌∷◌, ◌++◌}
use mathlib.Core.Logic.{⊎_elim}
use native.Mathlib.Omega.{arith}
use native.Mathlib.Nat.{eq-or-lt_of_le}
use native.Mathlib.Numerals.{add-one}
use lib.ListN.{length, get_or, take, drop, set, length-append, get_or-append, length-take, length-drop}
use lib.Seq.{sets, get_or-append_seam}
use lib.IntN.{ℤ}
use lib.Signed.{mag}
use mir.Syntax.{w32}
use mir.Val.{to_z, of_z}
use mir.ValLaws.{to_z-of_z}
use Rattle.write.specs.Sizes.{most_columns}
use Rattle.write.specs.Terms.{listed, operand_at}
use Rattle.line.proofs.Room.{store_last}

pub length_listed : {A : Type 0} (f : ℕ → A) (m : ℕ) → length (listed f m) ≡ m
unfolding listed
length_listed f zero = refl
length_listed f (suc m) = omega (arith, length-append (listed f m) (f m ∷ []), length_listed f m)

pub listed_more : {A : Type 0} (out : List A) (f : ℕ → A) (j : ℕ) (x : A) → x ≡ f j
    → set (sets out 0 (listed f j)) j x ≡ sets out 0 (listed f (j + 1))
unfolding listed
listed_more out f j x e =
    store_last out (listed f j) x j (length_listed f j)
    ∙ (ap (λ y. sets out 0 (listed f j ++ (y ∷ []))) e
    ∙ ap (λ (k : ℕ). sets out 0 (listed f k)) (sym (add-one j)))

-- none yet, as a loop begins
pub listed_none : {A : Type 0} (out : List A) (f : ℕ → A) → out ≡ sets out 0 (listed f 0)
unfolding listed
listed_none out f = refl

-- one signed entry more, as the machine stores it
pub signed_more : (out : List ℤ) (f : ℕ → ℤ) (j : ℕ) (z : ℤ) → mag z < 2 ^ 31 → z ≡ f j
    → set (sets out 0 (listed f j)) j (to_z w32 (of_z w32 z)) ≡ sets out 0 (listed f (j + 1))
signed_more out f j z h e = listed_more out f j (to_z w32 (of_z w32 z)) (to_z-of_z w32 z (record { sfits = h }) ∙ e)

-- what loops that store entry by entry are proved by
pub listed_at : {A : Type 0} (f : ℕ → A) (m j : ℕ) (d : A) → j < m → get_or (listed f m) j d ≡ f j
unfolding listed
listed_at f zero j d h = absurd (omega arith)
listed_at f (suc m) j d h =
    ⊎_elim
    (λ (e : j ≡ m).
    ap (λ (k : ℕ). get_or (listed f m ++ (f m ∷ [])) k d) (e ∙ sym (length_listed f m))
    ∙ (get_or-append_seam (listed f m) (f m) [] d ∙ ap f (sym e)))
    (λ (l : j < m). get_or-append (listed f m) (f m ∷ []) d j (omega (arith, length_listed f m)) ∙ listed_at f m j d l)
    (eq-or-lt_of_le {n = j} {m = m} (omega arith))

-- an operand's columns, as a part of the scratch room, and how many these are
pub operand_part : (scratch : List ℕ) (i : ℕ)
    → take (most_columns * i + most_columns - most_columns * i) (drop (most_columns * i) scratch) ≡ operand_at scratch i
unfolding operand_at
operand_part scratch i =
    let e : most_columns * i + most_columns - most_columns * i ≡ most_columns = omega arith in
    ap (λ (k : ℕ). take k (drop (most_columns * i) scratch)) e

pub length_operand : (scratch : List ℕ) (i : ℕ) → most_columns * i + most_columns ≤ length scratch
    → length (operand_at scratch i) ≡ most_columns
unfolding operand_at
length_operand scratch i h = simp (length-take, length-drop) (omega arith)

-- ---- what loops that store entry by entry are proved by

pub ruleset table_steps = (listed_none, listed_more, signed_more, length_operand)

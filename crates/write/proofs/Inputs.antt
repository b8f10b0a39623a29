-- Test 14 as the loops make it, literal by literal. Assumes nothing.
use Prim.Native.Nat.{ℕ, ◌+◌, ◌≤◌, ◌<◌, ◌^◌}
use mathlib.Core.Path.{◌≡◌, refl, sym, ap, ◌∙◌}
use mathlib.Core.Bool.{Bool, true, false, not, ◌||◌}
use mathlib.Core.List.{List, ◌∷◌}
use native.Mathlib.Omega.{arith}
use native.Mathlib.Numerals.{add-one}
use borrow.Author.Tests.{eq-eqb, ne_eqb}
use lib.Dec.{eqb, ltb}
use lib.IntN.{ℤ, pos, negsuc, nat_abs}
use lib.Signed.{mag}
use mir.Syntax.{w32}
use mir.Val.{to_z, of_z}
use mir.ValLaws.{to_z-of_z}
use Rattle.line.specs.Limits.{most_next}
use Rattle.product.proofs.Given.{fit_at, fit_of}
use lib.ListN.{length, get_or, drop, drop_of_length-le}
use lib.Seq.{drop-cons}
use Rattle.cnf.specs.Words.{named, names}
use Rattle.product.specs.Write.{unfit}
use Rattle.write.specs.Terms.{unfit_at}

-- the literal at j, and those behind it
at_place : {A : Type 0} (x : List ℤ) (j : ℕ) (f : List ℤ → A) → j < length x → f (drop j x) ≡ f (get_or x j (pos 0) ∷ drop (j + 1) x)
at_place x j f h = ap f (drop-cons x j (pos 0) h) ∙ ap (λ (k : ℕ). f (get_or x j (pos 0) ∷ drop k x)) (sym (add-one j))

module _ (v : ℕ) (x : List ℤ) (j : ℕ) where
  pub names_hit : j < length x → named (get_or x j (pos 0)) ≡ v → names v (drop j x) ≡ true
  names_hit h e = at_place x j (names v) h ∙ ap (λ (b : Bool). b || names v (drop (j + 1) x)) (eq-eqb (named (get_or x j (pos 0))) v e)

  pub names_miss : j < length x → (named (get_or x j (pos 0)) ≡ v → ⊥) → names v (drop j x) ≡ names v (drop (j + 1) x)
  names_miss h e = at_place x j (names v) h ∙ ap (λ (b : Bool). b || names v (drop (j + 1) x)) (ne_eqb (named (get_or x j (pos 0))) v e)

  pub names_end : length x ≤ j → names v (drop j x) ≡ false
  names_end h = ap (names v) (drop_of_length-le x h)

module _ (first : ℕ) (x : List ℤ) (j : ℕ) where
  abbrev l : ℕ
  l = named (get_or x j (pos 0))

  three : (a b c d : Bool) → a || (b || (c || d)) ≡ (a || (b || c)) || d
  three true b c d = refl
  three false true c d = refl
  three false false c d = refl

  whole : j < length x → unfit first (drop j x) ≡ unfit_at first x j || unfit first (drop (j + 1) x)
  unfolding unfit_at
  whole h = at_place x j (unfit first) h ∙ three (eqb l 0) (not (ltb l first)) (names l (drop (j + 1) x)) (unfit first (drop (j + 1) x))

  pub unfit_hit : j < length x → unfit_at first x j ≡ true → unfit first (drop j x) ≡ true
  unfit_hit h e = whole h ∙ ap (λ (b : Bool). b || unfit first (drop (j + 1) x)) e

  pub unfit_miss : j < length x → unfit_at first x j ≡ false → unfit first (drop j x) ≡ unfit first (drop (j + 1) x)
  unfit_miss h e = whole h ∙ ap (λ (b : Bool). b || unfit first (drop (j + 1) x)) e

  pub unfit_end : length x ≤ j → unfit first (drop j x) ≡ false
  unfit_end h = ap (unfit first) (drop_of_length-le x h)

-- ---- a literal that fits

mag_named : (z : ℤ) → named z < 2 ^ 31 → mag z < 2 ^ 31
mag_named (pos n) h = h
mag_named (negsuc n) h = omega arith

-- its variable's number, as the machine reads it
pub named_fits : (first : ℕ) (x : List ℤ) (j : ℕ) → unfit first x ≡ false → first ≤ most_next → j < length x
    → named (to_z w32 (of_z w32 (get_or x j (pos 0)))) < most_next
named_fits first x j e h q =
    let z : ℤ = get_or x j (pos 0) in
    let b : named z < most_next = omega (arith, fit_at first x (fit_of first x e) j q, h) in
    omega (arith, ap nat_abs (to_z-of_z w32 z (record { sfits = mag_named z b })), b)

-- ---- what the tests' functions are proved by

pub ruleset names_steps = (names_hit, names_miss, names_end)

pub ruleset unfit_steps = (unfit_hit, unfit_miss, unfit_end)

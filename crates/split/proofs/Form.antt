-- Every number has exactly one non-adjacent signed form, `signed_form`. So the line bound holds over whichever form somebody finds.
use Prim.Native.Nat.{ℕ, zero, suc, ◌+◌, ◌*◌, ◌/◌, ◌%◌, ◌≤◌, ◌<◌}
use mathlib.Core.Path.{◌≡◌, refl, sym, ap, subst}
use mathlib.Core.List.{List, [], ◌∷◌}
use mathlib.Core.Logic.{⊎_elim}
use native.Mathlib.Nat.{eq-zero-or-pos}
use native.Mathlib.Omega.{arith}
use lib.ListN.{length}
use borrow.Author.Tests.{ne_eqb, eq-eqb}
use Rattle.line.specs.Number.{bit_length}
use Rattle.split.specs.Choose.{split_of, line_count}
use Rattle.split.specs.Form.{Digit, minus, nought, plus, weight, nonzero, worth, sum_of, Rests, Apart, Topped, SignedForm, form_by}
use Rattle.split.specs.Form.{signed_form}
use Rattle.split.proofs.Lines.{Shape, nothing, even, up, down, shape, lines_signed}

-- ---- every number has one

by_value : (f n : ℕ) → n ≤ f → sum_of plus (form_by f n) ≡ n + sum_of minus (form_by f n)
unfolding form_by sum_of worth
by_value zero n h = omega arith
by_value (suc f) n h = go (by_value f (n / 2)) (by_value f (n / 2 + 1)) (shape n)
  where
    go : (n / 2 ≤ f → sum_of plus (form_by f (n / 2)) ≡ n / 2 + sum_of minus (form_by f (n / 2)))
        → (n / 2 + 1 ≤ f → sum_of plus (form_by f (n / 2 + 1)) ≡ n / 2 + 1 + sum_of minus (form_by f (n / 2 + 1)))
        → Shape n → sum_of plus (form_by (suc f) n) ≡ n + sum_of minus (form_by (suc f) n)
    go a b (nothing e) = subst (λ (m : ℕ). sum_of plus (form_by (suc f) m) ≡ m + sum_of minus (form_by (suc f) m)) (sym e) refl
    go a b (even p e) = rw (ne_eqb n 0 (omega arith), eq-eqb (n % 2) 0 e, form_by) (omega (arith, a (omega arith)))
    go a b (up e) = rw (ne_eqb n 0 (omega arith), ne_eqb (n % 2) 0 (omega arith), eq-eqb (n % 4) 1 e, form_by)
        (omega (arith, a (omega arith)))
    go a b (down e) = rw (ne_eqb n 0 (omega arith), ne_eqb (n % 2) 0 (omega arith), ne_eqb (n % 4) 1 (omega arith), form_by)
        (omega (arith, b (omega arith)))

-- after an odd number's digit the rest is even, and its lowest digit is 0
even_rests : (f n : ℕ) → n % 2 ≡ 0 → Rests (form_by f n)
unfolding Rests form_by weight
even_rests zero n e = tt
even_rests (suc f) n e = ⊎_elim
    (λ z. subst (λ (m : ℕ). Rests (form_by (suc f) m)) (sym z) tt)
    (λ p. rw (ne_eqb n 0 (omega arith), eq-eqb (n % 2) 0 e, form_by) refl)
    (eq-zero-or-pos n)

by_apart : (f n : ℕ) → n ≤ f → Apart (form_by f n)
unfolding Apart form_by
by_apart zero n h = tt
by_apart (suc f) n h = go (by_apart f (n / 2)) (by_apart f (n / 2 + 1)) (shape n)
  where
    go : (n / 2 ≤ f → Apart (form_by f (n / 2))) → (n / 2 + 1 ≤ f → Apart (form_by f (n / 2 + 1))) → Shape n → Apart (form_by (suc f) n)
    go a b (nothing e) = subst (λ (m : ℕ). Apart (form_by (suc f) m)) (sym e) tt
    go a b (even p e) = rw (ne_eqb n 0 (omega arith), eq-eqb (n % 2) 0 e, form_by) (a (omega arith))
    go a b (up e) =
        let q : n / 2 ≡ 2 * (n / 4) = omega arith in
        let ev : n / 2 / 2 ≡ n / 4 = omega arith in
        rw (ne_eqb n 0 (omega arith), ne_eqb (n % 2) 0 (omega arith), eq-eqb (n % 4) 1 e, form_by)
        (even_rests f (n / 2) (omega arith), a (omega arith))
    go a b (down e) =
        let q : n / 2 ≡ 2 * (n / 4) + 1 = omega arith in
        let ev : (n / 2 + 1) / 2 ≡ n / 4 + 1 = omega arith in
        rw (ne_eqb n 0 (omega arith), ne_eqb (n % 2) 0 (omega arith), ne_eqb (n % 4) 1 (omega arith), form_by)
        (even_rests f (n / 2 + 1) (omega arith), b (omega arith))

-- a nonzero digit is a top, and a zero digit stands below one
topped_one : (d : Digit) (ds : List Digit) → weight d ≡ 1 → Topped ds → Topped (d ∷ ds)
unfolding Topped
topped_one d [] e h = e
topped_one d (f ∷ ds) e h = h

topped_nought : (k : ℕ) (ds : List Digit) → 0 < k → sum_of plus ds ≡ k + sum_of minus ds → Topped ds → Topped (nought ∷ ds)
unfolding Topped sum_of
topped_nought k [] p e h = absurd (omega arith)
topped_nought k (f ∷ ds) p e h = h

by_topped : (f n : ℕ) → n ≤ f → Topped (form_by f n)
unfolding Topped form_by weight
by_topped zero n h = tt
by_topped (suc f) n h = go (by_topped f (n / 2)) (by_topped f (n / 2 + 1)) (shape n)
  where
    go : (n / 2 ≤ f → Topped (form_by f (n / 2))) → (n / 2 + 1 ≤ f → Topped (form_by f (n / 2 + 1))) → Shape n → Topped (form_by (suc f) n)
    go a b (nothing e) = subst (λ (m : ℕ). Topped (form_by (suc f) m)) (sym e) tt
    go a b (even p e) = rw (ne_eqb n 0 (omega arith), eq-eqb (n % 2) 0 e, form_by)
        (topped_nought (n / 2) (form_by f (n / 2)) (omega arith) (by_value f (n / 2) (omega arith)) (a (omega arith)))
    go a b (up e) = rw (ne_eqb n 0 (omega arith), ne_eqb (n % 2) 0 (omega arith), eq-eqb (n % 4) 1 e, form_by)
        (topped_one plus (form_by f (n / 2)) refl (a (omega arith)))
    go a b (down e) = rw (ne_eqb n 0 (omega arith), ne_eqb (n % 2) 0 (omega arith), ne_eqb (n % 4) 1 (omega arith), form_by)
        (topped_one minus (form_by f (n / 2 + 1)) refl (b (omega arith)))

pub form_is : (n : ℕ) → SignedForm n (signed_form n)
unfolding signed_form
form_is n = record {
  apart = by_apart (suc n) n (omega arith);
  value = by_value (suc n) n (omega arith);
  topped = by_topped (suc n) n (omega arith);
}

-- ---- no number has two

rests_even : (ds : List Digit) → Rests ds → (k : ℕ) → sum_of plus ds ≡ k + sum_of minus ds → k % 2 ≡ 0
unfolding Rests sum_of worth weight
rests_even [] r k e = omega arith
rests_even (nought ∷ ds) r k e = omega arith
rests_even (plus ∷ ds) r k e = absurd (omega arith)
rests_even (minus ∷ ds) r k e = absurd (omega arith)

topped_tail : (d : Digit) (ds : List Digit) → Topped (d ∷ ds) → Topped ds
unfolding Topped
topped_tail d [] h = tt
topped_tail d (e ∷ ds) h = h

cons_not_nil : {d : Digit} {ds : List Digit} → d ∷ ds ≡ [] → ⊥
cons_not_nil e = omega (arith, ap (λ (l : List Digit). length l) e)

apart_by : (n : ℕ) → n / 2 % 2 ≡ 0 → (n / 2 + 1) % 2 ≡ 0 → ⊥
apart_by n e f = omega arith

-- a form of 0 has no digits
none : (ds : List Digit) → Apart ds → Topped ds → sum_of plus ds ≡ sum_of minus ds → ds ≡ []
unfolding Apart Topped sum_of worth weight
none [] a h e = refl
none (nought ∷ []) a h e = absurd (omega arith)
none (nought ∷ d ∷ ds) a h e = absurd (cons_not_nil (none (d ∷ ds) a h (omega arith)))
none (plus ∷ ds) a h e = absurd (omega arith)
none (minus ∷ ds) a h e = absurd (omega arith)

two : (ds es : List Digit) (n : ℕ) → SignedForm n ds → SignedForm n es → ds ≡ es
unfolding Apart sum_of worth
two [] es n f g = sym (none es g.apart g.topped (omega (arith, f.value, g.value)))
two (d ∷ ds) [] n f g = none (d ∷ ds) f.apart f.topped (omega (arith, f.value, g.value))
two (nought ∷ ds) (nought ∷ es) n f g = ap (λ (x : List Digit). nought ∷ x) (two ds es (n / 2)
    (record { apart = f.apart; value = omega (arith, f.value); topped = topped_tail nought ds f.topped })
    (record { apart = g.apart; value = omega (arith, g.value); topped = topped_tail nought es g.topped }))
two (nought ∷ ds) (plus ∷ es) n f g = absurd (omega (arith, f.value, g.value))
two (nought ∷ ds) (minus ∷ es) n f g = absurd (omega (arith, f.value, g.value))
two (plus ∷ ds) (nought ∷ es) n f g = absurd (omega (arith, f.value, g.value))
two (minus ∷ ds) (nought ∷ es) n f g = absurd (omega (arith, f.value, g.value))
two (plus ∷ ds) (plus ∷ es) n f g = ap (λ (x : List Digit). plus ∷ x) (two ds es (n / 2)
    (record { apart = f.apart.1; value = omega (arith, f.value); topped = topped_tail plus ds f.topped })
    (record { apart = g.apart.1; value = omega (arith, g.value); topped = topped_tail plus es g.topped }))
two (minus ∷ ds) (minus ∷ es) n f g = ap (λ (x : List Digit). minus ∷ x) (two ds es (n / 2 + 1)
    (record { apart = f.apart.1; value = omega (arith, f.value); topped = topped_tail minus ds f.topped })
    (record { apart = g.apart.1; value = omega (arith, g.value); topped = topped_tail minus es g.topped }))
two (plus ∷ ds) (minus ∷ es) n f g = absurd (
    apart_by n
    (rests_even ds f.apart.0 (n / 2) (omega (arith, f.value)))
    (rests_even es g.apart.0 (n / 2 + 1) (omega (arith, g.value))))
two (minus ∷ ds) (plus ∷ es) n f g = absurd (
    apart_by n
    (rests_even es g.apart.0 (n / 2) (omega (arith, g.value)))
    (rests_even ds f.apart.0 (n / 2 + 1) (omega (arith, f.value))))

pub form_only : (n : ℕ) (ds : List Digit) → SignedForm n ds → ds ≡ signed_form n
form_only n ds f = two ds (signed_form n) n f (form_is n)

-- ---- the bound, over every form

pub lines_form : (n : ℕ) (ds : List Digit) → SignedForm n ds → n % 2 ≡ 1 → bit_length n < 32 → suc (line_count split_of n) ≤ nonzero ds
lines_form n ds f odd few = subst (λ (es : List Digit). suc (line_count split_of n) ≤ nonzero es) (sym (form_only n ds f))
    (lines_signed n odd few)

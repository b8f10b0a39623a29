-- The line bounds. n is m * 2^p + 1 or m * 2^p - 1 with m odd, a split whose right operand is 1, and the signed form of m has one nonzero
-- digit less: so n has fewer lines than its form has nonzero digits. These are at most half the bit length and one.
use Prim.Native.Nat.{ℕ, zero, suc, ◌+◌, ◌-◌, ◌*◌, ◌/◌, ◌%◌, ◌^◌, ◌≤◌, ◌<◌}
use mathlib.Core.Path.{◌≡◌, refl, sym, ap, ap₂, ◌∙◌, subst}
use mathlib.Core.Bool.{true}
use mathlib.Core.List.{[]}
use mathlib.Core.Logic.{⊎_elim}
use native.Mathlib.Nat.{le_refl, eq-zero-or-pos, mul-add, mul-one, one-mul, suc-mul, mul-le-mul_right, two-pow-succ}
use native.Mathlib.Omega.{arith}
use lib.Arith.{digits_div, digits_mod}
use lib.Pow.{pow_pos}
use borrow.Author.Tests.{eq-eqb, ne_eqb, le-leb, lt-ltb}
use Rattle.line.specs.Number.{bit_length}
use Rattle.line.specs.Line.{kind_of}
use Rattle.split.specs.Split.{low, high, kind, left, right, left_at, right_at, legal_at, legal}
use Rattle.split.specs.Choose.{lines, split_of, line_count}
use Rattle.split.specs.Form.{weight, nonzero, form_by, signed_form}
use Rattle.line.proofs.Number.{bits_lt, bits_gt}
use Rattle.split.proofs.Splits.{Operands, operands}
use Rattle.split.proofs.Reach.{lines_depend}
use Rattle.split.proofs.Choose.{as_legal, same_or, split_chosen}
use Rattle.split.proofs.Bound.{Bounded, bounded, lines_left}

-- ---- the nonzero digits of the signed form, by its own recursion

unfoldable pub form_weight : ℕ → ℕ
form_weight n = nonzero (signed_form n)

in_zero : (f : ℕ) → form_by f 0 ≡ []
unfolding form_by
in_zero zero = refl
in_zero (suc f) = refl

in_even : (f n : ℕ) → 0 < n → n % 2 ≡ 0 → nonzero (form_by (suc f) n) ≡ nonzero (form_by f (n / 2))
unfolding form_by nonzero weight
in_even f n h e = rw (ne_eqb n 0 (omega arith), eq-eqb (n % 2) 0 e, form_by) (omega arith)

in_plus : (f n : ℕ) → n % 4 ≡ 1 → nonzero (form_by (suc f) n) ≡ suc (nonzero (form_by f (n / 2)))
unfolding form_by nonzero weight
in_plus f n e = rw (ne_eqb n 0 (omega arith), ne_eqb (n % 2) 0 (omega arith), eq-eqb (n % 4) 1 e, form_by) (omega arith)

in_minus : (f n : ℕ) → n % 4 ≡ 3 → nonzero (form_by (suc f) n) ≡ suc (nonzero (form_by f (n / 2 + 1)))
unfolding form_by nonzero weight
in_minus f n e = rw (ne_eqb n 0 (omega arith), ne_eqb (n % 2) 0 (omega arith), ne_eqb (n % 4) 1 (omega arith), form_by) (omega arith)

pub data Shape (n : ℕ) : Type 0 where
  nothing : n ≡ 0 → Shape n
  even : 0 < n → n % 2 ≡ 0 → Shape n
  up : n % 4 ≡ 1 → Shape n
  down : n % 4 ≡ 3 → Shape n

pub shape : (n : ℕ) → Shape n
shape n = ⊎_elim nothing (λ p. ⊎_elim (λ e. even p e) (λ q. ⊎_elim up (λ r. down (omega arith)) (same_or (n % 4) 1)) (same_or (n % 2) 0))
    (eq-zero-or-pos n)

in_same : (f g n : ℕ) → n ≤ f → n ≤ g → nonzero (form_by f n) ≡ nonzero (form_by g n)
in_same zero g n h k = subst (λ (m : ℕ). nonzero (form_by zero m) ≡ nonzero (form_by g m)) {x = 0} (omega arith)
    (ap nonzero (in_zero zero ∙ sym (in_zero g)))
in_same (suc f) zero n h k = subst (λ (m : ℕ). nonzero (form_by (suc f) m) ≡ nonzero (form_by zero m)) {x = 0} (omega arith)
    (ap nonzero (in_zero (suc f) ∙ sym (in_zero zero)))
in_same (suc f) (suc g) n h k = go (in_same f g (n / 2)) (in_same f g (n / 2 + 1)) (shape n)
  where
    go : (n / 2 ≤ f → n / 2 ≤ g → nonzero (form_by f (n / 2)) ≡ nonzero (form_by g (n / 2)))
        → (n / 2 + 1 ≤ f → n / 2 + 1 ≤ g → nonzero (form_by f (n / 2 + 1)) ≡ nonzero (form_by g (n / 2 + 1)))
        → Shape n → nonzero (form_by (suc f) n) ≡ nonzero (form_by (suc g) n)
    go a b (nothing e) = subst (λ (m : ℕ). nonzero (form_by (suc f) m) ≡ nonzero (form_by (suc g) m)) (sym e)
        (ap nonzero (in_zero (suc f) ∙ sym (in_zero (suc g))))
    go a b (even p e) = in_even f n p e ∙ a (omega arith) (omega arith) ∙ sym (in_even g n p e)
    go a b (up e) = in_plus f n e ∙ ap suc (a (omega arith) (omega arith)) ∙ sym (in_plus g n e)
    go a b (down e) = in_minus f n e ∙ ap suc (b (omega arith) (omega arith)) ∙ sym (in_minus g n e)

weight_even : (n : ℕ) → 0 < n → n % 2 ≡ 0 → form_weight n ≡ form_weight (n / 2)
unfolding form_weight signed_form
weight_even n p e = in_even n n p e ∙ in_same n (suc (n / 2)) (n / 2) (omega arith) (omega arith)

weight_plus : (n : ℕ) → n % 4 ≡ 1 → form_weight n ≡ suc (form_weight (n / 2))
unfolding form_weight signed_form
weight_plus n e = in_plus n n e ∙ ap suc (in_same n (suc (n / 2)) (n / 2) (omega arith) (omega arith))

weight_minus : (n : ℕ) → n % 4 ≡ 3 → form_weight n ≡ suc (form_weight (n / 2 + 1))
unfolding form_weight signed_form
weight_minus n e = in_minus n n e ∙ ap suc (in_same n (suc (n / 2 + 1)) (n / 2 + 1) (omega arith) (omega arith))

weight_one : form_weight 1 ≡ 1
unfolding form_weight signed_form form_by nonzero weight
weight_one = refl

weight_some : (n : ℕ) → n % 2 ≡ 1 → 0 < form_weight n
weight_some n odd = go (shape n)
  where
    go : Shape n → 0 < form_weight n
    go (nothing e) = absurd (omega arith)
    go (even p e) = absurd (omega arith)
    go (up e) = omega (arith, weight_plus n e)
    go (down e) = omega (arith, weight_minus n e)

-- ---- an odd number times a power of two

record Halved (k : ℕ) : Type 0 where
  j : ℕ
  m : ℕ
  is : k ≡ m * 2 ^ j
  odd : m % 2 ≡ 1
  le : m ≤ k
  same : form_weight k ≡ form_weight m

halved : (f k : ℕ) → k ≤ f → 0 < k → Halved k
halved zero k h p = absurd (omega arith)
halved (suc f) k h p = ⊎_elim
    (λ e.
    let o : Halved (k / 2) = halved f (k / 2) (omega arith) (omega arith) in
    record {
      j = suc o.j;
      m = o.m;
      is = omega (arith, o.is, ap (λ (x : ℕ). o.m * x) (two-pow-succ o.j), mul-add o.m (2 ^ o.j) (2 ^ o.j));
      odd = o.odd;
      le = omega (arith, o.le);
      same = weight_even k p e ∙ o.same;
    })
    (λ e. record { j = 0; m = k; is = sym (mul-one k); odd = omega arith; le = le_refl k; same = refl })
    (eq-zero-or-pos (k % 2))

-- ---- the split that takes one digit off

-- n is m * 2 ^ p + 1, or m * 2 ^ p - 1, with m odd: a split whose right operand is 1
record Down (n : ℕ) : Type 0 where
  split : ℕ
  small : split < 128
  is_legal : legal split n ≡ true
  ends : right split n ≡ 1
  weighs : form_weight n ≡ suc (form_weight (left split n))

by_split : (n k p m : ℕ) → 1 ≤ k → k ≤ 3 → p < 32
    → legal_at (kind_of k) p n ≡ true → left_at (kind_of k) p n ≡ m → right_at (kind_of k) p n ≡ 1 → form_weight n ≡ suc (form_weight m)
    → Down n
by_split n k p m one three hp e l r weighs =
    let s : ℕ = 32 * k + p in
    let ek : s / 32 ≡ k = omega arith in
    let ep : s % 32 ≡ p = omega arith in
    record {
      split = s;
      small = omega arith;
      is_legal = as_legal k p n one three hp ∙ e;
      ends = ap₂ (λ (a b : ℕ). right_at (kind_of a) b n) ek ep ∙ r;
      weighs = weighs ∙ ap (λ (x : ℕ). suc (form_weight x)) (sym (ap₂ (λ (a b : ℕ). left_at (kind_of a) b n) ek ep ∙ l));
    }

-- the power above m's place, and m there
above : (m j : ℕ) → (m * 2 ^ suc j ≡ m * 2 ^ j + m * 2 ^ j) × (1 < 2 ^ suc j)
above m j = (ap (λ (x : ℕ). m * x) (two-pow-succ j) ∙ mul-add m (2 ^ j) (2 ^ j), omega (arith, two-pow-succ j, pow_pos j))

module _ (n : ℕ) (big : 1 < n) (odd : n % 2 ≡ 1) (few : bit_length n < 32) where
  go_up : n % 4 ≡ 1 → Down n
  unfolding kind_of legal_at left_at right_at high low
  go_up e =
      let o : Halved (n / 2) = halved (n / 2) (n / 2) (le_refl (n / 2)) (omega arith) in
      let P : ℕ = 2 ^ suc o.j in
      let m : ℕ = o.m in
      let a = above m o.j in
      let is : n ≡ m * P + 1 = omega (arith, a.0, o.is) in
      let hi : n / P ≡ m = ap (λ (x : ℕ). x / P) is ∙ digits_div m a.1 in
      let lo : n % P ≡ 1 = ap (λ (x : ℕ). x % P) is ∙ digits_mod m a.1 in
      let Pn : P ≤ n = omega (arith, mul-le-mul_right {m = 1} {n = m} P (omega (arith, o.odd)), one-mul P) in
      let pb : suc o.j < bit_length n = bits_gt (suc o.j) n Pn in
      by_split n 1 (suc o.j) m (omega arith) (omega arith) (omega arith)
      (rw (le-leb 1 (suc o.j) (omega arith), lt-ltb (suc o.j) (bit_length n) pb, hi, o.odd, legal_at)) hi lo
      (weight_plus n e ∙ ap suc o.same)

  go_down : n % 4 ≡ 3 → Down n
  unfolding kind_of legal_at left_at right_at high low
  go_down e =
      let o : Halved (n / 2 + 1) = halved (n / 2 + 1) (n / 2 + 1) (le_refl (n / 2 + 1)) (omega arith) in
      let P : ℕ = 2 ^ suc o.j in
      let m : ℕ = o.m in
      let a = above m o.j in
      let mm : m * P ≡ (m - 1) * P + P = ap (λ (x : ℕ). x * P) {y = suc (m - 1)} (omega (arith, o.odd)) ∙ suc-mul (m - 1) P in
      let is : n ≡ (m - 1) * P + (P - 1) = omega (arith, a.0, o.is, mm) in
      let r : P - 1 < P = omega (arith, a.1) in
      let hi : n / P ≡ m - 1 = ap (λ (x : ℕ). x / P) is ∙ digits_div (m - 1) r in
      let lo : n % P ≡ P - 1 = ap (λ (x : ℕ). x % P) is ∙ digits_mod (m - 1) r in
      let Pn : 2 ^ o.j ≤ n = omega (arith, two-pow-succ o.j) in
      let pb : suc o.j ≤ bit_length n = bits_gt o.j n Pn in
      let ev : (m - 1) % 2 ≡ 0 = omega (arith, o.odd) in
      by_split n 2 (suc o.j) m (omega arith) (omega arith) (omega arith)
      (rw (le-leb 1 (suc o.j) (omega arith), le-leb (suc o.j) (bit_length n) pb, hi, ev, legal_at)) (omega (arith, o.odd))
      (omega arith) (weight_minus n e ∙ ap suc o.same)

down_one : (n : ℕ) → 1 < n → n % 2 ≡ 1 → bit_length n < 32 → Down n
down_one n big odd few = go (shape n)
  where
    go : Shape n → Down n
    go (nothing e) = absurd (omega arith)
    go (even p e) = absurd (omega arith)
    go (up e) = go_up n big odd few e
    go (down e) = go_down n big odd few e

-- for the line goal: at most the nonzero digits less one
pub lines_signed : (n : ℕ) → n % 2 ≡ 1 → bit_length n < 32 → suc (line_count split_of n) ≤ nonzero (signed_form n)
unfolding form_weight
lines_signed n odd few = omega (arith, weight_some n odd, bounded lines lines_depend (λ m. form_weight m - 1) digit_less n odd few)
  where
    digit_less : (n : ℕ) → 1 < n → n % 2 ≡ 1 → bit_length n < 32 → Bounded split_of (λ m. form_weight m - 1) n
        → lines split_of (split_of n) n ≤ form_weight n - 1
    digit_less n big odd few h =
        let d : Down n = down_one n big odd few in
        let o : Operands (kind d.split) (d.split % 32) n (left d.split n) (right d.split n) =
        operands d.split n big odd (omega arith) d.is_legal in
        omega (
          arith,
          (split_chosen lines lines_depend n big odd few).cheapest d.split d.small d.is_legal,
          lines_left split_of d.split n d.ends,
          h (left d.split n) o.left.odd o.left.turn,
          d.weighs,
          weight_some (left d.split n) o.left.odd,
        )

-- ---- the nonzero digits by the bit length: an odd number has at most half its length and one

weight_zero : form_weight 0 ≡ 0
unfolding form_weight signed_form form_by nonzero
weight_zero = refl

quarter_in : (n : ℕ) → n % 4 ≡ 3 → (n / 2 + 1) / 2 ≡ n / 4 + 1
quarter_in n e = let h : n / 2 ≡ 2 * (n / 4) + 1 = omega arith in omega arith

quarter_up : (n : ℕ) → n % 4 ≡ 3 → (n + 1) / 4 ≡ n / 4 + 1
quarter_up n e = omega arith

weight_quarter : (n : ℕ) → n % 2 ≡ 1 → form_weight n ≡ suc (form_weight ((n + 1) / 4))
weight_quarter n odd = go (shape n)
  where
    go : Shape n → form_weight n ≡ suc (form_weight ((n + 1) / 4))
    go (nothing e) = absurd (omega arith)
    go (even p e) = absurd (omega arith)
    go (up e) =
        let h : n / 2 ≡ 2 * (n / 4) = omega arith in
        let k : (n + 1) / 4 ≡ n / 4 = omega arith in
        let l : n / 2 / 2 ≡ n / 4 = omega arith in
        weight_plus n e ∙ ap suc (⊎_elim (λ z. ap form_weight (omega arith))
        (λ p. weight_even (n / 2) p (omega arith) ∙ ap form_weight (l ∙ sym k)) (eq-zero-or-pos (n / 2)))
    go (down e) = let h : n / 2 ≡ 2 * (n / 4) + 1 = omega arith in let k : (n / 2 + 1) / 2 ≡ n / 4 + 1 = quarter_in n e in weight_minus n e
        ∙ ap suc (weight_even (n / 2 + 1) (omega arith) (omega arith) ∙ ap form_weight (quarter_in n e ∙ sym (quarter_up n e)))

weight_half : (k n : ℕ) → n ≤ 2 ^ k → form_weight n ≤ k / 2 + 1
weight_half zero n h = ⊎_elim (λ e. subst (λ (m : ℕ). form_weight m ≤ 1) (sym e) (omega (arith, weight_zero)))
    (λ p. subst (λ (m : ℕ). form_weight m ≤ 1) {x = 1} (omega arith) (omega (arith, weight_one))) (eq-zero-or-pos n)
weight_half (suc zero) n h = go (shape n)
  where
    go : Shape n → form_weight n ≤ 1 / 2 + 1
    go (nothing e) = subst (λ (m : ℕ). form_weight m ≤ 1) (sym e) (omega (arith, weight_zero))
    go (even p e) = subst (λ (m : ℕ). form_weight m ≤ 1) {x = 2} (omega arith) (omega (arith, weight_even 2 (omega arith) refl, weight_one))
    go (up e) = subst (λ (m : ℕ). form_weight m ≤ 1) {x = 1} (omega arith) (omega (arith, weight_one))
    go (down e) = absurd (omega arith)
weight_half (suc (suc k)) n h = go (weight_half (suc k) (n / 2)) (weight_half k ((n + 1) / 4)) (shape n)
  where
    go : (n / 2 ≤ 2 ^ suc k → form_weight (n / 2) ≤ suc k / 2 + 1) → ((n + 1) / 4 ≤ 2 ^ k → form_weight ((n + 1) / 4) ≤ k / 2 + 1)
        → Shape n → form_weight n ≤ suc (suc k) / 2 + 1
    go a b (nothing e) = subst (λ (m : ℕ). form_weight m ≤ suc (suc k) / 2 + 1) (sym e) (omega (arith, weight_zero))
    go a b (even p e) = omega (arith, weight_even n p e, a (omega (arith, two-pow-succ (suc k))))
    go a b (up e) = omega (arith, weight_quarter n (omega arith), b (omega (arith, two-pow-succ (suc k), two-pow-succ k)))
    go a b (down e) = omega (arith, weight_quarter n (omega arith), b (omega (arith, two-pow-succ (suc k), two-pow-succ k)))

-- at most half the bit length
pub lines_half : (n : ℕ) → n % 2 ≡ 1 → bit_length n < 32 → line_count split_of n ≤ bit_length n / 2
unfolding form_weight
lines_half n odd few = omega (arith, lines_signed n odd few, weight_half (bit_length n) n (omega (arith, bits_lt n)))

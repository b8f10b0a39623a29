-- The places of n's splits as the bits of a number: of n for SPLUS, of n's complement for the others. And from one bit that is set to the
-- next.
use Prim.Native.Nat.{ℕ, suc, ◌+◌, ◌-◌, ◌*◌, ◌/◌, ◌%◌, ◌^◌, ◌≤◌, ◌<◌}
use mathlib.Core.Path.{◌≡◌, sym, ap, ◌∙◌, subst}
use mathlib.Core.Bool.{true, false}
use mathlib.Core.Logic.{⊎_elim}
use native.Mathlib.Nat.{two-pow-succ, sub-add_cancel, suc-mul, add-mul, mul-add, mul_assoc, div-eq_of_lt, eq-zero-or-pos, mod-lt}
use native.Mathlib.Omega.{arith}
use lib.Arith.{digits_div}
use lib.Dec.{eqb, leb, ltb}
use lib.Pow.{pow_pos, pow-add, pow_mono, suc_ones, shr_lt, shr-shr, shl-shr, split}
use borrow.Author.Tests.{eq-eqb, ne_eqb, ltb-true, leb-true}
use Rattle.line.specs.Line.{Kind, kind_of, minuss, sminus, splus}
use Rattle.line.specs.Number.{bit_length, odd_part, twos}
use Rattle.split.specs.Choose.{Cost, best_below}
use Rattle.split.specs.Split.{high, legal, legal_at}
use Rattle.plan.specs.Steps.{Places}
use Rattle.line.proofs.Number.{lt_or_le, bits_lt, odd_part_odd, odd_part_whole}
use Rattle.split.proofs.Choose.{as_legal, best_skip}
use Rattle.split.proofs.Splits.{and₃, pow_even}
use Rattle.plan.proofs.Formulas.{at_1, at_2, at_3, not_1, not_2, not_3}

-- ---- a number's complement

-- the bits of 2 ^ M - 1 - a from p on
flipped : (M a p : ℕ) → a < 2 ^ M → p ≤ M → (2 ^ M - 1 - a) / 2 ^ p ≡ 2 ^ (M - p) - 1 - a / 2 ^ p
flipped M a p h le =
    let A : ℕ = 2 ^ (M - p) in
    let hi : ℕ = a / 2 ^ p in
    let lo : ℕ = a % 2 ^ p in
    let cut : hi * 2 ^ p + lo ≡ a = split a p in
    let low : lo < 2 ^ p = mod-lt a (pow_pos p) in
    let less : hi < A = shr_lt (M - p) p (subst (λ (x : ℕ). a < 2 ^ x) (sym (sub-add_cancel le)) h) in
    let top : 2 ^ M ≡ (A - 1) * 2 ^ p + 2 ^ p =
    ap (λ (x : ℕ). 2 ^ x) (sym (sub-add_cancel le)) ∙ pow-add 2 (M - p) p ∙ ap (λ (x : ℕ). x * 2 ^ p) (sym (suc_ones (M - p)))
    ∙ suc-mul (A - 1) (2 ^ p) in
    let mid : (A - 1) * 2 ^ p ≡ (A - 1 - hi) * 2 ^ p + hi * 2 ^ p =
    ap (λ (x : ℕ). x * 2 ^ p) (sym (sub-add_cancel {n = A - 1} {m = hi} (omega arith))) ∙ add-mul (A - 1 - hi) hi (2 ^ p) in
    let r : 2 ^ p - 1 - lo < 2 ^ p = omega arith in
    ap (λ (x : ℕ). x / 2 ^ p) {x = 2 ^ M - 1 - a} {y = (A - 1 - hi) * 2 ^ p + (2 ^ p - 1 - lo)} (omega arith) ∙ digits_div (A - 1 - hi) r

opposite : (x y : ℕ) → x < 2 → y < 2 → x + y ≡ 1 → eqb x 0 ≡ eqb y 1
opposite x y hx hy e = ⊎_elim
    (λ z. eq-eqb x 0 z ∙ sym (eq-eqb y 1 (omega arith)))
    (λ q. ne_eqb x 0 (omega arith) ∙ sym (ne_eqb y 1 (omega arith)))
    (eq-zero-or-pos x)

flip_bit : (M a p : ℕ) → a < 2 ^ M → p < M → eqb (a / 2 ^ p % 2) 0 ≡ eqb ((2 ^ M - 1 - a) / 2 ^ p % 2) 1
flip_bit M a p h lt =
    let less : a / 2 ^ p < 2 ^ (M - p) =
    shr_lt (M - p) p (subst (λ (x : ℕ). a < 2 ^ x) (sym (sub-add_cancel {n = M} {m = p} (omega arith))) h) in
    let even : 2 ^ (M - p) ≡ 2 ^ (M - p - 1) + 2 ^ (M - p - 1) = pow_even (M - p) (omega arith) in
    opposite (a / 2 ^ p % 2) ((2 ^ M - 1 - a) / 2 ^ p % 2) (omega arith) (omega arith)
    (omega (arith, ap (λ (x : ℕ). x % 2) (flipped M a p h (omega arith))))

no_bit : (v M p : ℕ) → v < 2 ^ M → M ≤ p → false ≡ eqb (v / 2 ^ p % 2) 1
no_bit v M p h le = sym (ap (λ (x : ℕ). eqb (x % 2) 1) (div-eq_of_lt {n = v} {m = 2 ^ p} (omega (arith, pow_mono le))))

legal_within : (k : Kind) (p n : ℕ) → legal_at k p n ≡ true → p ≤ bit_length n
unfolding legal_at
legal_within splus p n e = omega (arith, ltb-true p (bit_length n) (and₃ (leb 1 p) (ltb p (bit_length n)) (eqb (high p n % 2) 1) e).1)
legal_within sminus p n e = leb-true p (bit_length n) (and₃ (leb 1 p) (leb p (bit_length n)) (eqb (high p n % 2) 0) e).1
legal_within minuss p n e = omega (arith, ltb-true p (bit_length n) (and₃ (leb 1 p) (ltb p (bit_length n)) (eqb (high p n % 2) 0) e).1)

-- ---- the places of n's splits

pub places_splus : (n : ℕ) → Places 1 n n
unfolding kind_of high
places_splus n p one = ⊎_elim
    (λ l. at_1 p n one l)
    (λ l. not_1 p n one l ∙ no_bit n (bit_length n) p (bits_lt n) l)
    (lt_or_le p (bit_length n))

pub places_sminus : (n : ℕ) → Places 2 (2 * 2 ^ bit_length n - 1 - n) n
unfolding kind_of high
places_sminus n p one =
    let M : ℕ = suc (bit_length n) in
    let two : 2 ^ M ≡ 2 * 2 ^ bit_length n = two-pow-succ (bit_length n) ∙ omega arith in
    let less : n < 2 ^ M = omega (arith, bits_lt n) in
    subst (λ (x : ℕ). legal_at sminus p n ≡ eqb ((x - 1 - n) / 2 ^ p % 2) 1) two
    (⊎_elim
    (λ l. at_2 p n one (omega arith) ∙ flip_bit M n p less l)
    (λ l. not_2 p n one (omega arith) ∙ no_bit (2 ^ M - 1 - n) M p (omega arith) l)
    (lt_or_le p M))

pub places_minuss : (n : ℕ) → Places 3 (2 ^ bit_length n - 1 - n) n
unfolding kind_of high
places_minuss n p one =
    let M : ℕ = bit_length n in
    let less : n < 2 ^ M = bits_lt n in
    ⊎_elim
    (λ l. at_3 p n one l ∙ flip_bit M n p less l)
    (λ l. not_3 p n one l ∙ no_bit (2 ^ M - 1 - n) M p (omega arith) l)
    (lt_or_le p M)

-- ---- from one place to the next

module _ (places p rest : ℕ) (e : rest ≡ places / 2 ^ p) where
  from_rest : (i : ℕ) → places / 2 ^ (p + i) ≡ rest / 2 ^ i
  from_rest i = sym (shr-shr places p i) ∙ ap (λ (x : ℕ). x / 2 ^ i) (sym e)

  next_is : places / 2 ^ (p + twos rest) ≡ odd_part rest
  unfolding odd_part
  next_is = from_rest (twos rest)

  next_set : 0 < rest → eqb (places / 2 ^ (p + twos rest) % 2) 1 ≡ true
  next_set some = eq-eqb (places / 2 ^ (p + twos rest) % 2) 1 (ap (λ (x : ℕ). x % 2) next_is ∙ odd_part_odd rest some)

  even_below : (i : ℕ) → i < twos rest → rest / 2 ^ i % 2 ≡ 0
  even_below i lt =
      let z : ℕ = twos rest in
      let o : ℕ = odd_part rest in
      let q : ℕ = 2 ^ (z - i - 1) in
      let whole : rest ≡ o * 2 ^ (z - i) * 2 ^ i =
      sym (odd_part_whole rest) ∙ ap (λ (x : ℕ). o * x) (ap (λ (x : ℕ). 2 ^ x) {x = z} {y = z - i + i} (omega arith) ∙ pow-add 2 (z - i) i)
      ∙ sym (mul_assoc o (2 ^ (z - i)) (2 ^ i)) in
      let half : rest / 2 ^ i ≡ o * 2 ^ (z - i) = ap (λ (x : ℕ). x / 2 ^ i) whole ∙ shl-shr (o * 2 ^ (z - i)) i in
      let double : o * 2 ^ (z - i) ≡ o * q + o * q = ap (λ (x : ℕ). o * x) (pow_even (z - i) (omega arith)) ∙ mul-add o q q in
      omega arith

  none_between : (j : ℕ) → p ≤ j → j < p + twos rest → eqb (places / 2 ^ j % 2) 1 ≡ false
  none_between j lo hi =
      ne_eqb (places / 2 ^ j % 2) 1 (λ one. omega (
        arith,
        ap (λ (x : ℕ). places / 2 ^ x) {x = j} {y = p + (j - p)} (omega arith),
        from_rest (j - p),
        even_below (j - p) (omega arith),
      ))

  none_after : rest ≡ 0 → (j : ℕ) → p ≤ j → eqb (places / 2 ^ j % 2) 1 ≡ false
  none_after z j lo =
      ap (λ (x : ℕ). eqb (x % 2) 1) (ap (λ (x : ℕ). places / 2 ^ x) {x = j} {y = p + (j - p)} (omega arith) ∙ from_rest (j - p)
      ∙ ap (λ (x : ℕ). x / 2 ^ (j - p)) z
      ∙ div-eq_of_lt {n = 0} {m = 2 ^ (j - p)} (pow_pos (j - p)))

  pub rest_next : odd_part rest / 2 ≡ places / 2 ^ (p + twos rest + 1)
  rest_next = ap (λ (x : ℕ). x / 2) (sym next_is) ∙ shr-shr places (p + twos rest) 1

  -- the best split up to the next place, and past the last
  module _ (cost : Cost) (t : ℕ → ℕ) (n k : ℕ) (few : bit_length n < 32) (one : 1 ≤ k) (three : k ≤ 3) (pl : Places k places n)
      (pos : 1 ≤ p) where
    pub next_legal : 0 < rest → legal_at (kind_of k) (p + twos rest) n ≡ true
    next_legal some = pl (p + twos rest) (omega arith) ∙ next_set some

    pub next_short : 0 < rest → p + twos rest ≤ bit_length n
    next_short some = legal_within (kind_of k) (p + twos rest) n (next_legal some)

    skip : (a b : ℕ) → a ≤ b → b ≤ 32 → ((j : ℕ) → a ≤ j → j < b → legal_at (kind_of k) j n ≡ false)
        → best_below cost t n (32 * k + b) ≡ best_below cost t n (32 * k + a)
    skip a b le short h = best_skip cost t n (32 * k + a) (32 * k + b) (omega arith)
        (λ r lo hi. ap (λ (x : ℕ). legal x n) {x = r} {y = 32 * k + (r - 32 * k)} (omega arith)
        ∙ as_legal k (r - 32 * k) n one three (omega arith) ∙ h (r - 32 * k) (omega arith) (omega arith))

    pub skip_to : 0 < rest → best_below cost t n (32 * k + (p + twos rest)) ≡ best_below cost t n (32 * k + p)
    skip_to some = skip p (p + twos rest) (omega arith) (omega (arith, next_short some))
        (λ j lo hi. pl j (omega arith) ∙ none_between j lo hi)

    pub skip_past : rest ≡ 0 → p ≤ 32 → best_below cost t n (32 * k + 32) ≡ best_below cost t n (32 * k + p)
    skip_past z le = skip p 32 le (omega arith) (λ j lo hi. pl j (omega arith) ∙ none_after z j lo)

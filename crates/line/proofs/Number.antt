-- Bit length, and c = d * 2^t with d odd: each a digit at a time, and what each says of the number.
-- The counts of the machine, leading and trailing zeros, are these. Assumes nothing.
use mathlib.Core.Path.{◌≡◌, refl, sym, ap, ◌∙◌, subst}
use mathlib.Core.Logic.{◌⊎◌, inl, inr, ⊎_elim}
use Prim.Native.Nat.{ℕ, zero, suc, ◌+◌, ◌*◌, ◌/◌, ◌%◌, ◌^◌, ◌≤◌, ◌<◌}
use native.Mathlib.Nat.{two-pow-succ, pow-suc, mul_assoc, le_refl, le_antisymm, eq-zero-or-pos, lt_of_not-le, not-suc-le-zero}
use native.Mathlib.Nat.{le_of_suc-le-suc, mul-le-mul_left}
use native.Mathlib.Decide.{dec_lt, ℕ_discrete}
use native.Mathlib.Omega.{arith}
use lib.Arith.{half_le, bin_ind}
use lib.Pow.{pow_pos, shr-shr, shr_le}
use lib.Count.{count_leading_zeros, leading_length, count_trailing_zeros}
use borrow.Author.Tests.{eq-eqb, ne_eqb}
use Rattle.line.specs.Number.{digits_by, bit_length, halvings_by, twos, odd_part}

pub lt_or_le : (a b : ℕ) → (a < b) ⊎ (b ≤ a)
lt_or_le a b = elim (dec_lt a b) [ yes h ↦ inl h | no h ↦ inr (omega arith) ]

-- ---- bit length, a digit at a time

-- as many steps as the number itself are enough
digits_enough : (f g v : ℕ) → v ≤ f → v ≤ g → digits_by f v ≡ digits_by g v
unfolding digits_by
digits_enough zero zero v p q = refl
digits_enough zero (suc g) zero p q = refl
digits_enough zero (suc g) (suc v) p q = absurd (not-suc-le-zero p)
digits_enough (suc f) zero zero p q = refl
digits_enough (suc f) zero (suc v) p q = absurd (not-suc-le-zero q)
digits_enough (suc f) (suc g) zero p q = refl
digits_enough (suc f) (suc g) (suc v) p q = ap suc (digits_enough f g (suc v / 2) (half_le p) (half_le q))

pub bits_zero : bit_length 0 ≡ 0
unfolding bit_length digits_by
bits_zero = refl

pub bits_step : (n : ℕ) → 0 < n → bit_length n ≡ suc (bit_length (n / 2))
unfolding bit_length digits_by
bits_step zero h = absurd (not-suc-le-zero h)
bits_step (suc n) h = ap suc (digits_enough n (suc n / 2) (suc n / 2) (half_le (le_refl (suc n))) (le_refl (suc n / 2)))

pub bits_pos : (n : ℕ) → 0 < n → 0 < bit_length n
bits_pos n h = omega (arith, bits_step n h)

-- ---- bit length and powers of two

pub bits_le : (k n : ℕ) → n < 2 ^ k → bit_length n ≤ k
bits_le zero n h = subst (λ (m : ℕ). bit_length m ≤ 0) {x = 0} (omega arith) (omega (arith, bits_zero))
bits_le (suc k) n h = ⊎_elim
    (λ e. subst (λ (m : ℕ). bit_length m ≤ suc k) (sym e) (omega (arith, bits_zero)))
    (λ p. omega (arith, bits_step n p, bits_le k (n / 2) (omega (arith, two-pow-succ k))))
    (eq-zero-or-pos n)

pub lt_bits : (k n : ℕ) → bit_length n ≤ k → n < 2 ^ k
lt_bits zero n h = ⊎_elim (λ e. omega arith) (λ p. absurd (omega (arith, bits_step n p))) (eq-zero-or-pos n)
lt_bits (suc k) n h = ⊎_elim
    (λ e. omega (arith, pow_pos (suc k)))
    (λ p. omega (arith, two-pow-succ k, lt_bits k (n / 2) (omega (arith, bits_step n p))))
    (eq-zero-or-pos n)

pub bits_lt : (n : ℕ) → n < 2 ^ bit_length n
bits_lt n = lt_bits (bit_length n) n (le_refl (bit_length n))

pub bits_gt : (k n : ℕ) → 2 ^ k ≤ n → k < bit_length n
bits_gt k n h = lt_of_not-le (λ g. omega (arith, lt_bits k n g))

pub pow_le : (k n : ℕ) → k < bit_length n → 2 ^ k ≤ n
pow_le k n h = le_of_suc-le-suc (lt_of_not-le (λ g. omega (arith, bits_le k n (omega arith))))

-- a number has one bit length
pub bits_is : (k n : ℕ) → 2 ^ k ≤ 2 * n + 1 → n < 2 ^ k → bit_length n ≡ k
bits_is zero n lo hi = subst (λ (m : ℕ). bit_length m ≡ 0) {x = 0} (omega arith) bits_zero
bits_is (suc k) n lo hi = le_antisymm (bits_le (suc k) n hi) (bits_gt k n (omega (arith, two-pow-succ k)))

-- times a power of two
pub bits_shift : (t n : ℕ) → 0 < n → bit_length (n * 2 ^ t) ≡ t + bit_length n
bits_shift zero n h =
    let one : n * 2 ^ 0 ≡ n = omega arith in
    omega (arith, ap bit_length one)
bits_shift (suc t) n h =
    let m : ℕ = n * 2 ^ t in
    let e : n * 2 ^ suc t ≡ m * 2 = ap (λ (x : ℕ). n * x) (pow-suc 2 t) ∙ sym (mul_assoc n (2 ^ t) 2) in
    let p : 0 < m = omega (arith, mul-le-mul_left n (pow_pos t)) in
    let half : m * 2 / 2 ≡ m = omega arith in
    omega (arith, ap bit_length e, bits_step (m * 2) (omega arith), ap bit_length half, bits_shift t n h)

-- what leading zeros leave of k digits
pub bits_leading : (k n : ℕ) → n < 2 ^ k → count_leading_zeros k n + bit_length n ≡ k
bits_leading k n h =
    let l = leading_length k n h in
    ap (λ (m : ℕ). count_leading_zeros k n + m) (bits_is l.0 n l.3 l.2) ∙ l.1

-- ---- how often a number can be halved

halvings_even : (f v : ℕ) → v % 2 ≡ 0 → halvings_by (suc f) v ≡ suc (halvings_by f (v / 2))
unfolding halvings_by
halvings_even f v h = rw (eq-eqb (v % 2) 0 h, halvings_by)

halvings_odd : (f v : ℕ) → v % 2 ≡ 1 → halvings_by f v ≡ 0
unfolding halvings_by
halvings_odd zero v h = refl
halvings_odd (suc f) v h = rw (ne_eqb (v % 2) 0 (omega arith), halvings_by)

halvings_enough : (f g v : ℕ) → 0 < v → v ≤ f → v ≤ g → halvings_by f v ≡ halvings_by g v
halvings_enough zero g v h p q = absurd (omega arith)
halvings_enough (suc f) zero v h p q = absurd (omega arith)
halvings_enough (suc f) (suc g) v h p q =
    elim (ℕ_discrete (v % 2) 0) [
      | yes e ↦ halvings_even f v e ∙ ap suc (halvings_enough f g (v / 2) (omega arith) (half_le p) (half_le q)) ∙ sym (halvings_even g v e)
      | no n ↦ let o : v % 2 ≡ 1 = omega arith in halvings_odd (suc f) v o ∙ sym (halvings_odd (suc g) v o)
    ]

pub twos_odd : (c : ℕ) → c % 2 ≡ 1 → twos c ≡ 0
unfolding twos
twos_odd c h = halvings_odd c c h

pub twos_even : (c : ℕ) → 0 < c → c % 2 ≡ 0 → twos c ≡ suc (twos (c / 2))
unfolding twos
twos_even c p h =
    halvings_enough c (suc c) c p (le_refl c) (omega arith) ∙ halvings_even c c h
    ∙ ap suc (halvings_enough c (c / 2) (c / 2) (omega arith) (omega arith) (le_refl (c / 2)))

-- ---- the odd part

pub odd_part_of_odd : (c : ℕ) → c % 2 ≡ 1 → odd_part c ≡ c
unfolding odd_part
odd_part_of_odd c h = ap (λ (t : ℕ). c / 2 ^ t) (twos_odd c h) ∙ omega arith

odd_part_of_even : (c : ℕ) → 0 < c → c % 2 ≡ 0 → odd_part c ≡ odd_part (c / 2)
unfolding odd_part
odd_part_of_even c p h =
    let t : ℕ = twos (c / 2) in
    let e : suc t ≡ 1 + t = omega arith in
    ap (λ (s : ℕ). c / 2 ^ s) (twos_even c p h ∙ e) ∙ sym (shr-shr c 1 t)

pub odd_part_le : (c : ℕ) → odd_part c ≤ c
unfolding odd_part
odd_part_le c = shr_le c (twos c)

pub odd_part_odd : (c : ℕ) → 0 < c → odd_part c % 2 ≡ 1
odd_part_odd = bin_ind (λ (c : ℕ). 0 < c → odd_part c % 2 ≡ 1) (λ p. absurd (omega arith)) (λ c more p.
    elim (ℕ_discrete (c % 2) 0) [
      | yes e ↦ ap (λ (x : ℕ). x % 2) (odd_part_of_even c p e) ∙ more (omega arith)
      | no n ↦ let o : c % 2 ≡ 1 = omega arith in ap (λ (x : ℕ). x % 2) (odd_part_of_odd c o) ∙ o
    ])

-- c = d * 2^t
pub odd_part_whole : (c : ℕ) → odd_part c * 2 ^ twos c ≡ c
unfolding odd_part twos halvings_by
odd_part_whole = bin_ind (λ (c : ℕ). odd_part c * 2 ^ twos c ≡ c) refl (λ c more. ⊎_elim
    (λ z. subst (λ (x : ℕ). odd_part x * 2 ^ twos x ≡ x) {x = 0} (sym z) refl)
    (λ p.
    elim (ℕ_discrete (c % 2) 0) [
      | yes e ↦ rw (odd_part_of_even c p e, twos_even c p e, pow-suc) (omega arith)
      | no n ↦ let o : c % 2 ≡ 1 = omega arith in rw (odd_part_of_odd c o, twos_odd c o) (omega arith)
    ])
    (eq-zero-or-pos c))

pub odd_part_bits : (c : ℕ) → 0 < c → twos c + bit_length (odd_part c) ≡ bit_length c
odd_part_bits c p =
    let o = odd_part_odd c p in
    sym (bits_shift (twos c) (odd_part c) (omega arith)) ∙ ap bit_length (odd_part_whole c)

pub twos_lt : (k c : ℕ) → 0 < c → c < 2 ^ k → twos c < k
twos_lt k c p h =
    let o = odd_part_odd c p in
    omega (arith, odd_part_bits c p, bits_pos (odd_part c) (omega arith), bits_le k c h)

-- among k digits, trailing zeros are the halvings
pub twos_trailing : (k c : ℕ) → 0 < c → c < 2 ^ k → count_trailing_zeros k c ≡ twos c
unfolding count_trailing_zeros
twos_trailing zero c p h = absurd (omega arith)
twos_trailing (suc k) c p h =
    elim (ℕ_discrete (c % 2) 0) [
      | yes e ↦ rw (e, twos_even c p e) (ap suc (twos_trailing k (c / 2) (omega arith) (omega (arith, two-pow-succ k))))
      | no n ↦ let o : c % 2 ≡ 1 = omega arith in rw (o, twos_odd c o)
    ]

-- The operands of a legal split: odd, at least 1; they give n by the kind; neither has more bits; both come before n in (bit length, zero
-- bits) and in the turn of a fill.
use Prim.Native.Nat.{ℕ, zero, suc, ◌+◌, ◌-◌, ◌*◌, ◌/◌, ◌%◌, ◌^◌, ◌≤◌, ◌<◌}
use mathlib.Core.Path.{◌≡◌, refl, sym, ap, ◌∙◌, subst}
use mathlib.Core.Bool.{Bool, true, false, ◌&&◌, false≢true}
use native.Mathlib.Nat.{two-pow-succ, div-add-mod', mul-add, add-mul, one-mul, mod-lt, mod-eq_of_lt, eq-or-lt_of_le, sub-add_cancel}
use native.Mathlib.Nat.{suc-mul, mul-le-mul_right}
use mathlib.Core.Logic.{◌⊎◌, inl, inr}
use native.Mathlib.Omega.{arith}
use lib.Dec.{eqb, ltb, leb}
use lib.Pow.{pow_pos, pow-add, pow_mono, suc_ones, shr_lt}
use lib.Count.{ones, ones_cat, ones-ones, ones-le, ones_step}
use borrow.Author.Tests.{ltb-true, leb-true, eqb-true}
use lib.IntN.{pos}
use Rattle.line.specs.Number.{bit_length}
use Rattle.line.specs.Line.{Kind, splus, sminus, minuss, gives}
use Rattle.split.specs.Split.{low, high, left_at, right_at, legal_at, kind, left, right, legal}
use Rattle.split.specs.Reach.{turn}
use Rattle.split.specs.Order.{zero_bits, rank}
use Rattle.line.proofs.Value.{gives_of_sums}
use Rattle.line.proofs.Number.{bits_le, bits_lt, pow_le, bits_gt}

-- what is known of an operand m of n: it is odd, no longer, and comes before n
pub record Operand (n m : ℕ) : Type 0 where
  pub odd : m % 2 ≡ 1
  pub bits : bit_length m ≤ bit_length n
  pub turn : turn m < turn n
  pub falls : rank m < rank n

-- and of the operands l and r of n's split of a kind at p
pub record Operands (k : Kind) (p n l r : ℕ) : Type 0 where
  pub value : pos n ≡ gives k l p r
  pub left : Operand n l
  pub right : Operand n r

pub and₃ : (a b c : Bool) → a && b && c ≡ true → (a ≡ true) × (b ≡ true) × (c ≡ true)
and₃ true true c e = (refl, refl, e)
and₃ true false c e = absurd (false≢true e)
and₃ false true c e = absurd (false≢true e)
and₃ false false c e = absurd (false≢true e)

-- ---- n by its two parts

cut : (p n : ℕ) → n ≡ high p n * 2 ^ p + low p n
unfolding high low
cut p n = sym (div-add-mod' n (2 ^ p))

low_lt : (p n : ℕ) → low p n < 2 ^ p
unfolding low
low_lt p n = mod-lt n (pow_pos p)

dbl : (a q : ℕ) → a * 2 ^ suc q ≡ a * 2 ^ q + a * 2 ^ q
dbl a q = ap (λ (x : ℕ). a * x) (two-pow-succ q) ∙ mul-add a (2 ^ q) (2 ^ q)

low_all : (p n : ℕ) → n < 2 ^ p → low p n ≡ n
unfolding low
low_all p n h = mod-eq_of_lt h

low_odd : (q n : ℕ) → n % 2 ≡ 1 → low (suc q) n % 2 ≡ 1
low_odd q n h = omega (arith, cut (suc q) n, dbl (high (suc q) n) q)

pow_cut : (p n : ℕ) → p ≤ bit_length n → 2 ^ bit_length n ≡ 2 ^ (bit_length n - p) * 2 ^ p
pow_cut p n h = ap (λ (x : ℕ). 2 ^ x) (sym (sub-add_cancel h)) ∙ pow-add 2 (bit_length n - p) p

pub high_lt : (p n : ℕ) → p ≤ bit_length n → high p n < 2 ^ (bit_length n - p)
unfolding high
high_lt p n h = shr_lt (bit_length n - p) p (subst (λ (x : ℕ). n < 2 ^ x) (sym (sub-add_cancel h)) (bits_lt n))

-- a power at 1 or more is even
pub pow_even : (k : ℕ) → 0 < k → 2 ^ k ≡ 2 ^ (k - 1) + 2 ^ (k - 1)
pow_even k h = ap (λ (x : ℕ). 2 ^ x) {y = suc (k - 1)} (omega arith) ∙ two-pow-succ (k - 1)

-- ---- before n: by length, by zero bits, by value

by_bits : (m n : ℕ) → bit_length n < 64 → bit_length m < bit_length n → rank m < rank n
unfolding rank zero_bits
by_bits m n h k = omega arith

pub shorter_turn : (m n : ℕ) → bit_length m < bit_length n → turn m < turn n
unfolding turn
shorter_turn m n k = omega (
  arith,
  bits_lt n,
  bits_lt m,
  two-pow-succ (bit_length m),
  pow_mono {i = suc (bit_length m)} {j = bit_length n} k,
)

larger_turn : (m n : ℕ) → bit_length m ≤ bit_length n → n < m → turn m < turn n
unfolding turn
larger_turn m n k l = omega (arith, bits_lt m, pow_mono k)

by_zeros : (m n : ℕ) → bit_length m ≤ bit_length n → ones n < ones m → ones n < bit_length n → rank m < rank n
unfolding rank zero_bits
by_zeros m n h k l = omega arith

-- ---- the three kinds

module _ (n : ℕ) (big : 1 < n) (odd : n % 2 ≡ 1) (fits : bit_length n < 64) where
  two_bits : 1 < bit_length n
  two_bits = bits_gt 1 n big

  short : (m : ℕ) → m % 2 ≡ 1 → bit_length m < bit_length n → Operand n m
  short m e h = record { odd = e; bits = omega arith; turn = shorter_turn m n h; falls = by_bits m n fits h }

  by_splus : (q : ℕ) → suc q < bit_length n → high (suc q) n % 2 ≡ 1 → Operands splus (suc q) n (high (suc q) n) (low (suc q) n)
  by_splus q h e =
      let lb : bit_length (high (suc q) n) ≤ bit_length n - suc q = bits_le (bit_length n - suc q) (high (suc q) n)
      (high_lt (suc q) n (omega arith)) in
      let rb : bit_length (low (suc q) n) ≤ suc q = bits_le (suc q) (low (suc q) n) (low_lt (suc q) n) in
      record {
        value = gives_of_sums splus (high (suc q) n) (suc q) (low (suc q) n) n (cut (suc q) n);
        left = short (high (suc q) n) e (omega arith);
        right = short (low (suc q) n) (low_odd q n odd) (omega arith);
      }

  -- a number that is odd and at most half of n's power of two is shorter than n
  shorter : (m : ℕ) → m % 2 ≡ 1 → m ≤ 2 ^ (bit_length n - 1) → bit_length m < bit_length n
  shorter m e h =
      let b : bit_length m ≤ bit_length n - 1 =
      bits_le (bit_length n - 1) m (omega (arith, pow_even (bit_length n - 1) (omega (arith, two_bits)))) in
      omega (arith, two_bits)

  right_half : (q : ℕ) → (suc q ≡ bit_length n) ⊎ (suc q < bit_length n) → 2 ^ suc q - low (suc q) n ≤ 2 ^ (bit_length n - 1)
  right_half q (inl e) =
      omega (
        arith,
        low_all (suc q) n (subst (λ (x : ℕ). n < 2 ^ x) (sym e) (bits_lt n)),
        pow_le (bit_length n - 1) n (omega (arith, two_bits)),
        pow_even (bit_length n) (omega (arith, two_bits)),
        ap (λ (x : ℕ). 2 ^ x) e,
      )
  right_half q (inr h) = omega (arith, pow_mono {i = suc q} {j = bit_length n - 1} (omega arith))

  by_sminus : (q : ℕ) → suc q ≤ bit_length n → high (suc q) n % 2
      ≡ 0 → Operands sminus (suc q) n (high (suc q) n + 1) (2 ^ suc q - low (suc q) n)
  by_sminus q h e =
      let lo : low (suc q) n % 2 ≡ 1 = low_odd q n odd in
      let lt : low (suc q) n < 2 ^ suc q = low_lt (suc q) n in
      let ro : (2 ^ suc q - low (suc q) n) % 2 ≡ 1 = omega (arith, two-pow-succ q) in
      let lb : bit_length (high (suc q) n + 1) < bit_length n =
      shorter (high (suc q) n + 1) (omega arith) (omega (
        arith,
        high_lt (suc q) n h,
        pow_mono {i = bit_length n - suc q} {j = bit_length n - 1} (omega arith),
      )) in
      let rb : bit_length (2 ^ suc q - low (suc q) n) < bit_length n =
      shorter (2 ^ suc q - low (suc q) n) ro (right_half q (eq-or-lt_of_le h)) in
      record {
        value = gives_of_sums sminus (high (suc q) n + 1) (suc q) (2 ^ suc q - low (suc q) n) n
            (omega (arith, cut (suc q) n, add-mul (high (suc q) n) 1 (2 ^ suc q), one-mul (2 ^ suc q)));
        left = short (high (suc q) n + 1) (omega arith) lb;
        right = short (2 ^ suc q - low (suc q) n) ro rb;
      }

  by_minuss : (q : ℕ) → suc q < bit_length n → high (suc q) n % 2 ≡ 0
      → Operands minuss (suc q) n (2 ^ bit_length n - 2 ^ suc q + low (suc q) n) (2 ^ (bit_length n - suc q) - 1 - high (suc q) n)
  by_minuss q h e =
      let p : ℕ = suc q in
      let hi : ℕ = high p n in
      let lo : ℕ = low p n in
      let A : ℕ = 2 ^ (bit_length n - p) in
      let l : ℕ = 2 ^ bit_length n - 2 ^ p + lo in
      let r : ℕ = A - 1 - hi in
      let lt : lo < 2 ^ p = low_lt p n in
      let hl : hi < A = high_lt p n (omega arith) in
      let ev : A ≡ 2 ^ (bit_length n - p - 1) + 2 ^ (bit_length n - p - 1) = pow_even (bit_length n - p) (omega arith) in
      -- 2 ^ N is (A - 1) * 2 ^ p + 2 ^ p
      let top : 2 ^ bit_length n ≡ (A - 1) * 2 ^ p + 2 ^ p =
      pow_cut p n (omega arith) ∙ ap (λ (x : ℕ). x * 2 ^ p) (sym (suc_ones (bit_length n - p))) ∙ suc-mul (A - 1) (2 ^ p) in
      let lv : l ≡ (A - 1) * 2 ^ p + lo = omega arith in
      let mid : (A - 1) * 2 ^ p ≡ r * 2 ^ p + hi * 2 ^ p =
      ap (λ (x : ℕ). x * 2 ^ p) (sym (sub-add_cancel {n = A - 1} {m = hi} (omega arith))) ∙ add-mul r hi (2 ^ p) in
      let ol : ones l ≡ (bit_length n - p) + ones lo = ap ones lv ∙ ones_cat p (A - 1) lo lt
      ∙ ap (λ (x : ℕ). x + ones lo) (ones-ones (bit_length n - p)) in
      let on : ones n ≡ ones hi + ones lo = ap ones (cut p n) ∙ ones_cat p hi lo lt in
      let oh : ones hi ≤ bit_length n - p - 1 = omega (arith, ones_step hi, ones-le (bit_length n - p - 1) (hi / 2) (omega arith)) in
      let oo : ones lo ≤ p = ones-le p lo lt in
      let lb : bit_length l ≤ bit_length n = bits_le (bit_length n) l (omega arith) in
      let rb : bit_length r ≤ bit_length n - p = bits_le (bit_length n - p) r (omega arith) in
      record {
        value = gives_of_sums minuss l p r n (omega (arith, cut p n));
        left = record {
          odd = omega (arith, low_odd q n odd, dbl (A - 1) q);
          bits = lb;
          turn = larger_turn l n lb (omega (
            arith,
            cut p n,
            mul-le-mul_right {m = suc hi} {n = A - 1} (2 ^ p) (omega arith),
            suc-mul hi (2 ^ p),
            pow_pos p,
          ));
          falls = by_zeros l n lb (omega arith) (omega arith);
        };
        right = short r (omega arith) (omega arith);
      }

-- every legal split's operands
operands_at : (k : Kind) (p n : ℕ) → 1 < n → n % 2 ≡ 1 → bit_length n < 64 → legal_at k p n ≡ true
    → Operands k p n (left_at k p n) (right_at k p n)
unfolding legal_at left_at right_at
operands_at splus zero n big odd fits e = absurd (false≢true e)
operands_at splus (suc q) n big odd fits e =
    let t = and₃ (leb 1 (suc q)) (ltb (suc q) (bit_length n)) (eqb (high (suc q) n % 2) 1) e in
    by_splus n big odd fits q (ltb-true _ _ t.1) (eqb-true _ _ t.2)
operands_at sminus zero n big odd fits e = absurd (false≢true e)
operands_at sminus (suc q) n big odd fits e =
    let t = and₃ (leb 1 (suc q)) (leb (suc q) (bit_length n)) (eqb (high (suc q) n % 2) 0) e in
    by_sminus n big odd fits q (leb-true _ _ t.1) (eqb-true _ _ t.2)
operands_at minuss zero n big odd fits e = absurd (false≢true e)
operands_at minuss (suc q) n big odd fits e =
    let t = and₃ (leb 1 (suc q)) (ltb (suc q) (bit_length n)) (eqb (high (suc q) n % 2) 0) e in
    by_minuss n big odd fits q (ltb-true _ _ t.1) (eqb-true _ _ t.2)

pub operands : (s n : ℕ) → 1 < n → n % 2 ≡ 1 → bit_length n < 64 → legal s n ≡ true → Operands (kind s) (s % 32) n (left s n) (right s n)
operands s n big odd fits e = operands_at (kind s) (s % 32) n big odd fits
    (and₃ (leb 1 (s / 32)) (leb (s / 32) 3) (legal_at (kind s) (s % 32) n) e).2

-- A number is printed as digits, at least one and no zero before others, and what is printed reads back. Assumes nothing.
use Rattle.std.specs.Prelude.{Some}
use mathlib.Core.Path.{◌≡◌, refl, ap, sym, ◌∙◌}
use mathlib.Core.List.{List, [], ◌∷◌, ◌++◌}
use Prim.Native.Nat.{ℕ, suc, ◌+◌, ◌-◌, ◌*◌, ◌/◌, ◌%◌, ◌^◌, ◌≤◌, ◌<◌}
use native.Mathlib.Nat.{mul_assoc, mul_comm, mul-le-mul_right, pow-suc, pow-le-pow_right}
use native.Mathlib.Omega.{arith}
use lib.IntN.{ℤ, pos, negsuc, neg_ℤ}
use lib.ListN.{length, get_or, length-append, get_or-append}
use borrow.Author.Tests.{ne_eqb}
use Rattle.wording.specs.Request.{asked, Digits}
use Rattle.wording.specs.Decimal.{decimal, signed_decimal, value_from, value_of, signed_value}
use Rattle.wording.proofs.Decimal.{decimal_ind, length_decimal, value_decimal}
use Rattle.wording.proofs.Says.{when_asked}

digits_more : (xs ys : List ℕ) → Digits xs → Digits ys → Digits (xs ++ ys)
digits_more [] ys h k = k
digits_more (x ∷ xs) ys h k = (h.0, h.1, digits_more xs ys h.2 k)

-- digits, one at least, and the first is no zero where the number is none
pub record Plain (n : ℕ) (xs : List ℕ) : Type 0 where
  pub digits : Digits xs
  pub some : 1 ≤ length xs
  pub lead : 0 < n → 48 < get_or xs 0 0

plain_one : (n : ℕ) → n < 10 → Plain n ((48 + n) ∷ [])
plain_one n h = record { digits = (omega arith, omega arith, tt); some = omega arith; lead = λ p. omega arith }

plain_more : (n : ℕ) (xs : List ℕ) → 10 ≤ n → Plain (n / 10) xs → Plain n (xs ++ ((48 + n % 10) ∷ []))
plain_more n xs p k =
    let d = (48 + n % 10) ∷ [] in
    record {
      digits = digits_more xs d k.digits (omega arith, omega arith, tt);
      some = omega (arith, length-append xs d, k.some);
      lead = λ q. omega (arith, get_or-append xs d 0 0 k.some, k.lead (omega arith));
    }

pub decimal_plain : (n : ℕ) → Plain n (decimal n)
decimal_plain = decimal_ind Plain plain_one plain_more

-- a request that is printed is read
pub asked_back : (c w : ℕ) → c < 100000 → w < 100 → asked (decimal c ++ (32 ∷ (decimal w ++ (10 ∷ [])))) ≡ Some (c, w)
asked_back c w hc hw =
    when_asked (decimal c ++ (32 ∷ (decimal w ++ (10 ∷ [])))) c w (record {
      constant_digits = decimal c;
      width_digits = decimal w;
      text = refl;
      digits = ((decimal_plain c).digits, (decimal_plain w).digits);
      some = ((decimal_plain c).some, (decimal_plain w).some);
      few = (length_decimal c 4 hc, length_decimal w 1 hw);
      constant = sym (value_decimal c);
      width = sym (value_decimal w);
    })

first_digit : (xs : List ℕ) → Digits xs → 1 ≤ length xs → 48 ≤ get_or xs 0 0
first_digit [] d h = absurd (omega arith)
first_digit (x ∷ xs) d h = d.0

-- a number with its sign reads back
pub signed_back : (z : ℤ) → signed_value (signed_decimal z) ≡ z
unfolding signed_decimal signed_value
signed_back (pos n) =
    let p = decimal_plain n in
    let h = first_digit (decimal n) p.digits p.some in
    simp (ne_eqb (get_or (decimal n) 0 0) 45 (omega arith), value_decimal n)
signed_back (negsuc n) = ap (λ (m : ℕ). neg_ℤ (pos m)) (value_decimal (suc n))

-- k digits say less than 10 ^ k
value_below : (v : ℕ) (xs : List ℕ) → Digits xs → value_from v xs < suc v * 10 ^ length xs
unfolding value_from
value_below v [] d = omega arith
value_below v (x ∷ xs) d =
    let u = v * 10 + (x - 48) in
    let p = 10 ^ length xs in
    let m : suc u * p ≤ suc v * 10 * p = mul-le-mul_right p (omega (arith, d.0, d.1)) in
    let e : suc v * 10 ^ suc (length xs) ≡ suc v * 10 * p =
    ap (λ (y : ℕ). suc v * y) (pow-suc 10 (length xs) ∙ mul_comm p 10) ∙ sym (mul_assoc (suc v) 10 p) in
    omega (arith, value_below u xs d.2, m, e)

pub digits_below : (xs : List ℕ) (k : ℕ) → Digits xs → length xs ≤ k → value_of xs < 10 ^ k
digits_below xs k d h = omega (arith, value_below 0 xs d, pow-le-pow_right {n = 10} (omega arith) h)

-- A number's digits: one at a time, how many there are, and that they say the number. Assumes nothing.
use mathlib.Core.Path.{◌≡◌, refl, ap, ap₂, ◌∙◌, sym, subst}
use mathlib.Core.List.{List, [], ◌∷◌, ◌++◌}
use Prim.Native.Nat.{ℕ, zero, suc, ◌+◌, ◌-◌, ◌*◌, ◌/◌, ◌%◌, ◌^◌, ◌≤◌, ◌<◌}
use native.Mathlib.Nat.{pow-suc}
use native.Mathlib.Decide.{dec_le}
use native.Mathlib.Omega.{arith}
use lib.Signed.{mag}
use lib.IntN.{ℤ, pos, negsuc}
use lib.ListN.{length, length-append}
use Rattle.wording.specs.Decimal.{value_from, value_of}
use Rattle.wording.specs.Decimal.{digits_by, decimal, signed_decimal}

by_none : (f : ℕ) → digits_by f 0 ≡ []
unfolding digits_by
by_none zero = refl
by_none (suc f) = refl

-- more than enough changes nothing
by_same : (f g n : ℕ) → n ≤ f → n ≤ g → digits_by f n ≡ digits_by g n
unfolding digits_by
by_same zero g zero hf hg = sym (by_none g)
by_same zero g (suc n) hf hg = absurd (omega arith)
by_same (suc f) g zero hf hg = sym (by_none g)
by_same (suc f) zero (suc n) hf hg = absurd (omega arith)
by_same (suc f) (suc g) (suc n) hf hg =
    ap (λ (x : List ℕ). x ++ ((48 + suc n % 10) ∷ [])) (by_same f g (suc n / 10) (omega arith) (omega arith))

by_decimal : (f n : ℕ) → 0 < n → n ≤ f → digits_by f n ≡ decimal n
unfolding decimal
by_decimal f zero p h = absurd (omega arith)
by_decimal f (suc n) p h = by_same f (suc n) (suc n) h (omega arith)

pub decimal_one : (n : ℕ) → n < 10 → decimal n ≡ (48 + n) ∷ []
unfolding decimal digits_by
decimal_one zero h = refl
decimal_one (suc n) h =
    let q : suc n / 10 ≡ 0 = omega arith in
    let r : suc n % 10 ≡ suc n = omega arith in
    ap₂ (λ (x y : ℕ). digits_by n x ++ ((48 + y) ∷ [])) q r ∙ ap (λ (x : List ℕ). x ++ ((48 + suc n) ∷ [])) (by_none n)

pub decimal_more : (n : ℕ) → 10 ≤ n → decimal n ≡ decimal (n / 10) ++ ((48 + n % 10) ∷ [])
unfolding digits_by
decimal_more zero h = absurd (omega arith)
decimal_more (suc m) h =
    sym (by_decimal (suc m) (suc m) (omega arith) (omega arith))
    ∙ ap (λ (x : List ℕ). x ++ ((48 + suc m % 10) ∷ [])) (by_decimal m (suc m / 10) (omega arith) (omega arith))

-- what holds of one digit, and goes on to one digit more, holds of every number's digits
module _ (P : ℕ → List ℕ → Type 0) (one : (n : ℕ) → n < 10 → P n ((48 + n) ∷ []))
    (more : (n : ℕ) (xs : List ℕ) → 10 ≤ n → P (n / 10) xs → P n (xs ++ ((48 + n % 10) ∷ []))) where
  ind_by : (f n : ℕ) → n ≤ f → P n (decimal n)
  ind_by zero n h = subst (P n) (sym (decimal_one n (omega arith))) (one n (omega arith))
  ind_by (suc f) n h =
      elim (dec_le 10 n) [
        | yes p ↦ subst (P n) (sym (decimal_more n p)) (more n (decimal (n / 10)) p (ind_by f (n / 10) (omega arith)))
        | no p ↦ subst (P n) (sym (decimal_one n (omega arith))) (one n (omega arith))
      ]

  pub decimal_ind : (n : ℕ) → P n (decimal n)
  decimal_ind n = ind_by n n (omega arith)

length_more : (n : ℕ) (xs : List ℕ) → 10 ≤ n → ((k : ℕ) → n / 10 < 10 ^ suc k → length xs ≤ suc k) → (k : ℕ) → n < 10 ^ suc k
    → length (xs ++ ((48 + n % 10) ∷ [])) ≤ suc k
length_more n xs p ih zero h = absurd (omega arith)
length_more n xs p ih (suc k) h = omega (arith, length-append xs ((48 + n % 10) ∷ []), ih k (omega (arith, pow-suc 10 (suc k))))

pub length_decimal : (n k : ℕ) → n < 10 ^ suc k → length (decimal n) ≤ suc k
length_decimal = decimal_ind (λ n xs. (k : ℕ) → n < 10 ^ suc k → length xs ≤ suc k) (λ n p k h. omega arith) length_more

pub decimal_short : (n : ℕ) → n < 2 ^ 64 → length (decimal n) ≤ 20
decimal_short n h = length_decimal n 19 (omega arith)

pub signed_short : (z : ℤ) → mag z < 2 ^ 31 → length (signed_decimal z) ≤ 11
unfolding signed_decimal
signed_short (pos n) h = omega (arith, length_decimal n 9 (omega arith))
signed_short (negsuc n) h = omega (arith, length_decimal (suc n) 9 (omega arith))

-- a digit more
pub value_more : (v d : ℕ) (xs : List ℕ) → value_from v (xs ++ (d ∷ [])) ≡ value_from v xs * 10 + (d - 48)
unfolding value_from
value_more v d [] = refl
value_more v d (x ∷ xs) = value_more (v * 10 + (x - 48)) d xs

-- the digits of n read back as n
pub value_decimal : (n : ℕ) → value_of (decimal n) ≡ n
unfolding value_from
value_decimal = decimal_ind (λ n xs. value_of xs ≡ n) (λ n h. omega arith) (λ n xs p ih. omega (arith, value_more 0 (48 + n % 10) xs))

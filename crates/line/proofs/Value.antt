-- What a kind gives. As sums: a difference that may be negative is k exactly where k and the subtrahend make the minuend. From a code
-- number; and how large it can be: with its sign it has at most 52 bits. Assumes nothing.
use mathlib.Core.Path.{◌≡◌, refl, sym, ap, ◌∙◌}
use mathlib.Core.Bool.{Bool, true, false, cond}
use Prim.Native.Nat.{ℕ, zero, suc, ◌+◌, ◌-◌, ◌*◌, ◌%◌, ◌<◌, ◌≤◌, ◌^◌}
use native.Mathlib.Omega.{arith}
use native.Mathlib.Nat.{mul-le-mul_right}
use lib.Dec.{ltb}
use lib.IntN.{ℤ, pos, negsuc, ◌+ℤ◌, ◌-ℤ◌, nat_abs, +ℤ-neg_ℤ_cancel, -ℤ-+ℤ_cancel}
use lib.Pow.{pow_mono}
use borrow.Author.Tests.{ltb-true, ltb-false, ne_eqb}
use Rattle.line.specs.Line.{Kind, splus, sminus, minuss, kind_of, gives, kind_gives, gives_within}
use Rattle.line.specs.declared.Line.{Line}

sum_of_difference : (k a b : ℕ) → pos k ≡ pos a -ℤ pos b → k + b ≡ a
sum_of_difference k a b e = ap nat_abs (ap (λ (z : ℤ). z +ℤ pos b) e ∙ -ℤ-+ℤ_cancel (pos a) (pos b))

difference_of_sum : (k a b : ℕ) → k + b ≡ a → pos k ≡ pos a -ℤ pos b
difference_of_sum k a b e = sym (ap (λ (x : ℕ). pos x -ℤ pos b) (sym e) ∙ +ℤ-neg_ℤ_cancel (pos k) (pos b))

-- k is what the kind gives, without a difference
abbrev pub Sums : Kind → ℕ → ℕ → ℕ → ℕ → Type 0
Sums splus l s r k = k ≡ l * 2 ^ s + r
Sums sminus l s r k = k + r ≡ l * 2 ^ s
Sums minuss l s r k = k + r * 2 ^ s ≡ l

pub sums_of_gives : (kind : Kind) (l s r k : ℕ) → pos k ≡ gives kind l s r → Sums kind l s r k
unfolding gives
sums_of_gives splus l s r k e = ap nat_abs e
sums_of_gives sminus l s r k e = sum_of_difference k (l * 2 ^ s) r e
sums_of_gives minuss l s r k e = sum_of_difference k l (r * 2 ^ s) e

pub gives_of_sums : (kind : Kind) (l s r k : ℕ) → Sums kind l s r k → pos k ≡ gives kind l s r
unfolding gives
gives_of_sums splus l s r k e = ap pos e
gives_of_sums sminus l s r k e = difference_of_sum k (l * 2 ^ s) r e
gives_of_sums minuss l s r k e = difference_of_sum k l (r * 2 ^ s) e

-- ---- from a code number, of a term x that is shifted

module _ (kind l s r x : ℕ) where
  pub gives_splus : kind ≡ 1 → x ≡ l * 2 ^ s → pos (x + r) ≡ gives (kind_of kind) l s r
  unfolding kind_of gives
  gives_splus h e = rw (h, e) refl

  pub gives_sminus : kind ≡ 2 → x ≡ l * 2 ^ s → pos x -ℤ pos r ≡ gives (kind_of kind) l s r
  unfolding kind_of gives
  gives_sminus h e = rw (h, e) refl

  pub gives_minuss : (kind ≡ 1 → ⊥) → (kind ≡ 2 → ⊥) → x ≡ r * 2 ^ s → pos l -ℤ pos x ≡ gives (kind_of kind) l s r
  unfolding kind_of gives
  gives_minuss n m e = rw (ne_eqb kind 1 n, ne_eqb kind 2 m, e) refl

-- fields and coefficients that have no more bits than the form gives them
pub gives_whole : (line : Line) (l r : ℕ) → line.kind < 2 ^ 2 → line.shift < 2 ^ 5 → l < 2 ^ 20 → r < 2 ^ 20
    → gives_within line l r ≡ kind_gives line l r
gives_whole line l r hk hs hl hr =
    let k : line.kind % 2 ^ 2 ≡ line.kind = omega arith in
    let s : line.shift % 2 ^ 5 ≡ line.shift = omega arith in
    let a : l % 2 ^ 20 ≡ l = omega arith in
    let b : r % 2 ^ 20 ≡ r = omega arith in
    rw (k, s, a, b) refl

-- ---- how large it can be

pub difference_small : (m a b : ℕ) → a < m → b < m → nat_abs (pos a -ℤ pos b) < m
difference_small m a zero h h' = omega arith
difference_small m a (suc b) h h' = go (ltb a (suc b)) refl
  where
    go : (t : Bool) → ltb a (suc b) ≡ t → nat_abs (cond t (negsuc (suc b - suc a)) (pos (a - suc b))) < m
    go true e = omega (arith, ltb-true a (suc b) e)
    go false e = omega (arith, ltb-false a (suc b) e)

shifted_small : (a s : ℕ) → a < 2 ^ 20 → s < 2 ^ 5 → a * 2 ^ s ≤ 1048575 * 2 ^ 31
shifted_small a s h h' =
    let few : a ≤ 1048575 = omega arith in
    let bound = mul-le-mul_right (2 ^ s) few in
    omega (arith, bound, pow_mono {i = s} {j = 31} (omega arith))

pub gives_small : (kind : Kind) (l s r : ℕ) → l < 2 ^ 20 → s < 2 ^ 5 → r < 2 ^ 20 → nat_abs (gives kind l s r) < 2 ^ 51
unfolding gives
gives_small splus l s r hl hs hr = omega (arith, shifted_small l s hl hs)
gives_small sminus l s r hl hs hr = difference_small (2 ^ 51) (l * 2 ^ s) r (omega (arith, shifted_small l s hl hs)) (omega arith)
gives_small minuss l s r hl hs hr = difference_small (2 ^ 51) l (r * 2 ^ s) (omega arith) (omega (arith, shifted_small r s hr hs))

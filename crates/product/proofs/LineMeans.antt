-- What a line means: its bits read as its coefficient times x, mod 2^m, where its operands' bits read as theirs.
--
-- All is mod 2^m, where dropping bits at m and above changes nothing. SPLUS adds A + B; the other two add A + (2^m - 1 - B) + 1.
-- The minus kinds are told as sums (k + r = 2^s * l), so nothing is subtracted.
use Prim.Native.Nat.{ℕ, zero, suc, ◌+◌, ◌*◌, ◌%◌, ◌^◌, ◌<◌}
use mathlib.Core.Path.{◌≡◌, refl, sym, ap, ◌∙◌}
use mathlib.Core.Bool.{true, false}
use mathlib.Core.List.{List, [], ◌∷◌, map}
use native.Mathlib.Nat.{le_refl, pow-suc}
use native.Mathlib.Omega.{arith}
use lib.Arith.{digits_mod}
use lib.IntN.{pos}
use lib.ListN.{length}
use Rattle.line.specs.Line.{Kind, splus, sminus, minuss, gives}
use Rattle.line.proofs.Value.{Sums, sums_of_gives}
use Rattle.cnf.specs.Clause.{Assignment, satisfies}
use Rattle.cnf.proofs.Extend.{Extends, Fresh}
use Rattle.product.specs.Bit.{Bit, fixed, flip, bit_value, reads}
use Rattle.product.specs.Lines.{adder, shifted, fitted, line_sum}
use Rattle.product.proofs.Lengths.{length_fitted, length_flipped}
use Rattle.product.proofs.PairMeans.{flip_number}
use Rattle.product.specs.Demand.{BitsBelow}
use Rattle.product.proofs.ColumnMeans.{num_le, flip_below}
use Rattle.product.proofs.AdderMeans.{twice, Adds, adder_adds}

-- ---- equal up to multiples of 2 ^ m

abbrev pub Congruent : ℕ → ℕ → ℕ → Type 0
Congruent m a b = (p : ℕ) × (q : ℕ) × (a + 2 ^ m * p ≡ b + 2 ^ m * q)

pub congruent_of_eq : (m : ℕ) {a b : ℕ} → a ≡ b → Congruent m a b
congruent_of_eq m e = (0, 0, omega arith)

congruent_trans : (m a b c : ℕ) → Congruent m a b → Congruent m b c → Congruent m a c
congruent_trans m a b c h k = (h.0 + k.0, h.1 + k.1, omega (arith, h.2, k.2))

congruent_add : (m a b c d : ℕ) → Congruent m a b → Congruent m c d → Congruent m (a + c) (b + d)
congruent_add m a b c d h k = (h.0 + k.0, h.1 + k.1, omega (arith, h.2, k.2))

congruent_cancel : (m a b c d : ℕ) → Congruent m (a + c) (b + d) → Congruent m c d → Congruent m a b
congruent_cancel m a b c d h k = (h.0 + k.1, h.1 + k.0, omega (arith, h.2, k.2))

congruent_mul : (m k a b : ℕ) → Congruent m a b → Congruent m (k * a) (k * b)
congruent_mul m k a b h = (k * h.0, k * h.1, omega (arith, ap (λ (n : ℕ). k * n) h.2))

pub eq_of_congruent : (m a b : ℕ) → a < 2 ^ m → b < 2 ^ m → Congruent m a b → a ≡ b
eq_of_congruent m a b la lb h = sym (digits_mod h.0 la) ∙ ap (λ (n : ℕ). n % 2 ^ m) (omega (arith, h.2)) ∙ digits_mod h.1 lb

-- ---- shifting, fitting, negating

pub reads_shifted : (α : Assignment) (s : ℕ) (bs : List Bit) → reads α (shifted s bs) ≡ 2 ^ s * reads α bs
unfolding shifted
reads_shifted α zero bs = omega arith
reads_shifted α (suc s) bs = omega (arith, reads_shifted α s bs, twice s (reads α bs))

reads_fitted : (α : Assignment) (m : ℕ) (bs : List Bit) → (j : ℕ) × (reads α bs ≡ reads α (fitted m bs) + 2 ^ m * j)
unfolding fitted
reads_fitted α zero bs = (reads α bs, omega arith)
reads_fitted α (suc m) [] = (0, omega (arith, (reads_fitted α m []).1))
reads_fitted α (suc m) (b ∷ bs) = ((reads_fitted α m bs).0, omega (arith, (reads_fitted α m bs).1, twice m (reads_fitted α m bs).0))

reads_flip : (α : Assignment) (bs : List Bit) → reads α (map flip bs) + reads α bs + 1 ≡ 2 ^ length bs
reads_flip α [] = refl
reads_flip α (b ∷ bs) = omega (arith, reads_flip α bs, flip_number α b, pow-suc 2 (length bs))

pub reads_lt : (α : Assignment) (bs : List Bit) → reads α bs < 2 ^ length bs
reads_lt α [] = le_refl 1
reads_lt α (b ∷ bs) = omega (arith, reads_lt α bs, num_le (bit_value α b), pow-suc 2 (length bs))

shifted_congruent : (α : Assignment) (m s : ℕ) (bs : List Bit) (v : ℕ) → Congruent m (reads α bs) v
    → Congruent m (reads α (shifted s bs)) (2 ^ s * v)
shifted_congruent α m s bs v h =
    congruent_trans m (reads α (shifted s bs)) (2 ^ s * reads α bs) (2 ^ s * v) (congruent_of_eq m (reads_shifted α s bs))
    (congruent_mul m (2 ^ s) (reads α bs) v h)

-- what a term reads as, it reads as when it is fitted to m columns
fitted_congruent : (α : Assignment) (m : ℕ) (bs : List Bit) (v : ℕ) → Congruent m (reads α bs) v → Congruent m (reads α (fitted m bs)) v
fitted_congruent α m bs v h =
    congruent_trans m (reads α (fitted m bs)) (reads α bs) v ((reads_fitted α m bs).0, 0, omega (arith, (reads_fitted α m bs).1)) h

sum_congruent : (m S A B u v t : ℕ) → Congruent m S (A + B) → Congruent m A u → Congruent m B v → t ≡ u + v → Congruent m S t
sum_congruent m S A B u v t h ha hb e =
    congruent_trans m S (A + B) t h (congruent_trans m (A + B) (u + v) t (congruent_add m A u B v ha hb) (congruent_of_eq m (sym e)))

difference_congruent : (m S A B u v t : ℕ) → Congruent m (S + B) A → Congruent m A u → Congruent m B v → t + v ≡ u → Congruent m S t
difference_congruent m S A B u v t h ha hb e =
    congruent_cancel m S t B v (congruent_trans m (S + B) A (t + v) h (congruent_trans m A u (t + v) ha (congruent_of_eq m (sym e)))) hb

module _ (Used : ℕ → Type 0) where
  pub shifted_below : (n s : ℕ) (bs : List Bit) → BitsBelow Used n bs → BitsBelow Used n (shifted s bs)
  unfolding shifted
  shifted_below n zero bs i = i
  shifted_below n (suc s) bs i = (tt, shifted_below n s bs i)

  fitted_below : (n m : ℕ) (bs : List Bit) → BitsBelow Used n bs → BitsBelow Used n (fitted m bs)
  unfolding fitted
  fitted_below n zero bs i = tt
  fitted_below n (suc m) [] i = (tt, fitted_below n m [] i)
  fitted_below n (suc m) (b ∷ bs) i = (i.0, fitted_below n m bs i.1)

  flips_below : (n : ℕ) (bs : List Bit) → BitsBelow Used n bs → BitsBelow Used n (map flip bs)
  flips_below n [] i = tt
  flips_below n (b ∷ bs) i = (flip_below Used n b i.0, flips_below n bs i.1)

  -- ---- a line

  -- from operands that are l and r times x, mod 2^m, to bits that are k times x, for the k that the kind gives
  pub record LineMultiplies (d : Kind) (m s : ℕ) (L R : List Bit) (n : ℕ) : Type 0 where
    pub value : (α : Assignment) → satisfies α (line_sum d m L s R n).clauses ≡ true → (l r k x : ℕ) → pos k ≡ gives d l s r
        → Congruent m (reads α L) (l * x) → Congruent m (reads α R) (r * x) → Congruent m (reads α (line_sum d m L s R n).bits) (k * x)
    pub extends : Extends Used n (line_sum d m L s R n).next (line_sum d m L s R n).clauses
    pub below : BitsBelow Used (line_sum d m L s R n).next (line_sum d m L s R n).bits

  -- two terms, each fitted to m columns, added, and one taken from the other
  module _ (m n : ℕ) (fresh : Fresh Used n) (X Y : List Bit) (ix : BitsBelow Used n X) (iy : BitsBelow Used n Y) where
    plus : Adds Used (fitted m X) (fitted m Y) (fixed false) n (adder (fitted m X) (fitted m Y) (fixed false) n)
    plus =
        adder_adds Used (fitted m X) (fitted m Y) (fixed false) n (length_fitted m X ∙ sym (length_fitted m Y)) fresh
        (fitted_below n m X ix) (fitted_below n m Y iy) tt

    plus_congruent : (α : Assignment) → satisfies α (adder (fitted m X) (fitted m Y) (fixed false) n).clauses ≡ true
        → (u v t : ℕ) → Congruent m (reads α X) u → Congruent m (reads α Y) v → t ≡ u + v
        → Congruent m (reads α (adder (fitted m X) (fitted m Y) (fixed false) n).bits) t
    plus_congruent α h u v t cx cy e =
        let k = plus.adds α h in
        sum_congruent m _ (reads α (fitted m X)) (reads α (fitted m Y)) u v t
        (k.0, 0, omega (arith, k.1, ap (λ (i : ℕ). 2 ^ i * k.0) (length_fitted m X)))
        (fitted_congruent α m X u cx) (fitted_congruent α m Y v cy) e

    minus : Adds Used (fitted m X) (map flip (fitted m Y)) (fixed true) n (adder (fitted m X) (map flip (fitted m Y)) (fixed true) n)
    minus =
        adder_adds Used (fitted m X) (map flip (fitted m Y)) (fixed true) n (length_fitted m X ∙ sym (length_flipped m Y)) fresh
        (fitted_below n m X ix) (flips_below n (fitted m Y) (fitted_below n m Y iy)) tt

    minus_congruent : (α : Assignment) → satisfies α (adder (fitted m X) (map flip (fitted m Y)) (fixed true) n).clauses ≡ true
        → (u v t : ℕ) → Congruent m (reads α X) u → Congruent m (reads α Y) v → t + v ≡ u
        → Congruent m (reads α (adder (fitted m X) (map flip (fitted m Y)) (fixed true) n).bits) t
    minus_congruent α h u v t cx cy e =
        let k = minus.adds α h in
        difference_congruent m _ (reads α (fitted m X)) (reads α (fitted m Y)) u v t (
          k.0,
          1,
          omega (
            arith,
            k.1,
            ap (λ (i : ℕ). 2 ^ i * k.0) (length_fitted m X),
            reads_flip α (fitted m Y),
            ap (λ (i : ℕ). 2 ^ i) (length_fitted m Y),
          ),
        )
        (fitted_congruent α m X u cx) (fitted_congruent α m Y v cy) e

  module _ (m s n : ℕ) (fresh : Fresh Used n) (L R : List Bit) (il : BitsBelow Used n L) (ir : BitsBelow Used n R) where
    line_value : (d : Kind) (α : Assignment) → satisfies α (line_sum d m L s R n).clauses ≡ true → (l r k x : ℕ) → Sums d l s r k
        → Congruent m (reads α L) (l * x) → Congruent m (reads α R) (r * x) → Congruent m (reads α (line_sum d m L s R n).bits) (k * x)
    unfolding line_sum
    line_value splus α h l r k x e cl cr =
        plus_congruent m n fresh (shifted s L) R (shifted_below n s L il) ir α h (2 ^ s * (l * x)) (r * x) (k * x)
        (shifted_congruent α m s L (l * x) cl) cr
        (omega (arith, ap (λ (z : ℕ). z * x) e))
    line_value sminus α h l r k x e cl cr =
        minus_congruent m n fresh (shifted s L) R (shifted_below n s L il) ir α h (2 ^ s * (l * x)) (r * x) (k * x)
        (shifted_congruent α m s L (l * x) cl) cr
        (omega (arith, ap (λ (z : ℕ). z * x) e))
    line_value minuss α h l r k x e cl cr =
        minus_congruent m n fresh L (shifted s R) il (shifted_below n s R ir) α h (l * x) (2 ^ s * (r * x)) (k * x) cl
        (shifted_congruent α m s R (r * x) cr)
        (omega (arith, ap (λ (z : ℕ). z * x) e))

    line_adds : (d : Kind) → let a = line_sum d m L s R n in (Extends Used n a.next a.clauses) × (BitsBelow Used a.next a.bits)
    unfolding line_sum
    line_adds splus = let a = plus m n fresh (shifted s L) R (shifted_below n s L il) ir in (a.extends, a.below)
    line_adds sminus = let a = minus m n fresh (shifted s L) R (shifted_below n s L il) ir in (a.extends, a.below)
    line_adds minuss = let a = minus m n fresh L (shifted s R) il (shifted_below n s R ir) in (a.extends, a.below)

    pub line_multiplies : (d : Kind) → LineMultiplies d m s L R n
    line_multiplies d =
        record {
          value = λ α h l r k x g. line_value d α h l r k x (sums_of_gives d l s r k g);
          extends = (line_adds d).0;
          below = (line_adds d).1;
        }

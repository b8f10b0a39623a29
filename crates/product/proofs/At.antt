-- A sum of two terms as a loop over its columns goes: what stands in column i, and what is left from column i on.
use Prim.Native.Nat.{ℕ, zero, suc, ◌+◌, ◌≤◌, ◌<◌}
use mathlib.Core.Path.{◌≡◌, refl, ap, ap₂, ◌∙◌}
use mathlib.Core.Bool.{true, false}
use mathlib.Core.List.{List, [], ◌∷◌, ◌++◌}
use native.Mathlib.Nat.{not-suc-le-zero, le_of_suc-le-suc, suc-add}
use native.Mathlib.Omega.{arith}
use lib.ListN.{length, get_or, drop, drop_of_length-le}
use lib.Seq.{drop-cons}
use Rattle.product.specs.Bit.{Bit, fixed}
use Rattle.product.specs.Column.{Column, column}
use Rattle.product.specs.Lines.{Sum, none_left, adder, shifted, fitted}

-- ---- what stands in column i

pub fitted_at : (m : ℕ) (bs : List Bit) (i : ℕ) → i < m → get_or (fitted m bs) i (fixed false) ≡ get_or bs i (fixed false)
unfolding fitted
fitted_at zero bs i h = absurd (not-suc-le-zero h)
fitted_at (suc m) [] zero h = refl
fitted_at (suc m) [] (suc i) h = fitted_at m [] i (le_of_suc-le-suc h)
fitted_at (suc m) (b ∷ bs) zero h = refl
fitted_at (suc m) (b ∷ bs) (suc i) h = fitted_at m bs i (le_of_suc-le-suc h)

pub shifted_low : (s : ℕ) (bs : List Bit) (i : ℕ) → i < s → get_or (shifted s bs) i (fixed false) ≡ fixed false
unfolding shifted
shifted_low zero bs i h = absurd (not-suc-le-zero h)
shifted_low (suc s) bs zero h = refl
shifted_low (suc s) bs (suc i) h = shifted_low s bs i (le_of_suc-le-suc h)

pub shifted_high : (s : ℕ) (bs : List Bit) (i : ℕ) → get_or (shifted s bs) (s + i) (fixed false) ≡ get_or bs i (fixed false)
unfolding shifted
shifted_high zero bs i = ap (λ (k : ℕ). get_or bs k (fixed false)) (omega arith)
shifted_high (suc s) bs i = ap (λ (k : ℕ). get_or (fixed false ∷ shifted s bs) k (fixed false)) (suc-add s i) ∙ shifted_high s bs i

-- ---- what is left from column i on

unfoldable pub rest : List Bit → List Bit → ℕ → Bit → ℕ → Sum
rest xs ys i c n = adder (drop i xs) (drop i ys) c n

pub rest_step : (xs ys : List Bit) (i : ℕ) (c : Bit) (n : ℕ) (k : Column) → i < length xs → i < length ys
    → column (get_or xs i (fixed false)) (get_or ys i (fixed false)) c (none_left (drop (suc i) xs)) n ≡ k
    → ((rest xs ys i c n).bits ≡ k.sum_bit ∷ (rest xs ys (suc i) k.carry_bit k.next).bits)
    × ((rest xs ys i c n).clauses ≡ k.clauses ++ (rest xs ys (suc i) k.carry_bit k.next).clauses)
    × ((rest xs ys i c n).next ≡ (rest xs ys (suc i) k.carry_bit k.next).next)
unfolding rest adder
rest_step xs ys i c n k hx hy e = (ap (λ (s : Sum). s.bits) all, ap (λ (s : Sum). s.clauses) all, ap (λ (s : Sum). s.next) all)
  where
    made : Column → Sum
    made k =
        let r = adder (drop (suc i) xs) (drop (suc i) ys) k.carry_bit k.next in
        record { bits = k.sum_bit ∷ r.bits; clauses = k.clauses ++ r.clauses; next = r.next }

    all : adder (drop i xs) (drop i ys) c n ≡ made k
    all = ap₂ (λ (u v : List Bit). adder u v c n) (drop-cons xs i (fixed false) hx) (drop-cons ys i (fixed false) hy) ∙ ap made e

pub rest_end : (xs ys : List Bit) (i : ℕ) (c : Bit) (n : ℕ) → length xs ≤ i
    → rest xs ys i c n ≡ record { bits = []; clauses = []; next = n }
unfolding rest adder
rest_end xs ys i c n h = ap (λ (u : List Bit). adder u (drop i ys) c n) (drop_of_length-le xs h)

pub last_column : (xs : List Bit) (i : ℕ) → length xs ≤ i → none_left (drop i xs) ≡ true
last_column xs i h = ap none_left (drop_of_length-le xs h)

pub not_last : (xs : List Bit) (i : ℕ) → i < length xs → none_left (drop i xs) ≡ false
not_last xs i h = ap none_left (drop-cons xs i (fixed false) h)

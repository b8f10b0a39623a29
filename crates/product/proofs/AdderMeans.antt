-- What a sum of two terms of m bits means: its bits read as left + right + first carry, mod 2^m; by induction over the columns.
use Prim.Native.Nat.{ℕ, suc, ◌+◌, ◌*◌, ◌^◌}
use mathlib.Core.Path.{◌≡◌, refl, ap, ◌∙◌}
use mathlib.Core.Bool.{true, false}
use mathlib.Core.List.{List, [], ◌∷◌}
use native.Mathlib.Nat.{pow-suc, mul_comm, mul_assoc}
use native.Mathlib.Omega.{arith}
use lib.ListN.{length}
use Rattle.cnf.specs.Clause.{Assignment, satisfies}
use Rattle.cnf.proofs.Extend.{Fresh, fresh_more, Extends, extends_nil, extends_append, satisfies_left, satisfies_right}
use Rattle.product.specs.Bit.{Bit, reads}
use Rattle.product.specs.Column.{column}
use Rattle.product.specs.Lines.{Sum, adder}
use Rattle.product.specs.Demand.{BitBelow, BitsBelow}
use Rattle.product.proofs.PairMeans.{bit_number}
use Rattle.product.proofs.ColumnMeans.{bit_more, bits_more, column_adds}

pub twice : (m j : ℕ) → 2 ^ suc m * j ≡ 2 * (2 ^ m * j)
twice m j = ap (λ (p : ℕ). p * j) (pow-suc 2 m ∙ mul_comm (2 ^ m) 2) ∙ mul_assoc 2 (2 ^ m) j

-- the arithmetic of one column and the rest
step : (x X y Y c s S j o p q : ℕ) → x + y + c ≡ s + 2 * j → j ≡ o → X + Y + o ≡ S + p → q ≡ 2 * p
    → x + 2 * X + (y + 2 * Y) + c ≡ s + 2 * S + q
step x X y Y c s S j o p q e f g h = omega arith

module _ (Used : ℕ → Type 0) where
  -- the terms and the first carry are the bits and 2^m times j
  pub record Adds (xs ys : List Bit) (c : Bit) (n : ℕ) (r : Sum) : Type 0 where
    pub extends : Extends Used n r.next r.clauses
    pub below : BitsBelow Used r.next r.bits
    pub adds : (α : Assignment) → satisfies α r.clauses ≡ true → (j : ℕ)
        × (reads α xs + reads α ys + bit_number α c ≡ reads α r.bits + 2 ^ length xs * j)

  pub adder_adds : (xs ys : List Bit) (c : Bit) (n : ℕ) → length xs ≡ length ys → Fresh Used n → BitsBelow Used n xs → BitsBelow Used n ys
      → BitBelow Used n c
      → Adds xs ys c n (adder xs ys c n)
  unfolding adder
  adder_adds [] [] c n e fresh ix iy ic = record { extends = extends_nil Used n; below = tt; adds = λ α h. (bit_number α c, omega arith) }
  adder_adds [] (y ∷ ys) c n e fresh ix iy ic = absurd (omega arith)
  adder_adds (x ∷ xs) [] c n e fresh ix iy ic = absurd (omega arith)
  adder_adds (x ∷ []) (y ∷ []) c n e fresh ix iy ic =
      let f = column_adds Used x y c n fresh ix.0 iy.0 ic true in
      record {
        extends = extends_append Used f.extends (extends_nil Used _);
        below = (f.sum_below, tt);
        adds = λ α h.
            let k = f.adds α (satisfies_left α (column x y c true n).clauses [] h) in
            (k.0, omega (arith, k.1));
      }
  adder_adds (x ∷ []) (y ∷ y' ∷ ys) c n e fresh ix iy ic = absurd (omega arith)
  adder_adds (x ∷ x' ∷ xs) (y ∷ []) c n e fresh ix iy ic = absurd (omega arith)
  adder_adds (x ∷ x' ∷ xs) (y ∷ y' ∷ ys) c n e fresh ix iy ic =
      let k = column x y c false n in
      let f = column_adds Used x y c n fresh ix.0 iy.0 ic false in
      let r = adder_adds (x' ∷ xs) (y' ∷ ys) k.carry_bit k.next (omega arith) (fresh_more Used f.extends.grows fresh)
      (bits_more Used (x' ∷ xs) f.extends.grows ix.1) (bits_more Used (y' ∷ ys) f.extends.grows iy.1) f.carry_below in
      record {
        extends = extends_append Used f.extends r.extends;
        below = (bit_more Used k.sum_bit r.extends.grows f.sum_below, r.below);
        adds = λ α h.
            let g = adder (x' ∷ xs) (y' ∷ ys) k.carry_bit k.next in
            let u = f.adds α (satisfies_left α k.clauses g.clauses h) in
            let v = r.adds α (satisfies_right α k.clauses g.clauses h) in (
              v.0,
              step (bit_number α x) (reads α (x' ∷ xs)) (bit_number α y) (reads α (y' ∷ ys)) (bit_number α c) (bit_number α k.sum_bit)
                  (reads α g.bits) u.0 (bit_number α k.carry_bit) (2 ^ length (x' ∷ xs) * v.0)
                  (2 ^ length (x ∷ x' ∷ xs) * v.0) u.1 (u.2 refl) v.1 (twice (length (x' ∷ xs)) v.0),
            );
      }

-- What a column means: each variable that it opens is tied to its inputs, and left + right + carry = sum + 2 * carry'.
--
-- With a pair of inputs of one variable the sum is what remains, or its negation, and the carry the pair's literal or what remains
-- (PairMeans); without one the sum's and the carry's clauses are steps (crates/cnf, Extend). So a column extends every assignment of the
-- variables below n to exactly one.
-- `ColumnAdds` is all that the sums above know of a column: another description of a column asks only for `column_adds` again.
use Prim.Native.Nat.{ℕ, zero, suc, ◌+◌, ◌*◌, ◌%◌, ◌≤◌}
use mathlib.Core.Path.{◌≡◌, refl, sym, ap, ap₂, ◌∙◌, subst}
use mathlib.Core.Bool.{Bool, true, false, not, beq, false≢true}
use mathlib.Core.List.{List, [], ◌∷◌, ◌++◌, map}
use native.Mathlib.Nat.{le_refl}
use native.Mathlib.Omega.{arith}
use lib.ListN.{length}
use Rattle.cnf.specs.Clause.{Literal, Clause, Assignment, flips, signed, negation, new, value, satisfies, Distinct, AllDistinct}
use Rattle.cnf.proofs.Extend.{Agree, Fresh, Within, Literals, literals_more, Shape, Shapes, Extends, extends_nil, extends_append, step}
use Rattle.cnf.proofs.Extend.{value_local, satisfies_left, satisfies_right, eq_of_beq}
use Rattle.product.specs.Bit.{Bit, fixed, unfixed, flip, bit_value, num}
use Rattle.product.specs.Column.{fixed_sum, literals, is_odd, at_least_two, Pair, none, equal, opposite, first_pair, Made, plain}
use Rattle.product.specs.Column.{opened, parity, sum_made, both, either, most, carry_made, sum_of, carry_of, carry_unless, Column}
use Rattle.product.specs.Column.{column}
use Rattle.product.specs.Demand.{BitBelow, BitsBelow}
use Rattle.product.proofs.Bounds.{inputs_few}
use Rattle.product.proofs.Distinct.{parity_distinct, both_distinct, either_distinct, most_distinct}
use Rattle.product.proofs.PairMeans.{bit_number, PairAdds, first_pair_adds, PairBelow, first_pair_below, no_pair_distinct}
use Rattle.product.proofs.ShapeMeans.{up, total, parity_law, both_law, either_law, most_law}
use Rattle.cnf.proofs.Flips.{flips_flips}

-- ---- the inputs as a number

abbrev count : Assignment → List Literal → ℕ
count α [] = 0
count α (p ∷ ps) = num (value α p) + count α ps

up_num : (b : Bool) (f : ℕ) → up b f ≡ f + num b
up_num true f = omega arith
up_num false f = omega arith

total_count : (α : Assignment) (f : ℕ) (ps : List Literal) → total α f ps ≡ f + count α ps
total_count α f [] = omega arith
total_count α f (p ∷ ps) = omega (arith, total_count α (up (value α p) f) ps, up_num (value α p) f)

abbrev all : Assignment → List Bit → ℕ
all α [] = 0
all α (b ∷ bs) = bit_number α b + all α bs

fixed_sum_count : (α : Assignment) (bs : List Bit) → fixed_sum bs + count α (literals bs) ≡ all α bs
fixed_sum_count α [] = refl
fixed_sum_count α (fixed true ∷ bs) = omega (arith, fixed_sum_count α bs)
fixed_sum_count α (fixed false ∷ bs) = omega (arith, fixed_sum_count α bs)
fixed_sum_count α (unfixed l ∷ bs) = omega (arith, fixed_sum_count α bs)

odd_at_least_two : (t : ℕ) → t ≤ 3 → t ≡ num (is_odd t) + 2 * num (at_least_two t)
odd_at_least_two zero h = refl
odd_at_least_two (suc zero) h = refl
odd_at_least_two (suc (suc zero)) h = refl
odd_at_least_two (suc (suc (suc zero))) h = refl
odd_at_least_two (suc (suc (suc (suc t)))) h = absurd (omega arith)

two_digits : (t : ℕ) (a b : Bool) → t ≡ num a + 2 * num b → (a ≡ is_odd t) × (b ≡ at_least_two t)
two_digits t a b e = subst (λ (k : ℕ). (a ≡ is_odd k) × (b ≡ at_least_two k)) (sym e) (go a b)
  where
    go : (a b : Bool) → (a ≡ is_odd (num a + 2 * num b)) × (b ≡ at_least_two (num a + 2 * num b))
    go true true = (refl, refl)
    go true false = (refl, refl)
    go false true = (refl, refl)
    go false false = (refl, refl)

-- the sum of one input is that input
pub sum_remains : (r : Bit) (n : ℕ) → sum_made (fixed_sum (r ∷ [])) (literals (r ∷ [])) n ≡ plain r n
unfolding sum_made
sum_remains (fixed true) n = refl
sum_remains (fixed false) n = refl
sum_remains (unfixed l) n = refl

pub sum_flips : (r : Bit) (n : ℕ) → sum_made (suc (fixed_sum (r ∷ []))) (literals (r ∷ [])) n ≡ plain (flip r) n
unfolding sum_made
sum_flips (fixed true) n = refl
sum_flips (fixed false) n = refl
sum_flips (unfixed l) n = refl

pub halves : (t : ℕ) → (j : ℕ) × (t ≡ num (is_odd t) + 2 * j)
halves zero = (0, refl)
halves (suc t) = go (is_odd t) (halves t).0 (halves t).1
  where
    go : (b : Bool) (j : ℕ) → t ≡ num b + 2 * j → (j : ℕ) × (suc t ≡ num (not b) + 2 * j)
    go true j e = (suc j, omega arith)
    go false j e = (j, omega arith)

sum_of_inputs : (α : Assignment) (l r c : Bit)
    → bit_number α l + bit_number α r + bit_number α c ≡ total α (fixed_sum (l ∷ r ∷ c ∷ [])) (literals (l ∷ r ∷ c ∷ []))
sum_of_inputs α l r c =
    omega (arith, fixed_sum_count α (l ∷ r ∷ c ∷ []), total_count α (fixed_sum (l ∷ r ∷ c ∷ [])) (literals (l ∷ r ∷ c ∷ [])))

pub num_le : (b : Bool) → num b ≤ 1
num_le true = omega arith
num_le false = omega arith

pub odd_mod : (x : ℕ) → num (is_odd x) ≡ x % 2
odd_mod x = omega (arith, (halves x).1, num_le (is_odd x))

module _ (Used : ℕ → Type 0) where
  pub bit_more : {n m : ℕ} (b : Bit) → n ≤ m → BitBelow Used n b → BitBelow Used m b
  bit_more (fixed b) h i = tt
  bit_more (unfixed l) h i = (i.0, omega arith)

  pub flip_below : (n : ℕ) (b : Bit) → BitBelow Used n b → BitBelow Used n (flip b)
  flip_below n (fixed b) i = tt
  flip_below n (unfixed l) i = i

  total_local : {n : ℕ} {α β : Assignment} (f : ℕ) (ps : List Literal) → Literals Used n ps → Agree Used n α β → total α f ps ≡ total β f ps
  total_local f [] i h = refl
  total_local {α = α} {β = β} f (p ∷ ps) i h =
      ap (λ (b : Bool). total α (up b f) ps) (value_local Used p i.0 h) ∙ total_local (up (value β p) f) ps i.1 h

  shapes_append : (n : ℕ) (cs ds : List Clause) → Shapes Used n cs → Shapes Used n ds → Shapes Used n (cs ++ ds)
  shapes_append n [] ds s t = t
  shapes_append n (c ∷ cs) ds s t = (s.0, shapes_append n cs ds s.1 t)

  shapes_map : (n : ℕ) (l : Literal) (cs : List Clause) → Within Used n l → Shapes Used n cs
      → Shapes Used n (map (λ (c : Clause). l ∷ c) cs)
  shapes_map n l [] i s = tt
  shapes_map n l ([] ∷ cs) i s = absurd s.0
  shapes_map n l ((k ∷ c) ∷ cs) i s = ((i, s.0), shapes_map n l cs i s.1)

  parity_shape : (n : ℕ) (ps : List Literal) (o : Bool) → Literals Used n ps → Shapes Used n (parity ps o n)
  unfolding parity
  parity_shape n [] o i = (refl, tt)
  parity_shape n (p ∷ ps) o i =
      shapes_append n (map (λ (c : Clause). p ∷ c) (parity ps o n)) (map (λ (c : Clause). negation p ∷ c) (parity ps (not o) n))
      (shapes_map n p (parity ps o n) i.0 (parity_shape n ps o i.1))
      (shapes_map n (negation p) (parity ps (not o) n) i.0 (parity_shape n ps (not o) i.1))

  -- ---- the sum and the carry

  -- a bit that is made from the variables below a, with clauses under which its value is v
  pub record Tied (a : ℕ) (m : Made) (v : Assignment → Bool) : Type 0 where
    pub extends : Extends Used a m.next m.clauses
    pub value : (α : Assignment) → satisfies α m.clauses ≡ true → bit_value α m.bit ≡ v α
    pub below : BitBelow Used m.next m.bit

  -- a bit that is its own new variable: a step
  opened_tied : (n : ℕ) (cs : List Clause) (v : ℕ → Bool) (f : ℕ) (ps : List Literal) → Used n → Literals Used n ps → Shapes Used n cs
      → AllDistinct cs
      → ((α : Assignment) → satisfies α cs ≡ beq (α n) (v (total α f ps)))
      → Tied n (opened n cs) (λ α. v (total α f ps))
  opened_tied n cs v f ps u i sh distinct law = record {
    extends = step Used n cs (λ α. v (total α f ps)) u (λ α β h. ap v (total_local f ps i h)) sh distinct law;
    value = λ α s. eq_of_beq (α n) (v (total α f ps)) (sym (law α) ∙ s);
    below = (u, le_refl (suc n));
  }

  -- a bit that needs no variable
  plain_tied : (n : ℕ) (b : Bit) (v : Assignment → Bool) → BitBelow Used n b
      → ((α : Assignment) → bit_value α b ≡ v α) → Tied n (plain b n) v
  plain_tied n b v i e = record { extends = extends_nil Used n; value = λ α s. e α; below = i }

  sum_tied : (n f : ℕ) (ps : List Literal) → Used n → Literals Used n ps → Distinct ps
      → Tied n (sum_made f ps n) (λ α. is_odd (total α f ps))
  unfolding sum_made
  sum_tied n f [] u i d = plain_tied n (fixed (is_odd f)) (λ α. is_odd f) tt (λ α. refl)
  sum_tied n f (p ∷ []) u i d =
      plain_tied n (unfixed (signed (is_odd f) p)) (λ α. is_odd (up (value α p) f)) i.0
      (λ α. flips_flips (is_odd f) p.negated (α p.variable) ∙ go (value α p) (is_odd f) refl)
    where
      go : (b o : Bool) → is_odd f ≡ o → flips o b ≡ is_odd (up b f)
      go true true e = ap not (sym e)
      go true false e = ap not (sym e)
      go false true e = sym e
      go false false e = sym e
  sum_tied n f (p ∷ q ∷ ps) u i d =
      opened_tied n (parity (p ∷ q ∷ ps) (is_odd f) n) is_odd f (p ∷ q ∷ ps) u i (parity_shape n (p ∷ q ∷ ps) (is_odd f) i)
      (parity_distinct Used n (p ∷ q ∷ ps) (is_odd f) i d) (λ α. parity_law α f (p ∷ q ∷ ps) n)

  carry_tied : (n f : ℕ) (ps : List Literal) → f + length ps ≤ 3 → Used n → Literals Used n ps → Distinct ps
      → Tied n (carry_made f ps n) (λ α. at_least_two (total α f ps))
  unfolding carry_made both either most
  carry_tied n f [] h u i d = plain_tied n (fixed (at_least_two f)) (λ α. at_least_two f) tt (λ α. refl)
  carry_tied n zero (p ∷ []) h u i d = plain_tied n (fixed false) (λ α. at_least_two (up (value α p) 0)) tt (λ α. go (value α p))
    where
      go : (b : Bool) → false ≡ at_least_two (up b 0)
      go true = refl
      go false = refl
  carry_tied n (suc zero) (p ∷ []) h u i d = plain_tied n (unfixed p) (λ α. at_least_two (up (value α p) 1)) i.0 (λ α. go (value α p))
    where
      go : (b : Bool) → b ≡ at_least_two (up b 1)
      go true = refl
      go false = refl
  carry_tied n (suc (suc f)) (p ∷ []) h u i d =
      plain_tied n (fixed true) (λ α. at_least_two (up (value α p) (suc (suc f)))) tt (λ α. go (value α p))
    where
      go : (b : Bool) → true ≡ at_least_two (up b (suc (suc f)))
      go true = refl
      go false = refl
  carry_tied n zero (p ∷ q ∷ []) h u i d =
      opened_tied n (both p q (new n)) at_least_two 0 (p ∷ q ∷ []) u i ((i.0, refl), ((i.1.0, refl), ((i.0, (i.1.0, refl)), tt)))
      (both_distinct Used n p q i d) (λ α. both_law α p q (new n))
  carry_tied n (suc zero) (p ∷ q ∷ []) h u i d =
      opened_tied n (either p q (new n)) at_least_two 1 (p ∷ q ∷ []) u i ((i.0, refl), ((i.1.0, refl), ((i.0, (i.1.0, refl)), tt)))
      (either_distinct Used n p q i d) (λ α. either_law α p q (new n))
  carry_tied n (suc (suc f)) (p ∷ q ∷ []) h u i d = absurd (omega arith)
  carry_tied n zero (p ∷ q ∷ r ∷ []) h u i d =
      let pq : Shape Used n (p ∷ q ∷ new n ∷ []) = (i.0, (i.1.0, refl)) in
      let pr : Shape Used n (p ∷ r ∷ new n ∷ []) = (i.0, (i.1.1.0, refl)) in
      let qr : Shape Used n (q ∷ r ∷ new n ∷ []) = (i.1.0, (i.1.1.0, refl)) in
      opened_tied n (most p q r (new n)) at_least_two 0 (p ∷ q ∷ r ∷ []) u i (pq, (pr, (qr, (pq, (pr, (qr, tt))))))
      (most_distinct Used n p q r i d) (λ α. most_law α p q r (new n))
  carry_tied n (suc f) (p ∷ q ∷ r ∷ []) h u i d = absurd (omega arith)
  carry_tied n f (p ∷ q ∷ r ∷ o ∷ ps) h u i d = absurd (omega arith)

  pub bits_more : {n m : ℕ} (bs : List Bit) → n ≤ m → BitsBelow Used n bs → BitsBelow Used m bs
  bits_more [] h i = tt
  bits_more (b ∷ bs) h i = (bit_more b h i.0, bits_more bs h i.1)

  literals_in : (n : ℕ) (bs : List Bit) → BitsBelow Used n bs → Literals Used n (literals bs)
  literals_in n [] i = tt
  literals_in n (fixed b ∷ bs) i = literals_in n bs i.1
  literals_in n (unfixed l ∷ bs) i = (i.0, literals_in n bs i.1)

  -- ---- the column

  -- the inputs are the sum bit and twice j, where j is the carry bit; in the last column j is what mod 2^m drops
  pub record ColumnAdds (l r c : Bit) (last : Bool) (n : ℕ) (k : Column) : Type 0 where
    pub extends : Extends Used n k.next k.clauses
    pub sum_below : BitBelow Used k.next k.sum_bit
    pub carry_below : BitBelow Used k.next k.carry_bit
    pub adds : (α : Assignment) → satisfies α k.clauses ≡ true
        → (j : ℕ) × (bit_number α l + bit_number α r + bit_number α c ≡ bit_number α k.sum_bit + 2 * j)
        × (last ≡ false → j ≡ bit_number α k.carry_bit)

  module _ (l r c : Bit) (n : ℕ) (fresh : Fresh Used n) (il : BitBelow Used n l) (ir : BitBelow Used n r) (ic : BitBelow Used n c) where
    abbrev inputs : List Bit
    inputs = l ∷ r ∷ c ∷ []

    abbrev pair : Pair
    pair = first_pair l r c

    -- how many inputs are 1
    abbrev ones : Assignment → ℕ
    ones α = total α (fixed_sum inputs) (literals inputs)

    literals_below : Literals Used n (literals inputs)
    literals_below = literals_in n inputs (il, (ir, (ic, tt)))

    -- with a pair neither the sum nor the carry needs a variable
    sum_of_tied : (k : Pair) → first_pair l r c ≡ k → ((α : Assignment) → PairAdds α (ones α) k) → PairBelow Used n k
        → Tied n (sum_of k inputs n) (λ α. is_odd (ones α))
    unfolding sum_of
    sum_of_tied none e h i = sum_tied n (fixed_sum inputs) (literals inputs) (fresh n (le_refl n)) literals_below (no_pair_distinct l r c e)
    sum_of_tied (equal p q) e h i =
        subst (λ (m : Made). Tied n m (λ α. is_odd (ones α))) (sym (sum_remains q n))
        (plain_tied n q (λ α. is_odd (ones α)) i.1 (λ α. (two_digits (ones α) (bit_value α q) (bit_value α p) (h α)).0))
    sum_of_tied (opposite q) e h i =
        subst (λ (m : Made). Tied n m (λ α. is_odd (ones α))) (sym (sum_flips q n))
        (plain_tied n (flip q) (λ α. is_odd (ones α)) (flip_below n q i)
        (λ α. (two_digits (ones α) (bit_value α (flip q)) (bit_value α q) (h α)).0))

    carry_of_tied : (k : Pair) (m : ℕ) → n ≤ m → first_pair l r c ≡ k → ((α : Assignment) → PairAdds α (ones α) k) → PairBelow Used n k
        → Tied m (carry_of k inputs m) (λ α. at_least_two (ones α))
    unfolding carry_of
    carry_of_tied none m g e h i =
        carry_tied m (fixed_sum inputs) (literals inputs) (inputs_few inputs) (fresh m g)
        (literals_more Used (literals inputs) g literals_below) (no_pair_distinct l r c e)
    carry_of_tied (equal p q) m g e h i =
        plain_tied m p (λ α. at_least_two (ones α)) (bit_more p g i.0)
        (λ α. (two_digits (ones α) (bit_value α q) (bit_value α p) (h α)).1)
    carry_of_tied (opposite q) m g e h i =
        plain_tied m q (λ α. at_least_two (ones α)) (bit_more q g i)
        (λ α. (two_digits (ones α) (bit_value α (flip q)) (bit_value α q) (h α)).1)

    pair_adds : (α : Assignment) → PairAdds α (ones α) pair
    pair_adds α = subst (λ (t : ℕ). PairAdds α t pair) (sum_of_inputs α l r c) (first_pair_adds α l r c)

    abbrev s : Made
    s = sum_of pair inputs n

    sum_right : Tied n s (λ α. is_odd (ones α))
    sum_right = sum_of_tied pair refl pair_adds (first_pair_below Used n l r c il ir ic)

    abbrev t : Made
    t = carry_of pair inputs s.next

    carry_right : Tied s.next t (λ α. at_least_two (ones α))
    carry_right = carry_of_tied pair s.next sum_right.extends.grows refl pair_adds (first_pair_below Used n l r c il ir ic)

    few : (α : Assignment) → ones α ≤ 3
    few α = omega (arith, sum_of_inputs α l r c, num_le (bit_value α l), num_le (bit_value α r), num_le (bit_value α c))

    pub column_adds : (last : Bool) → ColumnAdds l r c last n (column l r c last n)
    unfolding column carry_unless
    column_adds true = record {
      extends = extends_append Used sum_right.extends (extends_nil Used s.next);
      sum_below = sum_right.below;
      carry_below = tt;
      adds = λ α h.
          let v = ones α in
          let e : bit_value α s.bit ≡ is_odd v = sum_right.value α (satisfies_left α s.clauses [] h) in
          let k = halves v in
          (k.0, sum_of_inputs α l r c ∙ k.1 ∙ ap (λ (o : Bool). num o + 2 * k.0) (sym e), λ f. absurd (false≢true (sym f)));
    }
    column_adds false = record {
      extends = extends_append Used sum_right.extends carry_right.extends;
      sum_below = bit_more s.bit carry_right.extends.grows sum_right.below;
      carry_below = carry_right.below;
      adds = λ α h.
          let v = ones α in
          let e : bit_value α s.bit ≡ is_odd v = sum_right.value α (satisfies_left α s.clauses t.clauses h) in
          let f : bit_value α t.bit ≡ at_least_two v = carry_right.value α (satisfies_right α s.clauses t.clauses h) in (
            bit_number α t.bit,
            sum_of_inputs α l r c ∙ odd_at_least_two v (few α) ∙ ap₂ (λ (o d : Bool). num o + 2 * num d) (sym e) (sym f),
            λ f. refl,
          );
    }

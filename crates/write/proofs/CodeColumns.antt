-- A column of codes is document 01's column of their bits, with request b's pairs: the inputs, the sum, the carry, and all together.
use Prim.Native.Nat.{ℕ, zero, suc, ◌+◌, ◌*◌, ◌/◌, ◌%◌, ◌<◌, ◌≤◌}
use mathlib.Core.Path.{◌≡◌, refl, sym, ap, ap₂, subst, ◌∙◌}
use mathlib.Core.Bool.{Bool, true, false, cond, beq}
use mathlib.Core.List.{List, [], ◌∷◌, ◌++◌}
use native.Mathlib.Omega.{arith}
use native.Mathlib.Numerals.{add-one}
use native.Mathlib.Decide.{dec_lt}
use lib.Dec.{eqb}
use borrow.Author.Tests.{eq-eqb, ne_eqb}
use Rattle.cnf.specs.Clause.{Literal, Clause, negation, new}
use Rattle.product.specs.Bit.{Bit, fixed, unfixed, flip}
use Rattle.product.specs.Column.{fixed_sum, literals, is_odd, Pair, none, equal, opposite, pair_by, pair_or, first_pair, parity, sum_made}
use Rattle.product.specs.Column.{both, either, most, carry_made, sum_of, carry_of, carry_unless, Made, plain, column}
use Rattle.product.proofs.AnyPair.{Alike}
use Rattle.product.proofs.Nexts.{carry_unless_grows}
use Rattle.product.proofs.ColumnMeans.{sum_remains, sum_flips}
use Rattle.gates.specs.Code.{code_sign, literal_of, bit_of, flipped_code}
use Rattle.gates.specs.Gate.{column_clauses}
use Rattle.write.specs.Column.{pair_of_codes, inputs_sum, inputs_carry, FixedFew, Sees, MatchesBit, MatchesColumn}
use Rattle.write.specs.declared.column.Inputs.{Inputs}
use Rattle.write.specs.declared.column.Inputs.TheVariants.{Equal, Opposite, Two, Three}
use Rattle.gates.specs.declared.Gate.TheVariants.{Empty, ParityOfTwo, ParityOfThree, Both, Most}
use Rattle.write.specs.declared.column.MadeBit.{MadeBit}
use Rattle.gates.proofs.Codes.{sign_even, sign_odd, even_or_odd, literal_negated, literal_new, new_flipped, flipped_odd, bit_zero}
use Rattle.gates.proofs.Codes.{bit_fixed, bit_literal, bit_new, bit_negated}
use Rattle.cnf.proofs.Flips.{flips_false, not_twice}

-- ---- pairs of any bits: two fixed bits are a pair too

abbrev any_pair_or : Bit → Bit → Bit → Pair → Pair
any_pair_or (fixed a) (fixed b) r later = pair_by true (beq a b) (fixed a) r later
any_pair_or (fixed a) (unfixed q) r later = later
any_pair_or (unfixed p) b r later = pair_or (unfixed p) b r later

abbrev any_first_pair : Bit → Bit → Bit → Pair
any_first_pair l r c = any_pair_or l r c (any_pair_or l c r (any_pair_or r c l none))

-- two fixed bits taken as a pair give the sum and the carry of document 01's cases
any_pair_alike : (l r c : Bit) → Alike (l ∷ r ∷ c ∷ []) (any_first_pair l r c) (first_pair l r c)
unfolding sum_made carry_made sum_of carry_of
any_pair_alike (fixed true) (fixed true) (fixed true) n = (refl, refl)
any_pair_alike (fixed true) (fixed true) (fixed false) n = (refl, refl)
any_pair_alike (fixed true) (fixed false) (fixed true) n = (refl, refl)
any_pair_alike (fixed true) (fixed false) (fixed false) n = (refl, refl)
any_pair_alike (fixed false) (fixed true) (fixed true) n = (refl, refl)
any_pair_alike (fixed false) (fixed true) (fixed false) n = (refl, refl)
any_pair_alike (fixed false) (fixed false) (fixed true) n = (refl, refl)
any_pair_alike (fixed false) (fixed false) (fixed false) n = (refl, refl)
any_pair_alike (fixed true) (fixed true) (unfixed p) n = (refl, refl)
any_pair_alike (fixed true) (fixed false) (unfixed p) n = (refl, refl)
any_pair_alike (fixed false) (fixed true) (unfixed p) n = (refl, refl)
any_pair_alike (fixed false) (fixed false) (unfixed p) n = (refl, refl)
any_pair_alike (fixed true) (unfixed p) (fixed true) n = (refl, refl)
any_pair_alike (fixed true) (unfixed p) (fixed false) n = (refl, refl)
any_pair_alike (fixed false) (unfixed p) (fixed true) n = (refl, refl)
any_pair_alike (fixed false) (unfixed p) (fixed false) n = (refl, refl)
any_pair_alike (unfixed p) (fixed true) (fixed true) n = (refl, refl)
any_pair_alike (unfixed p) (fixed true) (fixed false) n = (refl, refl)
any_pair_alike (unfixed p) (fixed false) (fixed true) n = (refl, refl)
any_pair_alike (unfixed p) (fixed false) (fixed false) n = (refl, refl)
any_pair_alike (fixed l) (unfixed p) (unfixed q) n = (refl, refl)
any_pair_alike (unfixed p) (fixed r) (unfixed q) n = (refl, refl)
any_pair_alike (unfixed p) (unfixed q) (fixed c) n = (refl, refl)
any_pair_alike (unfixed p) (unfixed q) (unfixed r) n = (refl, refl)

-- ---- pairs of codes

-- the one fixed input is f
fixed_first : (b : ℕ) (bs : List Bit) → b < 2 → fixed_sum bs ≡ 0 → fixed_sum (fixed (code_sign b) ∷ bs) ≡ b
fixed_first zero bs h e = e
fixed_first (suc zero) bs h e = ap suc e
fixed_first (suc (suc b)) bs h e = absurd (omega arith)

-- codes of one variable are equal where their signs are
signs_equal : (a b : ℕ) → a / 2 ≡ b / 2 → beq (code_sign a) (code_sign b) ≡ eqb a b
signs_equal a b e =
    even_or_odd a
    (λ p. even_or_odd b
    (λ q. rw (sign_even a p, sign_even b q, eq-eqb a b (omega arith)))
    (λ q. rw (sign_even a p, sign_odd b q, ne_eqb a b (λ f. q (sym (ap (λ (k : ℕ). k % 2) f) ∙ p)))))
    (λ p. even_or_odd b
    (λ q. rw (sign_odd a p, sign_even b q, ne_eqb a b (λ f. p (ap (λ (k : ℕ). k % 2) f ∙ q))))
    (λ q. rw (sign_odd a p, sign_odd b q, eq-eqb a b (omega (arith, p, q)))))

any_pair_yes : (a b : ℕ) (r : Bit) (k : Pair) → a / 2 ≡ b / 2
    → any_pair_or (bit_of a) (bit_of b) r k ≡ pair_by true (eqb a b) (bit_of a) r k
unfolding literal_of
any_pair_yes a b r k e = go (dec_lt a 2) (dec_lt b 2)
  where
    go : Dec (a < 2) → Dec (b < 2) → any_pair_or (bit_of a) (bit_of b) r k ≡ pair_by true (eqb a b) (bit_of a) r k
    go (yes h) (yes i) = rw (bit_fixed a h, bit_fixed b i, signs_equal a b e)
    go (yes h) (no i) = absurd (omega arith)
    go (no h) (yes i) = absurd (omega arith)
    go (no h) (no i) = rw (bit_literal a (omega arith), bit_literal b (omega arith), eq-eqb (a / 2) (b / 2) e, signs_equal a b e)

any_pair_no : (a b : ℕ) (r : Bit) (k : Pair) → (a / 2 ≡ b / 2 → ⊥) → any_pair_or (bit_of a) (bit_of b) r k ≡ k
unfolding literal_of
any_pair_no a b r k e = go (dec_lt a 2) (dec_lt b 2)
  where
    go : Dec (a < 2) → Dec (b < 2) → any_pair_or (bit_of a) (bit_of b) r k ≡ k
    go (yes h) (yes i) = absurd (e (omega arith))
    go (yes h) (no i) = rw (bit_fixed a h, bit_literal b (omega arith))
    go (no h) (yes i) = rw (bit_literal a (omega arith), bit_fixed b i)
    go (no h) (no i) = rw (bit_literal a (omega arith), bit_literal b (omega arith), ne_eqb (a / 2) (b / 2) e)

-- ---- the inputs

module _ (l r c : ℕ) where
  abbrev bits : List Bit
  bits = bit_of l ∷ bit_of r ∷ bit_of c ∷ []

  abbrev pair : Pair
  pair = first_pair (bit_of l) (bit_of r) (bit_of c)

  abbrev seen : Inputs → Type 0
  seen i = Sees i (bit_of l) (bit_of r) (bit_of c)

  -- inputs that make the column of the first pair of any bits
  sees : (i : Inputs) (k : Pair) → any_first_pair (bit_of l) (bit_of r) (bit_of c) ≡ k
      → ((n : ℕ) → inputs_sum i n ≡ sum_of k bits n) → ((n : ℕ) → inputs_carry i n ≡ carry_of k bits n) → FixedFew i → seen i
  sees i k e s t f =
      let a = any_pair_alike (bit_of l) (bit_of r) (bit_of c) in
      record {
        sum = λ n. s n ∙ sym (ap (λ (j : Pair). sum_of j bits n) e) ∙ (a n).0;
        carry = λ n. t n ∙ sym (ap (λ (j : Pair). carry_of j bits n) e) ∙ (a n).1;
        few = f;
      }

  pair_seen : (a b o : ℕ) (k : Pair) → any_first_pair (bit_of l) (bit_of r) (bit_of c) ≡ any_pair_or (bit_of a) (bit_of b) (bit_of o) k
      → a / 2 ≡ b / 2 → seen (pair_of_codes a b o)
  unfolding pair_of_codes sum_of carry_of
  pair_seen a b o k e h = go (eqb a b) (e ∙ any_pair_yes a b (bit_of o) k h)
    where
      go : (t : Bool) → any_first_pair (bit_of l) (bit_of r) (bit_of c) ≡ pair_by true t (bit_of a) (bit_of o) k
          → seen (cond t (Equal a o) (Opposite o))
      go true e = sees (Equal a o) (equal (bit_of a) (bit_of o)) e (λ n. sym (sum_remains (bit_of o) n)) (λ n. refl) tt
      go false e = sees (Opposite o) (opposite (bit_of o)) e (λ n. sym (sum_flips (bit_of o) n)) (λ n. refl) tt

  pub first_seen : l / 2 ≡ r / 2 → seen (pair_of_codes l r c)
  first_seen h = pair_seen l r c _ refl h

  module _ (lr : l / 2 ≡ r / 2 → ⊥) where
    pub second_seen : l / 2 ≡ c / 2 → seen (pair_of_codes l c r)
    second_seen h = pair_seen l c r _ (any_pair_no l r (bit_of c) _ lr) h

    module _ (lc : l / 2 ≡ c / 2 → ⊥) where
      pub third_seen : r / 2 ≡ c / 2 → seen (pair_of_codes r c l)
      third_seen h = pair_seen r c l none (any_pair_no l r (bit_of c) _ lr ∙ any_pair_no l c (bit_of r) _ lc) h

      module _ (rc : r / 2 ≡ c / 2 → ⊥) where
        no_pair : any_first_pair (bit_of l) (bit_of r) (bit_of c) ≡ none
        no_pair = any_pair_no l r (bit_of c) _ lr ∙ any_pair_no l c (bit_of r) _ lc ∙ any_pair_no r c (bit_of l) none rc

        by_counts : (i : Inputs) (f : ℕ) (ps : List Literal) → fixed_sum bits ≡ f → literals bits ≡ ps
            → ((n : ℕ) → inputs_sum i n ≡ sum_made f ps n) → ((n : ℕ) → inputs_carry i n ≡ carry_made f ps n) → FixedFew i → seen i
        unfolding sum_of carry_of
        by_counts i f ps e g s t few =
            sees i none no_pair (λ n. s n ∙ sym (ap₂ (λ (k : ℕ) (qs : List Literal). sum_made k qs n) e g))
            (λ n. t n ∙ sym (ap₂ (λ (k : ℕ) (qs : List Literal). carry_made k qs n) e g)) few

        pub left_fixed : l < 2 → seen (Two l r c)
        left_fixed h =
            let p : 2 ≤ r = omega (arith, lr) in
            let q : 2 ≤ c = omega (arith, lc) in
            by_counts (Two l r c) l (literal_of r ∷ literal_of c ∷ [])
            (rw (bit_fixed l h, bit_literal r p, bit_literal c q)
            (fixed_first l (unfixed (literal_of r) ∷ unfixed (literal_of c) ∷ []) h refl))
            (rw (bit_fixed l h, bit_literal r p, bit_literal c q)) (λ n. refl) (λ n. refl) (omega arith)

        pub right_fixed : r < 2 → seen (Two r l c)
        right_fixed h =
            let p : 2 ≤ l = omega (arith, lr) in
            let q : 2 ≤ c = omega (arith, rc) in
            by_counts (Two r l c) r (literal_of l ∷ literal_of c ∷ [])
            (rw (bit_literal l p, bit_fixed r h, bit_literal c q) (fixed_first r (unfixed (literal_of c) ∷ []) h refl))
            (rw (bit_literal l p, bit_fixed r h, bit_literal c q)) (λ n. refl) (λ n. refl) (omega arith)

        pub carry_fixed : c < 2 → seen (Two c l r)
        carry_fixed h =
            let p : 2 ≤ l = omega (arith, lc) in
            let q : 2 ≤ r = omega (arith, rc) in
            by_counts (Two c l r) c (literal_of l ∷ literal_of r ∷ [])
            (rw (bit_literal l p, bit_literal r q, bit_fixed c h) (fixed_first c [] h refl))
            (rw (bit_literal l p, bit_literal r q, bit_fixed c h)) (λ n. refl) (λ n. refl) (omega arith)

        pub none_fixed : 2 ≤ l → 2 ≤ r → 2 ≤ c → seen (Three l r c)
        none_fixed p q o =
            by_counts (Three l r c) 0 (literal_of l ∷ literal_of r ∷ literal_of c ∷ [])
            (rw (bit_literal l p, bit_literal r q, bit_literal c o)) (rw (bit_literal l p, bit_literal r q, bit_literal c o))
            (λ n. refl) (λ n. refl) tt

-- what `inputs_of` sees, pair by pair and fixed input by fixed input
pub ruleset seen_by_pairs = (first_seen, second_seen, third_seen, left_fixed, right_fixed, carry_fixed, none_fixed)

-- ---- the sum

-- the parity that a gate names by the code of its new variable
parity_flipped : (ps : List Literal) (f z : ℕ)
    → parity ps (literal_of (flipped_code (2 * z) f)).negated (literal_of (flipped_code (2 * z) f)).variable ≡ parity ps (is_odd f) z
parity_flipped ps f z =
    ap (λ (l : Literal). parity ps l.negated l.variable) (new_flipped z f) ∙ ap (λ (o : Bool). parity ps o z) (flips_false (is_odd f))

pub plain_is : (b z : ℕ) (k : Bit) → bit_of b ≡ k → MatchesBit z (record { bit = b; gate = Empty; next = z }) (plain k z)
plain_is b z k e = record { bit = e; clauses = refl; next = refl; grows = omega arith }

pub bit_flipped_by_1 : (b : ℕ) → bit_of (flipped_code b 1) ≡ flip (bit_of b)
bit_flipped_by_1 b = ap (λ (x : ℕ). bit_of x) (flipped_odd b 1 refl) ∙ bit_negated b

pub sum_two_is : (p q f z : ℕ) → 0 < z
    → MatchesBit z (record { bit = 2 * z; gate = ParityOfTwo p q (flipped_code (2 * z) f); next = z + 1 })
    (sum_made f (literal_of p ∷ literal_of q ∷ []) z)
unfolding sum_made
sum_two_is p q f z h =
    record { bit = bit_new z h; clauses = parity_flipped (literal_of p ∷ literal_of q ∷ []) f z; next = add-one z; grows = omega arith }

pub sum_three_is : (p q r z : ℕ) → 0 < z
    → MatchesBit z (record { bit = 2 * z; gate = ParityOfThree p q r (2 * z); next = z + 1 })
    (sum_made 0 (literal_of p ∷ literal_of q ∷ literal_of r ∷ []) z)
unfolding sum_made
sum_three_is p q r z h =
    record {
      bit = bit_new z h;
      clauses = ap (λ (l : Literal). parity (literal_of p ∷ literal_of q ∷ literal_of r ∷ []) l.negated l.variable) (literal_new z);
      next = add-one z;
      grows = omega arith;
    }

-- ---- the carry

negation_twice : (l : Literal) → negation (negation l) ≡ l
negation_twice l = ap (λ (s : Bool). record { variable = l.variable; negated = s }) (not_twice l.negated)

both_negated : (p q t : Literal) → both (negation p) (negation q) (negation t) ≡ either p q t
unfolding both either
both_negated p q t = simp negation_twice

pub carry_two_is : (p q f t : ℕ) → f ≤ 1 → 0 < t
    → MatchesBit t (record { bit = 2 * t; gate = Both (flipped_code p f) (flipped_code q f) (flipped_code (2 * t) f); next = t + 1 })
    (carry_made f (literal_of p ∷ literal_of q ∷ []) t)
unfolding carry_made flipped_code
carry_two_is p q zero t h k =
    record {
      bit = bit_new t k;
      clauses = ap (λ (l : Literal). both (literal_of p) (literal_of q) l) (literal_new t);
      next = add-one t;
      grows = omega arith;
    }
carry_two_is p q (suc zero) t h k =
    record {
      bit = bit_new t k;
      clauses = simp (literal_negated, literal_new) (both_negated (literal_of p) (literal_of q) (new t));
      next = add-one t;
      grows = omega arith;
    }
carry_two_is p q (suc (suc f)) t h k = absurd (omega arith)

pub carry_three_is : (p q r t : ℕ) → 0 < t
    → MatchesBit t (record { bit = 2 * t; gate = Most p q r (2 * t); next = t + 1 })
    (carry_made 0 (literal_of p ∷ literal_of q ∷ literal_of r ∷ []) t)
unfolding carry_made
carry_three_is p q r t k =
    record {
      bit = bit_new t k;
      clauses = ap (λ (l : Literal). most (literal_of p) (literal_of q) (literal_of r) l) (literal_new t);
      next = add-one t;
      grows = omega arith;
    }

-- ---- a bit of two or three unfixed inputs is a new variable: where the next free one is at most k, it is below k

pub sum_opens_two : {i : Inputs} {f p q : ℕ} (z k : ℕ) → i ≡ Two f p q → (inputs_sum i z).next ≤ k → z < k
unfolding sum_made
sum_opens_two z k e h = rw e at h

pub sum_opens_three : {i : Inputs} {p q r : ℕ} (z k : ℕ) → i ≡ Three p q r → (inputs_sum i z).next ≤ k → z < k
unfolding sum_made
sum_opens_three z k e h = rw e at h

carry_opens : (f t : ℕ) (p q : Literal) → (carry_made f (p ∷ q ∷ []) t).next ≡ suc t
unfolding carry_made
carry_opens zero t p q = refl
carry_opens (suc f) t p q = refl

pub carry_opens_two : {i : Inputs} {f p q : ℕ} (t k : ℕ) → i ≡ Two f p q → (inputs_carry i t).next ≤ k → t < k
carry_opens_two {f = f} {p} {q} t k e h =
    omega (arith, h, ap (λ (j : Inputs). (inputs_carry j t).next) e, carry_opens f t (literal_of p) (literal_of q))

pub carry_opens_three : {i : Inputs} {p q r : ℕ} (t k : ℕ) → i ≡ Three p q r → (inputs_carry i t).next ≤ k → t < k
unfolding carry_made
carry_opens_three t k e h = rw e at h

-- ---- the column

-- where the column's next free variable is at most k, so is the sum's, and the carry's
module _ (l r c z k : ℕ) (i : Inputs) (v : Sees i (bit_of l) (bit_of r) (bit_of c)) where
  pub sum_fits : (last : Bool) → (column (bit_of l) (bit_of r) (bit_of c) last z).next ≤ k → (inputs_sum i z).next ≤ k
  unfolding column
  sum_fits last h =
      let s : Made = sum_of (pair l r c) (bits l r c) z in
      omega (arith, h, ap (λ (m : Made). m.next) (v.sum z), (carry_unless_grows last (pair l r c) (bits l r c) s.next).0)

  pub carry_fits : (column (bit_of l) (bit_of r) (bit_of c) false z).next ≤ k → (n : ℕ) → n ≡ (inputs_sum i z).next
      → (inputs_carry i n).next ≤ k
  unfolding column carry_unless
  carry_fits h n e =
      let f : n ≡ (sum_of (pair l r c) (bits l r c) z).next = e ∙ ap (λ (m : Made). m.next) (v.sum z) in
      omega (arith, h, ap (λ (m : Made). m.next) (v.carry n), ap (λ (j : ℕ). (carry_of (pair l r c) (bits l r c) j).next) f)

module _ (l r c z : ℕ) (i : Inputs) (s : MadeBit) (v : Sees i (bit_of l) (bit_of r) (bit_of c)) (m : MatchesBit z s (inputs_sum i z)) where
  sum_is : MatchesBit z s (sum_of (pair l r c) (bits l r c) z)
  sum_is = subst (λ (k : Made). MatchesBit z s k) (v.sum z) m

  pub last_column_is : MatchesColumn z (record { sum = s.bit; carry = 0; next = s.next; parity = s.gate; majority = Empty })
      (column (bit_of l) (bit_of r) (bit_of c) true z)
  unfolding column carry_unless column_clauses
  last_column_is =
      record {
        sum = sum_is.bit;
        carry = bit_zero;
        clauses = ap (λ (x : List Clause). x ++ []) sum_is.clauses;
        next = sum_is.next;
        grows = m.grows;
      }

  pub column_is : (t : MadeBit) → MatchesBit s.next t (inputs_carry i s.next)
      → MatchesColumn z (record { sum = s.bit; carry = t.bit; next = t.next; parity = s.gate; majority = t.gate })
      (column (bit_of l) (bit_of r) (bit_of c) false z)
  unfolding column carry_unless column_clauses
  column_is t m₂ =
      let u = subst (λ (n : ℕ). MatchesBit s.next t (carry_of (pair l r c) (bits l r c) n)) sum_is.next
      (subst (λ (j : Made). MatchesBit s.next t j) (v.carry s.next) m₂) in
      record {
        sum = sum_is.bit;
        carry = u.bit;
        clauses = ap₂ (λ (x y : List Clause). x ++ y) sum_is.clauses u.clauses;
        next = u.next;
        grows = omega (arith, m.grows, u.grows);
      }

-- ---- what the column's functions are proved by

pub ruleset sum_steps = (plain_is, bit_flipped_by_1, sum_two_is, sum_three_is, sum_opens_two, sum_opens_three)

pub ruleset carry_steps = (plain_is, carry_two_is, carry_three_is, carry_opens_two, carry_opens_three)

pub ruleset column_steps = (last_column_is, column_is)

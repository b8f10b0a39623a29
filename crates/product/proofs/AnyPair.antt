-- Which pair is taken makes no difference: there are two only where all three inputs name one variable, and then each leaves the same
-- sum and the same carry. So every pair makes the same column (`any_pair`), and any order of looking for one would do.
use Prim.Native.Nat.{ℕ}
use mathlib.Core.Path.{◌≡◌, refl, sym, ap, ◌∙◌, subst}
use mathlib.Core.Logic.{◌≢◌, ◌⊎◌, ⊎_elim}
use mathlib.Core.Bool.{Bool, true, false, beq, false≢true}
use mathlib.Core.List.{List, [], ◌∷◌, ◌++◌}
use lib.Dec.{eqb}
use borrow.Author.Tests.{eq-eqb, eqb-true}
use Rattle.cnf.specs.Clause.{Literal}
use Rattle.product.specs.Bit.{Bit, fixed, unfixed}
use Rattle.product.specs.Column.{Pair, none, pair_by, pair_or, first_pair, Made, sum_made, sum_of, carry_of, carry_unless, Column}
use Rattle.product.specs.Column.{column_of, column}

-- the two pairs leave the same sum and the same carry
abbrev pub Alike : List Bit → Pair → Pair → Type 0
Alike bs j k = (n : ℕ) → (sum_of j bs n ≡ sum_of k bs n) × (carry_of j bs n ≡ carry_of k bs n)

alike_of : (bs : List Bit) {j k : Pair} → j ≡ k → Alike bs j k
alike_of bs e n = (ap (λ (j : Pair). sum_of j bs n) e, ap (λ (j : Pair). carry_of j bs n) e)

-- the same pair, looked at twice
twice : (v s : Bool) (a r : Bit) (k : Pair) → pair_by v s a r (pair_by v s a r k) ≡ pair_by v s a r k
twice true true a r k = refl
twice true false a r k = refl
twice false s a r k = refl

or_twice : (a b r : Bit) (k : Pair) → pair_or a b r (pair_or a b r k) ≡ pair_or a b r k
or_twice (fixed a) b r k = refl
or_twice (unfixed p) (fixed b) r k = refl
or_twice (unfixed p) (unfixed q) r k = twice (eqb p.variable q.variable) (beq p.negated q.negated) (unfixed p) r k

-- ---- three inputs of one variable

abbrev literal : ℕ → Bool → Literal
literal v s = record { variable = v; negated = s }

-- the pair of a and b, which name one variable, and what remains
abbrev taken : Literal → Literal → Literal → Pair → Pair
taken a b r later = pair_by true (beq a.negated b.negated) (unfixed a) (unfixed r) later

abbrev TakenAlike : Literal → Literal → Literal → Type 0
TakenAlike p q r =
    (j k : Pair)
    → Alike (unfixed p ∷ unfixed q ∷ unfixed r ∷ []) (taken p r q j) (taken p q r k)
    × Alike (unfixed p ∷ unfixed q ∷ unfixed r ∷ []) (taken q r p j) (taken p q r k)

one_variable : (v : ℕ) (a b c : Bool) → TakenAlike (literal v a) (literal v b) (literal v c)
unfolding sum_made sum_of carry_of
one_variable v true true true j k = (λ n. (refl, refl), λ n. (refl, refl))
one_variable v true true false j k = (λ n. (refl, refl), λ n. (refl, refl))
one_variable v true false true j k = (λ n. (refl, refl), λ n. (refl, refl))
one_variable v true false false j k = (λ n. (refl, refl), λ n. (refl, refl))
one_variable v false true true j k = (λ n. (refl, refl), λ n. (refl, refl))
one_variable v false true false j k = (λ n. (refl, refl), λ n. (refl, refl))
one_variable v false false true j k = (λ n. (refl, refl), λ n. (refl, refl))
one_variable v false false false j k = (λ n. (refl, refl), λ n. (refl, refl))

all_of_one : (p q r : Literal) → p.variable ≡ q.variable → p.variable ≡ r.variable → TakenAlike p q r
all_of_one p q r e f =
    subst (λ (v : ℕ). TakenAlike p q (literal v r.negated)) f
    (subst (λ (v : ℕ). TakenAlike p (literal v q.negated) (literal p.variable r.negated)) e
    (one_variable p.variable p.negated q.negated r.negated))

-- ---- three literals

module _ (p q r : Literal) where
  abbrev bits : List Bit
  bits = unfixed p ∷ unfixed q ∷ unfixed r ∷ []

  abbrev same : Literal → Literal → Bool
  same a b = beq a.negated b.negated

  -- first and third, before the others
  first_and_third : (x y : Bool) (j : Pair) → eqb p.variable q.variable ≡ x → eqb p.variable r.variable ≡ y
      → let k = pair_by x (same p q) (unfixed p) (unfixed r) (pair_by y (same p r) (unfixed p) (unfixed q) j) in
      Alike bits (pair_by y (same p r) (unfixed p) (unfixed q) k) k
  first_and_third x false j e f = λ n. (refl, refl)
  first_and_third false true j e f = alike_of bits (twice true (same p r) (unfixed p) (unfixed q) j)
  first_and_third true true j e f =
      (all_of_one p q r (eqb-true p.variable q.variable e) (eqb-true p.variable r.variable f) _ _).0

  -- second and third, before the others
  second_and_third : (x y z : Bool) → eqb p.variable q.variable ≡ x → eqb p.variable r.variable ≡ y
      → eqb q.variable r.variable ≡ z
      → let j = pair_by z (same q r) (unfixed q) (unfixed p) none in
      let k = pair_by x (same p q) (unfixed p) (unfixed r) (pair_by y (same p r) (unfixed p) (unfixed q) j) in
      Alike bits (pair_by z (same q r) (unfixed q) (unfixed p) k) k
  second_and_third x y false e f g = λ n. (refl, refl)
  second_and_third false false true e f g = alike_of bits (twice true (same q r) (unfixed q) (unfixed p) none)
  second_and_third false true true e f g =
      let h : p.variable ≡ q.variable = eqb-true p.variable r.variable f ∙ sym (eqb-true q.variable r.variable g) in
      absurd (false≢true (sym e ∙ eq-eqb p.variable q.variable h))
  second_and_third true y true e f g =
      let h : p.variable ≡ q.variable = eqb-true p.variable q.variable e in
      (all_of_one p q r h (h ∙ eqb-true q.variable r.variable g) _ _).1

-- ---- any inputs

-- looked at before the others, each of the three pairs makes what the first pair makes
abbrev AnyAlike : Bit → Bit → Bit → Type 0
AnyAlike l r c =
    let bs : List Bit = l ∷ r ∷ c ∷ [] in
    let k : Pair = first_pair l r c in
    Alike bs (pair_or l r c k) k × Alike bs (pair_or l c r k) k × Alike bs (pair_or r c l k) k

any_alike : (l r c : Bit) → AnyAlike l r c
any_alike (fixed l) r c = (λ n. (refl, refl), λ n. (refl, refl), alike_of (fixed l ∷ r ∷ c ∷ []) (or_twice r c (fixed l) none))
any_alike (unfixed p) (fixed r) c =
    (λ n. (refl, refl), alike_of (unfixed p ∷ fixed r ∷ c ∷ []) (or_twice (unfixed p) c (fixed r) none), λ n. (refl, refl))
any_alike (unfixed p) (unfixed q) (fixed c) = (
  alike_of (unfixed p ∷ unfixed q ∷ fixed c ∷ []) (or_twice (unfixed p) (unfixed q) (fixed c) none),
  λ n. (refl, refl),
  λ n. (refl, refl),
)
any_alike (unfixed p) (unfixed q) (unfixed r) = (
  alike_of (bits p q r) (or_twice (unfixed p) (unfixed q) (unfixed r) _),
  first_and_third p q r _ _ _ refl refl,
  second_and_third p q r _ _ _ refl refl refl,
)

alike_column : (bs : List Bit) (j k : Pair) → Alike bs j k → (last : Bool) (n : ℕ) → column_of j bs last n ≡ column_of k bs last n
unfolding carry_unless
alike_column bs j k a last n =
    ap (λ (s : Made). joined s (carry_unless last j bs s.next)) (a n).0
    ∙ ap (λ (t : Made). joined (sum_of k bs n) t) (carries last (sum_of k bs n).next)
  where
    joined : Made → Made → Column
    joined s t = record { sum_bit = s.bit; carry_bit = t.bit; clauses = s.clauses ++ t.clauses; next = t.next }

    carries : (last : Bool) (m : ℕ) → carry_unless last j bs m ≡ carry_unless last k bs m
    carries true m = refl
    carries false m = (a m).1

-- ---- every pair makes the same column

-- k is the pair of two of the inputs, and the third remains
abbrev pub PairOf : Bit → Bit → Bit → Pair → Type 0
PairOf l r c k = (k ≢ none) × ((k ≡ pair_or l r c none) ⊎ ((k ≡ pair_or l c r none) ⊎ (k ≡ pair_or r c l none)))

-- a pair that was found does not depend on what comes later
found : (a b r : Bit) (j : Pair) → pair_or a b r none ≢ none → pair_or a b r none ≡ pair_or a b r j
found (fixed a) b r j h = absurd (h refl)
found (unfixed p) (fixed b) r j h = absurd (h refl)
found (unfixed p) (unfixed q) r j h = go (eqb p.variable q.variable) (beq p.negated q.negated) h
  where
    go : (v s : Bool) → pair_by v s (unfixed p) r none ≢ none → pair_by v s (unfixed p) r none ≡ pair_by v s (unfixed p) r j
    go true true f = refl
    go true false f = refl
    go false s f = absurd (f refl)

pub any_pair : (l r c : Bit) (k : Pair) → PairOf l r c k → (last : Bool) (n : ℕ)
    → column_of k (l ∷ r ∷ c ∷ []) last n ≡ column l r c last n
unfolding column
any_pair l r c k h last n =
    let a = any_alike l r c in
    ⊎_elim
    (λ e. by l r c e a.0)
    (⊎_elim (λ e. by l c r e a.1) (λ e. by r c l e a.2))
    h.1
  where
    by : (p q o : Bit) → k ≡ pair_or p q o none → Alike (l ∷ r ∷ c ∷ []) (pair_or p q o (first_pair l r c)) (first_pair l r c)
        → column_of k (l ∷ r ∷ c ∷ []) last n ≡ column_of (first_pair l r c) (l ∷ r ∷ c ∷ []) last n
    by p q o e a =
        let f : k ≡ pair_or p q o (first_pair l r c) = e ∙ found p q o (first_pair l r c) (λ g. h.0 (e ∙ g)) in
        ap (λ (j : Pair). column_of j (l ∷ r ∷ c ∷ []) last n) f ∙ alike_column (l ∷ r ∷ c ∷ []) _ _ a last n

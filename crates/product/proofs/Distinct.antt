-- No clause of a sum or a carry names a variable twice, where its inputs don't and are below the new variable.
use Prim.Native.Nat.{ℕ}
use mathlib.Core.Path.{◌≡◌, refl}
use mathlib.Core.Bool.{Bool, true, false, not}
use mathlib.Core.List.{List, [], ◌∷◌, ◌++◌, map}
use native.Mathlib.Omega.{arith}
use lib.Dec.{eqb}
use borrow.Author.Tests.{ne_eqb}
use Rattle.cnf.specs.Clause.{Literal, Clause, negation, new, clause_names, clauses_name, Distinct, AllDistinct}
use Rattle.cnf.proofs.Extend.{or_false, Within, Literals, all_distinct_append}
use Rattle.product.specs.Column.{parity, both, either, most}

-- ---- clauses that don't name v

name_append : (v : ℕ) (cs ds : List Clause) → clauses_name v cs ≡ false → clauses_name v ds ≡ false → clauses_name v (cs ++ ds) ≡ false
name_append v [] ds s t = t
name_append v (c ∷ cs) ds s t =
    let o = or_false (clause_names v c) (clauses_name v cs) s in
    rw o.0 (name_append v cs ds o.1 t)

name_map : (v : ℕ) (l : Literal) (cs : List Clause) → eqb l.variable v ≡ false → clauses_name v cs ≡ false
    → clauses_name v (map (λ (c : Clause). l ∷ c) cs) ≡ false
name_map v l [] f s = refl
name_map v l (c ∷ cs) f s =
    let o = or_false (clause_names v c) (clauses_name v cs) s in
    rw (f, o.0) (name_map v l cs f o.1)

distinct_map : (l : Literal) (cs : List Clause) → clauses_name l.variable cs ≡ false → AllDistinct cs
    → AllDistinct (map (λ (c : Clause). l ∷ c) cs)
distinct_map l [] f s = tt
distinct_map l (c ∷ cs) f s =
    let o = or_false (clause_names l.variable c) (clauses_name l.variable cs) f in
    ((o.0, s.0), distinct_map l cs o.1 s.1)

parity_names : (v n : ℕ) (ps : List Literal) (o : Bool) → eqb n v ≡ false → clause_names v ps ≡ false
    → clauses_name v (parity ps o n) ≡ false
unfolding parity
parity_names v n [] o f i = rw (f) refl
parity_names v n (p ∷ ps) o f i =
    let e = or_false (eqb p.variable v) (clause_names v ps) i in
    name_append v (map (λ (c : Clause). p ∷ c) (parity ps o n)) (map (λ (c : Clause). negation p ∷ c) (parity ps (not o) n))
    (name_map v p (parity ps o n) e.0 (parity_names v n ps o f e.1))
    (name_map v (negation p) (parity ps (not o) n) e.0 (parity_names v n ps (not o) f e.1))

module _ (Used : ℕ → Type 0) (n : ℕ) where
  -- the new variable as a literal, and that it is none of those below it
  abbrev own : Bool → Literal
  own s = record { variable = n; negated = s }

  other : (p : Literal) → Within Used n p → eqb n p.variable ≡ false
  other p i = ne_eqb n p.variable (λ e. omega (arith, i.1))

  -- ---- the sum

  pub parity_distinct : (ps : List Literal) (o : Bool) → Literals Used n ps → Distinct ps → AllDistinct (parity ps o n)
  unfolding parity
  parity_distinct [] o i d = ((refl, tt), tt)
  parity_distinct (p ∷ ps) o i d =
      all_distinct_append (map (λ (c : Clause). p ∷ c) (parity ps o n)) (map (λ (c : Clause). negation p ∷ c) (parity ps (not o) n))
      (distinct_map p (parity ps o n) (lacks o) (parity_distinct ps o i.1 d.1))
      (distinct_map (negation p) (parity ps (not o) n) (lacks (not o)) (parity_distinct ps (not o) i.1 d.1))
    where
      lacks : (o : Bool) → clauses_name p.variable (parity ps o n) ≡ false
      lacks o = parity_names p.variable n ps o (other p i.0) d.0

  -- ---- the carry: clauses of one or two inputs and the new variable

  one : (p : Literal) (s : Bool) → Within Used n p → Distinct (p ∷ own s ∷ [])
  one p s i = (rw (other p i) refl, (refl, tt))

  two : (p q : Literal) (s : Bool) → Within Used n p → Within Used n q → eqb q.variable p.variable ≡ false
      → Distinct (p ∷ q ∷ own s ∷ [])
  two p q s i j e = (rw (e, other p i) refl, one q s j)

  pub both_distinct : (p q : Literal) → Literals Used n (p ∷ q ∷ []) → Distinct (p ∷ q ∷ []) → AllDistinct (both p q (new n))
  unfolding both
  both_distinct p q i d = (one p true i.0, (one q true i.1.0, (two p q false i.0 i.1.0 (or_false _ _ d.0).0, tt)))

  pub either_distinct : (p q : Literal) → Literals Used n (p ∷ q ∷ []) → Distinct (p ∷ q ∷ []) → AllDistinct (either p q (new n))
  unfolding either
  either_distinct p q i d = (one p false i.0, (one q false i.1.0, (two p q true i.0 i.1.0 (or_false _ _ d.0).0, tt)))

  pub most_distinct : (p q r : Literal) → Literals Used n (p ∷ q ∷ r ∷ []) → Distinct (p ∷ q ∷ r ∷ []) → AllDistinct (most p q r (new n))
  unfolding most
  most_distinct p q r i d =
      let e = or_false (eqb q.variable p.variable) (clause_names p.variable (r ∷ [])) d.0 in
      let pq : (s : Bool) → Distinct (p ∷ q ∷ own s ∷ []) = λ s. two p q s i.0 i.1.0 e.0 in
      let pr : (s : Bool) → Distinct (p ∷ r ∷ own s ∷ []) = λ s. two p r s i.0 i.1.1.0 (or_false _ _ e.1).0 in
      let qr : (s : Bool) → Distinct (q ∷ r ∷ own s ∷ []) = λ s. two q r s i.1.0 i.1.1.0 (or_false _ _ d.1.0).0 in
      (pq true, (pr true, (qr true, (pq false, (pr false, (qr false, tt))))))

-- A product that multiplies, as words and entries: each list of values of the variables below first extends to exactly one of those below
-- next that satisfies the clauses that the words are, and there the entries read as c times x. And what is counted off the words.
use Prim.Native.Nat.{ℕ, zero, suc, ◌+◌, ◌-◌, ◌*◌, ◌≤◌, ◌<◌}
use mathlib.Core.Path.{◌≡◌, refl, sym, ap, ◌∙◌, subst}
use mathlib.Core.Logic.{◌≢◌}
use mathlib.Core.Bool.{Bool, true, false}
use mathlib.Core.List.{List, [], ◌∷◌, map}
use native.Mathlib.Nat.{not-suc-le-zero, add-zero}
use native.Mathlib.Omega.{arith}
use lib.ListN.{length, get_or, take}
use lib.IntN.{ℤ}
use lib.Seq.{ext_get_or, length-take-le}
use Rattle.cnf.specs.Clause.{Assignment, flips, satisfies, AllDistinct}
use Rattle.cnf.specs.Words.{From1, word_by, clauses_of, satisfies_words, highest_named, DistinctBelow}
use Rattle.cnf.proofs.Extend.{past, Agree, satisfies_local}
use Rattle.cnf.proofs.Words.{clauses_of_words, highest_of_words}
use Rattle.product.specs.Bit.{Bit, fixed, unfixed, given, num, reads, stored}
use Rattle.product.specs.Product.{Product, y_entries, clause_words}
use Rattle.product.specs.Demand.{BitsBelow, assignment, entry_value, entries_read, Demand2}
use Rattle.product.proofs.Given.{given_below, reads_given, all_false, reads_all_false}
use Rattle.product.proofs.ProductMeans.{reads_local, ProductMultiplies, y_not_fixed_at_1}

-- ---- entries of the bit room

literal_value : (α : Assignment) (s : Bool) (v : ℕ) → 0 < v → entry_value α (word_by s v) ≡ num (flips s (α v))
literal_value α s zero h = absurd (not-suc-le-zero h)
literal_value α false (suc v) h = refl
literal_value α true (suc v) h = refl

entries_of_y : (n : ℕ) (α : Assignment) (bs : List Bit) → BitsBelow From1 n bs → ((k : ℕ) → get_or bs k (fixed false) ≢ fixed true)
    → entries_read α (map stored bs) ≡ reads α bs
entries_of_y n α [] i f = refl
entries_of_y n α (fixed true ∷ bs) i f = absurd (f 0 refl)
entries_of_y n α (fixed false ∷ bs) i f = omega (arith, entries_of_y n α bs i.1 (λ k. f (suc k)))
entries_of_y n α (unfixed l ∷ bs) i f =
    omega (arith, literal_value α l.negated l.variable i.0.0, entries_of_y n α bs i.1 (λ k. f (suc k)))

-- ---- lists of values

values_from : Assignment → ℕ → ℕ → List Bool
values_from α v zero = []
values_from α v (suc n) = α v ∷ values_from α (suc v) n

length_table : (α : Assignment) (v n : ℕ) → length (values_from α v n) ≡ n
unfolding values_from
length_table α v zero = refl
length_table α v (suc n) = ap suc (length_table α (suc v) n)

table_at : (α : Assignment) (v n i : ℕ) → i < n → get_or (values_from α v n) i false ≡ α (v + i)
unfolding values_from
table_at α v zero i h = absurd (not-suc-le-zero h)
table_at α v (suc n) zero h = ap α (sym (add-zero v))
table_at α v (suc n) (suc i) h = table_at α (suc v) n i (omega arith) ∙ ap α (omega arith)

-- the first values
take_at_place : (k : ℕ) (a : List Bool) (j : ℕ) → j < k → get_or (take k a) j false ≡ get_or a j false
take_at_place zero a j h = absurd (not-suc-le-zero h)
take_at_place (suc k) [] j h = refl
take_at_place (suc k) (b ∷ a) zero h = refl
take_at_place (suc k) (b ∷ a) (suc j) h = take_at_place k a j (omega arith)

module _ (c : ℕ) (x : List ℤ) (first : ℕ) (fit : DistinctBelow first x) (some : 0 < first) (p : Product)
    (f : ProductMultiplies From1 c (given x) first p) where
  pub no_bit_fixed_at_1 : (k : ℕ) → get_or p.y k (fixed false) ≢ fixed true
  no_bit_fixed_at_1 = y_not_fixed_at_1 c (given x) first p f (given_below first x fit) (all_false x) (reads_all_false first x fit)

  -- ---- what is counted off the words

  pub clauses_counted : length (clauses_of (clause_words p)) ≡ length p.clauses
  clauses_counted = ap length (clauses_of_words p.next p.clauses f.extends.names)

  pub next_counted : suc (highest_named (first - 1) (clause_words p)) ≡ p.next
  next_counted =
      let e : suc (first - 1) ≡ first = omega arith in
      highest_of_words (first - 1) p.clauses ∙ ap (λ (n : ℕ). past n p.clauses) e ∙ f.extends.opens

  -- ---- what the words and the entries mean

  words_satisfied : (α : Assignment) → satisfies_words α (clause_words p) ≡ satisfies α p.clauses
  words_satisfied α = ap (satisfies α) (clauses_of_words p.next p.clauses f.extends.names)

  pub entries_multiply : (α : Assignment) → satisfies α p.clauses ≡ true → entries_read α (y_entries p) ≡ c * entries_read α x
  entries_multiply α s =
      entries_of_y p.next α p.y f.below no_bit_fixed_at_1 ∙ f.value α s ∙ ap (λ (k : ℕ). c * k) (reads_given first α x fit)

  -- ---- no variable twice

  pub words_distinct : AllDistinct (clauses_of (clause_words p))
  words_distinct = subst AllDistinct (sym (clauses_of_words p.next p.clauses f.extends.names)) f.extends.distinct

  -- ---- demand 2

  pub demand_2 : (before : List Bool) → length before ≡ first - 1 → Demand2 c x first p.next (clause_words p) (y_entries p) before
  demand_2 before lb =
      let n : ℕ = p.next - 1 in
      let k : ℕ = first - 1 in
      let α : Assignment = assignment before in
      let b = f.extends.exists α in
      let a : List Bool = values_from b.0 1 n in
      let grows : first ≤ p.next = f.extends.grows in
      let la : length a ≡ n = length_table b.0 1 n in
      let at : (j : ℕ) → j < n → get_or a j false ≡ b.0 (suc j) = λ j h. table_at b.0 1 n j h ∙ ap b.0 (omega arith) in
      let agree : Agree From1 p.next (assignment a) b.0 = λ v p q. at (v - 1) (omega arith) ∙ ap b.0 (omega arith) in
      record {
        values = a;
        long = la;
        extends =
            ext_get_or false (take k a) before (length-take-le k a (omega arith) ∙ sym lb) (λ j h.
            let h' : j < k = omega (arith, length-take-le k a (omega arith)) in
            take_at_place k a j h' ∙ at j (omega arith) ∙ sym (b.1 (suc j) (omega arith) (omega arith))
            ∙ ap (λ (i : ℕ). get_or before i false) (omega arith));
        existence = words_satisfied (assignment a) ∙ satisfies_local From1 p.clauses f.extends.names agree ∙ b.2;
        uniqueness = λ o lo io so.
            let s : satisfies (assignment o) p.clauses ≡ true = sym (words_satisfied (assignment o)) ∙ so in
            let e : Agree From1 first b.0 (assignment o) =
            λ v p l. sym (b.1 v p l) ∙ ap (λ (q : List Bool). get_or q (v - 1) false) (sym io) ∙ take_at_place k o (v - 1) (omega arith) in
            let q = f.extends.unique b.0 (assignment o) e b.2 s in
            ext_get_or false o a (lo ∙ sym la) (λ j l.
            ap (λ (i : ℕ). get_or o i false) (omega arith)
            ∙ sym (q (suc j) (omega arith) (omega arith))
            ∙ sym (at j (omega arith)));
        value =
            entries_of_y p.next (assignment a) p.y f.below no_bit_fixed_at_1
            ∙ reads_local From1 p.y f.below agree
            ∙ f.value b.0 b.2
            ∙ ap (λ (v : ℕ). c * v) (sym (reads_local From1 (given x) (given_below first x fit) b.1) ∙ reads_given first α x fit);
      }

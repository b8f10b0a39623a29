-- Names do not matter: where variables are renamed, with signs, and new variables go to new variables, every column, sum, line, recipe and
-- product is the old one renamed. So how many words, clauses and new variables there are does not depend on the names.
--
-- Only `column_renamed` knows what a column is; all above it knows `ColumnRenamed`. Distinct variables stay distinct (`apart`), since a
-- column asks whether two inputs name one variable.
use Prim.Native.Nat.{ℕ, zero, suc, ◌+◌}
use mathlib.Core.Path.{◌≡◌, refl, sym, ap, ap₂, ◌∙◌}
use mathlib.Core.Bool.{Bool, true, false, not, beq}
use mathlib.Core.List.{List, [], ◌∷◌, ◌++◌, map, map-append}
use native.Mathlib.Nat.{add-zero}
use native.Mathlib.Decide.{ℕ_discrete}
use native.Mathlib.Omega.{arith}
use borrow.Author.Tests.{eq-eqb, ne_eqb}
use lib.IntN.{pos}
use lib.ListN.{length, get_or, length-append, length-map, get_or-map}
use Rattle.line.specs.Line.{Kind, splus, sminus, minuss, kind_of}
use Rattle.line.specs.declared.Line.{Line}
use Rattle.cnf.specs.Clause.{Literal, Clause, flips, signed, negation, new}
use Rattle.cnf.specs.Words.{word, words}
use Rattle.product.specs.Bit.{Bit, fixed, unfixed, flip}
use Rattle.product.specs.Column.{fixed_sum, literals, is_odd, Pair, none, equal, opposite, pair_by, pair_or, first_pair, Made, parity}
use Rattle.product.specs.Column.{sum_made, both, either, most, carry_made, sum_of, carry_of, carry_unless, Column, column}
use Rattle.product.specs.Lines.{Sum, adder, shifted, fitted, line_sum, columns, line_encoded, Encoded, encoded}
use Rattle.product.specs.Product.{last_or, Product, product_made}
use Rattle.product.specs.Renaming.{Renaming, literal_renamed}
use Rattle.cnf.proofs.Flips.{flips_flips}

-- ---- what is renamed

abbrev pub clause_renamed : Renaming → Clause → Clause
clause_renamed ρ c = map (literal_renamed ρ) c

abbrev pub clauses_renamed : Renaming → List Clause → List Clause
clauses_renamed ρ cs = map (clause_renamed ρ) cs

abbrev pub bit_renamed : Renaming → Bit → Bit
bit_renamed ρ (fixed b) = fixed b
bit_renamed ρ (unfixed l) = unfixed (literal_renamed ρ l)

abbrev pub bits_renamed : Renaming → List Bit → List Bit
bits_renamed ρ bs = map (bit_renamed ρ) bs

-- distinct variables go to distinct ones, and those from n on, in turn, to those from m on
pub record Renames (ρ : Renaming) (n m : ℕ) : Type 0 where
  pub apart : (u v : ℕ) → (ρ u).variable ≡ (ρ v).variable → u ≡ v
  pub later : (j : ℕ) → ρ (n + j) ≡ new (m + j)

-- two products from n and from m on that are counted alike
pub record CountsSame (n m : ℕ) (p p' : Product) : Type 0 where
  pub words : length (words p'.clauses) ≡ length (words p.clauses)
  pub clauses : length p'.clauses ≡ length p.clauses
  pub bits : length p'.y ≡ length p.y
  pub next : p'.next + n ≡ p.next + m

module _ (ρ : Renaming) where
  -- ---- literals

  signed_renamed : (o : Bool) (l : Literal) → signed o (literal_renamed ρ l) ≡ literal_renamed ρ (signed o l)
  signed_renamed o l =
      ap (λ (s : Bool). record { variable = (ρ l.variable).variable; negated = s })
      (sym (flips_flips o l.negated (ρ l.variable).negated))

  negation_renamed : (l : Literal) → negation (literal_renamed ρ l) ≡ literal_renamed ρ (negation l)
  negation_renamed l = signed_renamed true l

  new_renamed : {n m : ℕ} → Renames ρ n m → new m ≡ literal_renamed ρ (new n)
  new_renamed {n} {m} h = ap new (sym (add-zero m)) ∙ sym (h.later 0) ∙ ap ρ (add-zero n)

  renames_more : {n m : ℕ} (d : ℕ) → Renames ρ n m → {a b : ℕ} → a ≡ n + d → b ≡ m + d → Renames ρ a b
  renames_more d h {a} {b} ea eb = record { apart = h.apart; later = λ j. ap ρ (omega arith) ∙ h.later (d + j) ∙ ap new (omega arith) }

  -- ---- the sum and the carry

  pub record MadeRenamed (n m : ℕ) (k k' : Made) : Type 0 where
    pub bit : k'.bit ≡ bit_renamed ρ k.bit
    pub clauses : k'.clauses ≡ clauses_renamed ρ k.clauses
    pub opened : ℕ
    pub next : k.next ≡ n + opened
    pub next' : k'.next ≡ m + opened

  prefix_renamed : (p : Literal) (cs : List Clause)
      → map (λ (c : Clause). literal_renamed ρ p ∷ c) (clauses_renamed ρ cs) ≡ clauses_renamed ρ (map (λ (c : Clause). p ∷ c) cs)
  prefix_renamed p [] = refl
  prefix_renamed p (c ∷ cs) = ap (λ (ds : List Clause). clause_renamed ρ (p ∷ c) ∷ ds) (prefix_renamed p cs)

  module _ {n m : ℕ} (h : Renames ρ n m) where
    parity_renamed : (ps : List Literal) (o : Bool) → parity (map (literal_renamed ρ) ps) o m ≡ clauses_renamed ρ (parity ps o n)
    unfolding parity
    parity_renamed [] o = ap (λ (l : Literal). (l ∷ []) ∷ []) (ap (signed (not o)) (new_renamed h) ∙ signed_renamed (not o) (new n))
    parity_renamed (p ∷ ps) o =
        ap₂ (λ (cs ds : List Clause). map (λ (c : Clause). literal_renamed ρ p ∷ c) cs ++ ds) (parity_renamed ps o)
        (ap₂ (λ (l : Literal) (ds : List Clause). map (λ (c : Clause). l ∷ c) ds) (negation_renamed p) (parity_renamed ps (not o)))
        ∙ ap₂ (λ (cs ds : List Clause). cs ++ ds) (prefix_renamed p (parity ps o n)) (prefix_renamed (negation p) (parity ps (not o) n))
        ∙ sym (map-append (clause_renamed ρ) (map (λ (c : Clause). p ∷ c) (parity ps o n))
        (map (λ (c : Clause). negation p ∷ c) (parity ps (not o) n)))

    opened_renamed : (cs cs' : List Clause) → cs' ≡ clauses_renamed ρ cs
        → MadeRenamed n m (record { bit = unfixed (new n); clauses = cs; next = suc n })
        (record { bit = unfixed (new m); clauses = cs'; next = suc m })
    opened_renamed cs cs' e = record { bit = ap unfixed (new_renamed h); clauses = e; opened = 1; next = omega arith; next' = omega arith }

    plain_renamed : (b b' : Bit) → b' ≡ bit_renamed ρ b
        → MadeRenamed n m (record { bit = b; clauses = []; next = n }) (record { bit = b'; clauses = []; next = m })
    plain_renamed b b' e = record { bit = e; clauses = refl; opened = 0; next = omega arith; next' = omega arith }

    sum_renamed : (f : ℕ) (ps : List Literal) → MadeRenamed n m (sum_made f ps n) (sum_made f (map (literal_renamed ρ) ps) m)
    unfolding sum_made
    sum_renamed f [] = plain_renamed _ _ refl
    sum_renamed f (p ∷ []) = plain_renamed _ _ (ap unfixed (signed_renamed (is_odd f) p))
    sum_renamed f (p ∷ q ∷ ps) = opened_renamed _ _ (parity_renamed (p ∷ q ∷ ps) (is_odd f))

    -- clauses of literals and their negations
    new_negated : negation (new m) ≡ literal_renamed ρ (negation (new n))
    new_negated = ap negation (new_renamed h) ∙ negation_renamed (new n)

    both_renamed : (p q : Literal) → both (literal_renamed ρ p) (literal_renamed ρ q) (new m) ≡ clauses_renamed ρ (both p q (new n))
    unfolding both
    both_renamed p q = rw (new_negated, new_renamed h, negation_renamed p, negation_renamed q)

    either_renamed : (p q : Literal) → either (literal_renamed ρ p) (literal_renamed ρ q) (new m) ≡ clauses_renamed ρ (either p q (new n))
    unfolding either
    either_renamed p q = rw (new_negated, new_renamed h, negation_renamed p, negation_renamed q)

    most_renamed : (p q r : Literal)
        → most (literal_renamed ρ p) (literal_renamed ρ q) (literal_renamed ρ r) (new m) ≡ clauses_renamed ρ (most p q r (new n))
    unfolding most
    most_renamed p q r = rw (new_negated, new_renamed h, negation_renamed p, negation_renamed q, negation_renamed r)

    carry_renamed : (f : ℕ) (ps : List Literal) → MadeRenamed n m (carry_made f ps n) (carry_made f (map (literal_renamed ρ) ps) m)
    unfolding carry_made
    carry_renamed f [] = plain_renamed _ _ refl
    carry_renamed zero (p ∷ []) = plain_renamed _ _ refl
    carry_renamed (suc zero) (p ∷ []) = plain_renamed _ _ refl
    carry_renamed (suc (suc f)) (p ∷ []) = plain_renamed _ _ refl
    carry_renamed zero (p ∷ q ∷ []) = opened_renamed _ _ (both_renamed p q)
    carry_renamed (suc f) (p ∷ q ∷ []) = opened_renamed _ _ (either_renamed p q)
    carry_renamed zero (p ∷ q ∷ r ∷ ps) = opened_renamed _ _ (most_renamed p q r)
    carry_renamed (suc f) (p ∷ q ∷ r ∷ ps) = opened_renamed _ _ (most_renamed p q r)

  -- ---- the inputs

  fixed_sum_renamed : (bs : List Bit) → fixed_sum (bits_renamed ρ bs) ≡ fixed_sum bs
  fixed_sum_renamed [] = refl
  fixed_sum_renamed (fixed true ∷ bs) = ap suc (fixed_sum_renamed bs)
  fixed_sum_renamed (fixed false ∷ bs) = fixed_sum_renamed bs
  fixed_sum_renamed (unfixed l ∷ bs) = fixed_sum_renamed bs

  literals_renamed : (bs : List Bit) → literals (bits_renamed ρ bs) ≡ map (literal_renamed ρ) (literals bs)
  literals_renamed [] = refl
  literals_renamed (fixed b ∷ bs) = literals_renamed bs
  literals_renamed (unfixed l ∷ bs) = ap (λ (ls : List Literal). literal_renamed ρ l ∷ ls) (literals_renamed bs)

  -- ---- the first pair of inputs of one variable: the names of two variables are one exactly where the variables are

  abbrev pair_renamed : Pair → Pair
  pair_renamed none = none
  pair_renamed (equal p r) = equal (bit_renamed ρ p) (bit_renamed ρ r)
  pair_renamed (opposite r) = opposite (bit_renamed ρ r)

  same_sign : (s t b : Bool) → beq (flips s b) (flips t b) ≡ beq s t
  same_sign true true true = refl
  same_sign true true false = refl
  same_sign true false true = refl
  same_sign true false false = refl
  same_sign false true true = refl
  same_sign false true false = refl
  same_sign false false true = refl
  same_sign false false false = refl

  module _ {n m : ℕ} (h : Renames ρ n m) where
    pair_or_renamed : (a b r : Bit) (k k' : Pair) → k' ≡ pair_renamed k
        → pair_or (bit_renamed ρ a) (bit_renamed ρ b) (bit_renamed ρ r) k' ≡ pair_renamed (pair_or a b r k)
    pair_or_renamed (fixed a) b r k k' e = e
    pair_or_renamed (unfixed p) (fixed b) r k k' e = e
    pair_or_renamed (unfixed p) (unfixed q) r k k' e = go (ℕ_discrete p.variable q.variable)
      where
        signs : (s : Bool) → pair_by true s (bit_renamed ρ (unfixed p)) (bit_renamed ρ r) k' ≡ pair_renamed (pair_by true s (unfixed p) r k)
        signs true = refl
        signs false = refl

        go : Dec (p.variable ≡ q.variable)
            → pair_or (bit_renamed ρ (unfixed p)) (bit_renamed ρ (unfixed q)) (bit_renamed ρ r) k'
            ≡ pair_renamed (pair_or (unfixed p) (unfixed q) r k)
        go (yes f) =
            let b : Bool = (ρ p.variable).negated in
            let g : beq (flips p.negated b) (flips q.negated (ρ q.variable).negated) ≡ beq p.negated q.negated =
            ap (λ (v : ℕ). beq (flips p.negated b) (flips q.negated (ρ v).negated)) (sym f)
            ∙ same_sign p.negated q.negated b in
            rw (
              eq-eqb p.variable q.variable f,
              eq-eqb (ρ p.variable).variable (ρ q.variable).variable (ap (λ (v : ℕ). (ρ v).variable) f),
              g,
            )
            (signs (beq p.negated q.negated))
        go (no f) =
            rw (
              ne_eqb p.variable q.variable f,
              ne_eqb (ρ p.variable).variable (ρ q.variable).variable (λ g. f (h.apart p.variable q.variable g)),
            ) e

    first_pair_renamed : (l r c : Bit) → first_pair (bit_renamed ρ l) (bit_renamed ρ r) (bit_renamed ρ c) ≡ pair_renamed (first_pair l r c)
    first_pair_renamed l r c = pair_or_renamed l r c _ _ (pair_or_renamed l c r _ _ (pair_or_renamed r c l none none refl))

    sum_of_renamed : (k : Pair) (bs : List Bit) → MadeRenamed n m (sum_of k bs n) (sum_of (pair_renamed k) (bits_renamed ρ bs) m)
    unfolding sum_of
    sum_of_renamed none bs = rw (fixed_sum_renamed bs, literals_renamed bs) (sum_renamed h _ _)
    sum_of_renamed (equal p r) bs = rw (fixed_sum_renamed (r ∷ []), literals_renamed (r ∷ [])) (sum_renamed h _ _)
    sum_of_renamed (opposite r) bs = rw (fixed_sum_renamed (r ∷ []), literals_renamed (r ∷ [])) (sum_renamed h _ _)

    carry_unless_renamed : (last : Bool) (k : Pair) (bs : List Bit)
        → MadeRenamed n m (carry_unless last k bs n) (carry_unless last (pair_renamed k) (bits_renamed ρ bs) m)
    unfolding carry_of carry_unless
    carry_unless_renamed true k bs = plain_renamed h _ _ refl
    carry_unless_renamed false none bs = rw (fixed_sum_renamed bs, literals_renamed bs) (carry_renamed h _ _)
    carry_unless_renamed false (equal p r) bs = plain_renamed h _ _ refl
    carry_unless_renamed false (opposite r) bs = plain_renamed h _ _ refl

  -- ---- the column

  pub record ColumnRenamed (n m : ℕ) (k k' : Column) : Type 0 where
    pub sum_bit : k'.sum_bit ≡ bit_renamed ρ k.sum_bit
    pub carry_bit : k'.carry_bit ≡ bit_renamed ρ k.carry_bit
    pub clauses : k'.clauses ≡ clauses_renamed ρ k.clauses
    pub opened : ℕ
    pub next : k.next ≡ n + opened
    pub next' : k'.next ≡ m + opened

  pub column_renamed : {n m : ℕ} → Renames ρ n m → (l r c : Bit) (last : Bool)
      → ColumnRenamed n m (column l r c last n) (column (bit_renamed ρ l) (bit_renamed ρ r) (bit_renamed ρ c) last m)
  unfolding column
  column_renamed {n} {m} h l r c last =
      let inputs : List Bit = l ∷ r ∷ c ∷ [] in
      let k : Pair = first_pair l r c in
      let s = sum_of_renamed h k inputs in
      let t = carry_unless_renamed (renames_more s.opened h s.next s.next') last k inputs in
      let s₀ : Made = sum_of k inputs n in
      let t₀ : Made = carry_unless last k inputs s₀.next in
      rw (first_pair_renamed h l r c) (record {
        sum_bit = s.bit;
        carry_bit = t.bit;
        clauses =
            ap₂ (λ (cs ds : List Clause). cs ++ ds) s.clauses t.clauses
            ∙ sym (map-append (clause_renamed ρ) s₀.clauses t₀.clauses);
        opened = s.opened + t.opened;
        next = omega (arith, s.next, t.next);
        next' = omega (arith, s.next', t.next');
      })

  -- ---- a sum of two terms

  pub record SumRenamed (n m : ℕ) (s s' : Sum) : Type 0 where
    pub bits : s'.bits ≡ bits_renamed ρ s.bits
    pub clauses : s'.clauses ≡ clauses_renamed ρ s.clauses
    pub opened : ℕ
    pub next : s.next ≡ n + opened
    pub next' : s'.next ≡ m + opened

  -- a column and the sum of those above it
  sum_step : {n m : ℕ} {k k' : Column} {s s' : Sum} → ColumnRenamed n m k k' → SumRenamed k.next k'.next s s'
      → SumRenamed n m (record { bits = k.sum_bit ∷ s.bits; clauses = k.clauses ++ s.clauses; next = s.next })
      (record { bits = k'.sum_bit ∷ s'.bits; clauses = k'.clauses ++ s'.clauses; next = s'.next })
  sum_step {n} {m} {k} {k'} {s} {s'} a b = record {
    bits = ap₂ (λ (x : Bit) (xs : List Bit). x ∷ xs) a.sum_bit b.bits;
    clauses =
        ap₂ (λ (cs ds : List Clause). cs ++ ds) a.clauses b.clauses ∙ sym (map-append (clause_renamed ρ) k.clauses s.clauses);
    opened = a.opened + b.opened;
    next = omega (arith, a.next, b.next);
    next' = omega (arith, a.next', b.next');
  }

  nothing_renamed : (n m : ℕ)
      → SumRenamed n m (record { bits = []; clauses = []; next = n }) (record { bits = []; clauses = []; next = m })
  nothing_renamed n m = record { bits = refl; clauses = refl; opened = 0; next = omega arith; next' = omega arith }

  pub adder_renamed : {n m : ℕ} → Renames ρ n m → (ls rs : List Bit) (c c' : Bit) → c' ≡ bit_renamed ρ c
      → SumRenamed n m (adder ls rs c n) (adder (bits_renamed ρ ls) (bits_renamed ρ rs) c' m)
  unfolding adder
  adder_renamed {n = n} {m = m} h [] rs c c' e = nothing_renamed n m
  adder_renamed {n = n} {m = m} h (l ∷ ls) [] c c' e = nothing_renamed n m
  adder_renamed {n = n} {m = m} h (l ∷ []) (r ∷ rs) c c' e =
      let k : ColumnRenamed n m (column l r c true n) (column (bit_renamed ρ l) (bit_renamed ρ r) c' true m) =
      rw (e) (column_renamed h l r c true) in
      sum_step k (adder_renamed {n = (column l r c true n).next} {m = (column (bit_renamed ρ l) (bit_renamed ρ r) c' true m).next}
      (renames_more k.opened h k.next k.next') [] rs (column l r c true n).carry_bit
      (column (bit_renamed ρ l) (bit_renamed ρ r) c' true m).carry_bit k.carry_bit)
  adder_renamed {n = n} {m = m} h (l ∷ o ∷ ls) (r ∷ rs) c c' e =
      let k : ColumnRenamed n m (column l r c false n) (column (bit_renamed ρ l) (bit_renamed ρ r) c' false m) =
      rw (e) (column_renamed h l r c false) in
      sum_step k (adder_renamed {n = (column l r c false n).next} {m = (column (bit_renamed ρ l) (bit_renamed ρ r) c' false m).next}
      (renames_more k.opened h k.next k.next') (o ∷ ls) rs (column l r c false n).carry_bit
      (column (bit_renamed ρ l) (bit_renamed ρ r) c' false m).carry_bit k.carry_bit)

  -- ---- a line

  pub flip_renamed : (b : Bit) → flip (bit_renamed ρ b) ≡ bit_renamed ρ (flip b)
  flip_renamed (fixed b) = refl
  flip_renamed (unfixed l) = ap unfixed (negation_renamed l)

  flips_renamed : (bs : List Bit) → map flip (bits_renamed ρ bs) ≡ bits_renamed ρ (map flip bs)
  flips_renamed [] = refl
  flips_renamed (b ∷ bs) = ap₂ (λ (x : Bit) (xs : List Bit). x ∷ xs) (flip_renamed b) (flips_renamed bs)

  shifted_renamed : (s : ℕ) (bs : List Bit) → shifted s (bits_renamed ρ bs) ≡ bits_renamed ρ (shifted s bs)
  unfolding shifted
  shifted_renamed zero bs = refl
  shifted_renamed (suc s) bs = ap (λ (xs : List Bit). fixed false ∷ xs) (shifted_renamed s bs)

  fitted_renamed : (m : ℕ) (bs : List Bit) → fitted m (bits_renamed ρ bs) ≡ bits_renamed ρ (fitted m bs)
  unfolding fitted
  fitted_renamed zero bs = refl
  fitted_renamed (suc m) [] = ap (λ (xs : List Bit). fixed false ∷ xs) (fitted_renamed m [])
  fitted_renamed (suc m) (b ∷ bs) = ap (λ (xs : List Bit). bit_renamed ρ b ∷ xs) (fitted_renamed m bs)

  pub line_renamed : {n m : ℕ} → Renames ρ n m → (d : Kind) (k s : ℕ) (l r : List Bit)
      → SumRenamed n m (line_sum d k l s r n) (line_sum d k (bits_renamed ρ l) s (bits_renamed ρ r) m)
  unfolding line_sum
  line_renamed h splus k s l r = rw (shifted_renamed s l, fitted_renamed k (shifted s l), fitted_renamed k r) (adder_renamed h _ _ _ _ refl)
  line_renamed h sminus k s l r =
      rw (shifted_renamed s l, fitted_renamed k (shifted s l), fitted_renamed k r, flips_renamed (fitted k r))
      (adder_renamed h _ _ _ _ refl)
  line_renamed h minuss k s l r =
      rw (fitted_renamed k l, shifted_renamed s r, fitted_renamed k (shifted s r), flips_renamed (fitted k (shifted s r)))
      (adder_renamed h _ _ _ _ refl)

  -- ---- a recipe

  abbrev pub operands_renamed : List (List Bit) → List (List Bit)
  operands_renamed os = map (bits_renamed ρ) os

  pub record EncodedRenamed (n m : ℕ) (e e' : Encoded) : Type 0 where
    pub operands : e'.operands ≡ operands_renamed e.operands
    pub clauses : e'.clauses ≡ clauses_renamed ρ e.clauses
    pub opened : ℕ
    pub next : e.next ≡ n + opened
    pub next' : e'.next ≡ m + opened

  operand_renamed : (os : List (List Bit)) (i : ℕ) → get_or (operands_renamed os) i [] ≡ bits_renamed ρ (get_or os i [])
  operand_renamed os i = get_or-map (bits_renamed ρ) os i []

  line_encoded_renamed : {n m : ℕ} → Renames ρ n m → (f : ℕ → ℕ) (l : Line) (os : List (List Bit))
      → SumRenamed n m (line_encoded f l os n) (line_encoded f l (operands_renamed os) m)
  unfolding line_encoded
  line_encoded_renamed h f l os =
      rw (operand_renamed os l.left, operand_renamed os l.right)
      (line_renamed h (kind_of l.kind) (f l.coefficient) l.shift (get_or os l.left []) (get_or os l.right []))

  pub encoded_renamed : {n m : ℕ} → Renames ρ n m → (f : ℕ → ℕ) (ls : List Line) (os os' : List (List Bit)) → os' ≡ operands_renamed os
      → EncodedRenamed n m (encoded f ls os n) (encoded f ls os' m)
  unfolding encoded
  encoded_renamed {n = n} {m = m} h f [] os os' e = record {
    operands = e;
    clauses = refl;
    opened = 0;
    next = omega arith;
    next' = omega arith;
  }
  encoded_renamed {n = n} {m = m} h f (l ∷ ls) os os' e =
      let s : Sum = line_encoded f l os n in
      let s' : Sum = line_encoded f l os' m in
      let a : SumRenamed n m s s' = rw (e) (line_encoded_renamed h f l os) in
      let b = encoded_renamed {n = s.next} {m = s'.next} (renames_more a.opened h a.next a.next') f ls (os ++ (s.bits ∷ []))
      (os' ++ (s'.bits ∷ []))
      (ap₂ (λ (o : List (List Bit)) (x : List Bit). o ++ (x ∷ [])) e a.bits ∙ sym (map-append (bits_renamed ρ) os (s.bits ∷ []))) in
      record {
        operands = b.operands;
        clauses =
            ap₂ (λ (cs ds : List Clause). cs ++ ds) a.clauses b.clauses
            ∙ sym (map-append (clause_renamed ρ) s.clauses (encoded f ls (os ++ (s.bits ∷ [])) s.next).clauses);
        opened = a.opened + b.opened;
        next = omega (arith, a.next, b.next);
        next' = omega (arith, a.next', b.next');
      }

  -- ---- a product

  pub record ProductRenamed (n m : ℕ) (p p' : Product) : Type 0 where
    pub y : p'.y ≡ bits_renamed ρ p.y
    pub clauses : p'.clauses ≡ clauses_renamed ρ p.clauses
    pub opened : ℕ
    pub next : p.next ≡ n + opened
    pub next' : p'.next ≡ m + opened

  last_renamed : (o : List Bit) (os : List (List Bit)) → last_or (bits_renamed ρ o) (operands_renamed os) ≡ bits_renamed ρ (last_or o os)
  last_renamed o [] = refl
  last_renamed o (p ∷ os) = last_renamed p os

  pub product_renamed : {n m : ℕ} → Renames ρ n m → (t : ℕ) (ls : List Line) (x : List Bit)
      → ProductRenamed n m (product_made t ls x n) (product_made t ls (bits_renamed ρ x) m)
  unfolding product_made
  product_renamed {n} {m} h t ls x =
      let e = encoded_renamed h (columns (length x)) ls (x ∷ []) (bits_renamed ρ x ∷ []) refl in
      let os : List (List Bit) = (encoded (columns (length x)) ls (x ∷ []) n).operands in
      rw (length-map x (bit_renamed ρ)) (record {
        y =
            ap (λ (o : List (List Bit)). shifted t (last_or [] o)) e.operands ∙ ap (shifted t) (last_renamed [] os)
            ∙ shifted_renamed t (last_or [] os);
        clauses = e.clauses;
        opened = e.opened;
        next = e.next;
        next' = e.next';
      })

  -- ---- what is counted does not depend on the names

  words_renamed : (cs : List Clause) → length (words (clauses_renamed ρ cs)) ≡ length (words cs)
  words_renamed [] = refl
  words_renamed (c ∷ cs) =
      length-append (map word (clause_renamed ρ c)) (pos 0 ∷ words (clauses_renamed ρ cs))
      ∙ ap₂ (λ (a b : ℕ). a + suc b) (length-map (clause_renamed ρ c) word ∙ length-map c (literal_renamed ρ) ∙ sym (length-map c word))
      (words_renamed cs)
      ∙ sym (length-append (map word c) (pos 0 ∷ words cs))

  pub counts_same : {n m : ℕ} (p p' : Product) → ProductRenamed n m p p' → CountsSame n m p p'
  counts_same p p' r = record {
    words = ap (λ (cs : List Clause). length (words cs)) r.clauses ∙ words_renamed p.clauses;
    clauses = ap length r.clauses ∙ length-map p.clauses (clause_renamed ρ);
    bits = ap length r.y ∙ length-map p.y (bit_renamed ρ);
    next = omega (arith, r.next, r.next');
  }

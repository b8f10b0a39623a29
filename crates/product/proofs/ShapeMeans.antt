-- The five shapes of clauses: parity of two and of three literals, both, either, most. Each holds exactly when its own literal has the
-- value of its function of the other literals' values: odd, or at least two, of the fixed inputs and the true literals. The laws go by
-- the values of the literals.
use Prim.Native.Nat.{ℕ, suc}
use mathlib.Core.Path.{◌≡◌, refl, ap, ap₂, ◌∙◌}
use mathlib.Core.Bool.{Bool, true, false, not, ◌&&◌, ◌||◌, beq}
use mathlib.Core.List.{List, [], ◌∷◌, map}
use Rattle.cnf.specs.Clause.{Literal, Clause, Assignment, flips, negation, value, holds, satisfies}
use Rattle.cnf.proofs.Extend.{satisfies_append}
use Rattle.product.specs.Column.{is_odd, at_least_two, parity, both, either, most}
use Rattle.cnf.proofs.Flips.{flips_not}

-- ---- how many inputs are 1

abbrev pub up : Bool → ℕ → ℕ
up true n = suc n
up false n = n

-- f, and one more for each literal that is true
abbrev pub total : Assignment → ℕ → List Literal → ℕ
total α f [] = f
total α f (p ∷ ps) = total α (up (value α p) f) ps

-- ---- the sum

satisfies_map : (α : Assignment) (l : Literal) (cs : List Clause)
    → satisfies α (map (λ (c : Clause). l ∷ c) cs) ≡ value α l || satisfies α cs
satisfies_map α l [] = go (value α l)
  where
    go : (a : Bool) → true ≡ a || true
    go true = refl
    go false = refl
satisfies_map α l (c ∷ cs) =
    ap (λ (b : Bool). (value α l || holds α c) && b) (satisfies_map α l cs) ∙ go (value α l) (holds α c) (satisfies α cs)
  where
    go : (a h s : Bool) → (a || h) && (a || s) ≡ a || (h && s)
    go true h s = refl
    go false h s = refl

pub parity_law : (α : Assignment) (f : ℕ) (ps : List Literal) (z : ℕ)
    → satisfies α (parity ps (is_odd f) z) ≡ beq (α z) (is_odd (total α f ps))
unfolding parity
parity_law α f [] z = go (is_odd f) (α z)
  where
    go : (o t : Bool) → (flips (flips (not o) false) t || false) && true ≡ beq t o
    go true true = refl
    go true false = refl
    go false true = refl
    go false false = refl
parity_law α f (p ∷ ps) z =
    satisfies_append α (map (λ (c : Clause). p ∷ c) (parity ps (is_odd f) z))
    (map (λ (c : Clause). negation p ∷ c) (parity ps (not (is_odd f)) z))
    ∙ ap₂ ◌&&◌ (satisfies_map α p (parity ps (is_odd f) z)) (satisfies_map α (negation p) (parity ps (not (is_odd f)) z))
    ∙ ap₂ ◌&&◌
    (ap (λ (b : Bool). value α p || b) (parity_law α f ps z))
    (ap₂ ◌||◌ (flips_not p.negated (α p.variable)) (parity_law α (suc f) ps z))
    ∙ go (value α p)
  where
    go : (a : Bool)
        → (a || beq (α z) (is_odd (total α f ps))) && (not a || beq (α z) (is_odd (total α (suc f) ps)))
        ≡ beq (α z) (is_odd (total α (up a f) ps))
    go true = refl
    go false = go₂ (beq (α z) (is_odd (total α f ps)))
      where
        go₂ : (b : Bool) → b && true ≡ b
        go₂ true = refl
        go₂ false = refl

-- ---- the carry: truth tables

abbrev truth_table : (Bool → Bool → Bool → Bool) → List Bool
truth_table f =
    f true true true ∷ f true true false ∷ f true false true ∷ f true false false ∷ f false true true ∷ f false true false
    ∷ f false false true ∷ f false false false ∷ []

-- two tests with one table agree
same_table : (f g : Bool → Bool → Bool → Bool) → truth_table f ≡ truth_table g → (a b c : Bool) → f a b c ≡ g a b c
same_table f g e true true true = cc
same_table f g e true true false = cc
same_table f g e true false true = cc
same_table f g e true false false = cc
same_table f g e false true true = cc
same_table f g e false true false = cc
same_table f g e false false true = cc
same_table f g e false false false = cc

pub both_law : (α : Assignment) (p q t : Literal) → satisfies α (both p q t) ≡ beq (value α t) (at_least_two (total α 0 (p ∷ q ∷ [])))
unfolding both
both_law α p q t =
    simp flips_not
    (same_table (λ a b t. (a || (not t || false)) && ((b || (not t || false)) && ((not a || (not b || (t || false))) && true)))
    (λ a b t. beq t (at_least_two (up b (up a 0))))
    refl (value α p) (value α q) (value α t))

pub either_law : (α : Assignment) (p q t : Literal)
    → satisfies α (either p q t) ≡ beq (value α t) (at_least_two (total α 1 (p ∷ q ∷ [])))
unfolding either
either_law α p q t =
    simp flips_not
    (same_table (λ a b t. (not a || (t || false)) && ((not b || (t || false)) && ((a || (b || (not t || false))) && true)))
    (λ a b t. beq t (at_least_two (up b (up a 1))))
    refl (value α p) (value α q) (value α t))

-- the test of `most`'s clauses
abbrev most_test : Bool → Bool → Bool → Bool → Bool
most_test a b c t =
    (a || (b || (not t || false))) && ((a || (c || (not t || false))) && ((b || (c || (not t || false)))
    && ((not a || (not b || (t || false))) && ((not a || (not c || (t || false))) && ((not b || (not c || (t || false))) && true)))))

pub most_law : (α : Assignment) (p q r t : Literal)
    → satisfies α (most p q r t) ≡ beq (value α t) (at_least_two (total α 0 (p ∷ q ∷ r ∷ [])))
unfolding most
most_law α p q r t = simp flips_not (go (value α p))
  where
    go : (a : Bool)
        → most_test a (value α q) (value α r) (value α t) ≡ beq (value α t) (at_least_two (up (value α r) (up (value α q) (up a 0))))
    go true = same_table (most_test true) (λ b c t. beq t (at_least_two (up c (up b 1)))) refl (value α q) (value α r) (value α t)
    go false = same_table (most_test false) (λ b c t. beq t (at_least_two (up c (up b 0)))) refl (value α q) (value α r) (value α t)

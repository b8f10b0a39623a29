-- Demand 2 is not about nothing: calls that are not refused, an input each, and the one assignment, computed.
--
-- Of each case the listed values are tested by computation: the call answers with clauses, the values are those of the variables below
-- next, they begin with those of the variables below first, and they satisfy the words that stand in the clause room at exit. By the
-- uniqueness of `demand_2` they then are its assignment.
use Prim.Native.Nat.{ℕ, zero, suc, ◌-◌}
use mathlib.Core.Path.{◌≡◌, refl}
use mathlib.Core.Bool.{Bool, true, false, ◌&&◌}
use mathlib.Core.List.{List, [], ◌∷◌, map}
use borrow.Author.Tests.{eqb-true}
use lib.Dec.{eqb}
use lib.IntN.{ℤ, pos, negsuc}
use lib.ListN.{length, take, replicate}
use Rattle.line.specs.Refusal.{number_of}
use Rattle.line.specs.Number.{digits_by, bit_length, halvings_by, twos, odd_part}
use Rattle.line.specs.Line.{kind_of, gives}
use Rattle.recipe.specs.Check.{claims, judged, lines_judged, form_judged, recipe_judged}
use Rattle.cnf.specs.Words.{clauses_from, satisfies_words}
use Rattle.cnf.proofs.Extend.{and_left, and_right}
use Rattle.product.specs.Bit.{numbered}
use Rattle.product.specs.Column.{parity, sum_made, both, either, most, carry_made, sum_of, carry_of, carry_unless, column}
use Rattle.product.specs.Lines.{adder, shifted, fitted, line_sum, columns, line_encoded, encoded}
use Rattle.product.specs.Product.{product_made, lines_from, product_of}
use Rattle.product.specs.Write.{next_free, write_answer, Writing, writing, written}
use Rattle.product.specs.Demand.{assignment, Demand2, words_at_exit, entries_at_exit}
use Rattle.product.proofs.Demands.{demand_2}

pub record Case : Type 0 where
  pub c : ℕ
  pub w : ℕ
  pub x : List ℤ
  pub first : ℕ
  pub recipe : List ℕ
  pub values : List ℕ

-- document 01's call
abbrev plain : ℕ → ℕ → List ℕ → List ℕ → Case
plain c w recipe values = record { c = c; w = w; x = numbered 1 w; first = suc w; recipe = recipe; values = values }

unfoldable pub cases : List Case
cases =
    plain 3 2 (32 ∷ 4 ∷ 0 ∷ 0 ∷ 3 ∷ []) (1 ∷ 1 ∷ 0 ∷ 1 ∷ 0 ∷ 1 ∷ [])
    ∷ plain 5 2 (32 ∷ 8 ∷ 0 ∷ 0 ∷ 5 ∷ []) (0 ∷ 1 ∷ [])
    ∷ plain 7 1 (64 ∷ 12 ∷ 0 ∷ 0 ∷ 7 ∷ []) (1 ∷ [])
    ∷ plain 6 2 (32 ∷ 4 ∷ 0 ∷ 0 ∷ 3 ∷ []) (0 ∷ 1 ∷ 1 ∷ 0 ∷ 1 ∷ 0 ∷ [])
    ∷ plain 5 1 (32 ∷ 4 ∷ 0 ∷ 0 ∷ 3 ∷ 64 ∷ 132 ∷ 0 ∷ 0 ∷ 5 ∷ []) (1 ∷ [])
    ∷ plain 53 4 (32 ∷ 4 ∷ 0 ∷ 0 ∷ 3 ∷ 32 ∷ 136 ∷ 0 ∷ 0 ∷ 13 ∷ 33 ∷ 8 ∷ 0 ∷ 0 ∷ 53 ∷ [])
    (1 ∷ 1 ∷ 0 ∷ 1 ∷ 0 ∷ 1 ∷ 0 ∷ 1 ∷ 0 ∷ 1 ∷ 0 ∷ 1 ∷ 1 ∷ 0 ∷ 1 ∷ 0 ∷ 0 ∷ 0 ∷ 0 ∷ 0 ∷ 0 ∷ 0 ∷ 1 ∷ 1 ∷ 0 ∷ 0 ∷ 1 ∷ 0 ∷ 1 ∷ 0 ∷ 1 ∷ 1 ∷ 0 ∷ 0
    ∷ 0 ∷ 0 ∷ 0 ∷ 1 ∷ [])
    ∷ plain 59 3 (64 ∷ 24 ∷ 0 ∷ 0 ∷ 63 ∷ 96 ∷ 136 ∷ 0 ∷ 0 ∷ 59 ∷ [])
    (1 ∷ 0 ∷ 1 ∷ 1 ∷ 0 ∷ 0 ∷ 0 ∷ 0 ∷ 1 ∷ 0 ∷ 1 ∷ 1 ∷ 1 ∷ 0 ∷ 0 ∷ 1 ∷ 0 ∷ 1 ∷ 1 ∷ 1 ∷ 0 ∷ 1 ∷ 0 ∷ 1 ∷ 1 ∷ [])
    ∷ plain 1 1 ([]) (1 ∷ [])
    ∷ plain 65535 2 (64 ∷ 64 ∷ 0 ∷ 255 ∷ 255 ∷ []) (1 ∷ 1 ∷ 0 ∷ 0 ∷ 0 ∷ 1 ∷ 1 ∷ [])
    ∷ plain 1965 3 (32 ∷ 4 ∷ 0 ∷ 0 ∷ 3 ∷ 32 ∷ 28 ∷ 16 ∷ 0 ∷ 131 ∷ 65 ∷ 16 ∷ 32 ∷ 7 ∷ 173 ∷ [])
    (0 ∷ 1 ∷ 1 ∷ 1 ∷ 0 ∷ 0 ∷ 1 ∷ 0 ∷ 1 ∷ 1 ∷ 0 ∷ 1 ∷ 0 ∷ 1 ∷ 0 ∷ 0 ∷ 0 ∷ 0 ∷ 1 ∷ 0 ∷ 1 ∷ 0 ∷ 1 ∷ 0 ∷ 1 ∷ 1 ∷ 0 ∷ 1 ∷ 0 ∷ 0 ∷ 1 ∷ 1 ∷ [])
    ∷ plain 61440 2 (64 ∷ 16 ∷ 0 ∷ 0 ∷ 15 ∷ []) (1 ∷ 1 ∷ 0 ∷ 0 ∷ 0 ∷ 1 ∷ 1 ∷ [])
    ∷ plain 117 4 (32 ∷ 8 ∷ 0 ∷ 0 ∷ 5 ∷ 32 ∷ 12 ∷ 16 ∷ 0 ∷ 13 ∷ 33 ∷ 12 ∷ 32 ∷ 0 ∷ 117 ∷ [])
    (1 ∷ 1 ∷ 1 ∷ 1 ∷ 0 ∷ 1 ∷ 1 ∷ 1 ∷ 0 ∷ 1 ∷ 0 ∷ 1 ∷ 0 ∷ 1 ∷ 0 ∷ 1 ∷ 0 ∷ 1 ∷ 1 ∷ 1 ∷ 1 ∷ 0 ∷ 1 ∷ 0 ∷ 0 ∷ 0 ∷ 1 ∷ 0 ∷ 1 ∷ 0 ∷ 0 ∷ 0 ∷ 1 ∷ 0
    ∷ 1 ∷ [])
    ∷ plain 3 3 (64 ∷ 12 ∷ 0 ∷ 0 ∷ 7 ∷ 96 ∷ 136 ∷ 0 ∷ 0 ∷ 3 ∷ []) (1 ∷ 1 ∷ 1 ∷ 0 ∷ 0 ∷ 0 ∷ 0 ∷ 0 ∷ 1 ∷ 1 ∷ 1 ∷ 1 ∷ 1 ∷ 0 ∷ 0 ∷ 0 ∷ 1 ∷ [])
    ∷ plain 45 16 (32 ∷ 8 ∷ 0 ∷ 0 ∷ 5 ∷ 32 ∷ 140 ∷ 16 ∷ 0 ∷ 45 ∷ [])
    (1 ∷ 0 ∷ 0 ∷ 0 ∷ 1 ∷ 1 ∷ 0 ∷ 0 ∷ 0 ∷ 0 ∷ 1 ∷ 0 ∷ 1 ∷ 0 ∷ 1 ∷ 1 ∷ 1 ∷ 0 ∷ 0 ∷ 0 ∷ 1 ∷ 0 ∷ 1 ∷ 0 ∷ 1 ∷ 0 ∷ 1 ∷ 0 ∷ 0 ∷ 0 ∷ 0 ∷ 0 ∷ 1 ∷ 0
    ∷ 0 ∷ 0 ∷ 0 ∷ 1 ∷ 1 ∷ 0 ∷ 0 ∷ 1 ∷ 0 ∷ 1 ∷ 0 ∷ 1 ∷ 0 ∷ 1 ∷ 1 ∷ 0 ∷ 1 ∷ 0 ∷ 0 ∷ 1 ∷ 0 ∷ 1 ∷ 1 ∷ 1 ∷ 0 ∷ 1 ∷ 0 ∷ 1 ∷ 1 ∷ 1 ∷ 1 ∷ 0 ∷ 0 ∷ 0
    ∷ 0 ∷ 1 ∷ 1 ∷ 0 ∷ 0 ∷ 0 ∷ 1 ∷ 0 ∷ 0 ∷ 0 ∷ 1 ∷ 0 ∷ 0 ∷ 0 ∷ 0 ∷ 0 ∷ 1 ∷ [])
    ∷ record {
      c = 3;
      w = 2;
      x = negsuc 3 ∷ pos 2 ∷ [];
      first = 7;
      recipe = 32 ∷ 4 ∷ 0 ∷ 0 ∷ 3 ∷ [];
      values = 1 ∷ 0 ∷ 1 ∷ 0 ∷ 1 ∷ 1 ∷ 1 ∷ 0 ∷ 0 ∷ 0 ∷ [];
    }
    ∷ record {
      c = 5;
      w = 3;
      x = negsuc 3 ∷ pos 2 ∷ pos 9 ∷ [];
      first = 12;
      recipe = 32 ∷ 4 ∷ 0 ∷ 0 ∷ 3 ∷ 64 ∷ 132 ∷ 0 ∷ 0 ∷ 5 ∷ [];
      values = 1 ∷ 0 ∷ 1 ∷ 0 ∷ 1 ∷ 1 ∷ 0 ∷ 0 ∷ 1 ∷ 1 ∷ 0 ∷ 1 ∷ 0 ∷ 1 ∷ 0 ∷ 1 ∷ 0 ∷ 0 ∷ 1 ∷ 1 ∷ 1 ∷ 1 ∷ 1 ∷ 0 ∷ [];
    }
    ∷ record { c = 12; w = 2; x = pos 2 ∷ negsuc 0 ∷ []; first = 3; recipe = 32 ∷ 4 ∷ 0 ∷ 0 ∷ 3 ∷ []; values = 1 ∷ 1 ∷ 1 ∷ 0 ∷ 0 ∷ 0 ∷ [] }
    ∷ record {
      c = 59;
      w = 3;
      x = pos 5 ∷ negsuc 0 ∷ negsuc 2 ∷ [];
      first = 9;
      recipe = 64 ∷ 24 ∷ 0 ∷ 0 ∷ 63 ∷ 96 ∷ 136 ∷ 0 ∷ 0 ∷ 59 ∷ [];
      values = 0 ∷ 1 ∷ 0 ∷ 1 ∷ 1 ∷ 0 ∷ 0 ∷ 1 ∷ 0 ∷ 0 ∷ 0 ∷ 0 ∷ 0 ∷ 1 ∷ 1 ∷ 1 ∷ 1 ∷ 1 ∷ 0 ∷ 1 ∷ 0 ∷ 1 ∷ 0 ∷ 0 ∷ 1 ∷ 0 ∷ 1 ∷ 1 ∷ 1 ∷ 1 ∷ [];
    }
    ∷ []

-- ---- the call on rooms that suffice for every case

abbrev bit_room : List ℤ
bit_room = replicate 40 (pos 0)

abbrev clause_room : List ℤ
clause_room = replicate 2000 (pos 0)

abbrev outcome : Case → Writing
outcome k = written k.c k.w k.x k.first k.recipe bit_room clause_room

abbrev words_of : Case → List ℤ
words_of k = words_at_exit (outcome k).answer (outcome k).clauses

abbrev entries_of : Case → List ℤ
entries_of k = entries_at_exit (outcome k).answer (outcome k).bits

result : (k : Case)
    → writing (outcome k).answer (outcome k).bits (outcome k).clauses
    ≡ written k.c k.w k.x k.first k.recipe bit_room clause_room
result k = refl

-- ---- the values

abbrev one_or_zero : ℕ → Bool
one_or_zero zero = false
one_or_zero (suc n) = true

abbrev values_of : Case → List Bool
values_of k = map one_or_zero k.values

abbrev before_of : Case → List Bool
before_of k = take (k.first - 1) (values_of k)

abbrev test : Case → Bool
test k =
    eqb (number_of (outcome k).answer) 0
    && (eqb (length (before_of k)) (k.first - 1)
    && (eqb (length (values_of k)) (next_free (outcome k).answer - 1) && satisfies_words (assignment (values_of k)) (words_of k)))

abbrev tests : List Case → Bool
tests [] = true
tests (k ∷ ks) = test k && tests ks

-- the values are the one assignment that demand 2 tells of
pub record Found (k : Case) : Type 0 where
  pub demand : Demand2 k.c k.x k.first (next_free (outcome k).answer) (words_of k) (entries_of k) (before_of k)
  pub found : values_of k ≡ demand.values

abbrev pub AllFound : List Case → Type 0
AllFound [] = Unit {0}
AllFound (k ∷ ks) = Found k × AllFound ks

found : (k : Case) → test k ≡ true → Found k
found k e =
    let a = and_left _ _ e in
    let e₁ = and_right (eqb (number_of (outcome k).answer) 0) _ e in
    let b = and_left _ _ e₁ in
    let e₂ = and_right (eqb (length (before_of k)) (k.first - 1)) _ e₁ in
    let f = and_left _ _ e₂ in
    let h = and_right (eqb (length (values_of k)) (next_free (outcome k).answer - 1)) _ e₂ in
    let d =
    demand_2 k.c k.w k.x k.first k.recipe bit_room clause_room (outcome k).answer (outcome k).bits (outcome k).clauses
    (result k) (eqb-true _ _ a) (before_of k) (eqb-true _ _ b) in
    record { demand = d; found = d.uniqueness (values_of k) (eqb-true _ _ f) refl h }

all_found : (ks : List Case) → tests ks ≡ true → AllFound ks
all_found [] e = tt
all_found (k ∷ ks) e = (found k (and_left _ _ e), all_found ks (and_right (test k) _ e))

tested : tests cases ≡ true
unfolding cases written write_answer product_of lines_from product_made encoded line_encoded line_sum adder column carry_unless carry_of sum_of carry_made sum_made parity both either most shifted fitted columns numbered digits_by bit_length halvings_by twos odd_part kind_of gives claims judged lines_judged form_judged recipe_judged clauses_from
tested = refl

pub instances : AllFound cases
instances = all_found cases tested

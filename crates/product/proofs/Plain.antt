-- Document 01's call, where x is the variables 1 to w: its tests are document 01's, and demand 2 of it is that of every input below 2^w.
use Rattle.std.specs.Prelude.{Ok, Err}
use Prim.Native.Nat.{ℕ, zero, suc, ◌+◌, ◌-◌, ◌*◌, ◌/◌, ◌^◌, ◌≤◌, ◌<◌}
use mathlib.Core.Path.{◌≡◌, refl, sym, ap, ap₂, ◌∙◌}
use mathlib.Core.Bool.{Bool, true, false}
use mathlib.Core.List.{List, [], ◌∷◌}
use native.Mathlib.Nat.{add-zero, pow-suc, mul-le-mul}
use native.Mathlib.Omega.{arith}
use borrow.Author.Tests.{le-ltb}
use lib.Dec.{ltb}
use lib.IntN.{ℤ}
use lib.ListN.{length, get_or, take}
use lib.Seq.{length-take-le}
use Rattle.line.specs.Number.{odd_part}
use Rattle.line.specs.declared.Refusal.TheVariants.{Constant, Width, Literals, Variables}
use Rattle.line.proofs.Number.{bits_le}
use Rattle.line.specs.Limits.{most_next, out_of_range, not_a_width}
use Rattle.line.specs.Order.{refuses, answer_by}
use Rattle.line.proofs.Order.{misses, missed, later_same, all_kept, kept_front, within}
use Rattle.recipe.specs.Check.{line_at, recipe_judged}
use Rattle.recipe.proofs.Accepted.{kept_makes}
use Rattle.cnf.specs.Clause.{Assignment}
use Rattle.product.specs.Bit.{num, numbered}
use Rattle.product.specs.Column.{is_odd}
use Rattle.product.specs.Product.{plain_product_of, clause_words}
use Rattle.product.specs.Write.{not_literals, room_tests, y_length, clauses_of_product, write_answer, plain_answer}
use Rattle.product.specs.Demand.{assignment, entries_read, Demand2, number_of, PlainDemand2}
use Rattle.product.proofs.Bounds.{few_next}
use Rattle.product.proofs.ColumnMeans.{num_le, odd_mod}
use Rattle.product.proofs.Given.{of_literals, length_numbered, numbered_fit}

-- ---- the order of the tests

module _ (c w : ℕ) (recipe : List ℕ) where
  pub literals_pass : not_literals w (numbered 1 w) (suc w) ≡ false
  literals_pass = of_literals w (numbered 1 w) (suc w) (length_numbered 1 w) (numbered_fit w)

  variables_pass : not_a_width w ≡ false → recipe_judged (odd_part c) recipe ≡ Ok tt
      → ltb most_next (plain_product_of c w recipe).next ≡ false
  variables_pass h k =
      let m = kept_makes (odd_part c) recipe k in
      let n : ℕ = length recipe / 5 in
      let few : w ≤ 16 = (within 16 w h).1 in
      let p =
      few_next c (numbered 1 w) (suc w) recipe 20 (λ i l. bits_le 20 (line_at recipe i).coefficient (omega (arith, (m.line i l).most))) in
      let q : (20 + w) * n ≤ 36 * 32 = mul-le-mul {n₁ = 20 + w} {m₁ = n} {n₂ = 36} {m₂ = 32} (omega arith) (omega (arith, m.short)) in
      le-ltb most_next (plain_product_of c w recipe).next (omega (arith, p, q, ap (λ (k : ℕ). 2 * (20 + k) * n) (length_numbered 1 w)))

  pub plain_order : (bits clauses : ℕ) → write_answer c w (numbered 1 w) (suc w) recipe bits clauses ≡ plain_answer c w recipe bits clauses
  unfolding write_answer plain_answer
  plain_order bits clauses =
      let literals = refuses (not_literals w (numbered 1 w) (suc w)) Literals in
      let variables = refuses (ltb most_next (plain_product_of c w recipe).next) Variables in
      let rooms = room_tests (y_length c w) (length (clause_words (plain_product_of c w recipe))) bits clauses in
      ap (answer_by Err (clauses_of_product (plain_product_of c w recipe) (y_length c w)))
      (later_same (refuses (out_of_range c) Constant) (λ _.
      later_same (refuses (not_a_width w) Width) (λ b.
      kept_front (literals ∷ []) (recipe_judged (odd_part c) recipe ∷ variables ∷ rooms)
      (all_kept (literals ∷ []) (misses _ Literals literals_pass, tt))
      ∙ later_same (recipe_judged (odd_part c) recipe) (λ k.
      kept_front (variables ∷ []) rooms (all_kept (variables ∷ []) (misses _ Variables (variables_pass (missed _ Width b) k), tt))))))

-- ---- an input as the values of the variables 1 to w

digits : ℕ → ℕ → List Bool
digits zero v = []
digits (suc w) v = is_odd v ∷ digits w (v / 2)

length_digits : (w v : ℕ) → length (digits w v) ≡ w
unfolding digits
length_digits zero v = refl
length_digits (suc w) v = ap suc (length_digits w (v / 2))

number_of_digits : (w v : ℕ) → v < 2 ^ w → number_of (digits w v) ≡ v
unfolding digits
number_of_digits zero v h = omega arith
number_of_digits (suc w) v h = omega (arith, odd_mod v, number_of_digits w (v / 2) (omega (arith, pow-suc 2 w)))

num_injective : (a b : Bool) → num a ≡ num b → a ≡ b
num_injective true true e = refl
num_injective true false e = absurd (omega arith)
num_injective false true e = absurd (omega arith)
num_injective false false e = refl

number_injective : (a b : List Bool) → length a ≡ length b → number_of a ≡ number_of b → a ≡ b
number_injective [] [] l e = refl
number_injective [] (b ∷ bs) l e = absurd (omega (arith, l))
number_injective (a ∷ more) [] l e = absurd (omega (arith, l))
number_injective (a ∷ more) (b ∷ bs) l e =
    let h : num a ≡ num b = omega (arith, e, num_le a, num_le b) in
    ap₂ (λ (x : Bool) (xs : List Bool). x ∷ xs) (num_injective a b h) (number_injective more bs (omega (arith, l)) (omega (arith, e, h)))

reads_numbered : (bs : List Bool) (k : ℕ) (α : Assignment) → ((i : ℕ) → i < length bs → α (suc k + i) ≡ get_or bs i false)
    → entries_read α (numbered (suc k) (length bs)) ≡ number_of bs
unfolding numbered
reads_numbered [] k α f = refl
reads_numbered (b ∷ bs) k α f =
    omega (
      arith,
      ap num (ap α (sym (add-zero (suc k))) ∙ f 0 (omega arith)),
      reads_numbered bs (suc k) α (λ i l. ap α (omega arith) ∙ f (suc i) (omega arith)),
    )

-- ---- demand 2 of every input

pub plain_demand_2 : (c w next : ℕ) (ws entries : List ℤ) → w < next
    → ((before : List Bool) → length before ≡ w → Demand2 c (numbered 1 w) (suc w) next ws entries before)
    → (v : ℕ) → v < 2 ^ w → PlainDemand2 c w v (next - 1) ws entries
plain_demand_2 c w next ws entries some f v h =
    let before : List Bool = digits w v in
    let lb = length_digits w v in
    let d = f before lb in
    let e : number_of before ≡ v = number_of_digits w v h in
    let k : suc w - 1 ≡ w = omega arith in
    record {
      values = d.values;
      long = d.long;
      input = ap (λ (n : ℕ). number_of (take n d.values)) (sym k) ∙ ap number_of d.extends ∙ e;
      existence = d.existence;
      uniqueness = λ o lo io so.
          d.uniqueness o lo
          (ap (λ (n : ℕ). take n o) k ∙ number_injective (take w o) before (length-take-le w o (omega (arith, lo)) ∙ sym lb) (io ∙ sym e))
          so;
      value =
          d.value
          ∙ ap (λ (k : ℕ). c * k) (
          ap (λ (k : ℕ). entries_read (assignment before) (numbered 1 k)) (sym lb)
          ∙ reads_numbered before 0 (assignment before) (λ i l. ap (λ (k : ℕ). get_or before k false) (omega arith))
          ∙ e
          );
    }

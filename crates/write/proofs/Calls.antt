-- The public call behind its tests: what the writer asks where those of the input are kept, and what its outcome is then; and document 01's
-- call, as the case where x is the variables 1 to w. Assumes nothing.
use Rattle.std.specs.Prelude.{Ok, Err}
use Prim.Native.Nat.{ℕ, suc, ◌+◌, ◌-◌, ◌*◌, ◌/◌, ◌^◌, ◌<◌, ◌≤◌}
use mathlib.Core.Path.{◌≡◌, refl, sym, ap, ap₂, subst, ◌∙◌}
use mathlib.Core.Bool.{true}
use mathlib.Core.Logic.{⊎_elim}
use mathlib.Core.List.{List}
use native.Mathlib.Omega.{arith}
use native.Mathlib.Numerals.{add-one}
use lib.IntN.{ℤ}
use lib.ListN.{length}
use borrow.Author.Tests.{ne_eqb, lt-ltb}
use Rattle.line.specs.Limits.{most_width, out_of_range, not_a_width}
use Rattle.line.specs.Number.{bit_length, twos, odd_part}
use Rattle.line.specs.Order.{refuses, first_broken}
use Rattle.line.specs.declared.Refusal.{Refusal}
use Rattle.line.specs.declared.Refusal.TheVariants.{Constant, Width}
use Rattle.line.specs.Order.{Verdict}
use Rattle.line.proofs.Number.{lt_or_le, odd_part_le, odd_part_odd, odd_part_whole}
use Rattle.recipe.specs.Check.{line_at}
use Rattle.product.specs.Bit.{given, numbered}
use Rattle.product.specs.Lines.{columns}
use Rattle.product.specs.Product.{Product, product_made, lines_from, product_of}
use Rattle.product.specs.Write.{input_tests, y_length, product_written, writing, written, plain_written}
use Rattle.product.proofs.BitLengths.{columns_le, bit_length_of_y}
use Rattle.product.proofs.AcceptedMeans.{length_of_y}
use Rattle.product.proofs.Given.{unfit_of, above_0}
use Rattle.product.proofs.Tests.{InputsRight, kept_inputs, refused_left, product_left}
use Rattle.write.specs.Rooms.{Writable, CanWrite}
use Rattle.write.specs.Sizes.{most_columns}

-- what holds of a recipe's lines holds of fewer of them
pub fewer : {w : ℕ} {recipe : List ℕ} {n k : ℕ} → Writable w recipe n → k ≤ n → Writable w recipe k
fewer f h = record {
  few = omega (arith, f.few, h);
  whole = omega (arith, f.whole, h);
  lefts = λ i q. f.lefts i (omega (arith, q, h));
  rights = λ i q. f.rights i (omega (arith, q, h));
  columns = λ i q. f.columns i (omega (arith, q, h));
}

module _ (c w : ℕ) (x : List ℤ) (first : ℕ) (recipe : List ℕ) (kept : first_broken (input_tests c w x first recipe) ≡ Ok tt) where
  i : InputsRight c w x first recipe
  i = kept_inputs c w x first recipe kept

  few_columns : (j : ℕ) → j < 2 ^ 20 → columns w j ≤ most_columns
  few_columns j h = omega (arith, columns_le w j 20 h, i.width.1)

  few_bits : y_length c w ≤ twos c + most_columns
  few_bits =
      let d = odd_part c in
      let e : y_length c w ≡ twos c + columns w d =
      ap (λ (n : ℕ). bit_length (n * (2 ^ w - 1))) (sym (odd_part_whole c))
      ∙ bit_length_of_y w (twos c) d i.width.0 (omega (arith, odd_part_odd c i.constant.0)) in
      omega (arith, e, few_columns d (omega (arith, odd_part_le c, i.constant.1)))

  writable : Writable w recipe (length recipe / 5)
  writable =
      let m = i.makes in
      record {
        few = omega (arith, m.short);
        whole = omega arith;
        lefts = λ j q. (m.line j q).left;
        rights = λ j q. (m.line j q).right;
        columns = λ j q. few_columns (line_at recipe j).coefficient (omega (arith, (m.line j q).most));
      }

  module _ (t size : ℕ) (et : t ≡ twos c) (es : size ≡ y_length c w) where
    is_product_of : product_made t (lines_from recipe 0 (length recipe / 5)) (given x) first ≡ product_of c x first recipe
    unfolding product_of
    is_product_of = ap (λ (a : ℕ). product_made a (lines_from recipe 0 (length recipe / 5)) (given x) first) et

    pub can_write : CanWrite recipe (length recipe / 5) x first t size
    can_write =
        let some : 0 < length x = omega (arith, i.width.0, i.literals) in
        record {
          lines = subst (λ (n : ℕ). Writable n recipe (length recipe / 5)) (sym i.literals) writable;
          width = omega (arith, i.width.1, i.literals);
          fit = unfit_of first x i.fit;
          first_pos = above_0 first x some i.fit;
          few_bits = omega (arith, es, et, few_bits);
          bits =
              es
              ∙ (ap (λ (v : ℕ). y_length c v) (sym i.literals)
              ∙ (sym (length_of_y c x first recipe i.makes i.constant.0 some)
              ∙ ap (λ (q : Product). length q.y) (sym is_product_of)));
        }

    pub all_passed : (bits clauses : List ℤ)
        → product_written (product_made t (lines_from recipe 0 (length recipe / 5)) (given x) first) size bits clauses
        ≡ written c w x first recipe bits clauses
    all_passed bits clauses =
        ap₂ (λ (q : Product) (n : ℕ). product_written q n bits clauses) is_product_of es
        ∙ sym (product_left c w x first recipe bits clauses kept)

-- ---- document 01's call

-- where w is no width the literals do not matter
unread : (c w : ℕ) (x x' : List ℤ) (first first' : ℕ) (recipe : List ℕ) (bits clauses : List ℤ) → most_width < w
    → written c w x first recipe bits clauses ≡ written c w x' first' recipe bits clauses
unread c w x x' first first' recipe bits clauses h = go (refuses (out_of_range c) Constant) refl
  where
    wide : not_a_width w ≡ true
    wide = rw (ne_eqb w 0 (λ e. omega arith), lt-ltb most_width w h)

    go : (v : Verdict) → refuses (out_of_range c) Constant ≡ v
        → written c w x first recipe bits clauses ≡ written c w x' first' recipe bits clauses
    go (Ok u) e =
        refused_left c w x first recipe bits clauses Width (rw (e, wide))
        ∙ sym (refused_left c w x' first' recipe bits clauses Width (rw (e, wide)))
    go (Err r) e =
        refused_left c w x first recipe bits clauses r (rw e) ∙ sym (refused_left c w x' first' recipe bits clauses r (rw e))

-- a test refuses: both rooms stay
pub rooms_stay : (c w : ℕ) (x : List ℤ) (first : ℕ) (recipe : List ℕ) (bits clauses : List ℤ) (r : Refusal)
    → Err r ≡ first_broken (input_tests c w x first recipe) → writing (Err r) bits clauses ≡ written c w x first recipe bits clauses
rooms_stay c w x first recipe bits clauses r e = sym (refused_left c w x first recipe bits clauses r (sym e))

-- k is w, or 16 where w is above it
pub plain_is : (c w k : ℕ) (x : List ℤ) (first : ℕ) (recipe : List ℕ) (bits clauses : List ℤ) → (w ≤ most_width → k ≡ w) → x ≡ numbered 1 k
    → first ≡ k + 1
    → written c w x first recipe bits clauses ≡ plain_written c w recipe bits clauses
plain_is c w k x first recipe bits clauses f ex ef =
    ⊎_elim
    (λ (h : most_width < w). unread c w x (numbered 1 w) first (suc w) recipe bits clauses h)
    (λ (h : w ≤ most_width).
    ap₂ (λ (l : List ℤ) (n : ℕ). written c w l n recipe bits clauses) (ex ∙ ap (λ (n : ℕ). numbered 1 n) (f h))
    (ef ∙ add-one k ∙ ap suc (f h)))
    (lt_or_le most_width w)

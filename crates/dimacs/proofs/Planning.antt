-- The program's rooms are never too short for a planned recipe, so that refusals 3 to 12 do not come, and what is printed of planning's
-- answer is document 01's file or the refusal 1 or 2. Assumes nothing.
use Rattle.std.specs.Prelude.{Ok, Err, Some}
use Prim.Native.Nat.{ℕ, suc, ◌+◌, ◌-◌, ◌*◌, ◌/◌, ◌^◌, ◌≤◌, ◌<◌}
use mathlib.Core.Path.{◌≡◌, sym, ap, ◌∙◌, subst}
use mathlib.Core.Bool.{true, false}
use mathlib.Core.List.{List, []}
use mathlib.Core.Logic.{⊎_elim}
use native.Mathlib.Nat.{mul-le-mul}
use native.Mathlib.Omega.{arith}
use native.Mathlib.Decide.{dec_le, ℕ_discrete}
use borrow.Author.Tests.{eq-eqb, ne_eqb, lt-ltb, le-ltb}
use lib.ListN.{length, drop, take}
use lib.Pow.{pow_mono}
use Rattle.line.specs.Limits.{most_next, out_of_range, not_a_width}
use Rattle.line.specs.Number.{bit_length, odd_part}
use Rattle.line.specs.Refusal.{refusal_number}
use Rattle.line.specs.declared.Refusal.TheVariants.{Constant, Width}
use Rattle.line.proofs.Number.{bits_le, odd_part_le}
use Rattle.line.proofs.Order.{first_hit, hits, within}
use Rattle.recipe.specs.Accepted.{Right}
use Rattle.recipe.specs.Check.{line_at}
use Rattle.recipe.proofs.Accepted.{accepted_right}
use Rattle.split.specs.Choose.{split_of}
use Rattle.split.specs.Order.{recipe_for, lines_bytes}
use Rattle.split.proofs.Sets.{bool}
use Rattle.plan.specs.Plan.{Planning, odd_bits, plan_tests, planned, planning}
use Rattle.plan.specs.Plan.{Planned}
use Rattle.plan.proofs.Accepts.{planned_accepted, planned_bits, planned_lines_half}
use Rattle.plan.proofs.Bytes.{bytes_length}
use Rattle.plan.proofs.Plans.{Passed, by_verdict, passed_kept, recipe_in_room}
use Rattle.product.specs.Lines.{columns}
use Rattle.product.specs.Product.{plain_product_of, clause_words}
use Rattle.product.specs.Write.{y_length, write_answer}
use Rattle.product.specs.Write.{Written}
use Rattle.product.proofs.BitLengths.{columns_le}
use Rattle.product.proofs.Success.{passes, passes_all}
use Rattle.wording.specs.File.{refused_text}
use Rattle.wording.specs.Print.{product_text, answered, printed_by, printed}
use Rattle.wording.specs.Request.{asked}
use Rattle.wording.specs.Request.{Request}
use Rattle.dimacs.specs.Steps.{answer_text, recipe_text, PlannedFits, planned_text}
use Rattle.product.proofs.Bounds.{few_words, few_next}
use Rattle.product.proofs.Given.{length_numbered, numbered_fit}
use Rattle.product.specs.Bit.{numbered}
use Rattle.dimacs.specs.Sizes.{program_bits, program_recipe, program_words, program_work}

-- ---- a recipe of at most 8 lines, none of more than 16 bits

pub record SmallRecipe (c : ℕ) (recipe : List ℕ) : Type 0 where
  pub right : Right c recipe
  pub few : length recipe ≤ program_recipe
  pub bits : (i : ℕ) → i < length recipe / 5 → bit_length (line_at recipe i).coefficient ≤ 16

module _ (c w : ℕ) (recipe : List ℕ) (s : SmallRecipe c recipe) where
  y_fits : w ≤ 16 → y_length c w ≤ program_bits
  unfolding columns
  y_fits h = omega (arith, columns_le w c 16 (omega (arith, s.right.most)))

  words_fit : w ≤ 16 → length (clause_words (plain_product_of c w recipe)) ≤ program_words
  words_fit h =
      let n = length recipe / 5 in
      let a : (16 + w) * n ≤ 32 * 8 = mul-le-mul {n₁ = 16 + w} {m₁ = n} {n₂ = 32} {m₂ = 8} (omega arith) (omega (arith, s.few)) in
      omega (arith, few_words c (numbered 1 w) (suc w) recipe 16 s.bits, ap (λ (k : ℕ). 64 * (16 + k) * n) (length_numbered 1 w))

  next_fits : w ≤ 16 → (plain_product_of c w recipe).next ≤ most_next
  next_fits h =
      let n = length recipe / 5 in
      let a : (16 + w) * n ≤ 32 * 8 = mul-le-mul {n₁ = 16 + w} {m₁ = n} {n₂ = 32} {m₂ = 8} (omega arith) (omega (arith, s.few)) in
      omega (arith, few_next c (numbered 1 w) (suc w) recipe 16 s.bits, ap (λ (k : ℕ). 2 * (16 + k) * n) (length_numbered 1 w))

  pub file_printed : 0 < w → w ≤ 16 → recipe_text c w recipe ≡ product_text c w (plain_product_of c w recipe)
  unfolding recipe_text answer_text
  file_printed p q =
      let z = passes_all c w (numbered 1 w) (suc w) recipe program_bits program_words
      (record {
        constant = (s.right.least, s.right.most);
        width = (p, q);
        literals = length_numbered 1 w;
        fit = numbered_fit w;
        makes = s.right.makes;
      })
      (record { next_fits = next_fits q; bits_fit = y_fits q; clauses_fit = words_fit q }) in
      ap (λ (a : Written). answer_text a c w (plain_product_of c w recipe))
      (passes c w (numbered 1 w) (suc w) recipe program_bits program_words z).is

  pub width_printed : not_a_width w ≡ true → recipe_text c w recipe ≡ refused_text (refusal_number Width)
  unfolding recipe_text answer_text write_answer
  width_printed e = rw (ne_eqb c 0 (λ z. omega (arith, s.right.least)), le-ltb 65535 c s.right.most, e)

-- ---- the planned recipe is one

abbrev planned_bytes : ℕ → List ℕ
planned_bytes c = lines_bytes (recipe_for split_of (odd_part c))

module _ (c : ℕ) (least : 1 ≤ c) (most : c ≤ 65535) where
  few_bits : odd_bits c ≤ 16
  few_bits = bits_le 16 (odd_part c) (omega (arith, odd_part_le c))

  few_lines : 5 * length (recipe_for split_of (odd_part c)) ≤ program_recipe
  few_lines = omega (arith, planned_lines_half c least most, few_bits)

  planned_small : SmallRecipe c (planned_bytes c)
  planned_small =
      let e = bytes_length (recipe_for split_of (odd_part c)) in
      record {
        right = accepted_right c (planned_bytes c) (planned_accepted c least most);
        few = omega (arith, e, few_lines);
        bits = λ i h. omega (arith, planned_bits c least most i h, few_bits);
      }

  in_range : out_of_range c ≡ false
  in_range = rw (ne_eqb c 0 (λ z. omega arith), le-ltb 65535 c most)

  recipe_printed : (w : ℕ) → recipe_text c w (planned_bytes c) ≡ answered split_of (Some (c, w))
  recipe_printed w =
      let refused : not_a_width w ≡ true → recipe_text c w (planned_bytes c) ≡ answered split_of (Some (c, w)) =
      λ e. rw (in_range, e) (width_printed c w (planned_bytes c) planned_small e) in
      elim (ℕ_discrete w 0) [
        | yes e ↦ refused (rw (eq-eqb w 0 e))
        | no e ↦ elim (dec_le w 16) [
          | yes l ↦ rw (in_range, ne_eqb w 0 e, le-ltb 16 w l) (file_printed c w (planned_bytes c) planned_small (omega arith) l)
          | no l ↦ refused (rw (ne_eqb w 0 e, lt-ltb 16 w (omega arith)))
        ]
      ]

-- ---- planning's answer and the recipe room

pub record Shows (c w : ℕ) (a : Planned) (recipe : List ℕ) : Type 0 where
  pub text : planned_text a c w recipe ≡ answered split_of (Some (c, w))
  pub fits : PlannedFits a program_recipe

pub planned_fits_as : {a b : Planned} (room : ℕ) → a ≡ b → PlannedFits a room → PlannedFits b room
planned_fits_as room e f = subst (λ (a : Planned). PlannedFits a room) e f

module _ (c w : ℕ) (work recipe : List ℕ) (hw : length work ≡ program_work) (hr : length recipe ≡ program_recipe) (a : Planned)
    (work' recipe' : List ℕ)
    (h : planning a work' recipe' ≡ planned c work recipe) where
  lines_shown : 1 ≤ c → c ≤ 65535 → Shows c w a recipe'
  unfolding planned_text
  lines_shown p q =
      let n = length (recipe_for split_of (odd_part c)) in
      let k : 2 ^ (odd_bits c - 1) ≤ length work =
      omega (arith, few_bits c p q, pow_mono {i = odd_bits c - 1} {j = 15} (omega (arith, few_bits c p q))) in
      let l : 5 * (odd_bits c / 2) ≤ length recipe = omega (arith, few_bits c p q) in
      let passed : Passed c (length work) (length recipe) = record { some = p; small = q; long = k; room = l } in
      let z = by_verdict c work recipe (Ok tt) (passed_kept c (length work) (length recipe) passed) in
      let e : a ≡ Ok n = ap (λ (o : Planning). o.answer) (h ∙ z) in
      let t = ap (λ (o : Planning). take (5 * n) o.recipe) h ∙ recipe_in_room c work recipe passed in
      record {
        text = ap (λ (x : Planned). planned_text x c w recipe') e ∙ ap (recipe_text c w) t ∙ recipe_printed c p q w;
        fits = planned_fits_as program_recipe (sym e) (few_lines c p q);
      }

  refused_shown : out_of_range c ≡ true → Shows c w a recipe'
  unfolding planned_text
  refused_shown r =
      let hit = first_hit [] _ (drop 1 (plan_tests c (length work) (length recipe))) Constant tt (hits (out_of_range c) Constant r) in
      let e = ap (λ (o : Planning). o.answer) (h ∙ by_verdict c work recipe (Err Constant) hit) in
      record { text = ap (λ (x : Planned). planned_text x c w recipe') e ∙ rw r; fits = planned_fits_as program_recipe (sym e) tt }

  pub planned_shown : Shows c w a recipe'
  planned_shown = ⊎_elim refused_shown (λ e. let n = within 65535 c e in lines_shown n.0 n.1) (bool (out_of_range c))

pub printed_as : (input : List ℕ) (r : Request) → asked input ≡ r → printed input ≡ answered split_of r
unfolding printed printed_by
printed_as input r e = ap (answered split_of) e

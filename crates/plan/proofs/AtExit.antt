-- What planning answers, and what stands in its rooms then. The four answers shut each other out, so each is given exactly where it says
-- (`answers`). A refusal leaves both rooms and counts no line (`refused`). In success (`success`) the recipe room's first bytes are the
-- recipe, the work room has each odd number's split at its place, and all past these stays. Assumes nothing.
use Rattle.line.specs.Refusal.{number_of}
use Rattle.std.specs.Prelude.{Ok, Err}
use Prim.Native.Nat.{ℕ, suc, ◌+◌, ◌-◌, ◌*◌, ◌/◌, ◌%◌, ◌^◌, ◌≤◌, ◌<◌}
use mathlib.Core.Path.{◌≡◌, refl, sym, ap, ◌∙◌, subst}
use mathlib.Core.Logic.{◌⊎◌, inl, inr}
use mathlib.Core.Bool.{Bool, true, false, ◌||◌}
use mathlib.Core.List.{List, [], ◌∷◌}
use native.Mathlib.Nat.{two-pow-succ, zero-add}
use native.Mathlib.Omega.{arith}
use borrow.Author.Tests.{eqb-true, ltb-true, ltb-false}
use lib.Dec.{eqb, ltb}
use lib.ListN.{length, get_or, take, drop}
use lib.Seq.{sets}
use Rattle.line.specs.Limits.{line_bytes, most_constant, out_of_range}
use Rattle.line.specs.Number.{bit_length, odd_part}
use Rattle.line.specs.Order.{refuses, in_order}
use Rattle.line.specs.declared.Refusal.TheVariants.{Constant, WorkRoom, RecipeRoom}
use Rattle.line.proofs.Number.{bits_pos, lt_bits, odd_part_odd}
use Rattle.line.proofs.Order.{within}
use Rattle.line.proofs.Room.{drop_sets, sets_in, take_sets}
use Rattle.split.specs.Choose.{split_of, splits}
use Rattle.split.specs.Order.{recipe_for, lines_bytes}
use Rattle.split.proofs.Table.{splits_at}
use Rattle.plan.specs.Plan.{Planning, odd_bits, plan_answer, plan_by, plan_outcome, planned, planned_lines}
use Rattle.plan.specs.Plan.{Planned}
use Rattle.plan.proofs.Bytes.{bytes_length}
use Rattle.plan.proofs.Fills.{splits_length}
use Rattle.plan.proofs.Plans.{Parts, Passed, by_verdict, lines_room, passed_kept, recipe_length}

-- ---- the answer

-- work and recipe are the rooms' lengths
abbrev pub Answers : ℕ → ℕ → ℕ → ℕ → Type 0
Answers c work recipe number =
    (((c ≡ 0) ⊎ (most_constant < c)) × (number ≡ 1))
    ⊎ (((0 < c) × (c ≤ most_constant) × (work < 2 ^ (odd_bits c - 1)) × (number ≡ 11))
    ⊎ (((0 < c) × (c ≤ most_constant) × (2 ^ (odd_bits c - 1) ≤ work) × (recipe < line_bytes * (odd_bits c / 2)) × (number ≡ 12))
    ⊎ (Passed c work recipe × (number ≡ 0))))

outside : (c : ℕ) → out_of_range c ≡ true → (c ≡ 0) ⊎ (most_constant < c)
outside c e = go (eqb c 0) refl
  where
    go : (b : Bool) → eqb c 0 ≡ b → (c ≡ 0) ⊎ (most_constant < c)
    go true q = inl (eqb-true c 0 q)
    go false q = inr (ltb-true most_constant c (sym (ap (λ (b : Bool). b || ltb most_constant c) q) ∙ e))

pub answers : (c work recipe : ℕ) → Answers c work recipe (number_of (plan_answer split_of c work recipe))
unfolding plan_answer
answers c work recipe = go (out_of_range c) (ltb work (2 ^ (odd_bits c - 1))) (ltb recipe (line_bytes * (odd_bits c / 2))) refl refl refl
  where
    go : (a b d : Bool) → out_of_range c ≡ a → ltb work (2 ^ (odd_bits c - 1)) ≡ b → ltb recipe (line_bytes * (odd_bits c / 2)) ≡ d
        → Answers c work recipe (number_of (in_order Err (refuses a Constant ∷ refuses b WorkRoom ∷ refuses d RecipeRoom ∷ [])
        (Ok (length (recipe_for split_of (odd_part c))))))
    go true b d e f g = inl (outside c e, refl)
    go false true d e f g = let n = within most_constant c e in inr (inl (n.0, n.1, ltb-true _ _ f, refl))
    go false false true e f g =
        let n = within most_constant c e in
        inr (inr (inl (n.0, n.1, ltb-false _ _ f, ltb-true _ _ g, refl)))
    go false false false e f g =
        let n = within most_constant c e in
        inr (inr (inr (record { some = n.0; small = n.1; long = ltb-false _ _ f; room = ltb-false _ _ g }, refl)))

by_answer : (t : ℕ → ℕ) (a : Planned) (c : ℕ) (w r : List ℕ) → (plan_by t a c w r).answer ≡ a
by_answer t (Ok n) c w r = refl
by_answer t (Err x) c w r = refl

pub answer_is : (c : ℕ) (w r : List ℕ) → (planned c w r).answer ≡ plan_answer split_of c (length w) (length r)
unfolding planned plan_outcome
answer_is c w r = by_answer split_of (plan_answer split_of c (length w) (length r)) c w r

-- ---- the rooms

leaves : (t : ℕ → ℕ) (a : Planned) (c : ℕ) (w r : List ℕ) → (number_of (plan_by t a c w r).answer ≡ 0 → ⊥)
    → ((plan_by t a c w r).work ≡ w) × ((plan_by t a c w r).recipe ≡ r) × (planned_lines (plan_by t a c w r).answer ≡ 0)
leaves t (Ok n) c w r h = absurd (h refl)
leaves t (Err x) c w r h = (refl, refl, refl)

pub refused : (c : ℕ) (w r : List ℕ) → (number_of (planned c w r).answer ≡ 0 → ⊥)
    → ((planned c w r).work ≡ w) × ((planned c w r).recipe ≡ r) × (planned_lines (planned c w r).answer ≡ 0)
unfolding planned plan_outcome
refused c w r = leaves split_of (plan_answer split_of c (length w) (length r)) c w r

-- w and r are the rooms as they came, w' and r' as they are left with an answer of n lines
pub record HoldsPlan (c : ℕ) (w r : List ℕ) (n : ℕ) (w' r' : List ℕ) : Type 0 where
  pub count : n ≡ length (recipe_for split_of (odd_part c))
  pub recipe_holds : take (line_bytes * n) r' ≡ lines_bytes (recipe_for split_of (odd_part c))
  pub recipe_stays : drop (line_bytes * n) r' ≡ drop (line_bytes * n) r
  pub work_holds : (m : ℕ) → m % 2 ≡ 1 → bit_length m ≤ odd_bits c → get_or w' ((m - 1) / 2) 0 ≡ split_of m
  pub work_stays : drop (2 ^ (odd_bits c - 1)) w' ≡ drop (2 ^ (odd_bits c - 1)) w

module _ (c : ℕ) (w r : List ℕ) (h : Passed c (length w) (length r)) where
  abbrev L : ℕ
  L = odd_bits c

  split_there : (m : ℕ) → m % 2 ≡ 1 → bit_length m ≤ L → get_or (sets w 0 (splits split_of L)) ((m - 1) / 2) 0 ≡ split_of m
  unfolding splits
  split_there m odd few =
      let k = 2 ^ (L - 1) in
      let some : 0 < L = bits_pos (odd_part c) (omega (arith, odd_part_odd c h.some)) in
      let twice : 2 ^ L ≡ 2 * k = ap (λ (j : ℕ). 2 ^ j) {x = L} {y = suc (L - 1)} (omega arith) ∙ (two-pow-succ (L - 1) ∙ omega arith) in
      let below : (m - 1) / 2 < k = omega (arith, lt_bits L m few) in
      ap (λ (i : ℕ). get_or (sets w 0 (splits split_of L)) i 0) (sym (zero-add ((m - 1) / 2)))
      ∙ sets_in w (splits split_of L) 0 ((m - 1) / 2) 0 (omega (arith, splits_length split_of L, h.long))
      (omega (arith, splits_length split_of L))
      ∙ splits_at split_of k 0 ((m - 1) / 2) below
      ∙ ap split_of {x = 2 * (0 + (m - 1) / 2) + 1} {y = m} (omega arith)

  pub success : HoldsPlan c w r (planned_lines (planned c w r).answer) (planned c w r).work (planned c w r).recipe
  success =
      let ls = recipe_for split_of (odd_part c) in
      let parts : Parts c (odd_part c) L = record { some = h.some; small = h.small; part = refl; bits = refl } in
      let fits : line_bytes * length ls ≤ length r =
      omega (arith, recipe_length split_of (odd_part c), lines_room parts h.room) in
      subst (λ (o : Planning). HoldsPlan c w r (planned_lines o.answer) o.work o.recipe)
      (sym (by_verdict c w r (Ok tt) (passed_kept c (length w) (length r) h)))
      (record {
        count = refl;
        recipe_holds = take_sets r (lines_bytes ls) (line_bytes * length ls) (bytes_length ls) fits;
        recipe_stays = drop_sets r (lines_bytes ls) (line_bytes * length ls) (bytes_length ls) fits;
        work_holds = split_there;
        work_stays = drop_sets w (splits split_of L) (2 ^ (L - 1)) (splits_length split_of L) h.long;
      })

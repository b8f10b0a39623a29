-- The demands, of any outcome that a caller sees: what came in, the answer and the rooms at exit, of which nothing is taken for granted but
-- the call's `ensures` as it stands in the code (Calls.antt). What is asked of checking, planning, writing and a pass is asked here of the
-- crate's own call and of the archive's entry point alike. Demands.antt says the same of the definitions, and why.
--
-- Checking: accepted exactly when right (`accepted_exactly`), and which line is bad (`bad_line_told`, `told_of_bad_line`, `number_alone`).
-- Planning: which of its answers is given, and when (`planning_answers`); what stands in both rooms then (`planning_refused`,
-- `recipe_stays`, `work_holds`, `work_stays`); that the recipe is one by the rules, and the only one (`planned_by_rules`). Writing and the
-- pass likewise.
use Rattle.std.specs.Prelude.{Ok, Err}
use Prim.Native.Nat.{ℕ, suc, ◌+◌, ◌-◌, ◌*◌, ◌/◌, ◌%◌, ◌^◌, ◌≤◌, ◌<◌}
use mathlib.Core.Path.{◌≡◌, refl, ap, ap₂, ◌∙◌, sym, subst}
use mathlib.Core.Logic.{◌≢◌, ⊎_elim}
use mathlib.Core.Bool.{Bool, true, false}
use mathlib.Core.List.{List, [], map}
use native.Mathlib.Omega.{arith}
use lib.IntN.{ℤ, pos, nat_abs}
use lib.ListN.{length, get_or, take, drop}
use Rattle.line.specs.Limits.{most_next, not_a_width}
use Rattle.line.specs.Number.{bit_length, odd_part}
use Rattle.line.specs.Refusal.{told, refusal_line, refusal_value, told_of, number_of}
use Rattle.line.specs.declared.Line.{Line}
use Rattle.line.specs.declared.Refusal.{Refusal}
use Rattle.line.specs.declared.Told.{Told}
use Rattle.line.proofs.Number.{bits_le, bits_pos, odd_part_le, odd_part_odd}
use Rattle.line.proofs.Refusals.{number_only, refusal_above_0}
use Rattle.recipe.specs.Check.{checked, line_at}
use Rattle.recipe.specs.Accepted.{Right}
use Rattle.recipe.specs.Check.{Checked}
use Rattle.recipe.specs.Refused.{FirstBad}
use Rattle.recipe.proofs.Accepted.{accepted_right, right_accepted, shift_least}
use Rattle.recipe.proofs.Refused.{refused_first_bad, first_bad_told, value_bits}
use Rattle.split.specs.Choose.{split_of}
use Rattle.split.specs.Order.{lines_bytes, recipe_for}
use Rattle.split.specs.Rules.{ByRule, Lookup, RecipeByRules}
use Rattle.split.specs.Form.{Digit, SignedForm, nonzero, signed_form}
use Rattle.split.proofs.Choose.{split_1}
use Rattle.split.proofs.Rules.{keeps_rule, one_recipe, only_lookup, recipe_by_rules}
use Rattle.split.proofs.Form.{form_is, form_only}
use Rattle.split.specs.Choose as choose
use Rattle.plan.specs.Plan as plan-specs
use Rattle.plan.specs.Plan.{odd_bits, planned, planned_lines}
use Rattle.plan.proofs.Plans.{Passed}
use Rattle.plan.proofs.AtExit as plan-exit
use Rattle.plan.proofs.AtExit.{Answers, HoldsPlan}
use Rattle.plan.proofs.Accepts.{planned_accepted, planned_lines_half, planned_lines_form, planned_bits}
use Rattle.plan.proofs.Bytes.{bytes_length}
use Rattle.plan.proofs.plan.Kinds as PlanKinds
use Rattle.plan.proofs.plan.Reads as Plan
use Rattle.product.specs.Bit.{numbered, fixed, stored}
use Rattle.product.specs.Product.{Product, product_of, clause_words, lines_of}
use Rattle.product.specs.ByLine.{joined, line_clauses}
use Rattle.product.specs.Write as write-specs
use Rattle.product.specs.Write.{writing, written, write_by, write_answer, plain_answer, y_length}
use Rattle.product.specs.Write.{words_used, clauses_written, next_free, bits_of_y}
use Rattle.product.specs.Demand.{Demand2, PlainDemand2, Counted, Opened, Renamed}
use Rattle.product.specs.Write.{Written}
use Rattle.product.specs.Write.{not_literals}
use Rattle.product.proofs.Given.{literals_of}
use Rattle.product.proofs.Demands as product-demands
use Rattle.product.proofs.ByLine as by-line
use Rattle.product.proofs.Plain.{literals_pass, plain_order}
use Rattle.product.proofs.Refused.{refused_alike, line_refused_alike}
use Rattle.product.proofs.Success.{Success, answer_of, success}
use Rattle.cnf.specs.Clause.{Literal, Clause, Assignment, negation, AllDistinct, StandsIn}
use Rattle.cnf.specs.Words.{clauses_of, satisfies_words, names, DistinctBelow}
use Rattle.propagate.specs.Pass as pass-specs
use Rattle.propagate.specs.Pass.{all_unknown, clauses_read, propagated, propagating}
use Rattle.propagate.specs.Promise.{GivenTrue, Agrees}
use Rattle.propagate.specs.Pass.{Propagated}
use Rattle.propagate.proofs.Exact.{refused_room, refused_26, given_right}
use Rattle.propagate.proofs.Sound.{Sound, sound, count_read}
use Rattle.ladlebean.specs.Archive.{PlanApart, Apart, PassApart}
use Rattle.ladlebean.specs.OurWords.{PassMultiplies}
use Rattle.ladlebean.proofs.Calls.{Outcome, Checking, by_check, by_archive_check, CheckSeen, check_seen}
use Rattle.ladlebean.proofs.Calls.{Planning, by_plan, by_archive_plan, PlanSeen, plan_seen}
use Rattle.ladlebean.proofs.Calls.{Writing, by_write, by_write_plain, by_archive_write, by_archive_write_plain, WriteSeen}
use Rattle.ladlebean.proofs.Calls.{write_seen, words_there, entries_there}
use Rattle.ladlebean.proofs.Calls.{Passing, by_propagate, by_archive_propagate, PassSeen, pass_seen}
use Rattle.ladlebean.proofs.OurWords as our-words
use Rattle.ladlebean.proofs.PlannedLines.{planned_reads}

-- ---- what a caller learns, of the crate's own call and of the archive's entry point

check_learnt : (k : Checking) → (check_seen k).told ≡ told_of (checked (check_seen k).c (check_seen k).recipe)
check_learnt (by_check o) = ap told_of o.learnt
check_learnt (by_archive_check o) =
    let l = o.learnt in
    λ i. record { number = l.number_told i; line = l.line_told i; value = l.value_told i }

plan_learnt : (k : Planning)
    → PlanApart (planned (plan_seen k).c (plan_seen k).work (plan_seen k).recipe) (plan_seen k).number (plan_seen k).work'
    (plan_seen k).recipe' (plan_seen k).lines
plan_learnt (by_plan o) = record {
  number_told = ap (λ (p : plan-specs.Planning). number_of p.answer) o.learnt;
  work_room = ap (λ (p : plan-specs.Planning). p.work) o.learnt;
  recipe_room = ap (λ (p : plan-specs.Planning). p.recipe) o.learnt;
  lines_told = ap (λ (p : plan-specs.Planning). planned_lines p.answer) o.learnt;
}
plan_learnt (by_archive_plan o) = o.learnt

-- what writing leaves, field by field
fields_of : {o : write-specs.Writing} {a : Written} {b c : List ℤ} → writing a b c ≡ o
    → Apart o (told_of a).number b c (words_used a) (clauses_written a) (next_free a) (bits_of_y a) (told_of a).line
    (told_of a).value
fields_of e = record {
  bit_room = ap (λ (p : write-specs.Writing). p.bits) e;
  clause_room = ap (λ (p : write-specs.Writing). p.clauses) e;
  fields = record {
    told = record {
      number_told = ap (λ (p : write-specs.Writing). (told_of p.answer).number) e;
      line_told = ap (λ (p : write-specs.Writing). (told_of p.answer).line) e;
      value_told = ap (λ (p : write-specs.Writing). (told_of p.answer).value) e;
    };
    words_told = ap (λ (p : write-specs.Writing). words_used p.answer) e;
    clauses_told = ap (λ (p : write-specs.Writing). clauses_written p.answer) e;
    next_told = ap (λ (p : write-specs.Writing). next_free p.answer) e;
    bits_told = ap (λ (p : write-specs.Writing). bits_of_y p.answer) e;
  };
}

-- of what writing left, this is seen
abbrev WrittenAs : WriteSeen → write-specs.Writing → Type 0
WrittenAs s o =
    Apart o s.told.number s.bits' s.clauses' s.words_used s.clauses_written s.next s.bits_of_y
    s.told.line s.told.value

abbrev definition : WriteSeen → write-specs.Writing
definition s = written s.c s.w s.x s.first s.recipe s.bits s.clauses

write_learnt : (k : Writing) → WrittenAs (write_seen k) (definition (write_seen k))
write_learnt (by_write o) = fields_of o.learnt
write_learnt (by_write_plain o) = fields_of o.learnt
write_learnt (by_archive_write o) = o.learnt
write_learnt (by_archive_write_plain o) = o.learnt

pass_learnt : (k : Passing)
    → PassApart (propagated (pass_seen k).words (pass_seen k).given (pass_seen k).allowance (pass_seen k).values) (pass_seen k).number
    (pass_seen k).values' (pass_seen k).clauses
pass_learnt (by_propagate o) = record {
  number_told = ap (λ (p : pass-specs.Propagating). number_of p.answer) o.learnt;
  value_room = ap (λ (p : pass-specs.Propagating). p.room) o.learnt;
  clauses_told = ap (λ (p : pass-specs.Propagating). clauses_read p.answer) o.learnt;
}
pass_learnt (by_archive_propagate o) = o.learnt

-- ---- checking

-- a number other than 4 to 7 tells no line and no value
abbrev NumberAlone : Told → Type 0
NumberAlone t = (4 ≤ t.number → t.number ≤ 7 → ⊥) → (t.line ≡ 0) × (t.value ≡ pos 0)

check_alone : (a : Checked) → NumberAlone (told_of a)
check_alone (Ok u) h = (refl, refl)
check_alone (Err r) h = number_only r h

accepts : (a : Checked) → (told_of a).number ≡ 0 → a ≡ Ok tt
accepts (Ok u) z = refl
accepts (Err r) z = absurd (omega (arith, refusal_above_0 r))

refuses : (a : Checked) → ((told_of a).number ≡ 0 → ⊥) → (r : Refusal) × (a ≡ Err r)
refuses (Ok u) h = absurd (h refl)
refuses (Err r) h = (r, refl)

module _ (k : Checking) where
  abbrev check : CheckSeen
  check = check_seen k

  number_checked : check.told.number ≡ (told_of (checked check.c check.recipe)).number
  number_checked = ap (λ (t : Told). t.number) (check_learnt k)

  pub accepted_exactly : (check.told.number ≡ 0 → Right check.c check.recipe)
      × (Right check.c check.recipe → check.told.number ≡ 0)
  accepted_exactly = (
    λ z. accepted_right check.c check.recipe (accepts (checked check.c check.recipe) (sym number_checked ∙ z)),
    λ g. number_checked ∙ ap (λ (a : Checked). (told_of a).number) (right_accepted check.c check.recipe g),
  )

  -- an accepted line shifts
  pub shift_above_0 : check.told.number ≡ 0 → (i : ℕ) → i < length check.recipe / 5 → 1 ≤ (line_at check.recipe i).shift
  shift_above_0 z = shift_least (odd_part check.c) check.recipe (accepted_exactly.0 z).makes

  pub bad_line_told : 4 ≤ check.told.number → check.told.number ≤ 7 → FirstBad check.recipe check.told
  bad_line_told h h' =
      let q = refuses (checked check.c check.recipe) (λ z. omega (arith, number_checked ∙ z)) in
      let e : check.told ≡ told q.0 = check_learnt k ∙ ap told_of q.1 in
      let n = ap (λ (t : Told). t.number) e in
      subst (FirstBad check.recipe) (sym e)
      (refused_first_bad check.recipe check.c q.0 q.1 (omega (arith, n)) (omega (arith, n)))

  pub told_of_bad_line : 1 ≤ check.c → check.c ≤ 65535 → length check.recipe % 5 ≡ 0 → length check.recipe ≤ 160
      → (t : Told) → FirstBad check.recipe t → check.told ≡ t
  told_of_bad_line least most whole short t f = check_learnt k ∙ first_bad_told check.recipe check.c least most whole short t f

  pub number_alone : NumberAlone check.told
  number_alone = subst NumberAlone (sym (check_learnt k)) (check_alone (checked check.c check.recipe))

pub value_fits : (recipe : List ℕ) (t : Told) → FirstBad recipe t → nat_abs t.value < 2 ^ 51
value_fits = value_bits

-- ---- planning

module _ (k : Planning) where
  abbrev plan : PlanSeen
  plan = plan_seen k

  abbrev d : ℕ
  d = odd_part plan.c

  abbrev L : ℕ
  L = odd_bits plan.c

  -- which of the four answers, and so when
  pub planning_answers : Answers plan.c (length plan.work) (length plan.recipe) plan.number
  planning_answers = subst (Answers plan.c (length plan.work) (length plan.recipe))
      (sym ((plan_learnt k).number_told ∙ ap number_of (plan-exit.answer_is plan.c plan.work plan.recipe)))
      (plan-exit.answers plan.c (length plan.work) (length plan.recipe))

  pub planning_succeeds : Passed plan.c (length plan.work) (length plan.recipe) → plan.number ≡ 0
  planning_succeeds h = ⊎_elim
      (λ a. absurd (⊎_elim (λ e. omega (arith, h.some)) (λ l. omega (arith, h.small)) a.0))
      (λ b. ⊎_elim (λ a. absurd (omega (arith, a.2, h.long)))
      (λ b. ⊎_elim (λ a. absurd (omega (arith, a.3, h.room))) (λ a. a.1) b) b)
      planning_answers

  pub planning_refused : (plan.number ≡ 0 → ⊥) → (plan.work' ≡ plan.work) × (plan.recipe' ≡ plan.recipe) × (plan.lines ≡ 0)
  planning_refused h =
      let l = plan_learnt k in
      let r = plan-exit.refused plan.c plan.work plan.recipe (λ z. h (l.number_told ∙ z)) in
      (l.work_room ∙ r.0, l.recipe_room ∙ r.1, l.lines_told ∙ r.2)

  module _ (z : plan.number ≡ 0) where
    passed : Passed plan.c (length plan.work) (length plan.recipe)
    passed = ⊎_elim
        (λ a. absurd (omega (arith, a.1)))
        (λ b. ⊎_elim (λ a. absurd (omega (arith, a.3))) (λ b. ⊎_elim (λ a. absurd (omega (arith, a.4))) (λ a. a.0) b) b)
        planning_answers

    least : 1 ≤ plan.c
    least = passed.some

    holds : HoldsPlan plan.c plan.work plan.recipe plan.lines plan.work' plan.recipe'
    holds =
        let l = plan_learnt k in
        let o = planned plan.c plan.work plan.recipe in
        subst (λ (n : ℕ). HoldsPlan plan.c plan.work plan.recipe n plan.work' plan.recipe') (sym l.lines_told)
        (subst (λ (w : List ℕ). HoldsPlan plan.c plan.work plan.recipe (planned_lines o.answer) w plan.recipe') (sym l.work_room)
        (subst (λ (r : List ℕ). HoldsPlan plan.c plan.work plan.recipe (planned_lines o.answer) o.work r) (sym l.recipe_room)
        (plan-exit.success plan.c plan.work plan.recipe passed)))

    few_bits : L < 32
    few_bits = omega (arith, bits_le 16 d (omega (arith, odd_part_le plan.c, passed.small)))

    -- the recipe room's first bytes are the recipe; all past them stays
    abbrev recipe_planned : List ℕ
    recipe_planned = take (5 * plan.lines) plan.recipe'

    pub recipe_stays : drop (5 * plan.lines) plan.recipe' ≡ drop (5 * plan.lines) plan.recipe
    recipe_stays = holds.recipe_stays

    -- the work room has each odd number's split at its place, which is the one by the rule; all past them stays
    pub work_holds : (n : ℕ) → 1 < n → n % 2 ≡ 1 → bit_length n ≤ L → ByRule split_of n (get_or plan.work' ((n - 1) / 2) 0)
    work_holds n big odd few =
        subst (ByRule split_of n) (sym (holds.work_holds n odd few)) ((keeps_rule L few_bits).others n big odd few)

    pub work_holds_0 : get_or plan.work' 0 0 ≡ 0
    work_holds_0 =
        holds.work_holds 1 refl (omega (arith, bits_le 1 1 (omega arith), bits_pos d (omega (arith, odd_part_odd plan.c least))))
        ∙ split_1 choose.lines

    pub work_stays : drop (2 ^ (L - 1)) plan.work' ≡ drop (2 ^ (L - 1)) plan.work
    work_stays = holds.work_stays

    read_back : lines_of recipe_planned ≡ recipe_for split_of d
    read_back = ap lines_of holds.recipe_holds ∙ planned_reads plan.c least passed.small

    -- it is a recipe by the rules ..
    pub planned_by_rules : RecipeByRules split_of d (lines_of recipe_planned)
    planned_by_rules = subst (RecipeByRules split_of d) (sym read_back) (recipe_by_rules d (odd_part_odd plan.c least) few_bits)

    -- .. and there is no other
    pub planned_only : (t : ℕ → ℕ) → Lookup t L → (ls : List Line) → RecipeByRules t d ls → ls ≡ lines_of recipe_planned
    planned_only t keeps ls r =
        one_recipe t L few_bits keeps d (odd_part_odd plan.c least) (omega arith) ls r ∙ sym read_back

    pub planned_is_right : Right plan.c recipe_planned
    planned_is_right = subst (Right plan.c) (sym holds.recipe_holds)
        (accepted_right plan.c (lines_bytes (recipe_for split_of d)) (planned_accepted plan.c least passed.small))

    -- demand 3, lines
    pub few_lines : (plan.lines ≤ L / 2) × ((ds : List Digit) → SignedForm d ds → suc plan.lines ≤ nonzero ds)
    few_lines = (
      omega (arith, holds.count, planned_lines_half plan.c least passed.small),
      λ ds f. omega (arith, holds.count, planned_lines_form plan.c least passed.small ds f),
    )

    lines_counted : length recipe_planned / 5 ≡ plan.lines
    lines_counted =
        omega (arith, ap (λ (l : List ℕ). length l) holds.recipe_holds, bytes_length (recipe_for split_of d), holds.count)

    bits_planned : (i : ℕ) → i < length recipe_planned / 5 → bit_length (line_at recipe_planned i).coefficient ≤ L
    bits_planned = subst (λ (r : List ℕ). (i : ℕ) → i < length r / 5 → bit_length (line_at r i).coefficient ≤ L)
        (sym holds.recipe_holds) (planned_bits plan.c least passed.small)

-- planning's refusals tell no line and no value
pub planning_number_alone : (o : Outcome PlanKinds.ps PlanKinds.r Plan.Learnt) (r : Refusal) → o.answer ≡ Err r
    → (refusal_line r ≡ 0) × (refusal_value r ≡ pos 0)
planning_number_alone o r e = number_only r (λ h h'.
    let n = ap number_of e in
    ⊎_elim (λ a. omega (arith, a.1, n)) (λ b. ⊎_elim (λ a. omega (arith, a.3, n))
    (λ b. ⊎_elim (λ a. omega (arith, a.4, n)) (λ a. omega (arith, a.1, n)) b) b)
    (planning_answers (by_plan o)))

-- the splits: a lookup that keeps the rule is there, and it is the only one
pub rule_kept : (L : ℕ) → L < 32 → Lookup split_of L
rule_kept = keeps_rule

pub rule_fixes_splits : (t : ℕ → ℕ) (L : ℕ) → Lookup t L → L < 32 → (n : ℕ) → n % 2 ≡ 1 → bit_length n ≤ L → t n ≡ split_of n
rule_fixes_splits = only_lookup

pub one_form : (n : ℕ) → SignedForm n (signed_form n) × ((ds : List Digit) → SignedForm n ds → ds ≡ signed_form n)
one_form n = (form_is n, form_only n)

-- ---- writing

-- a success with the counts that are seen
abbrev as_told : WriteSeen → Written
as_told s =
    Ok (record { words = s.words_used; clauses = s.clauses_written; next = s.next; bits = s.bits_of_y })

written_is : (s : WriteSeen) (a : Written) (b c : List ℤ) → WrittenAs s (writing a b c) → s.told.number ≡ 0
    → writing (as_told s) s.bits' s.clauses' ≡ writing a b c
written_is s (Ok n) b c p z =
    let f = p.fields in
    λ i. writing
    (Ok
    (record { words = f.words_told i; clauses = f.clauses_told i; next = f.next_told i; bits = f.bits_told i }))
    (p.bit_room i) (p.clause_room i)
written_is s (Err r) b c p z = absurd (omega (arith, p.fields.told.number_told, z, refusal_above_0 r))

-- what a refusal leaves
pub record Unwritten (s : WriteSeen) : Type 0 where
  pub bits_stay : s.bits' ≡ s.bits
  pub clauses_stay : s.clauses' ≡ s.clauses
  pub no_words : s.words_used ≡ 0
  pub no_clauses : s.clauses_written ≡ 0
  pub no_next : s.next ≡ 0
  pub no_bits : s.bits_of_y ≡ 0

unwritten : (s : WriteSeen) (a : Written) (p : Product) → WrittenAs s (write_by a p s.bits s.clauses) → (s.told.number ≡ 0 → ⊥)
    → Unwritten s
unwritten s (Ok n) p l h = absurd (h l.fields.told.number_told)
unwritten s (Err r) p l h = record {
  bits_stay = l.bit_room;
  clauses_stay = l.clause_room;
  no_words = l.fields.words_told;
  no_clauses = l.fields.clauses_told;
  no_next = l.fields.next_told;
  no_bits = l.fields.bits_told;
}

write_alone : (a : Written) → NumberAlone (told_of a)
write_alone (Ok n) h = (refl, refl)
write_alone (Err r) h = number_only r h

write_refuses : (a : Written) → (number_of a ≡ 0 → ⊥) → (r : Refusal) × (a ≡ Err r)
write_refuses (Ok n) h = absurd (h refl)
write_refuses (Err r) h = (r, refl)

module _ (k : Writing) where
  abbrev write : WriteSeen
  write = write_seen k

  -- the answer by the tests in their order
  abbrev tested : Written
  tested = write_answer write.c write.w write.x write.first write.recipe (length write.bits) (length write.clauses)

  pub writing_tests : write.told ≡ told_of tested
  writing_tests =
      let t = (write_learnt k).fields.told in
      (λ i. record { number = t.number_told i; line = t.line_told i; value = t.value_told i })
      ∙ ap told_of (answer_of write.c write.w write.x write.first write.recipe write.bits write.clauses)

  pub writing_refused : (write.told.number ≡ 0 → ⊥) → Unwritten write
  unfolding written
  writing_refused = unwritten write tested (product_of write.c write.x write.first write.recipe) (write_learnt k)

  pub number_alone_writing : NumberAlone write.told
  number_alone_writing = subst NumberAlone (sym writing_tests) (write_alone tested)

  -- ---- beside a check of the same recipe for the same constant

  module _ (m : Checking) (same_c : (check m).c ≡ write.c) (same_recipe : (check m).recipe ≡ write.recipe) where
    told_by_check : (check m).told ≡ told_of (checked write.c write.recipe)
    told_by_check = check_learnt m ∙ ap₂ (λ (c : ℕ) (r : List ℕ). told_of (checked c r)) same_c same_recipe

    -- where width and literals are right, a refusal of checking is writing's own
    pub writing_as_checking : not_a_width write.w ≡ false → not_literals write.w write.x write.first ≡ false
        → ((check m).told.number ≡ 0 → ⊥) → write.told ≡ (check m).told
    writing_as_checking width literals h =
        let q = refuses (checked write.c write.recipe) (λ z. h (ap (λ (t : Told). t.number) told_by_check ∙ z)) in
        writing_tests
        ∙ ap told_of (refused_alike write.c write.w write.x write.first write.recipe (length write.bits)
        (length write.clauses) width literals q.0 q.1)
        ∙ sym (told_by_check ∙ ap told_of q.1)

    -- and a refusal of writing by a line's rule is checking's own
    pub checking_as_writing : 4 ≤ write.told.number → write.told.number ≤ 7 → (check m).told ≡ write.told
    checking_as_writing h h' =
        let n = ap (λ (t : Told). t.number) writing_tests in
        let q = write_refuses tested (λ z. omega (arith, n ∙ z)) in
        let e = n ∙ ap number_of q.1 in
        told_by_check
        ∙ ap told_of (line_refused_alike write.c write.w write.x write.first write.recipe (length write.bits)
        (length write.clauses) q.0 q.1 (omega (arith, e)) (omega (arith, e)))
        ∙ sym (writing_tests ∙ ap told_of q.1)

  pub bad_line_told_writing : 4 ≤ write.told.number → write.told.number ≤ 7 → FirstBad write.recipe write.told
  bad_line_told_writing h h' =
      let n = ap (λ (t : Told). t.number) writing_tests in
      let q = write_refuses tested (λ z. omega (arith, n ∙ z)) in
      let e = n ∙ ap number_of q.1 in
      subst (FirstBad write.recipe) (sym (writing_tests ∙ ap told_of q.1))
      (refused_first_bad write.recipe write.c q.0
      (line_refused_alike write.c write.w write.x write.first write.recipe (length write.bits)
      (length write.clauses) q.0 q.1 (omega (arith, e)) (omega (arith, e))) (omega (arith, e)) (omega (arith, e)))

  -- ---- demand 2

  -- a right recipe, a width, its literals, numbers and rooms enough: no refusal
  pub writing_succeeds : Right write.c write.recipe → 1 ≤ write.w → write.w ≤ 16
      → not_literals write.w write.x write.first ≡ false
      → (product_of write.c write.x write.first write.recipe).next ≤ most_next
      → y_length write.c write.w ≤ length write.bits
      → length (clause_words (product_of write.c write.x write.first write.recipe)) ≤ length write.clauses
      → write.told.number ≡ 0
  writing_succeeds right some few literals next bits clauses =
      let o = definition write in
      let l = literals_of write.w write.x write.first literals in
      (write_learnt k).fields.told.number_told
      ∙ product-demands.not_refused write.c write.w write.x write.first write.recipe write.bits write.clauses
      o.answer o.bits o.clauses refl (right_accepted write.c write.recipe right) some few l.0 l.1 next bits clauses

  module _ (z : write.told.number ≡ 0) where
    meets : writing (as_told write) write.bits' write.clauses' ≡ definition write
    meets =
        let o = definition write in
        written_is write o.answer o.bits o.clauses (write_learnt k) z

    succeeded : Success write.c write.w write.x write.first write.recipe write.bits write.clauses (as_told write)
        write.bits' write.clauses'
    succeeded = success write.c write.w write.x write.first write.recipe write.bits write.clauses (as_told write)
        write.bits' write.clauses' meets refl

    pub written_is_right : Right write.c write.recipe
    written_is_right =
        let i = succeeded.tests.inputs in
        record { least = i.constant.0; most = i.constant.1; makes = i.makes }

    pub each_input : (before : List Bool) → length before ≡ write.first - 1
        → Demand2 write.c write.x write.first write.next (words_there write) (entries_there write) before
    each_input = product-demands.demand_2 write.c write.w write.x write.first write.recipe write.bits write.clauses
        (as_told write) write.bits' write.clauses' meets refl

    -- the counts are those of the rooms, and all past them stays
    pub counted : Counted write.first write.bits write.clauses (as_told write) write.bits' write.clauses'
    counted = product-demands.counted write.c write.w write.x write.first write.recipe write.bits write.clauses
        (as_told write) write.bits' write.clauses' meets refl

    -- the new variables are those from first to next - 1
    pub new_variables : Opened write.x write.first write.next (words_there write)
    new_variables = product-demands.opened write.c write.w write.x write.first write.recipe write.bits write.clauses
        (as_told write) write.bits' write.clauses' meets refl

    pub no_variable_twice : AllDistinct (clauses_of (words_there write))
    no_variable_twice = product-demands.no_variable_twice write.c write.w write.x write.first write.recipe write.bits
        write.clauses (as_told write) write.bits' write.clauses' meets refl

    pub no_negation_beside : (c : Clause) → StandsIn c (clauses_of (words_there write))
        → (l : Literal) → StandsIn l c → StandsIn (negation l) c → ⊥
    no_negation_beside = product-demands.no_negation_beside write.c write.w write.x write.first write.recipe write.bits
        write.clauses (as_told write) write.bits' write.clauses' meets refl

    -- the entries are y's bits as they are stored, none of them fixed at 1
    pub no_bit_fixed_at_1 : (entries_there write ≡ map stored (product_of write.c write.x write.first write.recipe).y)
        × ((i : ℕ) → get_or (product_of write.c write.x write.first write.recipe).y i (fixed false) ≢ fixed true)
    no_bit_fixed_at_1 = (
      succeeded.entries_are,
      product-demands.no_bit_fixed_at_1 write.c write.x write.first write.recipe
          (right_accepted write.c write.recipe written_is_right) succeeded.some succeeded.tests.inputs.fit,
    )

    -- ---- document 01's call is the case where x is the variables 1 to w and the first free number is w + 1

    module _ (numbers : write.x ≡ numbered 1 write.w) (follows : write.first ≡ suc write.w) where
      meets_plain : writing (as_told write) write.bits' write.clauses'
          ≡ written write.c write.w (numbered 1 write.w) (suc write.w) write.recipe write.bits write.clauses
      meets_plain = meets
          ∙ ap₂ (λ (x : List ℤ) (first : ℕ). written write.c write.w x first write.recipe write.bits write.clauses)
          numbers follows

      pub plain_each_input : (v : ℕ) → v < 2 ^ write.w
          → PlainDemand2 write.c write.w v (write.next - 1) (words_there write) (entries_there write)
      plain_each_input = product-demands.plain_demand_2 write.c write.w write.recipe write.bits write.clauses
          (as_told write) write.bits' write.clauses' meets_plain refl

  -- its tests are document 01's: it never refuses by 14 or 15
  pub plain_tests : write.x ≡ numbered 1 write.w → write.first ≡ suc write.w
      → write.told ≡ told_of (plain_answer write.c write.w write.recipe (length write.bits) (length write.clauses))
  plain_tests numbers follows = writing_tests
      ∙ ap told_of
      (ap₂ (λ (x : List ℤ) (first : ℕ). write_answer write.c write.w x first write.recipe (length write.bits)
      (length write.clauses)) numbers follows
      ∙ plain_order write.c write.w write.recipe (length write.bits) (length write.clauses))

  -- and its literals are right
  pub plain_as_checking : write.x ≡ numbered 1 write.w → write.first ≡ suc write.w
      → (m : Checking) → (check m).c ≡ write.c → (check m).recipe ≡ write.recipe → not_a_width write.w ≡ false
      → ((check m).told.number ≡ 0 → ⊥) → write.told ≡ (check m).told
  plain_as_checking numbers follows m same_c same_recipe width =
      writing_as_checking m same_c same_recipe width
      (ap₂ (λ (x : List ℤ) (first : ℕ). not_literals write.w x first) numbers follows
      ∙ literals_pass write.c write.w write.recipe)

-- the same recipe written over other literals, from another number on and in other rooms
pub other_names : (p : Writing) (z : (write p).told.number ≡ 0) → (write p).x ≡ numbered 1 (write p).w → (write p).first ≡ suc (write p).w
    → (k : Writing) → (write k).told.number ≡ 0 → (write k).c ≡ (write p).c → (write k).w ≡ (write p).w
    → (write k).recipe ≡ (write p).recipe
    → Renamed (write k).x (write k).first (as_told (write p)) (write p).bits' (write p).clauses' (as_told (write k)) (write k).bits'
    (write k).clauses'
other_names p z numbers follows k y same_c same_w same_recipe =
    product-demands.renamed (write p).c (write p).w (write p).recipe (write p).bits (write p).clauses (as_told (write p))
    (write p).bits' (write p).clauses' (meets_plain p z numbers follows) refl (write k).x (write k).first (write k).bits
    (write k).clauses (as_told (write k)) (write k).bits' (write k).clauses'
    (meets k y
    ∙ (λ i. written (same_c i) (same_w i) (write k).x (write k).first (same_recipe i) (write k).bits (write k).clauses))
    refl

-- ---- demand 3, clauses

-- the clauses off the room are those that the lines' columns add, line by line, at most 14 * (L + w) of each line, and so of all
pub record FewClauses (L lines : ℕ) (s : WriteSeen) : Type 0 where
  pub tiles : joined (line_clauses s.x s.first s.recipe) ≡ clauses_of (words_there s)
  pub parts : length (line_clauses s.x s.first s.recipe) ≡ lines
  pub each : (i : ℕ) → i < lines → length (get_or (line_clauses s.x s.first s.recipe) i []) ≤ 14 * (L + s.w)
  pub total : length (clauses_of (words_there s)) ≤ 14 * (L + s.w) * lines

pub few_clauses : (p : Planning) (y : (plan p).number ≡ 0) (k : Writing) → (write k).told.number ≡ 0
    → (write k).recipe ≡ recipe_planned p y → FewClauses (odd_bits (plan p).c) (plan p).lines (write k)
few_clauses p y k z same =
    let s = write k in
    let L : ℕ = odd_bits (plan p).c in
    let few : (i : ℕ) → i < length s.recipe / 5 → bit_length (line_at s.recipe i).coefficient ≤ L =
    subst (λ (r : List ℕ). (i : ℕ) → i < length r / 5 → bit_length (line_at r i).coefficient ≤ L) (sym same) (bits_planned p y) in
    let n : length s.recipe / 5 ≡ (plan p).lines = ap (λ (r : List ℕ). length r / 5) same ∙ lines_counted p y in
    record {
      tiles = by-line.tiled s.c s.w s.x s.first s.recipe s.bits s.clauses (as_told s) s.bits' s.clauses'
          (meets k z) refl;
      parts = by-line.parts s.x s.first s.recipe ∙ n;
      each = λ i h. subst (λ (v : ℕ). length (get_or (line_clauses s.x s.first s.recipe) i []) ≤ 14 * (L + v))
          (succeeded k z).tests.inputs.literals
          (by-line.each_few s.x s.first s.recipe L few i (omega (arith, n)));
      total = subst (λ (m : ℕ). length (clauses_of (words_there s)) ≤ 14 * (L + s.w) * m) n
          (product-demands.demand_3_clauses s.c s.w s.x s.first s.recipe s.bits s.clauses (as_told s) s.bits'
          s.clauses' (meets k z) refl L few);
    }

-- ---- one pass over any words

read_is : {v : List ℕ} {n c : ℕ} (a : Propagated) (r : List ℕ) → PassApart (propagating a r) n v c → n ≡ 0
    → propagating (Ok c) v ≡ propagating a r
read_is (Ok m) r p z = λ i. propagating (Ok (p.clauses_told i)) (p.value_room i)
read_is (Err x) r p z = absurd (omega (arith, p.number_told, z, refusal_above_0 x))

pass_refuses : (a : Propagated) → (number_of a ≡ 0 → ⊥) → (x : Refusal) × (a ≡ Err x)
pass_refuses (Ok n) h = absurd (h refl)
pass_refuses (Err x) h = (x, refl)

module _ (k : Passing) where
  abbrev pass : PassSeen
  pass = pass_seen k

  abbrev outcome : pass-specs.Propagating
  outcome = propagated pass.words pass.given pass.allowance pass.values

  pub pass_refused : (pass.number ≡ 0 → ⊥) → (pass.values' ≡ pass.values) × (pass.clauses ≡ 0)
  pass_refused h =
      let l = pass_learnt k in
      let q = pass_refuses outcome.answer (λ z. h (l.number_told ∙ z)) in (
        l.value_room ∙ refused_room pass.words pass.given pass.allowance pass.values q.0 q.1,
        l.clauses_told ∙ ap clauses_read q.1,
      )

  given_fits : (pass.number ≡ 26 → ⊥) → (all_unknown pass.values ≡ true) × DistinctBelow (suc (length pass.values)) pass.given
  given_fits h = given_right pass.words pass.given pass.allowance pass.values (λ e. h ((pass_learnt k).number_told ∙ e))

  pub pass_started : ((pass.number ≡ 26 → ⊥) → (all_unknown pass.values ≡ true) × DistinctBelow (suc (length pass.values)) pass.given)
      × ((all_unknown pass.values ≡ true) × DistinctBelow (suc (length pass.values)) pass.given → pass.number ≡ 26 → ⊥)
  pass_started = (
    given_fits,
    λ h e. refused_26 pass.words pass.given pass.allowance pass.values (sym (pass_learnt k).number_told ∙ e) h.0 h.1,
  )

  -- where it does not refuse by 26, it speaks of every assignment in which the given literals and the clauses hold
  speaks : (pass.number ≡ 26 → ⊥) → (α : Assignment) → GivenTrue α pass.given → satisfies_words α pass.words ≡ true → Sound α outcome
  speaks h = sound pass.words pass.given pass.allowance pass.values (given_fits h).0

  pub conflict_real : pass.number ≡ 22 → (α : Assignment) → GivenTrue α pass.given → satisfies_words α pass.words ≡ true → ⊥
  conflict_real e α t s = (speaks (λ f. omega (arith, e, f)) α t s).no_conflict (sym (pass_learnt k).number_told ∙ e)

  module _ (z : pass.number ≡ 0) where
    read : propagating (Ok pass.clauses) pass.values' ≡ outcome
    read = read_is outcome.answer outcome.room (pass_learnt k) z

    pub pass_counted : pass.clauses ≡ length (clauses_of pass.words)
    pass_counted = count_read pass.words pass.given pass.allowance pass.values pass.clauses
        (sym (ap (λ (o : pass-specs.Propagating). o.answer) read))

    pub pass_forced : (α : Assignment) → GivenTrue α pass.given → satisfies_words α pass.words ≡ true → Agrees α pass.values'
    pass_forced α t s = subst (Agrees α) (sym (pass_learnt k).value_room) (speaks (λ f. omega (arith, z, f)) α t s).agrees

-- ---- one pass over the words that writing left, with every bit of x given

pub pass_multiplies : (k : Writing) → (write k).told.number ≡ 0 → (m : Passing) → (pass m).words ≡ words_there (write k)
    → DistinctBelow (write k).first (pass m).given → ((v : ℕ) → names v (write k).x ≡ true → names v (pass m).given ≡ true)
    → (write k).clauses_written ≤ (pass m).allowance → all_unknown (pass m).values ≡ true → (write k).next ≤ suc (length (pass m).values)
    → ((pass m).number ≡ 0)
    × PassMultiplies (write k).c (write k).x (write k).first (write k).next (words_there (write k)) (entries_there (write k))
    (pass m).given (pass m).values (propagating (Ok (pass m).clauses) (pass m).values')
pass_multiplies k z m same distinct every enough unknown long =
    let s = write k in
    let q = pass m in
    let o = propagated (words_there s) q.given q.allowance q.values in
    let e : outcome m ≡ o = ap (λ (ws : List ℤ). propagated ws q.given q.allowance q.values) same in
    let a : PassMultiplies s.c s.x s.first s.next (words_there s) (entries_there s) q.given q.values o =
    our-words.pass_multiplies s.c s.w s.x s.first s.recipe s.bits s.clauses (as_told s) s.bits' s.clauses'
    (meets k z) refl q.given distinct every q.allowance enough q.values unknown long in
    let n : q.number ≡ 0 = (pass_learnt m).number_told
    ∙ ap (λ (p : pass-specs.Propagating). number_of p.answer) e ∙ ap number_of a.sets.read in (
      n,
      subst (PassMultiplies s.c s.x s.first s.next (words_there s) (entries_there s) q.given q.values)
          (sym (read m n ∙ e)) a,
    )

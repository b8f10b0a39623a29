-- The three demands, of the calls `plan`, `check` and `write`; which line is bad; and what is asked of one pass over words.
--
-- A call's contract fixes its answer and every room at exit as functions of what came in: `planned c work recipe`, `checked c recipe` and
-- `written c w x first recipe bits clauses`, document 01 as definitions. So what is said here of these functions is said of the calls, and
-- two results that meet a contract are one (Once.antt, of every public call).
--
-- Demand 1. Every call takes any constant, width, recipe and rooms: no contract has a condition on the caller. It refuses by the documents'
-- numbers, exactly where they say: that is the text of the three functions. A refusal writes nothing (`planning_refused`,
-- `writing_refused`): where the answer is a refusal, whichever it is, each room at exit is what it was.
--
-- A refusal by a rule of a line, 4 to 7, tells which line is bad (document 02 c): every line before it is right, it breaks the rule that
-- the number names and keeps each before that one. A 7 also tells what the line's kind gives from the operands' claimed coefficients, which
-- differs from its claim and has at most 52 bits with its sign (`value_fits`); 4, 5 and 6 tell the value 0. So in checking
-- (`bad_line_told`) and in writing (`bad_line_told_writing`). For a constant in range and a recipe of at most 32 whole lines, of which one
-- is bad, nothing else is told (`told_of_bad_line`). Writing refuses a recipe as checking does, in all fields: a refusal of checking is
-- writing's where width and literals are right (`writing_as_checking`, `plain_as_checking`), and a refusal of writing by 4 to 7 is
-- checking's (`checking_as_writing`). Every refusal other than 4 to 7 tells line 0 and value 0 (`number_alone`), so planning's do
-- (`planning_number_alone`); success tells three zeros by definition (`nothing`).
--
-- Demand 2. A recipe is accepted exactly when it is right (`accepted_exactly`): c is in range, there are at most 32 lines of five bytes,
-- each line has the form, names earlier operands, claims an odd coefficient and exactly the one that its kind gives, and the product is c's
-- odd part. For an accepted one, a width from 1 to 16, as many literals of distinct variables below the first free number, room for the new
-- numbers and rooms that suffice, writing does not refuse, and in the DIMACS meaning of the words that stand in the clause room each
-- assignment of the variables below the first free number extends to exactly one of those below the next that satisfies them, and there the
-- entries of the bit room read as c times the number that the given literals read as (`each_input`). The new variables are those from the
-- first free number to the one before the next: each stands in some clause, and the clauses name no others but x's (`new_variables`). In
-- the words of every call that succeeds no clause names a variable twice (`no_variable_twice`), so none holds a variable and its own
-- negation (`no_negation_beside`).
--
-- Document 01's call is the case where x is the variables 1 to w and the first free number is w + 1: its tests are document 01's in
-- document 01's order, so that it never refuses by 14 or 15 (`plain_tests`), and each input of the width has exactly one assignment
-- (`plain_each_input`). Every other call of the same recipe leaves the same words and entries with the variables renamed, with signs, and
-- the same counts (`other_names`).
--
-- The planner gives the recipe that document 01's rules give and no other: a lookup that keeps the rule at every odd number of at most L
-- bits is the one that planning uses (`rule_fixes_splits`); the planned recipe's lines claim the coefficients of c's set, each once
-- (`planned_coefficients`), in order of bit length, then fewer zero bits, then value (`planned_order`), and it is accepted
-- (`planned_is_right`).
--
-- Demand 3. For c from 1 to 65,535 with L bits in its odd part, the planned recipe has at most L div 2 lines, and never more than the
-- nonzero digits of the odd part's non-adjacent form less one (`few_lines`), of which every positive number has exactly one (`one_form`).
-- At width w its clauses, read off the room, are at most 14 * (L + w) a line (`few_clauses`).
--
-- One pass over words that believes only the clauses (document 02 i, which calls it a second engine): `propagated words given allowance
-- room` is its answer and the room at exit, and two outcomes that meet its contract are one. It refuses by 26 exactly where the room is not
-- all unknown or the literals are not of distinct variables of the room (`pass_started`), and in success its count is that of the clauses
-- which the words are (`pass_counted`). What it says of any words follows from the clauses and the given literals: every assignment that
-- satisfies both has each value that a success leaves (`pass_forced`), and where it answers 22 no assignment satisfies both
-- (`conflict_real`). A refusal leaves the room as it came (`pass_refused`).
--
-- On the words of an accepted recipe as they stand in the room, with allowance for every clause, an all_unknown room for every variable,
-- and literals of distinct variables below the first free number given, among them for every bit of x its literal or its negation, it
-- succeeds, reads every clause, sets every variable opened, and y read off the values is c times the number given (`pass_multiplies`). That
-- it sets them is proved from the laws of a step that opens a variable (crates/cnf, `Extends`), whichever columns make the steps; that y is
-- c times x then is demand 2's own law.
use Rattle.std.specs.Prelude.{Ok, Err}
use Prim.Native.Nat.{ℕ, suc, ◌+◌, ◌-◌, ◌*◌, ◌/◌, ◌%◌, ◌^◌, ◌≤◌, ◌<◌}
use mathlib.Core.Path.{◌≡◌, refl, ap, ◌∙◌, sym, subst}
use mathlib.Core.Bool.{Bool, true, false}
use mathlib.Core.List.{List}
use native.Mathlib.Omega.{arith}
use lib.IntN.{ℤ, pos, nat_abs}
use lib.Dec.{ltb}
use lib.ListN.{length, get_or}
use Rattle.line.specs.Limits.{line_bytes, out_of_range}
use Rattle.line.specs.Number.{bit_length, odd_part}
use Rattle.line.specs.Refusal.{told, refusal_number, refusal_line, refusal_value, told_of, number_of}
use Rattle.line.specs.declared.Refusal.{Refusal}
use Rattle.line.specs.declared.Told.{Told}
use Rattle.line.specs.declared.Refusal.TheVariants.{Constant, WorkRoom, RecipeRoom}
use Rattle.line.proofs.Order.{of_answer, of_test}
use Rattle.line.proofs.Refusals.{number_only}
use Rattle.recipe.specs.Check.{checked, coefficient_at}
use Rattle.recipe.specs.Accepted.{Right}
use Rattle.recipe.specs.Refused.{FirstBad}
use Rattle.recipe.proofs.Accepted.{accepted_right, right_accepted}
use Rattle.recipe.proofs.Refused.{refused_first_bad, first_bad_told, value_bits}
use Rattle.split.specs.Reach.{member, set_of}
use Rattle.split.specs.Choose.{lines, Rule, split_of}
use Rattle.split.specs.Order.{Earlier, coefficients, recipe_for, lines_bytes}
use Rattle.split.specs.Form.{Digit, SignedForm, nonzero, signed_form}
use Rattle.split.proofs.Choose.{only}
use Rattle.split.proofs.Reach.{lines_depend}
use Rattle.split.proofs.Sets.{Distinct}
use Rattle.split.proofs.Order.{coefficients_distinct, coefficients_members}
use Rattle.split.proofs.Form.{form_is, form_only}
use Rattle.plan.specs.Plan as plan
use Rattle.plan.specs.Plan.{planned, plan_by, plan_answer, odd_bits}
use Rattle.plan.proofs.Accepts as plan-laws
use Rattle.plan.proofs.Accepts.{planned_accepted, planned_claims, planned_lines_half, planned_lines_form, planned_bits}
use Rattle.product.specs.Product.{Product, product_of, clause_words}
use Rattle.product.specs.Bit.{numbered}
use Rattle.line.specs.Limits.{most_next, out_of_range, not_a_width}
use Rattle.product.specs.Write.{not_literals, Writing, writing, written, write_by, write_answer, plain_answer, y_length}
use Rattle.product.specs.Write.{clauses_written, next_free, plain_written}
use Rattle.product.specs.Demand.{Demand2, PlainDemand2, words_at_exit, entries_at_exit, Opened, Renamed}
use Rattle.product.specs.Write.{Written}
use Rattle.product.proofs.Given.{literals_of}
use Rattle.product.proofs.Demands as product-demands
use Rattle.product.proofs.Demands.{demand_2, not_refused, opened, plain_demand_2, renamed, demand_3_clauses}
use Rattle.product.proofs.Plain.{literals_pass, plain_order}
use Rattle.product.proofs.Refused.{refused_alike, line_refused_alike}
use Rattle.product.proofs.Success.{answer_of}
use Rattle.cnf.specs.Clause.{Literal, Clause, Assignment, negation, AllDistinct, StandsIn}
use Rattle.cnf.specs.Words.{clauses_of, satisfies_words, names, DistinctBelow}
use Rattle.propagate.specs.Pass.{all_unknown, propagated}
use Rattle.propagate.specs.Promise.{GivenTrue, Agrees}
use Rattle.propagate.specs.Pass.{Propagated}
use Rattle.propagate.proofs.Exact.{refused_room, refused_26, given_right}
use Rattle.propagate.proofs.Sound.{Sound, sound, count_read}
use Rattle.ladlebean.specs.OurWords.{PassMultiplies}
use Rattle.ladlebean.proofs.OurWords as our-words

-- ---- demand 1

planning_by : (t : ℕ → ℕ) (a : plan.Planned) (c : ℕ) (work recipe : List ℕ) (x : Refusal)
    → (plan_by t a c work recipe).answer ≡ Err x
    → ((plan_by t a c work recipe).work ≡ work) × ((plan_by t a c work recipe).recipe ≡ recipe)
planning_by t (Ok n) c work recipe x e =
    let z : ◌≡◌ {A = ℕ} 0 1 = cc in
    absurd (omega arith)
planning_by t (Err y) c work recipe x e = (refl, refl)

pub planning_refused : (c : ℕ) (work recipe : List ℕ) (x : Refusal) → (planned c work recipe).answer ≡ Err x
    → ((planned c work recipe).work ≡ work) × ((planned c work recipe).recipe ≡ recipe)
unfolding planned plan.plan_outcome
planning_refused c work recipe x e = planning_by split_of (plan_answer split_of c (length work) (length recipe)) c work recipe x e

writing_by : (a : Written) (p : Product) (bits clauses : List ℤ) (x : Refusal)
    → (write_by a p bits clauses).answer ≡ Err x
    → ((write_by a p bits clauses).bits ≡ bits) × ((write_by a p bits clauses).clauses ≡ clauses)
writing_by (Ok n) p bits clauses x e =
    let z : ◌≡◌ {A = ℕ} 0 1 = cc in
    absurd (omega arith)
writing_by (Err y) p bits clauses x e = (refl, refl)

pub writing_refused : (c w : ℕ) (x : List ℤ) (first : ℕ) (recipe : List ℕ) (bits clauses : List ℤ) (r : Refusal)
    → (written c w x first recipe bits clauses).answer ≡ Err r
    → ((written c w x first recipe bits clauses).bits ≡ bits) × ((written c w x first recipe bits clauses).clauses ≡ clauses)
unfolding written
writing_refused c w x first recipe bits clauses r e =
    writing_by (write_answer c w x first recipe (length bits) (length clauses)) (product_of c x first recipe) bits clauses r e

-- ---- which line is bad

pub bad_line_told : (c : ℕ) (recipe : List ℕ) (r : Refusal) → checked c recipe ≡ Err r
    → 4 ≤ refusal_number r → refusal_number r ≤ 7 → FirstBad recipe (told r)
bad_line_told c recipe = refused_first_bad recipe c

pub told_of_bad_line : (c : ℕ) (recipe : List ℕ) → 1 ≤ c → c ≤ 65535 → length recipe % 5 ≡ 0 → length recipe ≤ 160
    → (t : Told) → FirstBad recipe t → told_of (checked c recipe) ≡ t
told_of_bad_line c recipe = first_bad_told recipe c

pub value_fits : (recipe : List ℕ) (t : Told) → FirstBad recipe t → nat_abs t.value < 2 ^ 51
value_fits = value_bits

module _ (c w : ℕ) (x : List ℤ) (first : ℕ) (recipe : List ℕ) (bits clauses : List ℤ) (r : Refusal) where
  -- where width and literals are right, a refusal of checking is writing's own
  pub writing_as_checking : not_a_width w ≡ false → not_literals w x first ≡ false → checked c recipe ≡ Err r
      → (written c w x first recipe bits clauses).answer ≡ Err r
  writing_as_checking width literals e =
      answer_of c w x first recipe bits clauses ∙ refused_alike c w x first recipe (length bits) (length clauses) width literals r e

  -- and a refusal of writing by a line's rule is checking's own
  pub checking_as_writing : (written c w x first recipe bits clauses).answer ≡ Err r
      → 4 ≤ refusal_number r → refusal_number r ≤ 7 → checked c recipe ≡ Err r
  checking_as_writing e =
      line_refused_alike c w x first recipe (length bits) (length clauses) r (sym (answer_of c w x first recipe bits clauses) ∙ e)

  pub bad_line_told_writing : (written c w x first recipe bits clauses).answer ≡ Err r
      → 4 ≤ refusal_number r → refusal_number r ≤ 7 → FirstBad recipe (told r)
  bad_line_told_writing e h h' = bad_line_told c recipe r (checking_as_writing e h h') h h'

-- document 01's call has right literals at every width from 1 to 16
pub plain_as_checking : (c w : ℕ) (recipe : List ℕ) (bits clauses : List ℤ) (r : Refusal)
    → not_a_width w ≡ false → checked c recipe ≡ Err r → (plain_written c w recipe bits clauses).answer ≡ Err r
plain_as_checking c w recipe bits clauses r width =
    writing_as_checking c w (numbered 1 w) (suc w) recipe bits clauses r width (literals_pass c w recipe)

-- no line and no value is told
abbrev NumberAlone : Refusal → Type 0
NumberAlone r = (refusal_line r ≡ 0) × (refusal_value r ≡ pos 0)

pub number_alone : (r : Refusal) → (4 ≤ refusal_number r → refusal_number r ≤ 7 → ⊥) → NumberAlone r
number_alone = number_only

-- what a planning tells, if it refuses
abbrev Alone : plan.Planned → Type 0
Alone (Ok n) = Unit {0}
Alone (Err r) = NumberAlone r

plan_alone : (t : ℕ → ℕ) (c work recipe : ℕ) → Alone (plan_answer t c work recipe)
unfolding plan_answer
plan_alone t c work recipe =
    of_answer Alone Err _ tt (plan.plan_tests c work recipe) (
      of_test NumberAlone (out_of_range c) Constant (refl, refl),
      (
        of_test NumberAlone (ltb work (2 ^ (odd_bits c - 1))) WorkRoom (refl, refl),
        (of_test NumberAlone (ltb recipe (line_bytes * (odd_bits c / 2))) RecipeRoom (refl, refl), tt),
      ),
    )

plan_by_answer : (t : ℕ → ℕ) (a : plan.Planned) (c : ℕ) (work recipe : List ℕ) → (plan_by t a c work recipe).answer ≡ a
plan_by_answer t (Ok n) c work recipe = refl
plan_by_answer t (Err x) c work recipe = refl

pub planning_number_alone : (c : ℕ) (work recipe : List ℕ) (r : Refusal)
    → (planned c work recipe).answer ≡ Err r → NumberAlone r
unfolding planned plan.plan_outcome
planning_number_alone c work recipe r e =
    let a = plan_answer split_of c (length work) (length recipe) in
    subst Alone (sym (plan_by_answer split_of a c work recipe) ∙ e) (plan_alone split_of c (length work) (length recipe))

-- ---- demand 2

pub accepted_exactly : (c : ℕ) (recipe : List ℕ) → (checked c recipe ≡ Ok tt → Right c recipe)
    × (Right c recipe → checked c recipe ≡ Ok tt)
accepted_exactly c recipe = (accepted_right c recipe, right_accepted c recipe)

-- an answer and two rooms at exit that meet writing's contract, for an accepted recipe in rooms that suffice
module _ (c w : ℕ) (x : List ℤ) (first : ℕ) (recipe : List ℕ) (bits clauses : List ℤ) (answer : Written) (bits' clauses' : List ℤ)
    (meets : writing answer bits' clauses' ≡ written c w x first recipe bits clauses)
    (accepted : checked c recipe ≡ Ok tt) (some : 1 ≤ w) (few : w ≤ 16) (literals : not_literals w x first ≡ false)
    (next_fits : (product_of c x first recipe).next ≤ most_next) (bits_fit : y_length c w ≤ length bits)
    (clauses_fit : length (clause_words (product_of c x first recipe)) ≤ length clauses) where
  succeeds : number_of answer ≡ 0
  succeeds =
      let l = literals_of w x first literals in
      not_refused c w x first recipe bits clauses answer bits' clauses' meets accepted some few l.0 l.1 next_fits bits_fit clauses_fit

  pub each_input : (before : List Bool) → length before ≡ first - 1
      → Demand2 c x first (next_free answer) (words_at_exit answer clauses') (entries_at_exit answer bits') before
  each_input before h = demand_2 c w x first recipe bits clauses answer bits' clauses' meets succeeds before h

  -- the new variables are those from first to next - 1
  pub new_variables : Opened x first (next_free answer) (words_at_exit answer clauses')
  new_variables = opened c w x first recipe bits clauses answer bits' clauses' meets succeeds

  -- one pass over the words, with every bit of x given
  pub pass_multiplies : (gs : List ℤ) → DistinctBelow first gs → ((v : ℕ) → names v x ≡ true → names v gs ≡ true)
      → (allowance : ℕ) → clauses_written answer ≤ allowance → (room : List ℕ) → all_unknown room ≡ true
      → next_free answer ≤ suc (length room)
      → PassMultiplies c x first (next_free answer) (words_at_exit answer clauses') (entries_at_exit answer bits') gs room
      (propagated (words_at_exit answer clauses') gs allowance room)
  pass_multiplies = our-words.pass_multiplies c w x first recipe bits clauses answer bits' clauses' meets succeeds

-- any outcome of writing that is no refusal
module _ (c w : ℕ) (x : List ℤ) (first : ℕ) (recipe : List ℕ) (bits clauses : List ℤ) (answer : Written) (bits' clauses' : List ℤ)
    (meets : writing answer bits' clauses' ≡ written c w x first recipe bits clauses) (success : number_of answer ≡ 0) where
  pub no_variable_twice : AllDistinct (clauses_of (words_at_exit answer clauses'))
  no_variable_twice = product-demands.no_variable_twice c w x first recipe bits clauses answer bits' clauses' meets success

  pub no_negation_beside : (k : Clause) → StandsIn k (clauses_of (words_at_exit answer clauses'))
      → (l : Literal) → StandsIn l k → StandsIn (negation l) k → ⊥
  no_negation_beside = product-demands.no_negation_beside c w x first recipe bits clauses answer bits' clauses' meets success

-- document 01's call is the case where x is the variables 1 to w and the first free number is w + 1
module _ (c w : ℕ) (recipe : List ℕ) (bits clauses : List ℤ) (answer : Written) (bits' clauses' : List ℤ)
    (meets : writing answer bits' clauses' ≡ written c w (numbered 1 w) (suc w) recipe bits clauses) where
  pub plain_tests : answer ≡ plain_answer c w recipe (length bits) (length clauses)
  plain_tests =
      ap (λ (o : Writing). o.answer) meets ∙ answer_of c w (numbered 1 w) (suc w) recipe bits clauses
      ∙ plain_order c w recipe (length bits) (length clauses)

  module _ (success : number_of answer ≡ 0) where
    pub plain_each_input : (v : ℕ) → v < 2 ^ w
        → PlainDemand2 c w v (next_free answer - 1) (words_at_exit answer clauses') (entries_at_exit answer bits')
    plain_each_input = plain_demand_2 c w recipe bits clauses answer bits' clauses' meets success

    -- the same recipe written over other literals, from another number on and in other rooms
    pub other_names : (x : List ℤ) (first : ℕ) (bits₂ clauses₂ : List ℤ) (answer₂ : Written) (bits₂' clauses₂' : List ℤ)
        → writing answer₂ bits₂' clauses₂' ≡ written c w x first recipe bits₂ clauses₂ → number_of answer₂ ≡ 0
        → Renamed x first answer bits' clauses' answer₂ bits₂' clauses₂'
    other_names = renamed c w recipe bits clauses answer bits' clauses' meets success

pub rule_fixes_splits : (t : ℕ → ℕ) (L : ℕ) → Rule lines t L → L < 32 → (n : ℕ) → n % 2 ≡ 1 → bit_length n ≤ L → t n ≡ split_of n
rule_fixes_splits t L rule few n odd small = only lines lines_depend t L rule few n odd small

module _ (c : ℕ) (least : 1 ≤ c) (most : c ≤ 65535) where
  abbrev bytes : List ℕ
  bytes = lines_bytes (recipe_for split_of (odd_part c))

  abbrev ks : List ℕ
  ks = coefficients split_of (odd_part c)

  pub planned_is_right : checked c bytes ≡ Ok tt
  planned_is_right = planned_accepted c least most

  -- line i + 1 claims the i-th coefficient, no coefficient stands twice, and they are the members of the set
  pub planned_coefficients : ((i : ℕ) → i < length ks → coefficient_at bytes (suc i) ≡ get_or ks i 0) × Distinct ks
      × ((x : ℕ) → member x ks ≡ member x (set_of split_of (odd_part c)))
  planned_coefficients =
      (planned_claims c least most, coefficients_distinct split_of (odd_part c), coefficients_members split_of (odd_part c))

  -- and they stand in document 01's order
  pub planned_order : (i : ℕ) → suc i < length ks → Earlier (get_or ks i 0) (get_or ks (suc i) 0)
  planned_order = plan-laws.planned_order c least most

  -- ---- demand 3

  pub few_lines : (length (recipe_for split_of (odd_part c)) ≤ odd_bits c / 2)
      × ((ds : List Digit) → SignedForm (odd_part c) ds → suc (length (recipe_for split_of (odd_part c))) ≤ nonzero ds)
  few_lines = (planned_lines_half c least most, planned_lines_form c least most)

  pub few_clauses : (w : ℕ) (x : List ℤ) (first : ℕ) (bits clauses : List ℤ) (answer : Written) (bits' clauses' : List ℤ)
      → writing answer bits' clauses' ≡ written c w x first bytes bits clauses → number_of answer ≡ 0
      → length (clauses_of (words_at_exit answer clauses')) ≤ 14 * (odd_bits c + w) * (length bytes / 5)
  few_clauses w x first bits clauses answer bits' clauses' meets z =
      demand_3_clauses c w x first bytes bits clauses answer bits' clauses' meets z (odd_bits c) (planned_bits c least most)

pub one_form : (n : ℕ) → SignedForm n (signed_form n) × ((ds : List Digit) → SignedForm n ds → ds ≡ signed_form n)
one_form n = (form_is n, form_only n)

-- ---- one pass over any words

module _ (ws gs : List ℤ) (allowance : ℕ) (room : List ℕ) where
  abbrev answer_of_pass : Propagated
  answer_of_pass = (propagated ws gs allowance room).answer

  abbrev values : List ℕ
  values = (propagated ws gs allowance room).room

  pub pass_refused : (x : Refusal) → answer_of_pass ≡ Err x → values ≡ room
  pass_refused = refused_room ws gs allowance room

  pub pass_started : ((number_of answer_of_pass ≡ 26 → ⊥) → (all_unknown room ≡ true) × DistinctBelow (suc (length room)) gs)
      × ((all_unknown room ≡ true) × DistinctBelow (suc (length room)) gs → number_of answer_of_pass ≡ 26 → ⊥)
  pass_started = (given_right ws gs allowance room, λ h e. refused_26 ws gs allowance room e h.0 h.1)

  pub pass_counted : (n : ℕ) → answer_of_pass ≡ Ok n → n ≡ length (clauses_of ws)
  pass_counted = count_read ws gs allowance room

  -- where it does not refuse by 26, it speaks of every assignment in which the given literals and the clauses hold
  speaks : (number_of answer_of_pass ≡ 26 → ⊥) → (α : Assignment) → GivenTrue α gs → satisfies_words α ws ≡ true
      → Sound α (propagated ws gs allowance room)
  speaks f = sound ws gs allowance room (given_right ws gs allowance room f).0

  pub pass_forced : (n : ℕ) → answer_of_pass ≡ Ok n → (α : Assignment) → GivenTrue α gs → satisfies_words α ws ≡ true
      → Agrees α values
  pass_forced n e α t s = (speaks (λ f. omega (arith, ap number_of e, f)) α t s).agrees

  pub conflict_real : number_of answer_of_pass ≡ 22 → (α : Assignment) → GivenTrue α gs → satisfies_words α ws ≡ true → ⊥
  conflict_real e α t s = (speaks (λ f. omega (arith, e, f)) α t s).no_conflict e

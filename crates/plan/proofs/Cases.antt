-- The definition of planning gives the worked cases, by computation. Assumes nothing.
use Prim.Native.Nat.{ℕ, ◌*◌}
use mathlib.Core.Path.{◌≡◌, refl, subst}
use mathlib.Core.List.{List, map}
use lib.Count.{ones}
use lib.ListN.{replicate, take}
use Rattle.line.specs.Refusal.{number_of}
use Rattle.line.specs.Limits.{line_bytes}
use Rattle.line.specs.Number.{digits_by, bit_length, halvings_by, twos, odd_part}
use Rattle.line.specs.Line.{kind_of}
use Rattle.split.specs.Split.{low, high, left_at, right_at, legal_at}
use Rattle.split.specs.Reach.{follow, reach_by, fuel, reach, member, add, adds, set_by, set_of}
use Rattle.split.specs.Choose.{lines, pick, better, best_below, choose, split_by, split_for, split_of, look, splits_from, splits}
use Rattle.split.specs.Order.{zero_bits, rank, key, put_in, ordered, coefficients, place_in, operand, line_for, lines_bytes, recipe_for}
use Rattle.plan.specs.Plan.{Planning, planned_lines, plan_answer, plan_outcome}
use Rattle.cases.specs.Table.{Planned, PlanRooms}
use Rattle.cases.specs.Bench.{bench}
use Rattle.cases.specs.Agreed.{agreed, agreed_splits}
use Rattle.split.proofs.Cases.{agreed_lookup, agreed_lookup_is}

-- planning in rooms of these lengths, every byte of which is 7
abbrev pub outcome : (ℕ → ℕ) → ℕ → ℕ → ℕ → Planning
outcome t c work recipe = plan_outcome t c (replicate work 7) (replicate recipe 7)

-- the cases as the definition answers them
abbrev pub answered : (ℕ → ℕ) → Planned → Planned
answered t k =
    let o : Planning = outcome t k.c k.work k.recipe in
    record {
      c = k.c;
      work = k.work;
      recipe = k.recipe;
      number = number_of o.answer;
      lines = take (line_bytes * planned_lines o.answer) o.recipe;
    }

abbrev pub rooms_answered : (ℕ → ℕ) → PlanRooms → PlanRooms
rooms_answered t k =
    let o : Planning = outcome t k.c k.work k.recipe in
    record { c = k.c; work = k.work; recipe = k.recipe; work_room = o.work; recipe_room = o.recipe }

abbrev pub AsWorked : (ℕ → ℕ) → List Planned → Type 0
AsWorked t cases = map (answered t) cases ≡ cases

abbrev pub RoomsRight : (ℕ → ℕ) → List PlanRooms → Type 0
RoomsRight t cases = map (rooms_answered t) cases ≡ cases

pub bench_right : AsWorked split_of bench.planned
unfolding bench digits_by bit_length halvings_by twos odd_part kind_of low high left_at right_at legal_at follow reach_by fuel reach member add adds set_by set_of lines pick better best_below choose split_by split_for ones zero_bits rank key put_in ordered coefficients place_in operand line_for lines_bytes recipe_for plan_answer plan_outcome
bench_right = refl

-- computed with the second engine's splits, which are the rule's

by_table : AsWorked agreed_lookup agreed.planned
unfolding agreed agreed_splits look splits_from splits digits_by bit_length halvings_by twos odd_part kind_of low high left_at right_at follow reach_by fuel reach member add adds set_of ones zero_bits rank key put_in ordered coefficients place_in operand line_for lines_bytes recipe_for plan_answer plan_outcome
by_table = refl

rooms_by_table : RoomsRight agreed_lookup agreed.plan_rooms
unfolding agreed agreed_splits look splits_from splits digits_by bit_length halvings_by twos odd_part kind_of low high left_at right_at follow reach_by fuel reach member add adds set_of ones zero_bits rank key put_in ordered coefficients place_in operand line_for lines_bytes recipe_for plan_answer plan_outcome
rooms_by_table = refl

pub agreed_right : AsWorked split_of agreed.planned
agreed_right = subst (λ (t : ℕ → ℕ). AsWorked t agreed.planned) agreed_lookup_is by_table

pub agreed_rooms_right : RoomsRight split_of agreed.plan_rooms
agreed_rooms_right = subst (λ (t : ℕ → ℕ). RoomsRight t agreed.plan_rooms) agreed_lookup_is rooms_by_table

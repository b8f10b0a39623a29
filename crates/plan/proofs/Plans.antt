-- Planning: what the tests say of a constant and its rooms, and what the steps give once no test refuses.
use Rattle.std.specs.Prelude.{Ok, Err}
use Prim.Native.Nat.{ℕ, suc, ◌-◌, ◌*◌, ◌/◌, ◌%◌, ◌^◌, ◌≤◌, ◌<◌}
use mathlib.Core.Path.{◌≡◌, refl, sym, ap, ap₂, ◌∙◌, subst}
use mathlib.Core.Bool.{true, false}
use mathlib.Core.List.{List, [], ◌∷◌, map}
use native.Mathlib.Nat.{le_refl}
use native.Mathlib.Omega.{arith}
use lib.ListN.{length, take, drop}
use lib.Seq.{sets}
use Rattle.line.proofs.Room.{take_sets}
use Rattle.line.specs.Limits.{line_bytes, most_bits, most_constant, out_of_range}
use Rattle.line.specs.Number.{bit_length, odd_part}
use Rattle.line.specs.Order.{answer_by, first_broken, refuses}
use Rattle.line.specs.declared.Line.{Line}
use Rattle.line.specs.declared.Refusal.{Refusal}
use Rattle.line.specs.declared.Refusal.TheVariants.{Constant, WorkRoom}
use Rattle.line.specs.Order.{Verdict}
use Rattle.split.specs.Choose.{line_count, lines, look, split_of, splits}
use Rattle.split.specs.Order.{coefficients, line_for, lines_bytes, operand, ordered, recipe_for}
use Rattle.split.specs.Reach.{member, set_of, turn}
use Rattle.split.specs.Split.{left, legal, right}
use Rattle.plan.specs.Plan.{Planning, odd_bits, plan_answer, plan_by, plan_outcome, plan_tests, planned, planning}
use Rattle.plan.specs.Steps.{HoldsSplits, Whole, WritesLine, set_room}
use Rattle.line.proofs.Number.{bits_le, bits_pos, odd_part_le, odd_part_odd}
use Rattle.line.proofs.Order.{all_kept, first_hit, kept_all, kept_room, missed, misses, room_hits, room_kept, within, within_kept}
use Rattle.split.proofs.Choose.{splits_legal}
use Rattle.split.proofs.Closed.{CanLine, Root, set_lined}
use Rattle.split.proofs.Lines.{lines_half}
use Rattle.split.proofs.Order.{coefficients_members, ordered_length}
use Rattle.split.proofs.Reach.{Legal, lines_depend, turn_bits}
use Rattle.split.proofs.Sets.{cons_member, member_head}
use Rattle.plan.proofs.Agrees.{legals, same_count, same_set}
use Rattle.plan.proofs.Bytes.{bytes_length, map_length}
use Rattle.plan.proofs.Rooms.{in_table}
use Rattle.plan.proofs.Walks.{splits_of}

-- ---- the tests

-- the planning that a verdict of the tests gives
pub by_verdict : (c : ℕ) (w r : List ℕ) (v : Verdict) → first_broken (plan_tests c (length w) (length r)) ≡ v
    → planned c w r ≡ plan_by split_of (answer_by Err (Ok (length (recipe_for split_of (odd_part c)))) v) c w r
unfolding planned plan_outcome plan_answer
by_verdict c w r v e =
    ap (λ (u : Verdict). plan_by split_of (answer_by Err (Ok (length (recipe_for split_of (odd_part c)))) u) c w r) e

-- a refusal leaves both rooms
pub rooms_stay : (c : ℕ) (w r : List ℕ) (x : Refusal) → Err x ≡ first_broken (plan_tests c (length w) (length r))
    → planning (Err x) w r ≡ planned c w r
rooms_stay c w r x e = sym (by_verdict c w r (Err x) (sym e))

-- a work room that is too short is refused, where the constant is in range
pub work_short : (c work recipe d m p : ℕ) → out_of_range c ≡ false → d ≡ odd_part c → m ≡ bit_length d → p ≡ 2 ^ (m - 1) → work < p
    → Err WorkRoom ≡ first_broken (plan_tests c work recipe)
work_short c work recipe d m p ok e f g short =
    let long : p ≡ 2 ^ (odd_bits c - 1) = g ∙ ap (λ (x : ℕ). 2 ^ (x - 1)) (f ∙ ap bit_length e) in
    sym (first_hit (refuses (out_of_range c) Constant ∷ []) _ (drop 2 (plan_tests c work recipe)) WorkRoom (misses _ _ ok, tt)
    (room_hits work (2 ^ (odd_bits c - 1)) WorkRoom (omega arith)))

-- no test refuses a constant in range with rooms that are long enough, and each other is refused
pub record Passed (c work recipe : ℕ) : Type 0 where
  pub some : 0 < c
  pub small : c ≤ most_constant
  pub long : 2 ^ (odd_bits c - 1) ≤ work
  pub room : line_bytes * (odd_bits c / 2) ≤ recipe

pub kept_passed : (c work recipe : ℕ) → first_broken (plan_tests c work recipe) ≡ Ok tt → Passed c work recipe
kept_passed c work recipe e =
    let k = kept_all (plan_tests c work recipe) e in
    let n = within most_constant c (missed _ _ k.0) in
    record { some = n.0; small = n.1; long = kept_room _ _ _ k.1.0; room = kept_room _ _ _ k.1.1.0 }

pub passed_kept : (c work recipe : ℕ) → Passed c work recipe → first_broken (plan_tests c work recipe) ≡ Ok tt
passed_kept c work recipe h =
    all_kept (plan_tests c work recipe)
    (misses _ _ (within_kept most_constant c h.some h.small), (room_kept _ _ _ h.long, (room_kept _ _ _ h.room, tt)))

-- ---- once no test refuses, over any lookup

lines_cong : (t u : ℕ → ℕ) (ks xs : List ℕ) → ((x : ℕ) → member x xs ≡ true → t x ≡ u x) → map (line_for t ks) xs ≡ map (line_for u ks) xs
unfolding line_for
lines_cong t u ks [] h = refl
lines_cong t u ks (x ∷ xs) h = ap₂ (λ (s : ℕ) (ls : List Line).
    record { top = 0; kind = s / 32; left = operand (left s x) ks; shift = s % 32; right = operand (right s x) ks; coefficient = x } ∷ ls)
    (h x (member_head x xs))
    (lines_cong t u ks xs (λ y m. h y (cons_member y x xs m)))

pub recipe_length : (t : ℕ → ℕ) (d : ℕ) → length (recipe_for t d) ≡ line_count t d
unfolding recipe_for coefficients line_count
recipe_length t d = map_length (line_for t (ordered (set_of t d))) (ordered (set_of t d)) ∙ ordered_length (set_of t d)

-- c, its odd part d of m bits
pub record Parts (c d m : ℕ) : Type 0 where
  pub some : 0 < c
  pub small : c ≤ most_constant
  pub part : d ≡ odd_part c
  pub bits : m ≡ bit_length d

module _ {c d m : ℕ} (h : Parts c d m) where
  odd : d % 2 ≡ 1
  odd = ap (λ (x : ℕ). x % 2) h.part ∙ odd_part_odd c h.some

  few : bit_length d ≤ most_bits
  few = bits_le most_bits d (omega (arith, h.part, odd_part_le c, h.small))

  pub bits_are : m ≡ odd_bits c
  bits_are = h.bits ∙ ap bit_length h.part

  pub few_bits : (0 < m) × (m ≤ most_bits)
  few_bits = (omega (arith, h.bits, bits_pos d (omega (arith, odd))), omega (arith, h.bits, few))

  pub long_enough : {k : ℕ} → 2 ^ (odd_bits c - 1) ≤ k → 2 ^ (m - 1) ≤ k
  long_enough long = omega (arith, ap (λ (x : ℕ). 2 ^ (x - 1)) bits_are)

  -- a work room that holds the splits of a lookup t, legal ones, and a set's room that has places for all of d's coefficients
  module _ {t : ℕ → ℕ} (ok : Legal t (suc (turn d))) (place : line_count t d ≤ set_room)
      {w w' : List ℕ} (f : HoldsSplits t w m w') (long : 2 ^ (m - 1) ≤ length w) where
    agrees : (x : ℕ) → x % 2 ≡ 1 → turn x < suc (turn d) → look w' x ≡ t x
    agrees x o less = f.known x o (omega (arith, h.bits, turn_bits x d (omega arith)))

    longer : 2 ^ (bit_length d - 1) ≤ length w'
    longer = omega (arith, long, f.same, ap (λ (x : ℕ). 2 ^ (x - 1)) h.bits)

    legal_to : Legal (look w') (suc (turn d))
    legal_to = legals t (suc (turn d)) ok w' agrees

    fits : bit_length d < 64
    fits = omega (arith, few)

    pub whole : Whole w' d
    whole = record {
      odd = odd;
      few = omega (arith, few);
      long = longer;
      legals = legal_to;
      room = omega (arith, place, same_count t (suc (turn d)) ok w' agrees d odd fits (le_refl (suc (turn d))));
    }

    module _ {ks : List ℕ} (k : ks ≡ coefficients (look w') d) where
      holds : ks ≡ coefficients t d
      unfolding coefficients
      holds = k ∙ ap ordered (same_set t (suc (turn d)) ok w' agrees d odd fits (le_refl (suc (turn d))))

      of_set : (x : ℕ) → member x ks ≡ true → CanLine t (bit_length d) (set_of t d) x
      of_set x m' =
          let root : Root t (bit_length d) d = record { odd = odd; few = le_refl (bit_length d); legals = ok } in
          set_lined t (bit_length d) fits d root x (sym (coefficients_members t d x) ∙ sym (ap (member x) holds) ∙ m')

      len_is : length ks ≡ length (recipe_for t d)
      unfolding recipe_for
      len_is = ap (λ (z : List ℕ). length z) holds
          ∙ sym (map_length (line_for t (coefficients t d)) (coefficients t d))

      same_split : (x : ℕ) → member x ks ≡ true → look w' x ≡ t x
      same_split x m' = let q = of_set x m' in f.known x q.odd (omega (arith, h.bits, q.few))

      writes_line : (x : ℕ) → member x ks ≡ true → WritesLine w' x
      writes_line x m' =
          let q = of_set x m' in
          record {
            splits = splits_of (look w' x) x q.big q.odd (omega (arith, few, q.few))
                (subst (λ (c : ℕ). legal c x ≡ true) (sym (same_split x m')) q.is_legal);
            inside = in_table w' x d (omega (arith, q.big)) q.few longer;
          }

      module _ (r : List ℕ) (room : line_bytes * line_count t d ≤ length r) where
        pub lines_ask : (line_bytes * length ks ≤ length r) × ((x : ℕ) → member x ks ≡ true → WritesLine w' x)
        lines_ask = (omega (arith, len_is, recipe_length t d, room), writes_line)

        lines_are : lines_bytes (map (line_for (look w') ks) ks) ≡ lines_bytes (recipe_for t d)
        unfolding recipe_for
        lines_are =
            ap lines_bytes (lines_cong (look w') t ks ks
            same_split)
            ∙ ap (λ (z : List ℕ). lines_bytes (map (line_for t z) z)) holds

        -- the answer and both rooms
        pub planned_rooms : {r' : List ℕ} → r' ≡ sets r 0 (lines_bytes (map (line_for (look w') ks) ks))
            → planning (Ok (length ks)) w' r' ≡ plan_by t (Ok (length (recipe_for t (odd_part c)))) c w r
        planned_rooms {r'} e =
            let n = len_is ∙ ap (λ (x : ℕ). length (recipe_for t x)) h.part in
            let filled = f.holds ∙ ap (λ (x : ℕ). sets w 0 (splits t x)) bits_are in
            let lined = e ∙ ap (sets r 0) lines_are ∙ ap (λ (x : ℕ). sets r 0 (lines_bytes (recipe_for t x))) h.part in
            λ i. planning (Ok (n i)) (filled i) (lined i)

-- ---- the line goal

module _ {c d m : ℕ} (h : Parts c d m) where
  pub lines_legal : Legal split_of (suc (turn d))
  lines_legal = splits_legal lines lines_depend d (omega (arith, few h))

  pub lines_place : line_count split_of d ≤ set_room
  lines_place = omega (arith, lines_half d (odd h) (omega (arith, few h)), few h)

  pub lines_room : {k : ℕ} → line_bytes * (odd_bits c / 2) ≤ k → line_bytes * line_count split_of d ≤ k
  lines_room room = omega (arith, lines_half d (odd h) (omega (arith, few h)), h.bits, bits_are h)

-- the recipe room's first bytes
pub recipe_in_room : (c : ℕ) (w r : List ℕ) → Passed c (length w) (length r)
    → take (line_bytes * length (recipe_for split_of (odd_part c))) (planned c w r).recipe ≡ lines_bytes (recipe_for split_of (odd_part c))
recipe_in_room c w r h =
    let ls = recipe_for split_of (odd_part c) in
    let parts : Parts c (odd_part c) (odd_bits c) = record { some = h.some; small = h.small; part = refl; bits = refl } in
    ap (λ (o : Planning). take (line_bytes * length ls) o.recipe) (by_verdict c w r (Ok tt) (passed_kept c (length w) (length r) h))
    ∙ take_sets r (lines_bytes ls) (line_bytes * length ls) (bytes_length ls)
    (omega (arith, recipe_length split_of (odd_part c), lines_room parts h.room))

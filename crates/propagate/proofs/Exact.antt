-- `refused_room`: a refusal leaves the room as it came. `refused_26` and `given_right`: 26 is given exactly where the room is not all
-- unknown, or a literal is 0, beyond the room, or of a variable given before.
use Prim.Native.Nat.{ℕ, zero, suc, ◌-◌, ◌≤◌, ◌<◌}
use mathlib.Core.Path.{◌≡◌, refl, ap, ◌∙◌, subst}
use mathlib.Core.Logic.{⊎_elim}
use mathlib.Core.Bool.{Bool, true, false, cond, ◌&&◌, ◌||◌, false≢true}
use mathlib.Core.List.{List, [], ◌∷◌}
use native.Mathlib.Decide.{ℕ_discrete}
use native.Mathlib.Omega.{arith}
use lib.Dec.{eqb, ltb}
use lib.IntN.{ℤ}
use lib.ListN.{length, drop, set, length-set}
use lib.Seq.{get_or-set_same, get_or-set_other}
use borrow.Author.Tests.{eqb-false, ltb-false}
use Rattle.line.specs.Refusal.{number_of}
use Rattle.line.specs.declared.Refusal.{Refusal}
use Rattle.line.specs.declared.Refusal.TheVariants.{Given}
use Rattle.std.specs.Prelude.{Option, Some, None, Ok, Err}
use Rattle.cnf.specs.Words.{named, names, DistinctBelow}
use Rattle.cnf.proofs.Extend.{or_false}
use Rattle.cnf.proofs.Words.{names_either}
use Rattle.propagate.specs.Clause.{wanted, value_at, reading_clause}
use Rattle.propagate.specs.Pass.{turn_by, turn_of, room_by, room_of, Propagating, on_or_stop, passed, all_unknown, not_given}
use Rattle.propagate.specs.Pass.{Held, given_rest, settled, propagated}
use Rattle.propagate.specs.declared.Verdict.{Verdict}
use Rattle.propagate.specs.declared.Verdict.TheVariants.{AllFalse, Sets, Passes}
use Rattle.propagate.specs.declared.Reading.{Reading}
use Rattle.propagate.specs.Pass.{Propagated}
use Rattle.propagate.proofs.Literals.{wanted_le, not-true}
use Rattle.propagate.proofs.Giving.{unknown_room}
use Rattle.propagate.proofs.GivenKnown.{taken, value_unknowns}

-- ---- the given literals

-- a literal that was taken: in the room, and its variable without a value
pub record Takes (g : ℤ) (room : List ℕ) : Type 0 where
  pub some : 0 < named g
  pub inside : named g ≤ length room
  pub unknown : 2 ≤ value_at room (named g)

pub takes : (g : ℤ) (room : List ℕ) → not_given g room ≡ false → Takes g room
takes g room e =
    let a = or_false (eqb (named g) 0) (ltb (length room) (named g) || ltb (value_at room (named g)) 2) e in
    let b = or_false (ltb (length room) (named g)) (ltb (value_at room (named g)) 2) a.1 in
    record {
      some = omega (arith, eqb-false (named g) 0 a.0);
      inside = ltb-false (length room) (named g) b.0;
      unknown = ltb-false (value_at room (named g)) 2 b.1;
    }

-- one more literal was held: it was taken, and the others are held behind it
held_more : (g : ℤ) (gs : List ℤ) (room : List ℕ) → (given_rest (g ∷ gs) room).held ≡ true
    → Takes g room × ((given_rest gs (set room (named g - 1) (wanted g))).held ≡ true)
unfolding given_rest
held_more g gs room e = go (not_given g room) refl e
  where
    go : (b : Bool) → not_given g room ≡ b
        → (cond b (record { held = false; room = room }) (given_rest gs (set room (named g - 1) (wanted g)))).held ≡ true
        → Takes g room × ((given_rest gs (set room (named g - 1) (wanted g))).held ≡ true)
    go true q f = absurd (false≢true f)
    go false q f = (takes g room q, f)

held_unknown : (gs : List ℤ) (room : List ℕ) (v : ℕ) → (given_rest gs room).held ≡ true → names v gs ≡ true
    → (0 < v) × (2 ≤ value_at room v)
held_unknown [] room v e m = absurd (false≢true m)
held_unknown (g ∷ gs) room v e m =
    let h = held_more g gs room e in
    let t = h.0 in
    ⊎_elim
    (λ (q : v ≡ named g). (omega (arith, t.some), omega (arith, t.unknown, ap (value_at room) q)))
    (λ (r : names v gs ≡ true).
    let room₁ : List ℕ = set room (named g - 1) (wanted g) in
    let k = held_unknown gs room₁ v h.1 r in
    elim (ℕ_discrete v (named g)) [
      | yes q ↦ absurd
          (omega (
            arith,
            k.1,
            ap (value_at room₁) q,
            get_or-set_same room (named g - 1) (wanted g) 2 (omega (arith, t.some, t.inside)),
            wanted_le g,
          ))
      | no q ↦ (
        k.0,
        omega (arith, k.1, get_or-set_other room (named g - 1) (v - 1) (wanted g) 2 (λ z. q (omega (arith, k.0, t.some, z)))),
      )
    ])
    (names_either v g gs m)

pub held_distinct : (gs : List ℤ) (room : List ℕ) → (given_rest gs room).held ≡ true → DistinctBelow (suc (length room)) gs
held_distinct [] room e = tt
held_distinct (g ∷ gs) room e =
    let h = held_more g gs room e in
    let t = h.0 in
    let room₁ : List ℕ = set room (named g - 1) (wanted g) in
    let le : length room₁ ≡ length room = length-set room (named g - 1) (wanted g) in (
      t.some,
      omega (arith, t.inside),
      not-true (names (named g) gs)
          (λ m. omega (
            arith,
            (held_unknown gs room₁ (named g) h.1 m).1,
            get_or-set_same room (named g - 1) (wanted g) 2 (omega (arith, t.some, t.inside)),
            wanted_le g,
          )),
      subst (λ (k : ℕ). DistinctBelow (suc k) gs) le (held_distinct gs room₁ h.1),
    )

pub distinct_held : (gs : List ℤ) (room : List ℕ) → all_unknown room ≡ true → DistinctBelow (suc (length room)) gs
    → (given_rest gs room).held ≡ true
distinct_held gs room u d =
    let e = unknown_room room u in
    ap (λ (h : Held). h.held)
    (taken (suc (length room)) gs room d (omega arith) (λ v m. ap (λ (l : List ℕ). value_at l v) e ∙ value_unknowns (length room) v)).1.is

-- ---- 26

-- the pass itself never answers 26
pass_not_26 : (allowance count : ℕ) (ws : List ℤ) (room : List ℕ) → number_of (passed allowance count ws room).answer < 26
unfolding passed
pass_not_26 zero count [] room = omega arith
pass_not_26 zero count (w ∷ ws) room = omega arith
pass_not_26 (suc allowance) count [] room = omega arith
pass_not_26 (suc allowance) count (w ∷ ws) room =
    go (reading_clause room (w ∷ ws)) (λ n r. pass_not_26 allowance (suc count) (drop n (w ∷ ws)) r)
  where
    by : (d : Verdict) (k : ℕ) → ((n : ℕ) (l : List ℕ) → number_of (passed allowance (suc count) (drop n (w ∷ ws)) l).answer < 26)
        → number_of
        (on_or_stop (turn_by d k) (room_by d room) (λ n. passed allowance (suc count) (drop n (w ∷ ws)) (room_by d room))).answer < 26
    by AllFalse k f = omega arith
    by (Sets v value) k f = f k (set room (v - 1) value)
    by Passes k f = f k room

    go : (r : Option Reading) → ((n : ℕ) (l : List ℕ) → number_of (passed allowance (suc count) (drop n (w ∷ ws)) l).answer < 26)
        → number_of
        (on_or_stop (turn_of r) (room_of r room) (λ n. passed allowance (suc count) (drop n (w ∷ ws)) (room_of r room))).answer < 26
    go None f = omega arith
    go (Some r) f = by r.verdict r.words f

settled_number : (came : List ℕ) (a : Propagated) (room : List ℕ) → (settled came a room).answer ≡ a
settled_number came (Ok n) room = refl
settled_number came (Err x) room = refl

module _ (ws gs : List ℤ) (allowance : ℕ) (room : List ℕ) where
  by_tests : (a b : Bool) → all_unknown room ≡ a → (given_rest gs room).held ≡ b
      → number_of (propagated ws gs allowance room).answer
      ≡ cond (a && b) (number_of (passed allowance 0 ws (given_rest gs room).room).answer) 26
  unfolding propagated
  by_tests true true e f =
      rw (e, f) (ap number_of
      (settled_number room (passed allowance 0 ws (given_rest gs room).room).answer
      (passed allowance 0 ws (given_rest gs room).room).room))
  by_tests true false e f = rw (e, f)
  by_tests false b e f = rw e

  pub refused_26 : number_of (propagated ws gs allowance room).answer ≡ 26 → all_unknown room ≡ true
      → DistinctBelow (suc (length room)) gs → ⊥
  refused_26 e u d = omega (arith, by_tests true true u (distinct_held gs room u d), pass_not_26 allowance 0 ws (given_rest gs room).room)

  pub given_right : (number_of (propagated ws gs allowance room).answer ≡ 26 → ⊥)
      → (all_unknown room ≡ true) × DistinctBelow (suc (length room)) gs
  given_right f = go (all_unknown room) refl (given_rest gs room).held refl
    where
      go : (a : Bool) → all_unknown room ≡ a → (b : Bool) → (given_rest gs room).held ≡ b
          → (all_unknown room ≡ true) × DistinctBelow (suc (length room)) gs
      go true e true h = (e, held_distinct gs room h)
      go true e false h = absurd (f (by_tests true false e h))
      go false e b h = absurd (f (by_tests false b e h))

  pub refused_room : (x : Refusal) → (propagated ws gs allowance room).answer ≡ Err x → (propagated ws gs allowance room).room ≡ room
  unfolding propagated
  refused_room x e = go (all_unknown room && (given_rest gs room).held) (passed allowance 0 ws (given_rest gs room).room) e
    where
      after : (a : Propagated) (l : List ℕ) → (settled room a l).answer ≡ Err x → (settled room a l).room ≡ room
      after (Ok n) l f = absurd (let z : ◌≡◌ {A = ℕ} 0 1 = cc in omega arith)
      after (Err y) l f = refl

      go : (b : Bool) (o : Propagating)
          → (cond b (settled room o.answer o.room) (record { answer = Err Given; room = room })).answer ≡ Err x
          → (cond b (settled room o.answer o.room) (record { answer = Err Given; room = room })).room ≡ room
      go true o f = after o.answer o.room f
      go false o f = refl

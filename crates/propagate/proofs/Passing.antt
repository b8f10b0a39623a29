-- The pass, a clause at a time. Assumes nothing.
use mathlib.Core.Path.{◌≡◌, refl, ap, ◌∙◌, subst}
use mathlib.Core.Bool.{Bool, true, false, cond, ◌&&◌}
use mathlib.Core.List.{List, [], ◌∷◌}
use Prim.Native.Nat.{ℕ, zero, suc, ◌+◌, ◌-◌, ◌≤◌, ◌<◌}
use native.Mathlib.Numerals.{add-one}
use native.Mathlib.Omega.{arith}
use lib.Dec.{eqb, ltb}
use lib.IntN.{ℤ}
use lib.ListN.{length, drop}
use Rattle.std.proofs.lemmas.List.{nil_from_length, take_rest}
use borrow.Author.Tests.{ltb-false}
use Rattle.std.specs.Prelude.{Option, Some, None, Result, Ok, Err}
use Rattle.cnf.specs.Words.{named}
use Rattle.propagate.specs.Clause.{wanted, value_at, with_unknown, with_literal, closed, closed_or, unless_above, reading, reading_clause}
use Rattle.propagate.specs.Pass.{turn_by, turn_of, room_of, propagating, on_or_stop, passed}
use Rattle.propagate.specs.declared.Verdict.{Verdict}
use Rattle.propagate.specs.declared.Verdict.TheVariants.{AllFalse, Sets, Passes}
use Rattle.propagate.specs.declared.Reading.{Reading}
use Rattle.line.specs.declared.Refusal.{Refusal}
use Rattle.line.specs.declared.Refusal.TheVariants.{Allowance}

-- ---- what a clause sets lies in the room, and the clause in the words

abbrev pub Inside : ℕ → Verdict → Type 0
Inside m AllFalse = Unit {0}
Inside m (Sets v value) = (0 < v) × (v ≤ m)
Inside m Passes = Unit {0}

abbrev pub ReadInside : ℕ → ℕ → Option Reading → Type 0
ReadInside m n None = Unit {0}
ReadInside m n (Some r) = Inside m r.verdict × (r.words ≤ n)

inside_cond : (m : ℕ) (b : Bool) (d e : Verdict) → Inside m d → Inside m e → Inside m (cond b d e)
inside_cond m true d e i j = i
inside_cond m false d e i j = j

inside_unknown : (m v wants : ℕ) (d : Verdict) → 0 < v → v ≤ m → Inside m d → Inside m (with_unknown d v wants)
inside_unknown m v wants AllFalse p h i = (p, h)
inside_unknown m v wants (Sets u value) p h i = inside_cond m (eqb u v && eqb value wants) (Sets u value) Passes i tt
inside_unknown m v wants Passes p h i = tt

inside_literal : (m v wants value : ℕ) (d : Verdict) → 0 < v → v ≤ m → Inside m d → Inside m (with_literal d v wants value)
unfolding with_literal
inside_literal m v wants value d p h i =
    inside_cond m (eqb value wants) Passes (cond (ltb value 2) d (with_unknown d v wants)) tt
    (inside_cond m (ltb value 2) d (with_unknown d v wants) i (inside_unknown m v wants d p h i))

inside_more : (m n k : ℕ) (r : Option Reading) → n ≤ k → ReadInside m n r → ReadInside m k r
inside_more m n k None h i = tt
inside_more m n k (Some r) h i = (i.0, omega arith)

-- of a word that names the variable v
inside_closed : (m n v : ℕ) (d : Verdict) (k : ℕ) (later : Option Reading) → Inside m d → k ≤ n → (0 < v → v ≤ m → ReadInside m n later)
    → ReadInside m n (closed_or v (closed d k) (unless_above (ltb m v) later))
inside_closed m n zero d k later i h f = (i, h)
inside_closed m n (suc v) d k later i h f = go (ltb m (suc v)) refl
  where
    go : (b : Bool) → ltb m (suc v) ≡ b → ReadInside m n (unless_above b later)
    go true e = tt
    go false e = f (omega arith) (ltb-false m (suc v) e)

inside_reading : (room : List ℕ) (d : Verdict) (n : ℕ) (ws : List ℤ) → Inside (length room) d
    → ReadInside (length room) (n + length ws) (reading room d n ws)
unfolding reading
inside_reading room d n [] i = tt
inside_reading room d n (w ∷ ws) i =
    let e = with_literal d (named w) (wanted w) (value_at room (named w)) in
    inside_closed (length room) (n + suc (length ws)) (named w) d (suc n) (reading room e (suc n) ws) i (omega arith) (λ p h.
    inside_more (length room) (suc n + length ws) (n + suc (length ws)) (reading room e (suc n) ws) (omega arith)
    (inside_reading room e (suc n) ws (inside_literal (length room) (named w) (wanted w) (value_at room (named w)) d p h i)))

pub inside : (room : List ℕ) (ws : List ℤ) → ReadInside (length room) (0 + length ws) (reading_clause room ws)
inside room ws = inside_reading room AllFalse 0 ws tt

pub sets_inside : (room : List ℕ) (ws : List ℤ) (r : Reading) (v value : ℕ) → reading_clause room ws ≡ Some r → r.verdict ≡ Sets v value
    → (0 < v) × (v ≤ length room)
sets_inside room ws r v value e f =
    subst (Inside (length room)) f (subst (ReadInside (length room) (0 + length ws)) e (inside room ws)).0

pub turn_inside : (room : List ℕ) (ws : List ℤ) (n : ℕ) → turn_of (reading_clause room ws) ≡ Ok n → n ≤ length ws
turn_inside room ws n e = go (reading_clause room ws) (inside room ws) e
  where
    by : (d : Verdict) (k : ℕ) → k ≤ length ws → turn_by d k ≡ Ok n → n ≤ length ws
    by AllFalse k h f = cc
    by (Sets v value) k h f = let q : k ≡ n = cc in omega arith
    by Passes k h f = let q : k ≡ n = cc in omega arith

    go : (r : Option Reading) → ReadInside (length room) (0 + length ws) r → turn_of r ≡ Ok n → n ≤ length ws
    go None i f = cc
    go (Some r) i f = by r.verdict r.words (omega (arith, i.1)) f

-- ---- the loop over the clauses: what is left of the pass is the whole

pub passed_nil : (allowance count : ℕ) (room : List ℕ) → passed allowance count [] room ≡ record { answer = Ok count; room = room }
unfolding passed
passed_nil zero count room = refl
passed_nil (suc allowance) count room = refl

-- the allowance spent, with words left
passed_spent : (count : ℕ) (ws : List ℤ) (room : List ℕ) → (length ws ≡ 0 → ⊥)
    → passed 0 count ws room ≡ propagating (Err Allowance) room
unfolding passed
passed_spent count [] room h = absurd (h refl)
passed_spent count (w ∷ ws) room h = refl

-- a clause, where words are left
pub passed_clause : (allowance count : ℕ) (ws : List ℤ) (room : List ℕ) → (length ws ≡ 0 → ⊥) → let r = reading_clause room ws in
    passed (suc allowance) count ws room
    ≡ on_or_stop (turn_of r) (room_of r room) (λ n. passed allowance (suc count) (drop n ws) (room_of r room))
unfolding passed
passed_clause allowance count [] room h = absurd (h refl)
passed_clause allowance count (w ∷ ws) room h = refl

pub record Passing (ws : List ℤ) (allowance : ℕ) (came room : List ℕ) (rest : List ℤ) (spent : ℕ) : Type 0 where
  pub within : length rest ≤ length ws
  pub allowed : spent ≤ allowance
  pub left : passed allowance 0 ws came ≡ passed (allowance - spent) spent rest room

module _ (allowance spent : ℕ) (rest : List ℤ) (room : List ℕ) where
  pub none_left : length rest ≡ 0 → passed (allowance - spent) spent rest room ≡ propagating (Ok spent) room
  none_left e =
      ap (λ (l : List ℤ). passed (allowance - spent) spent l room) (nil_from_length rest e) ∙ passed_nil (allowance - spent) spent room

  module _ (h : length rest ≡ 0 → ⊥) where
    pub all_spent : spent ≡ allowance → passed (allowance - spent) spent rest room ≡ propagating (Err Allowance) room
    all_spent e =
        let z : allowance - spent ≡ 0 = omega arith in
        ap (λ (a : ℕ). passed a spent rest room) z ∙ passed_spent spent rest room h

    module _ (l : spent ≤ allowance) (g : spent ≡ allowance → ⊥) where
      by_turn : (t : Result ℕ Refusal) → turn_of (reading_clause room rest) ≡ t
          → passed (allowance - spent) spent rest room
          ≡ on_or_stop t (room_of (reading_clause room rest) room)
          (λ n. passed (allowance - (spent + 1)) (spent + 1) (drop n rest) (room_of (reading_clause room rest) room))
      by_turn t e =
          let z : allowance - spent ≡ suc (allowance - suc spent) = omega (arith, g, l) in
          rw (z, add-one spent, ← e) (passed_clause (allowance - suc spent) spent rest room h)

      pub stops : (x : Refusal) → turn_of (reading_clause room rest) ≡ Err x
          → passed (allowance - spent) spent rest room ≡ propagating (Err x) (room_of (reading_clause room rest) room)
      stops x e = by_turn (Err x) e

      pub goes_on : (n : ℕ) → turn_of (reading_clause room rest) ≡ Ok n
          → passed (allowance - spent) spent rest room
          ≡ passed (allowance - (spent + 1)) (spent + 1) (drop n rest) (room_of (reading_clause room rest) room)
      goes_on n e = by_turn (Ok n) e

-- the pass, clause by clause
pub ruleset clause_by_clause = (none_left, all_spent, stops, goes_on, turn_inside, take_rest)

-- One pass of unit propagation: the clauses once, in order, with an allowance; and the call around it.
use Rattle.std.specs.Prelude.{ℕ, zero, suc, ◌-◌, Bool, true, false, cond, ◌&&◌, ◌||◌, List, [], ◌∷◌, eqb, ltb, ℤ, length, drop, set}
use Rattle.std.specs.Prelude.{replicate, Option, Some, None, Result, Ok, Err}
use Rattle.std.specs.List.{list_all}
use Rattle.cnf.specs.Words.{named}
use Rattle.propagate.specs.Clause.{wanted, value_at, reading_clause}
use Rattle.propagate.specs.declared.Verdict.{Verdict}
use Rattle.propagate.specs.declared.Verdict.TheVariants.{AllFalse, Sets, Passes}
use Rattle.propagate.specs.declared.Reading.{Reading}
use Rattle.line.specs.declared.Refusal.{Refusal}
use Rattle.line.specs.declared.Refusal.TheVariants.{Allowance, Words, Conflict, Given}

-- ---- what a pass answers, and its count, zero in a refusal

abbrev pub Propagated : Type 0
Propagated = Result ℕ Refusal

abbrev pub clauses_read : Propagated → ℕ
clauses_read (Ok n) = n
clauses_read (Err x) = 0

-- ---- a clause

-- where the pass goes on, by the words of the clause; or why it does not
abbrev pub turn_by : Verdict → ℕ → Result ℕ Refusal
turn_by AllFalse n = Err Conflict
turn_by (Sets v value) n = Ok n
turn_by Passes n = Ok n

abbrev pub turn_of : Option Reading → Result ℕ Refusal
turn_of None = Err Words
turn_of (Some r) = turn_by r.verdict r.words

-- the room behind the clause
abbrev pub room_by : Verdict → List ℕ → List ℕ
room_by (Sets v value) room = set room (v - 1) value
room_by AllFalse room = room
room_by Passes room = room

abbrev pub room_of : Option Reading → List ℕ → List ℕ
room_of None room = room
room_of (Some r) room = room_by r.verdict room

-- ---- the clauses

-- what a pass leaves
pub record Propagating : Type 0 where
  pub answer : Propagated
  pub room : List ℕ

abbrev pub propagating : Propagated → List ℕ → Propagating
propagating answer room = record { answer = answer; room = room }

abbrev pub on_or_stop : Result ℕ Refusal → List ℕ → (ℕ → Propagating) → Propagating
on_or_stop (Ok n) room on = on n
on_or_stop (Err x) room on = propagating (Err x) room

-- with an allowance for so many clauses more, so many read already, the words left and the room
unfoldable pub passed : ℕ → ℕ → List ℤ → List ℕ → Propagating
passed zero count [] room = propagating (Ok count) room
passed zero count (w ∷ ws) room = propagating (Err Allowance) room
passed (suc allowance) count [] room = propagating (Ok count) room
passed (suc allowance) count (w ∷ ws) room =
    let r : Option Reading = reading_clause room (w ∷ ws) in
    on_or_stop (turn_of r) (room_of r room) (λ n. passed allowance (suc count) (drop n (w ∷ ws)) (room_of r room))

-- ---- the literals that hold

abbrev pub unknowns : ℕ → List ℕ
unknowns n = replicate n 2

unfoldable pub all_unknown : List ℕ → Bool
all_unknown room = list_all (λ b. eqb b 2) room

-- whether a literal cannot be taken as true: it is 0, beyond the room, or of a variable given before, which then has a value
abbrev pub not_given : ℤ → List ℕ → Bool
not_given w room = eqb (named w) 0 || (ltb (length room) (named w) || ltb (value_at room (named w)) 2)

pub record Held : Type 0 where
  pub held : Bool
  pub room : List ℕ

unfoldable pub given_rest : List ℤ → List ℕ → Held
given_rest [] room = record { held = true; room = room }
given_rest (w ∷ ws) room =
    cond (not_given w room) (record { held = false; room = room }) (given_rest ws (set room (named w - 1) (wanted w)))

-- ---- the call: a refusal leaves the room as it came

abbrev pub settled : List ℕ → Propagated → List ℕ → Propagating
settled came (Ok n) room = propagating (Ok n) room
settled came (Err x) room = propagating (Err x) came

unfoldable pub propagated : List ℤ → List ℤ → ℕ → List ℕ → Propagating
propagated ws given allowance room =
    let g : Held = given_rest given room in
    let o : Propagating = passed allowance 0 ws g.room in
    cond (all_unknown room && g.held) (settled room o.answer o.room) (propagating (Err Given) room)

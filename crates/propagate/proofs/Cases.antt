-- The definition of a pass gives the worked cases' numbers, counts and rooms, by computation. Assumes nothing.
use mathlib.Core.Path.{◌≡◌, refl}
use mathlib.Core.List.{List, map}
use Rattle.line.specs.Refusal.{number_of}
use Rattle.cases.specs.Table.{Pass}
use Rattle.cases.specs.Agreed.{agreed}
use Rattle.propagate.specs.Clause.{with_literal, reading}
use Rattle.propagate.specs.Pass.{Propagating, passed, all_unknown, given_rest, propagated, clauses_read}

-- a case as the definition answers it
abbrev pub answered : Pass → Pass
answered k =
    let o : Propagating = propagated k.words k.given k.allowance k.room in
    record {
      words = k.words;
      given = k.given;
      allowance = k.allowance;
      room = k.room;
      number = number_of o.answer;
      clauses = clauses_read o.answer;
      left = o.room;
    }

-- every row is what the definition gives
abbrev pub AsWorked : List Pass → Type 0
AsWorked rows = map answered rows ≡ rows

pub agreed_right : AsWorked agreed.propagated
unfolding agreed with_literal reading passed all_unknown given_rest propagated
agreed_right = refl

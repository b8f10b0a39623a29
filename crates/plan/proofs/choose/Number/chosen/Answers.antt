-- `plan::choose::Number::chosen`: kind by kind, each over its places.
use Prim.Native.Nat.{ℕ, ◌-◌, ◌*◌, ◌^◌}
use mathlib.Core.Path.{sym, ap, ◌∙◌, subst}
use native.Mathlib.Omega.{arith}
use Rattle.split.specs.Choose.{lines, look}
use Rattle.plan.specs.Steps.{Places}
use Rattle.plan.proofs.Counts.{none_first}
use Rattle.plan.proofs.Places.{places_minuss, places_sminus, places_splus}
use Rattle.plan.proofs.choose.Number.chosen.Goals as goal

pub best_of-a-requires : goal.best_of-a-requires
best_of-a-requires c =
    let a = c.args.self in
    (omega arith, omega arith, sym (none_first lines (look a.work.now) a.n), places_splus a.n)

pub best_of-b-requires : goal.best_of-b-requires
best_of-b-requires c =
    let n = c.args.self.n in
    let b = c.best_of-a in
    let places = subst (λ (x : ℕ). Places 2 (2 * x - 1 - n) n) (sym ((c.power-whole.ensures.0 ∙ ap (λ (x : ℕ). 2 ^ x) c.bits.ensures.0)))
    (places_sminus n) in
    (omega arith, omega arith, b.ensures, places)

pub best_of-requires : goal.best_of-requires
best_of-requires c =
    let n = c.args.self.n in
    let b = c.best_of-b in
    let places = subst (λ (x : ℕ). Places 3 (x - 1 - n) n) (sym ((c.power-whole.ensures.0 ∙ ap (λ (x : ℕ). 2 ^ x) c.bits.ensures.0)))
    (places_minuss n) in
    (omega arith, omega arith, b.ensures, places)

pub returns : goal.returns
returns c = c.best_of.ensures

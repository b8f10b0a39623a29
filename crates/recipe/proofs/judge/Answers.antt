-- `recipe::judge` meets its contract: rules 4 to 6 are tests of the definition, and rule 7 asks whether the line claims what it gives.
-- Assumes nothing.
use mathlib.Core.Path.{ap, ◌∙◌, sym}
use mathlib.Core.Bool.{Bool, false, not}
use Prim.Native.Nat.{ℕ, ◌+◌}
use native.Mathlib.Omega.{arith}
use lib.IntN.{ℤ}
use borrow.Author.Tests.{eq-eqb, ne_eqb}
use Rattle.line.specs.Order.{Verdict, refuses}
use Rattle.line.specs.declared.Refusal.TheVariants.{Value}
use Rattle.line.proofs.Signed.{held}
use Rattle.line.proofs.Value.{gives_whole}
use Rattle.recipe.proofs.Claims.{claims_bits}
use Rattle.recipe.proofs.Walk.{judged_given}
use Rattle.recipe.proofs.judge.Goals as goal

abbrev answer : ℕ → ℤ → Bool → Verdict
answer number z b = refuses (not b) (Value number z)

pub returns-then-claimed-given : goal.returns-then-claimed-given
returns-then-claimed-given c =
    let a = c.args in
    let z = c.gives-given.result in
    let q = c.requires in
    sym (judged_given a.line a.i _ _ z (omega arith) (omega arith) (omega arith) (omega arith) (omega arith) (c.gives-given.ensures
    ∙ gives_whole a.line _ _ q.kind_bound.0 q.kind_bound.1 (q.by_index _ (omega arith)) (q.by_index _ (omega arith)))
    ∙ ap (answer (a.i + 1) z) (sym (claims_bits a.line.coefficient z q.kind_bound.2 c.gives-given.type_inv)
    ∙ eq-eqb _ _ c.if-claimed-given.true))

pub returns-else-claimed-given : goal.returns-else-claimed-given
returns-else-claimed-given c =
    let a = c.args in
    let z = c.gives-given.result in
    let q = c.requires in
    ap (λ (y : ℤ). answer (a.i + 1) y false) (held z c.gives-given.type_inv)
    ∙ sym (judged_given a.line a.i _ _ z (omega arith) (omega arith) (omega arith) (omega arith) (omega arith) (c.gives-given.ensures
    ∙ gives_whole a.line _ _ q.kind_bound.0 q.kind_bound.1 (q.by_index _ (omega arith)) (q.by_index _ (omega arith)))
    ∙ ap (answer (a.i + 1) z) (sym (claims_bits a.line.coefficient z q.kind_bound.2 c.gives-given.type_inv)
    ∙ ne_eqb _ _ c.if-claimed-given.false))

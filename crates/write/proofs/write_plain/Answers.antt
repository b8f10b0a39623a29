-- `write::write_plain`: the call where x is the variables 1 to w (proofs/Calls.antt). Assumes nothing.
use mathlib.Core.Path.{refl, sym, ◌∙◌}
use native.Mathlib.Omega.{arith}
use lib.ListN.{take}
use Rattle.write.proofs.Passes.{plain_front, plain_long}
use Rattle.write.proofs.Calls.{plain_is}
use Rattle.write.proofs.write_plain.Goals as goal

pub slice_bounds-write-end : goal.slice_bounds-write-end
slice_bounds-write-end c =
    let k = c.min-k in
    sym (plain_long k.result c.literals.new.out (omega arith) c.literals.ensures)

pub returns : goal.returns
returns c =
    let k = c.min-k in
    let a = c.args in
    let n = k.result in
    let x = take n c.literals.new.out in
    c.write.ensures
    ∙ plain_is a.c a.w n x _ a.recipe.now a.bits.now a.clauses.now (λ h. omega arith)
    (plain_front n c.literals.new.out (omega arith) c.literals.ensures) refl

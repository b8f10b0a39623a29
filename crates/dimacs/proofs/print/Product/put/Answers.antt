-- `dimacs::print::Product::put`: the rooms' lengths are known, and what stands in them is as planning leaves it. Assumes nothing.
use mathlib.Core.Path.{refl, sym, subst}
use native.Mathlib.Omega.{arith}
use lib.ListN.{replicate}
use Rattle.dimacs.specs.Steps.{PlannedFits}
use Rattle.dimacs.proofs.Planning.{planned_shown}
use Rattle.dimacs.specs.Sizes.{program_recipe}
use Rattle.dimacs.proofs.print.Product.put.Goals as goal

pub put_planned-requires : goal.put_planned-requires
put_planned-requires c = let a = c.args in
    let f =
    planned_shown a.self.c a.self.w c.room-work.result (replicate program_recipe 0) c.room-work.ensures refl c.plan-planned.result
    c.plan-planned.new.work c.plan-planned.new.recipe c.plan-planned.ensures in
    (subst (PlannedFits c.plan-planned.result) (sym c.plan-planned.auto.recipe) f.fits, omega arith)

pub returns : goal.returns
returns c = let a = c.args in
    let f =
    planned_shown a.self.c a.self.w c.room-work.result (replicate program_recipe 0) c.room-work.ensures refl c.plan-planned.result
    c.plan-planned.new.work c.plan-planned.new.recipe c.plan-planned.ensures in
    rw (sym f.text) c.put_planned.ensures

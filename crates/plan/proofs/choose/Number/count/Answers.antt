-- `plan::choose::Number::count`: a walk from the empty set.
use mathlib.Core.Path.{ap, ◌∙◌}
use native.Mathlib.Omega.{arith}
use lib.ListN.{length}
use lib.Seq.{take_all}
use Rattle.split.specs.Choose.{look}
use Rattle.split.specs.Reach.{adds, follow, reach}
use Rattle.plan.proofs.Walks.{walk_counts}
use Rattle.plan.proofs.choose.Number.count.Goals as goal

pub returns : goal.returns
returns c =
    let t = look c.args.self.work.now in
    let set = c.walk.new.set in
    c.len.ensures
    ∙ walk_counts t c.args.s c.args.self.n set
    (take_all (length set) set (omega arith) ∙ c.walk.ensures ∙ ap (adds (follow (reach t) c.args.s c.args.self.n)) c.clear.ensures)
    (omega arith)

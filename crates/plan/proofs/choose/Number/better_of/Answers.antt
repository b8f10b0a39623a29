-- `plan::choose::Number::better_of`: the first split, one that the counts rule out, and one that was counted.
use native.Mathlib.Omega.{arith}
use Rattle.split.specs.Choose.{lines, look}
use Rattle.plan.proofs.Counts.{found_first, found_less, found_no_less, hopeless_asks, is_hopeless, walk_asks}
use Rattle.plan.proofs.choose.Number.better_of.Goals as goal

pub count-c-requires : goal.count-c-requires
count-c-requires c = walk_asks c.requires c.args.self.known

pub returns-then-old-eq0 : goal.returns-then-old-eq0
returns-then-old-eq0 c =
    found_first c.requires lines (look c.args.self.work.now) c.args.b c.count-c.result c.if-old-eq0.true c.count-c.ensures

pub hopeless-requires : goal.hopeless-requires
hopeless-requires c = hopeless_asks c.requires c.args.self.known c.at-o.ensures.0 c.at-o.ensures.1

pub returns-then-hopeless : goal.returns-then-hopeless
returns-then-hopeless c =
    is_hopeless c.requires c.args.self.known c.at-o.ensures.0 c.at-o.ensures.1 c.args.b c.if-old-eq0.false
    (c.hopeless.ensures c.if-hopeless.true)

pub count-c-requires-2 : goal.count-c-requires-2
count-c-requires-2 c = walk_asks c.requires c.args.self.known

pub returns-then-c-fewest : goal.returns-then-c-fewest
returns-then-c-fewest c =
    found_less c.requires lines (look c.args.self.work.now) c.args.b c.count-c-2.result c.if-old-eq0.false c.count-c-2.ensures
    c.if-c-fewest.true

pub returns : goal.returns
returns c =
    found_no_less c.requires lines (look c.args.self.work.now) c.args.b c.if-old-eq0.false
    (omega (arith, c.count-c-2.ensures, c.if-c-fewest.false))

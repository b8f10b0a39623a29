-- `dimacs::put::Out::entries`: entry behind entry, each of at most 12 bytes. Assumes nothing.
use Rattle.std.proofs.Common.{arith, rules, pos}
use lib.ListN.{get_or}
use mir.Syntax.{w32}
use mir.Val.{SFits}
use mir.ValLaws.{to_z-of_z}
use Rattle.wording.proofs.Rows.{entries_more}
use Rattle.dimacs.proofs.Place.{puts_two}
use Rattle.dimacs.proofs.put.Out.entries.Goals as goal

pub loop-y-preserved : goal.loop-y-preserved
loop-y-preserved c = let l = c.loop-y in
    let ys = c.args.ys.now in
    let z = get_or ys l.y-index (pos 0) in
    let h : SFits w32 z = search rules in
    record {
      put = rw (entries_more ys l.y-index (pos 0) (omega arith)) (puts_two l.invariant.put (rw (to_z-of_z w32 z h) at c.entry.ensures.put));
      short = omega arith;
    }

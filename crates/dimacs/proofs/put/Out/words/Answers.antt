-- `dimacs::put::Out::words`: word behind word, each of at most 12 bytes. Assumes nothing.
use Rattle.std.proofs.Common.{arith, rules, pos}
use lib.ListN.{get_or}
use mir.Syntax.{w32}
use mir.Val.{SFits}
use mir.ValLaws.{to_z-of_z}
use Rattle.wording.proofs.Rows.{words_more}
use Rattle.dimacs.proofs.Place.{puts_two}
use Rattle.dimacs.proofs.put.Out.words.Goals as goal

pub loop-z-preserved : goal.loop-z-preserved
loop-z-preserved c = let l = c.loop-z in
    let ws = c.args.words.now in
    let z = get_or ws l.z-index (pos 0) in
    let h : SFits w32 z = search rules in
    record {
      put = rw (words_more ws l.z-index (pos 0) (omega arith)) (puts_two l.invariant.put (rw (to_z-of_z w32 z h) at c.word.ensures.put));
      short = omega arith;
    }

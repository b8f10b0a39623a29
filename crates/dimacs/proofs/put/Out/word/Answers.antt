-- `dimacs::put::Out::word`: the number, then the byte that its test for zero picks. Assumes nothing.
use Rattle.wording.proofs.Sign.{word_zero, word_other, zero_of, nonzero_of}
use Rattle.dimacs.proofs.Digits.{same_signed}
use Rattle.dimacs.proofs.Place.{puts_two}
use Rattle.dimacs.proofs.put.Out.word.Goals as goal
use Rattle.dimacs.proofs.put.Out.word.Goals.{then-z-eq0, else-z-eq0}

pub returns-clause-put : goal.returns-clause-put
returns-clause-put c = let z = c.args.z in
    let w = rw (same_signed z c.ranges.z) at c.signed.ensures in
    elim c.if-z-eq0.branch [
      | then-z-eq0 b ↦ rw (word_zero z (zero_of z c.ranges.z b.if-z-eq0.true)) (puts_two w (rw b.byte-is at c.byte.ensures))
      | else-z-eq0 b ↦ rw (word_other z (nonzero_of z b.if-z-eq0.false)) (puts_two w (rw b.byte-is at c.byte.ensures))
    ]

-- `dimacs::put::Out::entry`: a space, then the number, which has at most 11 bytes. Assumes nothing.
use Rattle.dimacs.proofs.Digits.{same_signed}
use Rattle.dimacs.proofs.Place.{puts_two}
use Rattle.dimacs.proofs.put.Out.entry.Goals as goal

pub returns-clause-put : goal.returns-clause-put
returns-clause-put c = puts_two c.byte.ensures (rw (same_signed c.args.y c.ranges.y) at c.signed.ensures)

-- `dimacs::put::Out::number`: one write behind the other; a number of 64 bits has at most twenty digits. Assumes nothing.
use Rattle.std.proofs.Common.{arith}
use Rattle.dimacs.proofs.Digits.{same_decimal}
use Rattle.dimacs.proofs.Place.{puts_two}
use Rattle.dimacs.proofs.put.Out.number.Goals as goal

pub returns-clause-put : goal.returns-clause-put
returns-clause-put c =
    puts_two c.bytes.ensures (puts_two (rw (same_decimal c.args.n (omega arith)) at c.decimal.ensures) c.byte.ensures)

-- `dimacs::put::Out::two_numbers`: one write behind the other. Assumes nothing.
use Rattle.dimacs.proofs.Place.{puts_two}
use Rattle.dimacs.proofs.put.Out.two_numbers.Goals as goal

pub returns-clause-put : goal.returns-clause-put
returns-clause-put c = puts_two c.number.ensures.put c.number-2.ensures.put

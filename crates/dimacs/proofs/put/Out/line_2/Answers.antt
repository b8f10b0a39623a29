-- `dimacs::put::Out::line_2`: one write behind the other. Assumes nothing.
use Rattle.wording.specs.File.{line_2}
use Rattle.dimacs.proofs.Place.{puts_two}
use Rattle.dimacs.proofs.put.Out.line_2.Goals as goal

pub returns-clause-put : goal.returns-clause-put
unfolding line_2
returns-clause-put c = puts_two c.bytes.ensures (puts_two c.entries.ensures.put c.byte.ensures)

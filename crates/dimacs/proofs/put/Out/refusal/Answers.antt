-- `dimacs::put::Out::refusal`: the refusal's number is printed. Assumes nothing.
use Rattle.wording.specs.File.{refused_text}
use Rattle.dimacs.proofs.put.Out.refusal.Goals as goal

pub returns : goal.returns
unfolding refused_text
returns c = rw c.number.ensures.0 at c.number-2.ensures.put

-- `line::Line::read` meets its contract. Assumes nothing.
use mathlib.Core.Path.{ap, ◌∙◌}
use Rattle.line.specs.Line.{line_of}
use Rattle.line.proofs.Line.read.Goals as goal

pub returns : goal.returns
returns c = c.unpacked.ensures ∙ ap line_of c.joined.ensures

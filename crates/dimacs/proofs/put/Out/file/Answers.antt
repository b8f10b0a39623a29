-- `dimacs::put::Out::file`: one write behind the other. Assumes nothing.
use Rattle.wording.specs.File.{line_1, line_3, file_text}
use Rattle.dimacs.proofs.Place.{puts_two}
use Rattle.dimacs.proofs.put.Out.file.Goals as goal

pub returns : goal.returns
unfolding line_1 line_3 file_text
returns c = puts_two c.two_numbers.ensures.put
    (puts_two c.line_2.ensures.put (puts_two c.two_numbers-2.ensures.put c.words.ensures.put))

-- `write::lines::write_lines`: the lines one by one (proofs/CodeLines.antt). Assumes nothing.
use mathlib.Core.List.{[], ◌∷◌}
use lib.ListN.{take}
use Rattle.product.specs.Lines.{columns, encoded}
use Rattle.product.specs.Product.{lines_from}
use Rattle.gates.specs.Code.{bits_of}
use Rattle.write.proofs.CodeLines.{UptoLine}
use Rattle.write.proofs.lines.write_lines.Given as goal

abbrev pub invariant-loop-i : goal.invariant-loop-i
invariant-loop-i l = UptoLine (encoded (columns l.w) (lines_from l.recipe 0 l.n) (bits_of (take l.w l.initial.scratch) ∷ []) l.next) l.w
    l.recipe l.n l.next l.initial.room l.scratch l.room l.place l.i

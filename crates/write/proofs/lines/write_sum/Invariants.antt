-- `write::lines::write_sum`: the columns one by one (proofs/Sums.antt). Assumes nothing.
use Rattle.gates.specs.Code.{bit_of, bits_of}
use Rattle.product.specs.Lines.{adder}
use Rattle.write.proofs.Sums.{UptoColumn}
use Rattle.write.proofs.lines.write_sum.Given as goal

abbrev pub invariant-loop-j : goal.invariant-loop-j
invariant-loop-j l = UptoColumn (adder (bits_of l.left) (bits_of l.right) (bit_of l.first) l.initial.place.next) (bits_of l.left)
    (bits_of l.right) l.initial.place l.initial.sums l.initial.room l.sums l.room l.carry l.place l.j

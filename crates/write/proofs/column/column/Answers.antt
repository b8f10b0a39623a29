-- `write::column::column`: the next free variables of its sum and its carry are no more than its own.
use Rattle.write.proofs.CodeColumns.{sum_fits, carry_fits}
use native.Mathlib.Omega.{arith}
use Rattle.line.specs.Limits.{most_next}
use Rattle.write.proofs.column.column.Goals as goal

pub sum_bit-s-requires : goal.sum_bit-s-requires
sum_bit-s-requires c =
    let a = c.args in
    let i = c.inputs_of-i in
    (c.requires.0, sum_fits a.left a.right a.carry a.next most_next i.result i.ensures a.last c.requires.1)

pub carry_bit-t-requires : goal.carry_bit-t-requires
carry_bit-t-requires c =
    let a = c.args in
    let i = c.inputs_of-i in
    let m = c.sum_bit-s in (
      i.ensures.few,
      omega (arith, c.requires.0, m.ensures.grows),
      carry_fits a.left a.right a.carry a.next most_next i.result i.ensures (rw c.if-last.false at c.requires.1)
          m.result.next m.ensures.next,
    )

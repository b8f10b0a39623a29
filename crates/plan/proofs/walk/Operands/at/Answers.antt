-- `plan::walk::Operands::at`: kind by kind, with the power at hand.
use native.Mathlib.Nat.{div-le_self}
use native.Mathlib.Omega.{arith}
use lib.Pow.{pow_mono}
use Rattle.line.proofs.Number.{lt_bits}
use Rattle.plan.proofs.Formulas.{below_top, by_minuss, by_sminus, by_splus, room_high}
use Rattle.plan.proofs.walk.Operands.at.Goals as goal

pub returns-in-1 : goal.returns-in-1
returns-in-1 c = by_splus c.requires c.power-q.ensures.0 c.in-1.is

pub overflow_add-result : goal.overflow_add-result
overflow_add-result c =
    omega (arith, div-le_self c.args.n c.power-q.result, lt_bits 32 c.args.n (omega (arith, c.requires.few)))

pub returns-in-2 : goal.returns-in-2
returns-in-2 c = by_sminus c.requires c.power-q.ensures.0 c.in-2.is

pub overflow_sub-left : goal.overflow_sub-left
overflow_sub-left c =
    let top = below_top c.requires c.power-q.ensures.0 (omega arith) c.bits-m.ensures.0 in
    omega (arith, c.power.ensures.0, c.power-q.ensures.0, pow_mono {i = c.args.p} {j = c.bits-m.result} (omega (arith, top)))

pub overflow_sub-m : goal.overflow_sub-m
overflow_sub-m c = omega (arith, below_top c.requires c.power-q.ensures.0 (omega arith) c.bits-m.ensures.0)

pub overflow_sub-right-in_default : goal.overflow_sub-right-in_default
overflow_sub-right-in_default c =
    omega (arith, c.power-in_default.ensures.0, room_high c.requires c.power-q.ensures.0 (omega arith) c.bits-m.ensures.0)

pub returns-in_default : goal.returns-in_default
returns-in_default c =
    by_minuss c.requires c.power-q.ensures.0 (omega arith) c.bits-m.ensures.0 c.power.ensures.0 c.power-in_default.ensures.0

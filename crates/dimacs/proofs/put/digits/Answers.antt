-- `dimacs::put::digits`: between which powers of ten the number is. Assumes nothing.
use mathlib.Core.Path.{sym}
use native.Mathlib.Nat.{pow-suc}
use native.Mathlib.Omega.{arith}
use Rattle.dimacs.proofs.Digits.{digits_are}
use Rattle.dimacs.proofs.put.digits.Goals as goal

pub returns-in-0-to-9 : goal.returns-in-0-to-9
returns-in-0-to-9 c = sym (digits_are c.args.n 0 (omega arith) (omega arith) (omega arith))

pub returns-in-10-to-99 : goal.returns-in-10-to-99
returns-in-10-to-99 c = sym (digits_are c.args.n 1 (omega arith) (omega arith) (omega arith))

pub returns-in_default : goal.returns-in_default
returns-in_default c = let k = c.ilog10.result in
    omega (arith, digits_are c.args.n k (omega arith) (omega arith) (omega (arith, pow-suc 10 k)))

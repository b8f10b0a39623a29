-- The value that a word wants, as the machine finds it and as assignments have it. Assumes nothing.
use mathlib.Core.Path.{◌≡◌, refl, sym, ap}
use mathlib.Core.Bool.{Bool, true, false, not}
use Prim.Native.Nat.{suc, ◌≤◌}
use native.Mathlib.Omega.{arith}
use lib.IntN.{ℤ, pos, negsuc}
use Rattle.cnf.specs.Clause.{Assignment, flips, value}
use Rattle.cnf.specs.Words.{named, literal_of_word}
use Rattle.propagate.specs.Clause.{wanted, byte}

pub wanted_le : (z : ℤ) → wanted z ≤ 1
wanted_le (pos v) = omega arith
wanted_le (negsuc v) = omega arith

pub byte_le : (b : Bool) → byte b ≤ 1
byte_le true = omega arith
byte_le false = omega arith

pub not-true : (b : Bool) → (b ≡ true → ⊥) → b ≡ false
not-true true f = absurd (f refl)
not-true false f = refl

-- the value at which a literal is true
pub value_of_true : (s b : Bool) → flips s b ≡ true → not s ≡ b
value_of_true true true f = f
value_of_true true false f = refl
value_of_true false true f = refl
value_of_true false false f = sym f

-- a literal that is true in an assignment, as the word wants it
pub wanted_true : (α : Assignment) (g : ℤ) → value α (literal_of_word g) ≡ true → byte (α (named g)) ≡ wanted g
wanted_true α (pos v) e = ap byte (sym (value_of_true false (α v) e))
wanted_true α (negsuc v) e = ap byte (sym (value_of_true true (α (suc v)) e))

-- A value flipped by a sign: twice, by a negated sign, of false, and by itself. Assumes nothing.
use mathlib.Core.Path.{◌≡◌, refl}
use mathlib.Core.Bool.{Bool, true, false, not}
use Rattle.cnf.specs.Clause.{flips}

pub not_twice : (b : Bool) → not (not b) ≡ b
not_twice true = refl
not_twice false = refl

pub flips_not : (s b : Bool) → flips (not s) b ≡ not (flips s b)
flips_not true true = refl
flips_not true false = refl
flips_not false b = refl

pub flips_flips : (o s b : Bool) → flips (flips o s) b ≡ flips o (flips s b)
flips_flips true s b = flips_not s b
flips_flips false s b = refl

pub flips_false : (b : Bool) → flips b false ≡ b
flips_false true = refl
flips_false false = refl

pub flips_self : (b : Bool) → flips b b ≡ false
flips_self true = refl
flips_self false = refl

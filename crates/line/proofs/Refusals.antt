-- No refusal has the number of a success, and only those of a line's rules, 4 to 7, tell a line or a value. Assumes nothing.
use mathlib.Core.Path.{◌≡◌, refl}
use Prim.Native.Nat.{◌≤◌, ◌<◌}
use lib.IntN.{pos}
use native.Mathlib.Omega.{arith}
use Rattle.line.specs.Refusal.{refusal_number, refusal_line, refusal_value}
use Rattle.line.specs.declared.Refusal.{Refusal}
use Rattle.line.specs.declared.Refusal.TheVariants.{Constant, Width, Length, Form, Operand, Even, Value, Product, BitRoom}
use Rattle.line.specs.declared.Refusal.TheVariants.{ClauseRoom, WorkRoom, RecipeRoom, Input, Literals, Variables, Allowance, Words}
use Rattle.line.specs.declared.Refusal.TheVariants.{Conflict, Given}

pub refusal_above_0 : (x : Refusal) → 0 < refusal_number x
refusal_above_0 Constant = omega arith
refusal_above_0 Width = omega arith
refusal_above_0 Length = omega arith
refusal_above_0 (Form line) = omega arith
refusal_above_0 (Operand line) = omega arith
refusal_above_0 (Even line) = omega arith
refusal_above_0 (Value line given) = omega arith
refusal_above_0 Product = omega arith
refusal_above_0 BitRoom = omega arith
refusal_above_0 ClauseRoom = omega arith
refusal_above_0 WorkRoom = omega arith
refusal_above_0 RecipeRoom = omega arith
refusal_above_0 Input = omega arith
refusal_above_0 Literals = omega arith
refusal_above_0 Variables = omega arith
refusal_above_0 Allowance = omega arith
refusal_above_0 Words = omega arith
refusal_above_0 Conflict = omega arith
refusal_above_0 Given = omega arith

pub number_only : (x : Refusal) → (4 ≤ refusal_number x → refusal_number x ≤ 7 → ⊥) → (refusal_line x ≡ 0) × (refusal_value x ≡ pos 0)
number_only Constant h = (refl, refl)
number_only Width h = (refl, refl)
number_only Length h = (refl, refl)
number_only (Form line) h = absurd (h (omega arith) (omega arith))
number_only (Operand line) h = absurd (h (omega arith) (omega arith))
number_only (Even line) h = absurd (h (omega arith) (omega arith))
number_only (Value line given) h = absurd (h (omega arith) (omega arith))
number_only Product h = (refl, refl)
number_only BitRoom h = (refl, refl)
number_only ClauseRoom h = (refl, refl)
number_only WorkRoom h = (refl, refl)
number_only RecipeRoom h = (refl, refl)
number_only Input h = (refl, refl)
number_only Literals h = (refl, refl)
number_only Variables h = (refl, refl)
number_only Allowance h = (refl, refl)
number_only Words h = (refl, refl)
number_only Conflict h = (refl, refl)
number_only Given h = (refl, refl)

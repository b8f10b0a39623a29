-- What a refusal tells: the documents' number, the line that is bad, counted from 1, and the value that this line really gives (document
-- 02 c). A refusal that speaks of no line tells line 0, and one that speaks of no value tells 0.
use Rattle.std.specs.Prelude.{ℕ, ℤ, pos, Result, Ok, Err}
use Rattle.line.specs.declared.Told.{Told}
use Rattle.line.specs.declared.Refusal.{Refusal}
use Rattle.line.specs.declared.Refusal.TheVariants.{Constant, Width, Length, Form, Operand, Even, Value, Product, BitRoom}
use Rattle.line.specs.declared.Refusal.TheVariants.{ClauseRoom, WorkRoom, RecipeRoom, Input, Literals, Variables, Allowance, Words}
use Rattle.line.specs.declared.Refusal.TheVariants.{Conflict, Given}

-- a number and a line, with no value
abbrev pub about : ℕ → ℕ → Told
about number line = record { number = number; line = line; value = pos 0 }

abbrev pub told : Refusal → Told
told Constant = about 1 0
told Width = about 2 0
told Length = about 3 0
told (Form line) = about 4 line
told (Operand line) = about 5 line
told (Even line) = about 6 line
told (Value line given) = record { number = 7; line = line; value = given }
told Product = about 8 0
told BitRoom = about 9 0
told ClauseRoom = about 10 0
told WorkRoom = about 11 0
told RecipeRoom = about 12 0
told Input = about 13 0
told Literals = about 14 0
told Variables = about 15 0
told Allowance = about 20 0
told Words = about 21 0
told Conflict = about 22 0
told Given = about 26 0

abbrev pub refusal_number : Refusal → ℕ
refusal_number x = (told x).number

abbrev pub refusal_line : Refusal → ℕ
refusal_line x = (told x).line

abbrev pub refusal_value : Refusal → ℤ
refusal_value x = (told x).value

-- what success tells
abbrev pub nothing : Told
nothing = about 0 0

-- what an answer tells, of whatever a success answers
abbrev pub told_of : {A : Type 0} → Result A Refusal → Told
told_of (Ok a) = nothing
told_of (Err x) = told x

-- its number, 0 for success
abbrev pub number_of : {A : Type 0} → Result A Refusal → ℕ
number_of a = (told_of a).number

-- The definition of checking gives the worked cases' numbers, lines and values, by computation. Assumes nothing.
use mathlib.Core.Path.{◌≡◌, refl}
use mathlib.Core.List.{List, map}
use Rattle.line.specs.Refusal.{told_of}
use Rattle.line.specs.Number.{halvings_by, twos, odd_part}
use Rattle.line.specs.Line.{kind_of, gives}
use Rattle.line.specs.declared.Told.{Told}
use Rattle.recipe.specs.Check.{claims, judged, lines_judged, form_judged, recipe_judged, checked}
use Rattle.cases.specs.Table.{Checked}
use Rattle.cases.specs.Bench.{bench}
use Rattle.cases.specs.Agreed.{agreed}

-- what the definition tells of the case
abbrev told : Checked → Told
told k = told_of (checked k.c k.recipe)

-- the case as the definition answers it
abbrev pub answered : Checked → Checked
answered k = record { c = k.c; recipe = k.recipe; number = (told k).number; line = (told k).line; value = (told k).value }

abbrev pub AsWorked : List Checked → Type 0
AsWorked cases = map answered cases ≡ cases

pub bench_right : AsWorked bench.checked
unfolding bench halvings_by twos odd_part kind_of gives claims judged lines_judged form_judged recipe_judged checked
bench_right = refl

pub agreed_right : AsWorked agreed.checked
unfolding agreed halvings_by twos odd_part kind_of gives claims judged lines_judged form_judged recipe_judged checked
agreed_right = refl

-- `line::Line::gives` meets its contract: each kind's sum or difference is what the kind gives. Assumes nothing.
use mathlib.Core.Path.{◌∙◌}
use native.Mathlib.Omega.{arith}
use mir.Syntax.{w64}
use mir.ValLaws.{to_z_pos}
use Rattle.std.proofs.Common.{rules}
use Rattle.line.proofs.Value.{gives_splus, gives_sminus, gives_minuss}
use Rattle.line.proofs.Signed.{held}
use Rattle.line.proofs.Line.gives.Goals as goal

pub returns-in-1 : goal.returns-in-1
returns-in-1 c =
    let h = c.shifted.ensures in
    to_z_pos w64 _ (omega (arith, h.1)) ∙ gives_splus _ _ _ _ c.shifted.result c.in-1.is h.0

pub returns-in-2 : goal.returns-in-2
returns-in-2 c =
    held c.difference.result c.difference.type_inv ∙ c.difference.ensures
    ∙ gives_sminus _ _ _ _ c.shifted-in-2.result c.in-2.is c.shifted-in-2.ensures.0

pub returns-in_default : goal.returns-in_default
returns-in_default c =
    held c.difference-in_default.result c.difference-in_default.type_inv ∙ c.difference-in_default.ensures
    ∙ gives_minuss _ _ _ _ c.shifted-in_default.result (λ e. search rules) (λ e. search rules) c.shifted-in_default.ensures.0

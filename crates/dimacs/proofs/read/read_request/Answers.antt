-- `dimacs::read::read_request`: what follows the digits is the rest of the text. Assumes nothing.
use Rattle.std.proofs.Common.{ap, ap₂, ◌∙◌, arith, drop}
use Rattle.std.proofs.lemmas.Grind.{common_steps}
use Rattle.std.proofs.lemmas.List.{drop-drop, take_rest}
use Rattle.wording.specs.Decimal.{value_of}
use Rattle.wording.specs.Request.{width_asked}
use Rattle.wording.proofs.Asking.{request_on}
use Rattle.dimacs.proofs.read.read_request.Goals as goal

pub returns-in-1-to-5-eq32 : goal.returns-in-1-to-5-eq32
returns-in-1-to-5-eq32 c = let s = c.args.s.now in
    let a = c.front.result in
    let t = c.split_at.result.1.now in
    c.read_width.ensures
    ∙ ap₂ width_asked (c.value.ensures ∙ ap value_of c.split_at.ensures.front)
    (take_rest t 1 ∙ ap (drop 1) c.split_at.ensures.back ∙ drop-drop 1 a s)
    ∙ request_on s a c.front.ensures.0 (omega arith) (omega arith) (omega arith) (grind (arith, common_steps))

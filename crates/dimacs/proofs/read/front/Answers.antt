-- `dimacs::read::front`: the chain counts the digits in front. Assumes nothing.
use Rattle.std.proofs.Common.{rules, tests, ◌∙◌, sym, arith}
use Rattle.std.specs.Char.{is_ascii_digit}
use Rattle.std.proofs.lemmas.Iterator.{YieldsList-from_slice}
use Rattle.std.proofs.lemmas.Iterator.Consumers.{count_from_yields_List}
use Rattle.std.proofs.lemmas.Iterator.Search.{YieldsList-from_take_while}
use Rattle.std.proofs.lemmas.List.Folds.{length-prefix_len}
use Rattle.std.proofs.lemmas.List.Sums.{prefix_len-le-length}
use Rattle.wording.proofs.Asking.{front_digits}
use Rattle.dimacs.proofs.read.front.Goals as goal

pub returns : goal.returns
returns c = let s = c.args.s.now in
    let e = count_from_yields_List c.take_while.result _ c.count.ensures.ran
    (YieldsList-from_take_while _ is_ascii_digit (YieldsList-from_slice s (cc)) c.take_while.ensures.closure c.take_while.ensures.done
    (λ x b q k. search (rules, tests)))
    ∙ length-prefix_len is_ascii_digit s in
    (e ∙ sym (front_digits s), omega (arith, e, prefix_len-le-length is_ascii_digit s))

-- `write::write_product`: tests 15, 9 and 10 by what the lines need, and then the pass that writes. Assumes nothing.
use Rattle.std.specs.Prelude.{◌≡◌, Err}
use Rattle.std.proofs.Common.{rules}
use mathlib.Core.Path.{ap, ◌∙◌}
use Rattle.product.specs.Write.{Written, writing}
use native.Mathlib.Omega.{arith}
use lib.ListN.{length}
use Rattle.product.proofs.Tests.{kept_fits}
use Rattle.product.specs.Bit.{given}
use Rattle.product.specs.Product.{product_made, lines_from}
use Rattle.write.proofs.Passes.{needs_of, needs_tested, need_refused, both_fit}
use Rattle.write.proofs.write_product.Goals as goal

pub returns-in_err-test_needs : goal.returns-in_err-test_needs
returns-in_err-test_needs c =
    let a = c.args in
    let x = c.in_err-test_needs.field-0.0 in
    let e : ◌≡◌ {A = Written} c.from_residual.result (Err x) = search rules in
    let s = a.call in
    let p = product_made s.t (lines_from s.recipe.now 0 s.n) (given s.x.now) s.first in
    let needs = needs_of s.recipe.now s.n s.t s.first s.x.now c.counted-need.result s.first_pos s.fit c.counted-need.ensures in
    ap (λ (o : Written). writing o a.bits.now a.clauses.now) e
    ∙ need_refused p s.size a.bits.now a.clauses.now x
    (needs_tested s.first s.x.now p c.counted-need.result needs s.size (length a.bits.now) (length a.clauses.now) _
    (omega (arith, c.from.ensures, c.from-2.ensures)) _ c.test_needs.ensures c.in_err-test_needs.was)

pub pass-done-requires : goal.pass-done-requires
pass-done-requires c =
    let a = c.args in
    let s = a.call in
    let p = product_made s.t (lines_from s.recipe.now 0 s.n) (given s.x.now) s.first in
    let needs = needs_of s.recipe.now s.n s.t s.first s.x.now c.counted-need.result s.first_pos s.fit c.counted-need.ensures in
    let f = kept_fits p s.size (length a.bits.now) (length a.clauses.now)
    (needs_tested s.first s.x.now p c.counted-need.result needs s.size (length a.bits.now) (length a.clauses.now) _
    (omega (arith, c.from.ensures, c.from-2.ensures)) _ c.test_needs.ensures c.in_ok-test_needs.was) in
    (omega (arith, needs.first_below, f.next_fits), f.next_fits)

pub returns : goal.returns
returns c =
    let a = c.args in
    let s = a.call in
    let d = c.pass-done in
    let p = product_made s.t (lines_from s.recipe.now 0 s.n) (given s.x.now) s.first in
    let needs = needs_of s.recipe.now s.n s.t s.first s.x.now c.counted-need.result s.first_pos s.fit c.counted-need.ensures in
    both_fit p s.size a.bits.now a.clauses.now
    (needs_tested s.first s.x.now p c.counted-need.result needs s.size (length a.bits.now) (length a.clauses.now) _
    (omega (arith, c.from.ensures, c.from-2.ensures)) _ c.test_needs.ensures c.in_ok-test_needs.was)
    s.first d.result _ _ c.requires d.ensures

-- `write::write`: the tests, and behind them the product (proofs/Calls.antt). Assumes nothing.
use Prim.Native.Nat.{ℕ, ◌*◌}
use mathlib.Core.Path.{sym, ap, ◌∙◌}
use native.Mathlib.Omega.{arith}
use Rattle.line.specs.Number.{bit_length}
use Rattle.write.proofs.Calls.{fewer, can_write, all_passed}
use Rattle.write.proofs.write.Goals as goal

pub invariant_of-call : goal.invariant_of-call
invariant_of-call c =
    let a = c.args in
    let t = c.twos in
    let k = can_write a.c a.w a.x.now a.first a.recipe.now (sym c.test_inputs.ensures ∙ c.in_ok-test_inputs.was) t.result
    c.bit_length.result t.ensures.0 (c.bit_length.ensures.0 ∙ ap (λ (n : ℕ). bit_length (a.c * n)) c.largest.ensures.0) in
    record { lines = fewer k.lines (omega arith); width = k.width; fit = k.fit; first_pos = k.first_pos; few_bits = k.few_bits }

pub write_product-requires : goal.write_product-requires
write_product-requires c =
    let a = c.args in
    let t = c.twos in
    let k = can_write a.c a.w a.x.now a.first a.recipe.now (sym c.test_inputs.ensures ∙ c.in_ok-test_inputs.was) t.result
    c.bit_length.result t.ensures.0 (c.bit_length.ensures.0 ∙ ap (λ (n : ℕ). bit_length (a.c * n)) c.largest.ensures.0) in
    k.bits

pub returns : goal.returns
returns c =
    let a = c.args in
    let t = c.twos in
    c.write_product.ensures
    ∙ all_passed a.c a.w a.x.now a.first a.recipe.now (sym c.test_inputs.ensures ∙ c.in_ok-test_inputs.was) t.result c.bit_length.result
    t.ensures.0 (c.bit_length.ensures.0 ∙ ap (λ (n : ℕ). bit_length (a.c * n)) c.largest.ensures.0) a.bits.now a.clauses.now

-- `write::Call::counted`: the pass over the variables 1 to w, in no room. Assumes nothing.
use Prim.Native.Nat.{ℕ, ◌+◌}
use mathlib.Core.Path.{sym, ap, ap₂, subst, ◌∙◌}
use mathlib.Core.List.{List}
use native.Mathlib.Omega.{arith}
use native.Mathlib.Numerals.{add-one}
use lib.IntN.{ℤ}
use lib.ListN.{length, take}
use Rattle.product.specs.Bit.{given, numbered}
use Rattle.product.specs.Product.{product_made, lines_from}
use Rattle.product.specs.Write.{unfit}
use Rattle.product.proofs.Given.{unfit_of, numbered_fit}
use Rattle.write.specs.Rooms.{Writable, CountsAre}
use Rattle.write.proofs.Passes.{plain_front, plain_long, count_fits}
use Rattle.write.proofs.Call.counted.Goals as goal

pub invariant_of-call : goal.invariant_of-call
invariant_of-call c =
    let s = c.args.self in
    let w = length s.x.now in
    let long = plain_long w c.literals.new.out s.width c.literals.ensures in
    let front = plain_front w c.literals.new.out s.width c.literals.ensures in
    record {
      lines = subst (λ (k : ℕ). Writable k s.recipe.now s.n) (sym long) s.lines;
      width = omega (arith, long, s.width);
      fit = ap₂ (λ (n : ℕ) (y : List ℤ). unfit n y) (add-one w) front ∙ unfit_of _ (numbered 1 w) (numbered_fit w);
      first_pos = omega arith;
      few_bits = omega arith;
    }

pub pass-requires : goal.pass-requires
pass-requires c =
    let s = c.args.self in
    let w = length s.x.now in
    let x = take w c.literals.new.out in
    let long = plain_long w c.literals.new.out s.width c.literals.ensures in
    let lines = subst (λ (k : ℕ). Writable k s.recipe.now s.n) (sym long) s.lines in (
      omega (arith, s.width),
      omega (
        arith,
        count_fits s.recipe.now s.n x (omega (arith, long, s.width)) lines,
        ap (λ (k : ℕ). (product_made 0 (lines_from s.recipe.now 0 s.n) (given x) (k + 1)).next) long,
      ),
    )

pub returns : goal.returns
returns c =
    let s = c.args.self in
    let w = length s.x.now in
    subst (λ (x : List ℤ). CountsAre (product_made 0 (lines_from s.recipe.now 0 s.n) (given x) (w + 1)) (w + 1) c.pass.result)
    (plain_front w c.literals.new.out s.width c.literals.ensures) c.pass.ensures.counts

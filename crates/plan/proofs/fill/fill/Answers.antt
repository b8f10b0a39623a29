-- `plan::fill::fill`: before the length m all shorter ones are filled.
use Prim.Native.Nat.{ℕ, ◌+◌, ◌-◌, ◌<◌}
use mathlib.Core.Path.{◌≡◌, refl, ◌∙◌, subst}
use native.Mathlib.Omega.{arith}
use lib.ListN.{length, set, length-set}
use lib.Pow.{pow_pos, pow_mono}
use Rattle.line.specs.Limits.{most_bits}
use Rattle.split.specs.Choose.{line_count, lines, split_of}
use Rattle.plan.specs.Steps.{Filled}
use Rattle.split.proofs.Bound.{lines_1}
use Rattle.split.proofs.Choose.{split_1}
use Rattle.plan.proofs.Fills.{filled_again, filled_holds, filled_next, filled_one, filled_zero}
use Rattle.plan.proofs.fill.fill.Goals as goal

pub loop-m-init : goal.loop-m-init
loop-m-init c =
    let w = c.args.work.now in
    let some : 0 < length w = omega (arith, c.requires.2, pow_pos (c.args.top - 1)) in (
      filled_again split_of w (set w 0 0) 1 (filled_one split_of (split_1 lines) w some),
      filled_zero (line_count split_of) (lines_1 split_of) _ refl,
      omega (arith, c.requires.0),
      refl,
    )

pub fill_length-requires : goal.fill_length-requires
fill_length-requires c =
    let a = c.args in
    let l = c.loop-m in
    let v = l.invariant in
    let le = c.loop-m-test.true in (
      omega arith,
      omega (arith, c.requires.1),
      omega (arith, c.requires.2, v.0.same, length-set a.work.now 0 0, pow_mono {i = l.m - 1} {j = a.top - 1} (omega arith)),
      omega (arith, v.3, pow_mono {i = l.m - 1} {j = most_bits - 1} (omega (arith, c.requires.1))),
      filled_again split_of (set a.work.now 0 0) l.work (l.m - 1) v.0,
      v.1,
    )

pub loop-m-preserved : goal.loop-m-preserved
loop-m-preserved c =
    let w = set c.args.work.now 0 0 in
    let l = c.loop-m in
    let v = l.invariant in
    let f = c.fill_length in
    let e : l.m ≡ l.m + 1 - 1 = omega arith in (
      subst (λ (k : ℕ). Filled split_of w f.new.work k) e
          (filled_next split_of l.m (omega arith) w l.work f.new.work v.0 f.ensures.0),
      subst (λ (k : ℕ). Filled (line_count split_of) f.new.counts f.new.counts k) e
          (filled_again (line_count split_of) l.counts f.new.counts l.m f.ensures.1),
      omega arith,
      f.ensures.1.same ∙ v.3,
    )

pub returns : goal.returns
returns c =
    let l = c.loop-m in
    filled_holds split_of c.args.work.now l.work c.args.top c.requires.0 c.requires.2
    (subst (λ (k : ℕ). Filled split_of (set c.args.work.now 0 0) l.work k) {x = l.m - 1} {y = c.args.top} (omega arith) l.invariant.0)

pub returns-2 : goal.returns-2
returns-2 c =
    let l = c.loop-m in
    let w = c.fill_length.new.work in
    filled_holds split_of c.args.work.now w c.args.top c.requires.0 c.requires.2
    (subst (λ (k : ℕ). Filled split_of (set c.args.work.now 0 0) w k) {x = l.m} {y = c.args.top} (omega arith)
    (filled_next split_of l.m (omega arith) (set c.args.work.now 0 0) l.work w l.invariant.0 c.fill_length.ensures.0))

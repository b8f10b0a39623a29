-- `plan::choose::Number::best_of`: the bits of rest are the places from p on.
use Prim.Native.Nat.{ℕ, ◌+◌, ◌*◌, ◌/◌, ◌^◌, ◌≤◌}
use mathlib.Core.Path.{◌≡◌, refl, sym, ap, ◌∙◌}
use native.Mathlib.Omega.{arith}
use mathlib.Core.List.{List}
use Prim.Native.Nat.{◌<◌}
use Rattle.line.specs.Line.{kind_of}
use Rattle.line.specs.Number.{twos}
use Rattle.split.specs.Choose.{best_below, better, lines, look}
use Rattle.split.specs.Split.{legal_at}
use Rattle.split.specs.declared.Best.{Best}
use Rattle.plan.specs.Steps.{Known, Places, Splits}
use Rattle.plan.proofs.Counts.{best_next, first_place}
use Rattle.plan.proofs.Places.{next_legal, next_short, rest_next, skip_past, skip_to}
use Rattle.plan.proofs.choose.Number.best_of.Goals as goal

-- the next place is a split's
next : {work counts : List ℕ} {n : ℕ} (k places p rest z : ℕ) → Known work counts n → 1 ≤ k → k ≤ 3 → Places k places n → 1 ≤ p
    → rest ≡ places / 2 ^ p → 0 < rest → z ≡ twos rest → Splits k (p + z) n
next {work} {counts} {n} k places p rest z h one three pl pos e some is =
    let legal = next_legal places p rest e lines (look work) n k h.few one three pl pos some in
    let short = next_short places p rest e lines (look work) n k h.few one three pl pos some in
    record {
      big = h.big;
      odd = h.odd;
      few = h.few;
      short = omega (arith, h.few);
      one = one;
      three = three;
      is_legal = ap (λ (x : ℕ). legal_at (kind_of k) (p + x) n) is ∙ legal;
    }

pub loop-rest-init : goal.loop-rest-init
loop-rest-init c =
    let a = c.args in (
      c.requires.2 ∙ sym (first_place lines (look a.self.work.now) a.self.n a.k c.requires.0 c.requires.1),
      omega arith,
      omega arith,
      refl,
    )

pub better_of-b-requires : goal.better_of-b-requires
better_of-b-requires c =
    next c.args.k c.args.places c.loop-rest.p c.loop-rest.rest c.twos-p.result c.args.self.known c.requires.0 c.requires.1 c.requires.3
    c.loop-rest.invariant.1 c.loop-rest.invariant.3 c.loop-rest-test.true c.twos-p.ensures.0

pub overflow_add-p-in-loop-rest : goal.overflow_add-p-in-loop-rest
overflow_add-p-in-loop-rest c =
    let s : Splits c.args.k (c.loop-rest.p + c.twos-p.result) c.args.self.n = next c.args.k c.args.places c.loop-rest.p c.loop-rest.rest
    c.twos-p.result c.args.self.known c.requires.0 c.requires.1 c.requires.3
    c.loop-rest.invariant.1 c.loop-rest.invariant.3 c.loop-rest-test.true c.twos-p.ensures.0 in
    omega (arith, s.short)

pub loop-rest-preserved : goal.loop-rest-preserved
loop-rest-preserved c =
    let s : Splits c.args.k (c.loop-rest.p + c.twos-p.result) c.args.self.n = next c.args.k c.args.places c.loop-rest.p c.loop-rest.rest
    c.twos-p.result c.args.self.known c.requires.0 c.requires.1 c.requires.3
    c.loop-rest.invariant.1 c.loop-rest.invariant.3 c.loop-rest-test.true c.twos-p.ensures.0 in
    let a = c.args in
    let t = look a.self.work.now in
    let v = c.loop-rest in
    let b = c.better_of-b in
    let z : c.twos-p.result ≡ twos v.rest = c.twos-p.ensures.0 in
    let skipped = skip_to a.places v.p v.rest v.invariant.3 lines t a.self.n a.k c.args.self.known.few c.requires.0 c.requires.1
    c.requires.3 v.invariant.1 c.loop-rest-test.true in
    let p = v.p + c.twos-p.result in (
      b.ensures
          ∙ ap (λ (x : Best). better lines t a.self.n (32 * a.k + p) x)
          (v.invariant.0 ∙ sym skipped ∙ ap (λ (x : ℕ). best_below lines t a.self.n (32 * a.k + (v.p + x))) (sym z))
          ∙ sym (best_next lines t a.self.n a.k p),
      omega arith,
      omega (arith, s.short),
      ap (λ (x : ℕ). x / 2) c.odd_part-rest.ensures.0
          ∙ rest_next a.places v.p v.rest v.invariant.3
          ∙ ap (λ (x : ℕ). a.places / 2 ^ (v.p + x + 1)) (sym z),
    )

pub returns : goal.returns
returns c =
    let a = c.args in
    let v = c.loop-rest in
    v.invariant.0
    ∙ sym (skip_past a.places v.p v.rest v.invariant.3 lines (look a.self.work.now) a.self.n a.k a.self.known.few
    c.requires.0 c.requires.1 c.requires.3 v.invariant.1 (omega (arith, c.loop-rest-test.false)) v.invariant.2)

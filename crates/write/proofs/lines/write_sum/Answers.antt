-- `write::lines::write_sum`: the columns one by one (proofs/Sums.antt). Assumes nothing.
use mathlib.Core.Path.{ap}
use native.Mathlib.Omega.{arith}
use Rattle.line.specs.Limits.{most_next}
use Rattle.gates.specs.declared.Taken.{Taken}
use Rattle.gates.proofs.GateWords.{column_few}
use Rattle.write.proofs.Sums.{sum_begins, column_fits, sum_goes_on, sum_ends}
use Rattle.write.proofs.lines.write_sum.Goals as goal

pub loop-j-init : goal.loop-j-init
loop-j-init c =
    let a = c.args in
    sum_begins a.left.now a.right.now a.first a.m a.from a.sums.now a.room.now c.requires.lefts c.requires.rights
    c.requires.next_pos

pub column-c-requires : goal.column-c-requires
column-c-requires c =
    let a = c.args in
    let l = c.loop-j in (
      l.invariant.free_pos,
      column_fits a.left.now a.right.now a.first a.m a.from a.sums.now a.room.now c.requires.lefts c.requires.rights
          l.sums l.room l.carry l.place l.j most_next c.loop-j-test.true l.invariant c.requires.next_fits,
    )

pub after-place-requires : goal.after-place-requires
after-place-requires c =
    let k = c.column-c.result in
    let r = c.requires in
    let i = c.loop-j.invariant in
    let e = c.write_column-took.ensures.value in (
      omega (arith, r.words_small, i.used_small, ap (λ (t : Taken). t.words) e, column_few k.parity k.majority),
      omega (arith, r.clauses_small, i.n_small, ap (λ (t : Taken). t.clauses) e, column_few k.parity k.majority),
    )

pub loop-j-preserved : goal.loop-j-preserved
loop-j-preserved c =
    let s = c.min-start in
    let l = c.loop-j in
    let a = c.args in
    let w = c.write_column-took in
    sum_goes_on a.left.now a.right.now a.first a.m a.from a.sums.now a.room.now c.requires.lefts c.requires.rights
    l.sums l.room l.carry l.place l.j c.loop-j-test.true l.invariant c.column-c.result c.column-c.ensures
    s.result (omega arith) (λ h. omega arith) w.result w.ensures.value w.new.rest w.ensures.rest_after w.auto.rest
    c.after-place.result c.after-place.ensures

pub returns : goal.returns
returns c =
    let l = c.loop-j in
    let a = c.args in
    sum_ends a.left.now a.right.now a.first a.m a.from a.sums.now a.room.now c.requires.lefts c.requires.rights
    l.sums l.room l.carry l.place l.j (omega arith) l.invariant

-- `write::lines::write_lines`: the lines one by one (proofs/CodeLines.antt). Assumes nothing.
use mathlib.Core.Path.{ap, ◌∙◌}
use native.Mathlib.Omega.{arith}
use lib.ListN.{take}
use Rattle.line.specs.Limits.{most_next}
use Rattle.line.specs.declared.Line.{Line}
use Rattle.recipe.proofs.Walk.{part_line}
use Rattle.product.specs.Lines.{columns}
use Rattle.gates.specs.Code.{bits_of}
use Rattle.write.proofs.CodeLines.{lines_begin, line_fits, lines_go_on, lines_end}
use Rattle.write.proofs.lines.write_lines.Goals as goal

pub loop-i-init : goal.loop-i-init
loop-i-init c =
    let a = c.args in
    lines_begin a.w a.recipe.now a.n a.next a.room.now a.scratch.now c.requires.width c.requires.next_pos c.requires.long c.requires.blank

pub columns_of-m-requires : goal.columns_of-m-requires
columns_of-m-requires c = (c.requires.width, omega (arith, ap (λ (x : Line). x.coefficient) c.read-l.ensures))

pub write_line-place-requires : goal.write_line-place-requires
write_line-place-requires c =
    let l = c.loop-i in
    let a = c.args in
    let p = c.requires in
    let u = l.invariant in
    let h = c.loop-i-test.true in
    let e = (c.read-l.ensures ∙ part_line c.args.recipe.now c.loop-i.i) in
    record {
      columns = omega (arith, p.lines.columns l.i h, c.columns_of-m.ensures.0, ap (λ (q : Line). columns a.w q.coefficient) e);
      long = u.long;
      lefts = omega (arith, u.long, p.lines.few, p.lines.lefts l.i h, ap (λ (q : Line). q.left) e);
      rights = omega (arith, u.long, p.lines.few, p.lines.rights l.i h, ap (λ (q : Line). q.right) e);
      bits = omega (arith, u.long, p.lines.few, h);
      next_pos = u.free_pos;
      next_fits =
          line_fits a.w a.recipe.now (bits_of (take a.w a.scratch.now)) a.n a.next a.room.now l.scratch l.room l.place l.i most_next u h
          p.lines c.read-l.result e c.columns_of-m.result c.columns_of-m.ensures.0 p.next_fits;
      words_small = omega (arith, u.used_small, p.lines.few, h);
      clauses_small = omega (arith, u.count_small, p.lines.few, h);
    }

pub loop-i-preserved : goal.loop-i-preserved
loop-i-preserved c =
    let l = c.loop-i in
    let a = c.args in
    let r = c.write_line-place in
    lines_go_on a.w a.recipe.now (bits_of (take a.w a.scratch.now)) a.n a.next a.room.now l.scratch _ l.room _ l.place l.i l.invariant
    c.loop-i-test.true c.requires.lines c.read-l.result (c.read-l.ensures ∙ part_line a.recipe.now l.i) c.columns_of-m.result
    c.columns_of-m.ensures.0 r.result r.ensures r.auto.room

pub returns : goal.returns
returns c =
    let l = c.loop-i in
    let a = c.args in
    lines_end a.w a.recipe.now (bits_of (take a.w a.scratch.now)) a.n a.next a.room.now l.scratch l.room l.place l.i (omega arith)
    l.invariant

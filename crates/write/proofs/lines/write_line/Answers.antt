-- `write::lines::write_line`: the sum of the line's two terms. Assumes nothing.
use mathlib.Core.Path.{sym, ap}
use native.Mathlib.Omega.{arith}
use lib.ListN.{length-take, length-drop}
use lib.Seq.{length-take-le}
use Rattle.product.specs.Lines.{Sum}
use Rattle.write.proofs.CodeTerms.{line_terms, line_is}
use Rattle.write.proofs.lines.write_line.Goals as goal

pub slice_bounds-write_sum-end : goal.slice_bounds-write_sum-end
slice_bounds-write_sum-end c = sym ((let s = c in
    length-take-le s.args.m c.terms.new.left (omega (arith, s.requires.columns, c.terms.auto.left))))

pub slice_bounds-write_sum-end-2 : goal.slice_bounds-write_sum-end-2
slice_bounds-write_sum-end-2 c = sym ((let s = c in
    length-take-le s.args.m c.terms.new.right (omega (arith, s.requires.columns, c.terms.auto.right))))

pub write_sum-requires : goal.write_sum-requires
write_sum-requires c =
    let a = c.args in
    let e =
    line_terms a.l a.m a.at a.from a.scratch.now c.terms.new.left c.terms.new.right
    c.taken_off-first.result c.requires
    c.taken_off-first.ensures c.terms.ensures in
    record {
      columns = omega (arith, c.requires.columns);
      lefts = (length-take-le c.args.m c.terms.new.left (omega (arith, c.requires.columns, c.terms.auto.left)));
      rights = (length-take-le c.args.m c.terms.new.right (omega (arith, c.requires.columns, c.terms.auto.right)));
      bits = simp (length-take, length-drop) (omega (arith, c.requires.columns, c.requires.bits));
      next_pos = c.requires.next_pos;
      next_fits = omega (arith, c.requires.next_fits, ap (λ (q : Sum). q.next) e);
      words_small = c.requires.words_small;
      clauses_small = c.requires.clauses_small;
    }

pub returns : goal.returns
returns c =
    let a = c.args in
    line_is a.l a.m a.at a.from a.scratch.now c.terms.new.left c.terms.new.right
    c.taken_off-first.result c.requires
    c.taken_off-first.ensures c.terms.ensures c.write_sum.result c.write_sum.new.sums a.room.now
    c.write_sum.new.room
    c.write_sum.ensures

-- `write::Call::pass`: x into the scratch room, then the lines, then y. Assumes nothing.
use Rattle.line.specs.Limits.{most_next}
use Rattle.write.proofs.Passes.{x_bits, x_behind, pass_is, lines_fit}
use Rattle.write.proofs.Call.pass.Goals as goal

pub write_lines-r-requires : goal.write_lines-r-requires
write_lines-r-requires c =
    let s = c.args.self in
    let codes = c.codes.new.out in
    record {
      lines = s.lines;
      width = s.width;
      next_pos = s.first_pos;
      next_fits = lines_fit s.recipe.now s.n s.x.now s.first s.t codes
          (x_bits s.first s.x.now s.width s.fit codes c.codes.ensures) most_next c.requires.1;
      long = c.codes.auto.out;
      blank = x_behind s.first s.x.now s.width s.fit codes c.codes.ensures;
    }

pub returns : goal.returns
returns c =
    let s = c.args.self in
    let o = c.operand.ensures in
    let y = c.write_y.ensures in
    pass_is s.recipe.now s.n s.x.now s.first s.t c.codes.new.out (x_bits s.first s.x.now s.width s.fit c.codes.new.out c.codes.ensures)
    s.size c.write_lines-r.result _ c.args.bits.now _ c.args.clauses.now _ c.write_lines-r.ensures s.few_bits (rw o at y)

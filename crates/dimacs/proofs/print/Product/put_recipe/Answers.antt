-- `dimacs::print::Product::put_recipe`: the rooms' lengths are known, and what stands in them is as writing leaves it. Assumes nothing.
use mathlib.Core.Path.{refl, sym}
use lib.IntN.{pos}
use lib.ListN.{replicate}
use Rattle.dimacs.proofs.Shown.{written_fits, written_shown}
use Rattle.dimacs.specs.Sizes.{program_bits}
use Rattle.dimacs.proofs.print.Product.put_recipe.Goals as goal

pub put_written-requires-clause-written_fits : goal.put_written-requires-clause-written_fits
put_written-requires-clause-written_fits c = let a = c.args in
    written_fits a.self.c a.self.w a.recipe.now (replicate program_bits (pos 0)) c.room-words.result c.write_plain-written.result
    c.write_plain-written.new.bits c.write_plain-written.new.clauses
    c.write_plain-written.ensures c.write_plain-written.auto.bits c.write_plain-written.auto.clauses

pub returns : goal.returns
returns c = let a = c.args in
    rw (sym (written_shown a.self.c a.self.w a.recipe.now (replicate program_bits (pos 0)) c.room-words.result c.write_plain-written.result
    c.write_plain-written.new.bits c.write_plain-written.new.clauses
    c.write_plain-written.ensures refl c.room-words.ensures)) c.put_written.ensures

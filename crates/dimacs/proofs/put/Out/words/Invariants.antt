-- `dimacs::put::Out::words`: word behind word, each of at most 12 bytes. Assumes nothing.
use Rattle.std.proofs.Common.{◌+◌, ◌*◌, ◌≤◌, take}
use Rattle.wording.specs.File.{words_text}
use Rattle.dimacs.specs.Puts.{Puts}
use Rattle.dimacs.proofs.put.Out.words.Given as goal

abbrev pub invariant-loop-z : goal.invariant-loop-z
invariant-loop-z l = record {
  put : Puts l.initial.self l.self (words_text (take l.z-index l.words));
  short : l.self.at ≤ l.initial.self.at + 12 * l.z-index;
}

-- `dimacs::put::Out::entries`: entry behind entry, each of at most 12 bytes. Assumes nothing.
use Rattle.std.proofs.Common.{◌+◌, ◌*◌, ◌≤◌, take}
use Rattle.wording.specs.File.{entries}
use Rattle.dimacs.specs.Puts.{Puts}
use Rattle.dimacs.proofs.put.Out.entries.Given as goal

abbrev pub invariant-loop-y : goal.invariant-loop-y
invariant-loop-y l = record {
  put : Puts l.initial.self l.self (entries (take l.y-index l.ys));
  short : l.self.at ≤ l.initial.self.at + 12 * l.y-index;
}

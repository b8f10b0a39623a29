-- `dimacs::read::value`: what the bytes so far say, which stays small. Assumes nothing.
use Rattle.std.proofs.Common.{◌≡◌, ◌+◌, ◌*◌, ◌^◌, ◌≤◌, take}
use Rattle.wording.specs.Decimal.{value_of}
use Rattle.dimacs.proofs.read.value.Given as goal

abbrev pub invariant-loop-b : goal.invariant-loop-b
invariant-loop-b l = (l.v ≡ value_of (take l.b-index l.s)) × (l.v + 23 ≤ 23 * 10 ^ l.b-index)

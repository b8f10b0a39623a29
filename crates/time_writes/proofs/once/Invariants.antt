-- Each record leaves fewer bytes.
use Rattle.std.proofs.Common.{length}
use Rattle.time_writes.proofs.once.Given as goal

abbrev pub decreases-loop-record : goal.decreases-loop-record
decreases-loop-record l = length l.rest

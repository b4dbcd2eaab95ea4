-- `rising` meets its contract: the first `rows` rise.
use Rattle.std.proofs.Common.{◌-◌, length}
use Rattle.timeline.proofs.Risen.{Risen}
use Rattle.timeline.proofs.used.rising.Given as goal

abbrev pub invariant-loop-rows : goal.invariant-loop-rows
invariant-loop-rows l = Risen l.events l.rows

abbrev pub decreases-loop-rows : goal.decreases-loop-rows
decreases-loop-rows l = length l.events - l.rows

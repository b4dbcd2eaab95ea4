-- `drop_ended_work` meets its contract: the work of the places below `place` that have ended is dropped.
use Rattle.totals.proofs.Ended.{Dropped}
use Rattle.totals.proofs.drop_ended_work.Given as goal

abbrev pub invariant-loop-place : goal.invariant-loop-place
invariant-loop-place l = Dropped l.fn.head l.book l.place l.totals

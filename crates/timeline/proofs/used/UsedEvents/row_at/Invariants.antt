-- `row_at` meets its contract: the row is one of the `left` rows from `row` on.
use Rattle.timeline.proofs.Halving.{Narrowed}
use Rattle.timeline.proofs.used.UsedEvents.row_at.Given as goal

abbrev pub invariant-loop-left : goal.invariant-loop-left
invariant-loop-left l = Narrowed l.self.events.now l.minute.0 l.row l.left

abbrev pub decreases-loop-left : goal.decreases-loop-left
decreases-loop-left l = l.left

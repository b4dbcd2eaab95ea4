-- `take_places` meets its contract: what the places that are left use is still to add.
use Rattle.row_changes.proofs.Used.{Adds}
use Rattle.row_changes.proofs.take_places.Given as goal

abbrev pub invariant-loop-left : goal.invariant-loop-left
invariant-loop-left l = Adds l.fn.head l.book l.fn.places l.left l.initial.taken l.taken

abbrev pub decreases-loop-left : goal.decreases-loop-left
decreases-loop-left l = l.left

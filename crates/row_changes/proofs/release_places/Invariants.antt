-- `release_places` meets its contract: what the places that are left use is still to take off.
use Rattle.row_changes.proofs.Used.{Releases}
use Rattle.row_changes.proofs.release_places.Given as goal

abbrev pub invariant-loop-left : goal.invariant-loop-left
invariant-loop-left l = Releases l.fn.head l.book l.fn.places l.left l.initial.taken l.taken

abbrev pub decreases-loop-left : goal.decreases-loop-left
decreases-loop-left l = l.left

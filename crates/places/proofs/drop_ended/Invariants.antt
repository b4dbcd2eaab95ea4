-- `drop_ended` meets its contract: the places that are passed and stand are at the front, and those behind are as they came.
use Rattle.places.proofs.Ended.{Kept}
use Rattle.places.proofs.drop_ended.Given as goal

abbrev pub invariant-loop-place : goal.invariant-loop-place
invariant-loop-place l = Kept l.size l.head l.fn.book l.book l.kept l.place

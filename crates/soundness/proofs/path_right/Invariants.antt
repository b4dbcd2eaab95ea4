-- The links so far go on from one to the next.
use Rattle.soundness.proofs.Going.{Going}
use Rattle.soundness.proofs.path_right.Given as goal

abbrev pub invariant-loop-number : goal.invariant-loop-number
invariant-loop-number l = Going l.links l.path l.node l.met l.number-index

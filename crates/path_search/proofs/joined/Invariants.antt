-- joined meets its contract. The links so far and those of the nodes that are left are all.
use mathlib.Core.Path.{◌≡◌}
use mathlib.Core.Bool.{◌||◌}
use Prim.Native.Nat.{ℕ}
use Rattle.units.specs.Sets.{has}
use Rattle.path_search.specs.Rounds.{joined}
use Rattle.path_search.proofs.joined.Given as goal

abbrev pub invariant-loop-left : goal.invariant-loop-left
invariant-loop-left l = (k : ℕ) → (has l.links k || joined l.sets l.left k) ≡ joined l.sets l.nodes k

abbrev pub decreases-loop-left : goal.decreases-loop-left
decreases-loop-left l = l.left

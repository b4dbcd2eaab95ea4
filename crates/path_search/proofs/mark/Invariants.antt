-- mark meets its contract. With the nodes that are left marked the table is what it is to be.
use mathlib.Core.Path.{◌≡◌}
use Prim.Native.Nat.{ℕ, ◌≤◌}
use Rattle.units.specs.Limits.{last_node}
use Rattle.path_search.specs.Rounds.{figures, marked}
use Rattle.path_search.proofs.mark.Given as goal

abbrev pub invariant-loop-left : goal.invariant-loop-left
invariant-loop-left l = (v : ℕ) → v ≤ last_node → marked l.left l.figure (figures l.table) v ≡ marked l.nodes l.figure (figures l.initial.table) v

abbrev pub decreases-loop-left : goal.decreases-loop-left
decreases-loop-left l = l.left

-- distances meets its contract. The nodes from which fewer than `near` links lead have their figure, the others `far`.
use mathlib.Core.Path.{◌≡◌}
use mathlib.Core.Bool.{true, false}
use Prim.Native.Nat.{ℕ, ◌≤◌}
use lib.Dec.{ltb}
use Rattle.units.specs.Limits.{last_node}
use Rattle.path_search.specs.Rounds.{far, figures, distance}
use Rattle.path_search.specs.Answer.{graph_of, usable_in}
use Rattle.path_search.proofs.Network.distances.Given as goal

abbrev pub invariant-loop-near : goal.invariant-loop-near
invariant-loop-near l =
    (v : ℕ) → v ≤ last_node
    → let d = distance (graph_of l.self) (usable_in l.self) l.destination last_node v in figures l.table v ≡ elim (ltb d l.near) [ true ↦ d | false ↦ far ]

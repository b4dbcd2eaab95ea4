-- layers meets its contract. After `number` rounds the frontier is the nodes that need that many links.
use mathlib.Core.Path.{◌≡◌}
use lib.ListN.{length}
use Prim.Native.Nat.{◌-◌}
use Rattle.path_search.specs.Rounds.{far}
use Rattle.path_search.specs.Answer.{graph_of, usable_in}
use Rattle.path_search.proofs.InRange.{nodes_below}
use Rattle.path_search.proofs.LayerLaws.{Going}
use Rattle.path_search.proofs.Network.layers.Given as goal

abbrev pub invariant-loop-frontier : goal.invariant-loop-frontier
invariant-loop-frontier l =
    (length l.nodes ≡ 32) × (length l.links ≡ 32)
    × Going (graph_of l.self) (usable_in l.self) l.destination (nodes_below l.self.net.now.ends) l.nodes l.links l.frontier l.met l.number

abbrev pub decreases-loop-frontier : goal.decreases-loop-frontier
decreases-loop-frontier l = far - l.number

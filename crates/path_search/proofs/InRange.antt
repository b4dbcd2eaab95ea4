-- Links in range join nodes 0 to 31.
use Prim.Native.Nat.{suc, suc-le-suc}
use Rattle.units.specs.Limits.{last_node}
use Rattle.path_search.specs.declared.ends.LinkEnds.{LinkEnds}
use Rattle.path_search.specs.Answer.{graph}
use Rattle.path_search.proofs.Loops.{NodesBelow}

pub nodes_below : (ends : LinkEnds) → NodesBelow (graph ends) (suc last_node)
nodes_below ends = record { from_below = λ l h. suc-le-suc (ends.in_range.from_node l h); to_below = λ l h. suc-le-suc (ends.in_range.to_node l h) }

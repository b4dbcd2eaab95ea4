-- sources meets its contract. The nodes so far and those at which the links that are left begin are all.
use mathlib.Core.Path.{◌≡◌}
use mathlib.Core.Bool.{◌||◌, true}
use Prim.Native.Nat.{ℕ, ◌<◌}
use Rattle.units.specs.Sets.{has}
use Rattle.path_search.specs.Rounds.{sources}
use Rattle.path_search.specs.Answer.{graph_of}
use Rattle.path_search.proofs.Network.sources.Given as goal

abbrev pub invariant-loop-left : goal.invariant-loop-left
invariant-loop-left l =
    ((k : ℕ) → has l.left k ≡ true → k < l.self.net.now.ends.count) × ((v : ℕ) → (has l.nodes v || sources (graph_of l.self) l.left v) ≡ sources (graph_of l.self) l.links v)

abbrev pub decreases-loop-left : goal.decreases-loop-left
decreases-loop-left l = l.left

-- walk meets its contract. The first `place` links have been picked, and the rest is to be picked from `node` on.
use mathlib.Core.Path.{◌≡◌}
use mathlib.Core.List.{List, ◌++◌}
use Prim.Native.Nat.{ℕ, ◌-◌}
use lib.ListN.{length}
use Rattle.units.specs.Limits.{most_hops}
use Rattle.units.specs.Lists.{padded}
use Rattle.path_search.specs.Layers.{away}
use Rattle.path_search.specs.Picks.{picked}
use Rattle.path_search.specs.Answer.{graph_of, usable_in}
use Rattle.path_search.proofs.Network.walk.Given as goal

abbrev pub invariant-loop-place : goal.invariant-loop-place
invariant-loop-place l =
    (done : List ℕ)
    × (length done ≡ l.place)
    × (l.links ≡ padded most_hops done)
    × (done ++ picked (graph_of l.self) (usable_in l.self) (away (graph_of l.self) (usable_in l.self) l.layers) (l.count - l.place) l.node ≡ picked (graph_of l.self) (usable_in l.self) (away (graph_of l.self) (usable_in l.self) l.layers) l.count l.source)

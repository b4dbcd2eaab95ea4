-- What the rounds find: the nodes and links at each distance, those that were met, and the number of rounds.
use Rattle.std.specs.Prelude.{◌≡◌, Bool, true, ℕ, suc, ◌≤◌, max, get_or}
use Rattle.units.specs.Limits.{last_node}
use Rattle.units.specs.Sets.{has}
use Rattle.path_search.specs.declared.Layers.{Layers}
use Rattle.path_search.specs.declared.Network.{Network}
use Rattle.path_search.specs.Paths.{Graph}
use Rattle.path_search.specs.Rounds.{distance, NodesAt, LinksAt}
use Rattle.path_search.specs.Needed.{most_needed}
use Rattle.path_search.specs.Answer.{graph_of, usable_in}

module _ (g : Graph) (usable : ℕ → Bool) where
  -- the links that lead from a node to the layers' destination
  abbrev pub away : Layers → ℕ → ℕ
  away layers = distance g usable layers.destination last_node

  -- the layers of these links
  pub record LayersOf (layers : Layers) : Type 0 where
    pub nodes : (near : ℕ) → near ≤ last_node → NodesAt (away layers) near (get_or layers.nodes near 0)
    pub links : (near : ℕ) → near ≤ last_node → LinksAt g usable (away layers) near (get_or layers.links near 0)
    pub met : layers.destination ≤ last_node → has layers.met layers.destination ≡ true
    pub number : max 1 layers.number ≡ suc (most_needed g usable layers.destination)

-- the same of a network
abbrev pub away_in : Network → Layers → ℕ → ℕ
away_in network = away (graph_of network) (usable_in network)

abbrev pub LayersIn : Network → Layers → Type 0
LayersIn network = LayersOf (graph_of network) (usable_in network)

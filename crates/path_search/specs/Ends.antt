-- What the ends of links are, as columns beside a count, and the sets of links that each node has in a column.
use Rattle.std.specs.Prelude.{◌≡◌, List, ◌&&◌, ℕ, ◌≤◌, ◌<◌, eqb, ltb, get_or}
use Rattle.units.specs.Limits.{last_node, most_links}
use Rattle.units.specs.Sets.{has}

-- document 01's links: at most 64, their nodes 0 to 31
pub record InRange (count : ℕ) (from to : List ℕ) : Type 0 where
  pub few : count ≤ most_links
  pub from_node : (l : ℕ) → l < count → get_or from l 0 ≤ last_node
  pub to_node : (l : ℕ) → l < count → get_or to l 0 ≤ last_node

-- for each node the set of the links below the count that have it as their end in the column
abbrev pub LinksOf : ℕ → List ℕ → List ℕ → Type 0
LinksOf count ends sets = (v : ℕ) → v ≤ last_node → (l : ℕ) → has (get_or sets v 0) l ≡ (ltb l count && eqb (get_or ends l 0) v)

-- Which links have enough of a bandwidth in the rows of a free table, as sets of links.
use Rattle.std.specs.Prelude.{◌≡◌, List, Bool, ℕ, ◌+◌, ◌*◌, ◌≤◌, ◌<◌, leb, get_or}
use Rattle.units.specs.Limits.{most_links, most_events}
use Rattle.units.specs.Sets.{has}
use Rattle.free_table.specs.declared.masks.Masks.{Masks}

-- document 01's 'at least the bandwidth', of link l in a row of the table
abbrev pub enough_in : List ℕ → ℕ → ℕ → ℕ → Bool
enough_in t bandwidth row l = leb bandwidth (get_or t (row * most_links + l) 0)

-- the masks that are kept are those of the table's rows
pub record Kept (masks : Masks) (t : List ℕ) (bandwidth : ℕ) : Type 0 where
  pub inside : masks.past ≤ most_events
  pub right : (row l : ℕ) → masks.first ≤ row → row < masks.past → l < most_links → has (get_or masks.rows row 0) l ≡ enough_in t bandwidth row l

-- What a request asks of the links of a desk.
use Rattle.std.specs.Prelude.{List, ℕ, ◌≤◌, length, get_or}
use Rattle.units.specs.declared.Head.{Head}
use Rattle.units.specs.declared.Link.{Link}
use Rattle.units.specs.declared.Request.{Request}
use Rattle.units.specs.Columns.{column}
use Rattle.units.specs.Limits.{last_shown}
use Rattle.units.specs.Spans.{low_of, span_of, release}
use Rattle.free_table.specs.Looking.{TablesSized}
use Rattle.path_search.specs.Paths.{Graph}
use Rattle.path_search.specs.Ends.{InRange}
use Rattle.choice.specs.EventTables.{AreEvents}
use Rattle.choice.specs.Answer.{Wanted, Askable}
use Rattle.rules.specs.Tables.{Tables}

-- where the links begin and end, as columns
abbrev pub begins : List Link → List ℕ
begins = column (λ l. l.from)

abbrev pub ends : List Link → List ℕ
ends = column (λ l. l.to)

-- the ends of the links alone, as the path search takes them
abbrev pub ends_of : List Link → Graph
ends_of links = record { count = length links; from = λ l. get_or (begins links) l 0; to = λ l. get_or (ends links) l 0 }

-- what a request asks of any start on these links
abbrev pub search_of : Head → List Link → Request → Wanted
search_of head links r = record { links = ends_of links; source = r.from; destination = r.to; bandwidth = r.bandwidth.0; span = span_of head r.duration.0 }

-- what may be asked: document 01's links, a row for each event, a span of a minute at least, document 01's events, a window of theirs,
-- and a span from low that ends in time, whatever the latest start
pub record Asks (links : List Link) (t : Tables) (r : Request) : Type 0 where
  pub in_range : InRange (length links) (begins links) (ends links)
  pub sized : TablesSized t.events t.free
  pub lasts : 1 ≤ span_of t.head r.duration.0
  pub are_events : AreEvents t.events
  pub askable : Askable t.events (span_of t.head r.duration.0) (low_of t.head r) r.latest.0
  pub low_in_time : release (low_of t.head r) (span_of t.head r.duration.0) ≤ last_shown

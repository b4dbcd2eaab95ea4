-- What taking events out does to an event table and to the rows beside it, as lists. Rows may have any width.
use Rattle.std.specs.Prelude.{◌≡◌, List, ◌++◌, ℕ, zero, suc, ◌+◌, ◌*◌, ◌<◌, length, set, take, drop, replicate}
use Rattle.units.specs.Limits.{most_links}
use Rattle.timeline.specs.Events.{row_at}

-- the first n figures dropped: those behind them move down, with zeros behind
abbrev pub drop_front : ℕ → List ℕ → List ℕ
drop_front n l = drop n l ++ replicate n 0

-- n figures from a place on taken out
abbrev pub cut : ℕ → ℕ → List ℕ → List ℕ
cut at n l = take at l ++ (drop (at + n) l ++ replicate n 0)

-- the old list where it is the first row, else the new one
abbrev pub unless_first : ℕ → List ℕ → List ℕ → List ℕ
unless_first zero new old = old
unless_first (suc row) new old = new

-- document 01's events without the last one at or before m; the clock stays
unfoldable pub without_event : ℕ → List ℕ → List ℕ
without_event m es = unless_first (row_at es m) (cut (row_at es m) 1 es) es

-- the rows of that many figures beside them
unfoldable pub without_row : ℕ → List ℕ → ℕ → List ℕ → List ℕ
without_row width es m rows = unless_first (row_at es m) (cut (row_at es m * width) width rows) rows

-- the events of a clock that has moved on to m: those up to it are gone, and m is the first
unfoldable pub events_from : ℕ → List ℕ → List ℕ
events_from m es = set (drop_front (row_at es m) es) 0 m

-- and the rows beside them: the first is the one that holds at m
unfoldable pub rows_from : ℕ → List ℕ → ℕ → List ℕ → List ℕ
rows_from width es m rows = drop_front (row_at es m * width) rows

-- the event table has a place, and there is a row for each of its places
pub record RowsSized (es rows : List ℕ) : Type 0 where
  pub some : 0 < length es
  pub rows_sized : length rows ≡ length es * most_links

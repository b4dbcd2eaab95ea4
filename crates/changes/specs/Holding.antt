-- What a booking holds in the events and the free figures of a plain book: taken when it is entered, given back when it is cancelled.
use mathlib.Core.List.{List, map, flatten}
use Rattle.std.specs.Prelude.{◌≡◌, Bool, cond, ℕ, ◌≤◌, ◌<◌, length, get_or}
use Rattle.units.specs.Limits.{most_links, most_hops, last_minute, longest}
use Rattle.units.specs.Lists.{member, padded, Within}
use Rattle.units.specs.Spans.{span_of, release}
use Rattle.units.specs.declared.Head.{Head}
use Rattle.units.specs.declared.Link.{Link}
use Rattle.timeline.specs.Insertion.{with_span, with_span_rows}
use Rattle.timeline.specs.Removal.{without_event, without_row}
use Rattle.free_table.specs.Figures.{table}
use Rattle.free_table.specs.Spans.{given, taken, change_span}
use Rattle.book.specs.declared.Booking.{Booking as Place}
use Rattle.book.specs.Places.{place_path}
use Rattle.rules.specs.Plain.{Plain, times, free}
use Rattle.rules.specs.Tables.{events_of}

-- the minute at which a place's booking releases its links
abbrev pub release_of : Head → Place → ℕ
release_of head b = release b.start.0 (span_of head b.duration.0)

-- a place whose figures are in range
pub record PlaceRight (b : Place) : Type 0 where
  pub start_right : b.start.0 ≤ last_minute
  pub duration_right : Within 1 longest b.duration.0
  pub count_right : b.count ≤ most_hops
  pub links_right : (i : ℕ) → i < length (place_path b) → get_or (place_path b) i 0 < most_links

-- the events and the free figures of a plain book in tables of so many rows
abbrev pub events_in : ℕ → Plain → List ℕ
events_in rows p = padded rows (events_of p)

abbrev pub free_in : ℕ → List Link → Plain → List ℕ
free_in rows links p = table rows (length links) (free links p) (events_of p)

-- the two events of a span put in, and then its bandwidth taken on a path
abbrev pub Holds : ℕ → ℕ → ℕ → List ℕ → List ℕ → List ℕ → List ℕ → List ℕ → Type 0
Holds start end bandwidth path es t es' t' =
    (es' ≡ with_span start end es) × (t' ≡ change_span (taken bandwidth) (with_span start end es) start end path (with_span_rows most_links es start end t))

-- the minutes at which a booking starts or releases its links
abbrev pub times_of : Plain → List ℕ
times_of p = flatten (map (times p) p.bookings)

-- an event that is needed stays, and so does its row
abbrev pub events_left : Bool → ℕ → List ℕ → List ℕ
events_left needed m es = cond needed es (without_event m es)

abbrev pub rows_left : Bool → List ℕ → ℕ → List ℕ → List ℕ
rows_left needed es m t = cond needed t (without_row most_links es m t)

-- the bandwidth of a span given back on a path, and then the two events dropped, where they are no times of p
abbrev pub GivesBack : Plain → ℕ → ℕ → ℕ → List ℕ → List ℕ → List ℕ → List ℕ → List ℕ → Type 0
GivesBack p start end bandwidth path es t es' t' =
    (es' ≡ events_left (member end (times_of p)) end (events_left (member start (times_of p)) start es))
    × (t' ≡ rows_left (member end (times_of p)) (events_left (member start (times_of p)) start es) end (rows_left (member start (times_of p)) es start (change_span (given bandwidth) es start end path t)))

-- The tables that a desk is lent, as a function of its links and its plain book; and which tables are sound.
use Rattle.std.specs.Prelude.{◌≡◌, Bool, true, ◌&&◌, ℕ, ◌*◌, leb, ltb, eqb, length, take}
use mathlib.Core.List.{List, [], ◌∷◌, map, flatten}
use Rattle.units.specs.declared.Link.{Link}
use Rattle.units.specs.declared.Head.{Head}
use Rattle.units.specs.Limits.{most_links, most_hops, most_bookings, most_bandwidth, longest, last_minute, most_guard, most_events, most_totals, place_size}
use Rattle.units.specs.Refusals as refusals
use Rattle.units.specs.Lists.{within, count_from, padded, equal, rising, all}
use Rattle.units.specs.Search.{all_from}
use Rattle.timeline.specs.Events.{events}
use Rattle.free_table.specs.Figures.{table}
use Rattle.path_search.specs.Paths.{path_ok}
use Rattle.plain_book.specs.Bookings as bookings
use Rattle.book.specs.declared.Booking.{Booking as Place}
use Rattle.book.specs.Places.{booking_in, figures}
use Rattle.rules.specs.Plain.{Booking, Plain, until, times, taken, sold_work, capacity, graph, free}
use Rattle.rules.specs.Calls.{Call, set_up_with, ask, Check, check, numbers, ends_ok, number_ok, list_fits}

pub record Tables : Type 0 where
  pub head : Head
  pub events : List ℕ
  pub free : List ℕ
  pub book : List ℕ
  pub totals : List ℕ

-- what a place of the book holds of a booking
abbrev pub place_of : Booking → Place
place_of b = record {
  number = b.number;
  start = record { 0 = b.grant.start };
  duration = record { 0 = b.terms.duration };
  bandwidth = record { 0 = b.terms.bandwidth };
  count = length b.grant.path;
  links = padded most_hops b.grant.path;
}

-- and the booking that a place holds
abbrev pub booking_of : Place → Booking
booking_of b = record {
  number = b.number;
  terms = record { duration = b.duration.0; bandwidth = b.bandwidth.0 };
  grant = record { start = b.start.0; path = take b.count b.links };
}

-- the figures of a booking's place
abbrev pub place : Booking → List ℕ
place b = figures (place_of b)

abbrev pub insert_by_number : Booking → List Booking → List Booking
insert_by_number = bookings.insert_by_number (λ b. b.number)

-- the bookings by rising number
abbrev pub by_number : List Booking → List Booking
by_number = bookings.by_number (λ b. b.number)

abbrev pub events_of : Plain → List ℕ
events_of p = events p.clock (flatten (map (times p) p.bookings))

abbrev pub head_of : List Link → Plain → Head
head_of links p = record { clock = record { 0 = p.clock }; links = length links; bookings = length p.bookings; guard = record { 0 = p.guard } }

abbrev pub event_table : Plain → List ℕ
event_table p = padded most_events (events_of p)

abbrev pub free_table : List Link → Plain → List ℕ
free_table links p = table most_events (length links) (free links p) (events_of p)

abbrev pub book_table : Plain → List ℕ
book_table p = padded (most_bookings * place_size) (flatten (map place (by_number p.bookings)))

-- '64 totals, one for each link'
abbrev pub totals_table : List Link → Plain → List ℕ
totals_table links p = padded most_totals (map (sold_work p) (count_from 0 (length links)))

-- the only tables that are right for these links and this plain book
unfoldable pub tables : List Link → Plain → Tables
tables links p = record { head = head_of links p; events = event_table p; free = free_table links p; book = book_table p; totals = totals_table links p }

-- the booking at place i of a book table
abbrev pub booking_at : List ℕ → ℕ → Booking
booking_at t i = booking_of (booking_in t i)

-- the plain book of a head and a book table: the head's clock and guard, and as many places as it counts
abbrev pub held_by : Head → List ℕ → Plain
held_by head places = record { clock = head.clock.0; guard = head.guard.0; bookings = map (booking_at places) (count_from 0 head.bookings) }

-- the plain book that tables hold
abbrev pub held : Tables → Plain
held t = held_by t.head t.book

abbrev pub guard_ok : ℕ → Bool
guard_ok guard = leb guard most_guard

abbrev pub link_ok : Link → Bool
link_ok l = ends_ok l.from l.to && within 1 most_bandwidth l.capacity.0

abbrev pub links_ok : List Link → Bool
links_ok links = all link_ok links

abbrev pub booking_ok : List Link → Plain → Booking → Bool
booking_ok links p b =
    number_ok b.number && leb b.grant.start last_minute && within 1 longest b.terms.duration && within 1 most_bandwidth b.terms.bandwidth
    && path_ok (graph links) b.grant.path && ltb p.clock (until p b)

-- no link is oversold in minute m
abbrev pub none_oversold : List Link → Plain → ℕ → Bool
none_oversold links p m = all_from 0 (length links) (λ l. leb (taken p l m) (capacity links l))

abbrev pub same : Tables → Tables → Bool
same s t =
    eqb s.head.clock.0 t.head.clock.0 && eqb s.head.links t.head.links && eqb s.head.bookings t.head.bookings
    && eqb s.head.guard.0 t.head.guard.0 && equal s.events t.events && equal s.free t.free && equal s.book t.book && equal s.totals t.totals

-- the sizes that document 01 states: of the link list, events, free figures, book and totals
abbrev pub sizes_ok : ℕ → ℕ → ℕ → ℕ → ℕ → Bool
sizes_ok links events free places totals =
    within 1 most_links links && eqb events most_events && eqb free (most_events * most_links) && eqb places (most_bookings * place_size)
    && eqb totals most_totals

abbrev pub sized : List Link → Tables → Bool
sized links t = sizes_ok (length links) (length t.events) (length t.free) (length t.book) (length t.totals)

-- document 01's 'sound', of tables that hold p. Where no link is oversold at an event none is in any minute:
-- a standing booking that holds a link before the clock holds it at the clock
unfoldable pub sound_with : List Link → Tables → Plain → Bool
sound_with links t p =
    links_ok links && leb p.clock last_minute && guard_ok p.guard && leb t.head.bookings most_bookings && rising 0 (numbers p.bookings)
    && all (booking_ok links p) p.bookings && all (none_oversold links p) (events_of p) && same t (tables links p)

unfoldable pub sound : List Link → Tables → Bool
sound links t = sound_with links t (held t)

-- the checks of what is lent to a call on a desk that is set up, by whether a lent list fits
abbrev pub lent_checks : List Link → Tables → Bool → List Check
lent_checks links t fits = check refusals.bad_size (sized links t) ∷ check refusals.bad_list fits ∷ check refusals.unsound (sound links t) ∷ []

-- document 02's check of a set-up's guard
abbrev pub guard_check : ℕ → Check
guard_check guard = check refusals.bad_field (guard_ok guard)

-- what a set-up is checked for behind the sizes
abbrev pub set_up_checks : List Link → ℕ → List Check
set_up_checks links guard = guard_check guard ∷ check refusals.bad_link (links_ok links) ∷ []

-- the checks of the tables, which come first
abbrev pub table_checks : List Link → Tables → Call → List Check
table_checks links t (set_up_with guard) = check refusals.bad_size (sized links t) ∷ set_up_checks links guard
table_checks links t (ask a) = lent_checks links t (list_fits a)

-- the tables as they are lent
abbrev pub lent : Head → List ℕ → List ℕ → List ℕ → List ℕ → Tables
lent head events free places totals = record { head = head; events = events; free = free; book = places; totals = totals }

-- tables of the right sizes that are sound
pub record Fine (links : List Link) (t : Tables) : Type 0 where
  pub is_sized : sized links t ≡ true
  pub is_sound : sound links t ≡ true

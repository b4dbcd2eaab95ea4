-- What the parts of the soundness check answer: of a place, of a book, and of the figures that they give.
use Rattle.std.specs.Prelude.{◌≡◌, List, Bool, ◌&&◌, ℕ, ◌*◌, ◌≤◌, ◌<◌, leb, eqb, length, drop}
use Rattle.units.specs.declared.Link.{Link}
use Rattle.units.specs.declared.Head.{Head}
use Rattle.units.specs.Limits.{most_links, most_hops, most_bookings, most_events, place_size, most_guard}
use Rattle.units.specs.Lists.{equal, rising, all, All}
use Rattle.book.specs.declared.Booking.{Booking as Place}
use Rattle.book.specs.Places.{booking_in}
use Rattle.rules.specs.Plain.{Plain, taken, capacity}
use Rattle.rules.specs.Calls.{numbers}
use Rattle.rules.specs.Tables.{booking_ok, held_by, events_of, book_table, event_table, free_table}
use Rattle.rules.specs.Sound.{BookingRight}

-- every figure is zero
abbrev pub all_zero : List ℕ → Bool
all_zero figures = all (λ x. eqb x 0) figures

-- document 01's 'a path is thirty-one places, those past its last link zero'
unfoldable pub tidy : Place → Bool
tidy b = leb b.count most_hops && all_zero (drop b.count b.links)

-- document 01's rules for a book that holds p, and that it is written as they say
unfoldable pub book_ok : List Link → List ℕ → Plain → Bool
book_ok links book p = rising 0 (numbers p.bookings) && all (booking_ok links p) p.bookings && equal book (book_table p)

-- no link is oversold at an event, and events and free figures are the ones that links, clock, guard and book give
pub record FiguresRight (links : List Link) (p : Plain) (events free : List ℕ) : Type 0 where
  pub not_oversold : All (λ m. (l : ℕ) → l < length links → taken p l m ≤ capacity links l) (events_of p)
  pub events_are : events ≡ event_table p
  pub free_are : free ≡ free_table links p

-- a book of document 01's size, of which n places are used
pub record BookFits (book : List ℕ) (n : ℕ) : Type 0 where
  pub few : n ≤ most_bookings
  pub sized : length book ≡ most_bookings * place_size

-- tables of document 01's sizes, a guard in range, and a book whose places, as many as the head counts, hold right bookings
pub record CanCompare (links : List Link) (head : Head) (book events free : List ℕ) : Type 0 where
  pub few_links : length links ≤ most_links
  pub events_sized : length events ≡ most_events
  pub free_sized : length free ≡ most_events * most_links
  pub book_sized : length book ≡ most_bookings * place_size
  pub few_bookings : head.bookings ≤ most_bookings
  pub short_guard : head.guard.0 ≤ most_guard
  pub counts_right : (i : ℕ) → i < head.bookings → (booking_in book i).count ≤ most_hops
  pub bookings_right : All (BookingRight links (held_by head book)) (held_by head book).bookings

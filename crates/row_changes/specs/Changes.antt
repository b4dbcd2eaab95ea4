-- What changes at each row of the events, by the places of a book; and what the bookings of a set of places use of a link.
use Rattle.std.specs.Prelude.{◌≡◌, List, true, ◌&&◌, ℕ, zero, suc, ◌+◌, ◌*◌, ◌^◌, ◌≤◌, ◌<◌, ltb, eqb, length, get_or, set}
use Rattle.std.specs.Int.Bits.{bit_or}
use Rattle.units.specs.declared.Link.{Link}
use Rattle.units.specs.declared.Head.{Head}
use Rattle.units.specs.Limits.{most_links, most_hops, most_bookings, place_size, last_minute, longest, most_bandwidth, most_guard}
use Rattle.units.specs.Lists.{if_so, member, All, Distinct}
use Rattle.units.specs.Sets.{has}
use Rattle.units.specs.Spans.{span_of, release}
use Rattle.timeline.specs.Events.{row_at}
use Rattle.book.specs.declared.Booking.{Booking as Place}
use Rattle.book.specs.Places.{booking_in, place_path}
use Rattle.rules.specs.Plain.{Plain, taken, capacity}
use Rattle.rules.specs.Tables.{events_of}

-- ---- the events and free figures of a plain book

-- the events are those of p, and in each row what each link has free and what the bookings take of it are its capacity
pub record RowsRight (links : List Link) (p : Plain) (es free : List ℕ) : Type 0 where
  pub events_are : es ≡ events_of p
  pub figures_are : (r l : ℕ) → r < length es → l < most_links → get_or free (r * most_links + l) 0 + taken p l (get_or es r 0) ≡ capacity links l

-- ---- what a book must be

-- a place whose booking's figures are in range, and whose path meets no link twice
pub record PlaceFits (b : Place) : Type 0 where
  pub start_right : b.start.0 ≤ last_minute
  pub duration_right : b.duration.0 ≤ longest
  pub bandwidth_right : b.bandwidth.0 ≤ most_bandwidth
  pub count_right : b.count ≤ most_hops
  pub links_right : All (λ l. l < most_links) (place_path b)
  pub links_differ : Distinct (place_path b)

-- a guard in range, and a book whose places, as many as the head counts, are such
pub record BookFits (head : Head) (book : List ℕ) : Type 0 where
  pub few_bookings : head.bookings ≤ most_bookings
  pub book_sized : length book ≡ most_bookings * place_size
  pub short_guard : head.guard.0 ≤ most_guard
  pub places_right : (i : ℕ) → i < head.bookings → PlaceFits (booking_in book i)

-- ---- at which row a booking begins to hold its links, and at which it releases them

abbrev pub start_row : List ℕ → List ℕ → ℕ → ℕ
start_row es book i = row_at es (booking_in book i).start.0

abbrev pub end_of : Head → List ℕ → ℕ → ℕ
end_of head book i = let b = booking_in book i in release b.start.0 (span_of head b.duration.0)

abbrev pub end_row : Head → List ℕ → List ℕ → ℕ → ℕ
end_row head es book i = row_at es (end_of head book i)

-- a minute is an event, or before the clock: the last event at or before it is not before it
abbrev pub Found : List ℕ → ℕ → Type 0
Found es m = m ≤ get_or es (row_at es m) 0

abbrev pub BothFound : Head → List ℕ → List ℕ → ℕ → Type 0
BothFound head es book i = Found es (booking_in book i).start.0 × Found es (end_of head book i)

-- the sets of the rows with a place put into that of row r
abbrev pub with_place : ℕ → ℕ → List ℕ → List ℕ
with_place r i sets = set sets r (bit_or (get_or sets r 0) (2 ^ i))

-- each row's set has those of the first n places for which it is the row, and no others
abbrev pub Marks : (ℕ → ℕ) → ℕ → List ℕ → Type 0
Marks row n sets = (r i : ℕ) → has (get_or sets r 0) i ≡ (ltb i n && eqb (row i) r)

-- ---- what bookings use

-- what the booking of place i uses of link l while it holds its links
abbrev pub use_of : List ℕ → ℕ → ℕ → ℕ
use_of book l i = let b = booking_in book i in if_so (member l (place_path b)) b.bandwidth.0

unfoldable pub sum_below : ℕ → (ℕ → ℕ) → ℕ
sum_below zero f = 0
sum_below (suc n) f = f n + sum_below n f

-- what those of a set of places use together
abbrev pub used_by : List ℕ → ℕ → ℕ → ℕ
used_by book places l = sum_below most_bookings (λ i. if_so (has places i) (use_of book l i))

-- the set has only places that the head counts
abbrev pub Counted : Head → ℕ → Type 0
Counted head places = (i : ℕ) → has places i ≡ true → i < head.bookings

-- no link is used for more than all bookings can
abbrev pub AtMost : ℕ → List ℕ → Type 0
AtMost n taken = (l : ℕ) → get_or taken l 0 ≤ n * most_bandwidth

-- what the bookings use together that begin to hold link l at a row before r, and those that release it at one; of the n places by the rows
abbrev pub used_before : List ℕ → (ℕ → ℕ) → ℕ → ℕ → ℕ → ℕ
used_before book row n r l = sum_below most_bookings (λ i. if_so (ltb i n && ltb (row i) r) (use_of book l i))

abbrev pub begun : Head → List ℕ → List ℕ → ℕ → ℕ → ℕ
begun head es book = used_before book (start_row es book) head.bookings

abbrev pub ended : Head → List ℕ → List ℕ → ℕ → ℕ → ℕ
ended head es book = used_before book (end_row head es book) head.bookings

-- in a row what each link has free and what is taken of it are its capacity
abbrev pub RowRight : List ℕ → List ℕ → List ℕ → Type 0
RowRight capacities taken row = (l : ℕ) → l < most_links → get_or row l 0 + get_or taken l 0 ≡ get_or capacities l 0

-- something changes at row r or it is the first, and what a link has free there and what those use that began and didn't end is its
-- capacity
pub record StepRight (head : Head) (es capacities free book starts ends : List ℕ) (r : ℕ) : Type 0 where
  pub changed : (get_or starts r 0 ≡ 0) → (get_or ends r 0 ≡ 0) → r ≡ 0
  pub figures_right : (l : ℕ) → l < most_links → get_or free (r * most_links + l) 0 + begun head es book (suc r) l ≡ get_or capacities l 0 + ended head es book (suc r) l

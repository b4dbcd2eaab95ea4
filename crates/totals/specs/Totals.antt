-- What the totals of a book are, booking by booking, and what a place must be for its work to be added.
use Rattle.std.specs.Prelude.{◌≡◌, List, [], ◌∷◌, map, cond, ℕ, ◌+◌, ◌-◌, ◌*◌, ◌≤◌, ◌<◌, ltb, length, get_or, set}
use Rattle.units.specs.Limits.{most_totals, most_hops, most_bookings, place_size}
use Rattle.units.specs.Lists.{count_from, All, Distinct}
use Rattle.units.specs.Spans.{span_of, release}
use Rattle.units.specs.Along.{less_along}
use Rattle.units.specs.Work.{work_of, most_work}
use Rattle.units.specs.declared.Head.{Head}
use Rattle.book.specs.declared.Booking.{Booking as Place}
use Rattle.book.specs.Places.{booking_in, place_path}
use Rattle.rules.specs.Plain.{Booking, sold_by}
use Rattle.rules.specs.Calls.{move_to}
use Rattle.rules.specs.Tables.{held_by}

-- the work of a place's booking
abbrev pub place_work : Place → ℕ
place_work b = work_of b.bandwidth.0 b.duration.0

-- totals with it dropped along its path, where the booking has ended at the head's clock
abbrev pub without_ended : Head → Place → List ℕ → List ℕ
without_ended head b t = cond (ltb head.clock.0 (release b.start.0 (span_of head b.duration.0))) t (less_along (place_work b) (place_path b) t)

-- those bookings of a head that still stand at its clock
abbrev pub still_standing : Head → List ℕ → List Booking
still_standing head book = (move_to head.clock.0 (held_by head book)).bookings

-- all totals of a list of bookings
abbrev pub totals_of : List Booking → List ℕ
totals_of bs = map (sold_by bs) (count_from 0 most_totals)

-- no total is more than n bookings can add
abbrev pub AtMost : ℕ → List ℕ → Type 0
AtMost n t = (l : ℕ) → get_or t l 0 ≤ n * most_work

-- a place whose work can be added: figures in range, and a path that meets no link twice
pub record WorkRight (b : Place) : Type 0 where
  pub work_right : place_work b ≤ most_work
  pub count_right : b.count ≤ most_hops
  pub links_right : All (λ l. l < most_totals) (place_path b)
  pub links_differ : Distinct (place_path b)

-- a book whose places, as many as the head counts, are such
pub record CanTotal (head : Head) (book : List ℕ) : Type 0 where
  pub few_bookings : head.bookings ≤ most_bookings
  pub book_sized : length book ≡ most_bookings * place_size
  pub places_right : (i : ℕ) → i < head.bookings → WorkRight (booking_in book i)

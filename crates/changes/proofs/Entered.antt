-- The tables after a booking is entered: it holds its events and its bandwidth in the first rows, and stands in the book and the totals.
use mathlib.Core.Path.{◌≡◌, refl, ap, ◌∙◌}
use mathlib.Core.List.{List, ◌++◌}
use Prim.Native.Nat.{ℕ, ◌+◌, ◌*◌, ◌≤◌, ◌<◌}
use native.Mathlib.Omega.{arith}
use lib.ListN.{length, take, drop}
use Rattle.units.specs.Along.{more_along}
use Rattle.units.specs.declared.Link.{Link}
use Rattle.units.specs.declared.Minute.{Minute}
use Rattle.units.specs.declared.Request.{Request}
use Rattle.units.specs.Limits.{most_links, most_bookings, most_events, most_hops, place_size}
use Rattle.units.specs.Lists.{All}
use Rattle.timeline.specs.Insertion.{Room}
use Rattle.path_search.specs.declared.Path.{Path}
use Rattle.places.specs.Places.{slot}
use Rattle.book.specs.declared.Booking.{Booking as Place}
use Rattle.book.specs.Places.{figures, with_booking, place_path}
use Rattle.rules.specs.Calls.{put_in}
use Rattle.rules.specs.Tables.{Tables, tables, held, place, head_of, totals_table, lent, Fine}
use Rattle.rules.specs.Sound.{BookingRight}
use Rattle.changes.specs.Holding.{release_of, PlaceRight, Holds}
use Rattle.changes.specs.Updating.{with_count, booked, Grantable}
use Rattle.rules.proofs.Obeys.{held_count, all_right_in}
use Rattle.changes.proofs.InOrder.{slot_inside, book_entered}
use Rattle.rules.proofs.Fine.{sizes, book_obeys, links_are}
use Rattle.rules.proofs.Totals.{all_work_fits}
use Rattle.totals.specs.Totals.{place_work, AtMost, WorkRight}
use Rattle.totals.proofs.Totals.{more_totals, totals_most}
use Rattle.totals.proofs.Kept.{table_is, work_right}
use Rattle.rules.specs.Tables.{events_of}
use Rattle.changes.proofs.Front.{events_few, events_front, free_front, events_whole, free_whole}
use Rattle.changes.proofs.Held.{place_right, hold_room, held_now}
use Rattle.changes.proofs.Written.{tables_are, head_is, totals_were}

-- the place of a granted booking
abbrev pub granted_place : ℕ → Request → Minute → Path → Place
granted_place number r start path = record { number = number; start = start; duration = r.duration; bandwidth = r.bandwidth; count = path.count; links = path.links }

module _ {links : List Link} {t : Tables} (fine : Fine links t) {number : ℕ} {r : Request} {start : Minute} {path : Path} (g : Grantable links (held t) number r start path) where
  short : length (take path.count path.links) ≤ most_hops
  short = g.booking_right.path_right.length_right.1

  figures_are : figures (granted_place number r start path) ≡ place (booked number r start path)
  figures_are = ap (λ q. figures (granted_place number r start q)) g.path_is

  -- the rows that it can use
  abbrev rows : ℕ
  rows = 3 + 2 * t.head.bookings

  few_links : length links ≤ most_links
  few_links = (sizes fine).links_right.1

  pub fits : rows ≤ most_events
  fits = omega (arith, g.room, held_count t)

  few : length (events_of (held t)) + 2 ≤ rows
  few = omega (arith, events_few (held t), held_count t)

  front : length (events_of (held t)) ≤ rows
  front = omega (arith, few)

  enough : length (events_of (put_in (booked number r start path) (held t))) ≤ rows
  enough = omega (arith, events_few (put_in (booked number r start path) (held t)), held_count t)

  count_right : path.count ≤ most_hops
  count_right = omega (arith, ap (λ q. q.count) g.path_is, short)

  -- what `insert_booking` asks, and `hold`
  pub enter_asks : slot place_size number t.book t.head.bookings < most_bookings
  enter_asks = slot_inside fine (booked number r start path) short g.room

  pub granted_right : PlaceRight (granted_place number r start path)
  granted_right = place_right links (put_in (booked number r start path) (held t)) (granted_place number r start path) few_links count_right g.booking_right

  pub granted_room : Room (take rows t.events) (take (rows * most_links) t.free) 2
  granted_room = rw (events_front fine rows front fits, free_front fine rows front fits) (hold_room rows links (held t) few_links few)

  -- what `add_work` asks
  pub granted_work : WorkRight (granted_place number r start path)
  granted_work = work_right links (put_in (booked number r start path) (held t)) (sizes fine).links_right.1 (granted_place number r start path) count_right g.booking_right

  pub granted_few : AtMost most_bookings t.totals
  granted_few l =
      rw (totals_were fine)
      (omega (arith, totals_most (held t).bookings (all_work_fits links (held t) (held t).bookings (book_obeys fine).bookings_right) l, (book_obeys fine).not_too_many))

  -- and what it gives
  totals_entered : more_along (place_work (granted_place number r start path)) (place_path (granted_place number r start path)) t.totals ≡ totals_table links (put_in (booked number r start path) (held t))
  totals_entered =
      ap (more_along (place_work (granted_place number r start path)) (place_path (granted_place number r start path))) (totals_were fine)
      ∙ more_totals (granted_place number r start path) granted_work (held t).bookings
      ∙ table_is links (put_in (booked number r start path) (held t)) (sizes fine).links_right.1 all_right
    where
      all_right : All (BookingRight links (put_in (booked number r start path) (held t))) (put_in (booked number r start path) (held t)).bookings
      all_right = (g.booking_right, all_right_in links (held t) (put_in (booked number r start path) (held t)).bookings (held t).bookings (book_obeys fine).bookings_right)

  -- and the tables with what they give
  pub entered_tables : {es fs book totals : List ℕ}
      → Holds start.0 (release_of t.head (granted_place number r start path)) r.bandwidth.0 (take path.count path.links) (take rows t.events) (take (rows * most_links) t.free) es fs
      → book ≡ with_booking (slot place_size number t.book t.head.bookings) (granted_place number r start path) t.book
      → totals ≡ more_along (place_work (granted_place number r start path)) (place_path (granted_place number r start path)) t.totals
      → lent (with_count t.head (t.head.bookings + 1)) (es ++ drop rows t.events) (fs ++ drop (rows * most_links) t.free) book totals ≡ tables links (put_in (booked number r start path) (held t))
  entered_tables {es} {fs} h b d =
      let more =
      held_now rows links (held t) (booked number r start path) few_links enough g.booking_right es fs
      (rw (events_front fine rows front fits, free_front fine rows front fits) at h) in
      tables_are links (put_in (booked number r start path) (held t)) one_more
      (events_whole fine rows front fits (put_in (booked number r start path) (held t)) enough more.0)
      (free_whole fine rows front fits (put_in (booked number r start path) (held t)) enough more.1)
      (b ∙ book_entered fine (booked number r start path) short g.room (granted_place number r start path) figures_are)
      (d ∙ totals_entered)
    where
      one_more : with_count t.head (t.head.bookings + 1) ≡ head_of links (put_in (booked number r start path) (held t))
      one_more = head_is links (put_in (booked number r start path) (held t)) refl (links_are fine) (omega (arith, held_count t)) refl

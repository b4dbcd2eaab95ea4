-- The tables after a clock move: what stands before the clock is dropped from the first rows, and the places and the work of what has
-- ended are dropped.
use mathlib.Core.Path.{◌≡◌, refl, ap, ap₂, ◌∙◌}
use mathlib.Core.List.{List, ◌++◌}
use Prim.Native.Nat.{ℕ, ◌+◌, ◌*◌, ◌≤◌}
use native.Mathlib.Omega.{arith}
use lib.Dec.{ltb}
use lib.ListN.{length, take, drop}
use Rattle.units.specs.declared.Link.{Link}
use Rattle.units.specs.Limits.{most_links, most_events, last_minute}
use Rattle.units.proofs.Parts.{counted_one, length_part, select_part}
use Rattle.timeline.specs.Removal.{events_from, rows_from}
use Rattle.book.specs.Places.{booking_in}
use Rattle.rules.specs.Plain.{Plain, until}
use Rattle.rules.specs.Calls.{move_to}
use Rattle.rules.specs.Tables.{Tables, tables, held, head_of, booking_at, events_of, book_table, lent, Fine}
use Rattle.rules.specs.Sound.{BookingRight, Obeys}
use Rattle.rules.proofs.Obeys.{held_count}
use Rattle.rules.proofs.Step.{obeys_move_to}
use Rattle.rules.proofs.Fine.{sizes, book_obeys, few_bookings, links_are}
use Rattle.changes.specs.Holding.{events_in, free_in}
use Rattle.totals.specs.Totals.{totals_of, CanTotal}
use Rattle.totals.proofs.Kept.{table_is, work_right}
use Rattle.changes.specs.Updating.{with_clock, with_count}
use Rattle.changes.proofs.InOrder.{counts_right}
use Rattle.changes.proofs.Front.{events_few, events_front, free_front, events_whole, free_whole}
use Rattle.changes.proofs.Moved.{events_moved, free_moved}
use Rattle.changes.proofs.Written.{head_is, tables_are}

module _ {links : List Link} {t : Tables} (fine : Fine links t) (m : ℕ) (in_range : m ≤ last_minute) (onward : t.head.clock.0 ≤ m) where
  -- the plain book before and after the call
  abbrev p : Plain
  p = held t

  abbrev pub left : Plain
  left = move_to m p

  -- the rows that can be used
  abbrev pub rows : ℕ
  rows = 1 + 2 * t.head.bookings

  pub obeys_left : Obeys links left
  obeys_left = obeys_move_to links p m in_range (book_obeys fine)

  few_links : length links ≤ most_links
  few_links = (sizes fine).links_right.1

  few : length (events_of p) ≤ rows
  few = omega (arith, events_few p, held_count t)

  fits : rows ≤ most_events
  fits = omega (arith, few_bookings fine)

  enough : length (events_of left) ≤ rows
  enough = omega (arith, events_few left, held_count t, length_part (select_part (λ b. ltb m (until p b)) p.bookings))

  -- what `drop_ended_work` asks
  pub can_drop : CanTotal (with_clock t.head m) t.book
  can_drop = record {
    few_bookings = few_bookings fine;
    book_sized = (sizes fine).book_right;
    places_right = λ i h.
        work_right links p few_links (booking_in t.book i) (counts_right fine i h)
        (counted_one (booking_at t.book) (BookingRight links p) 0 t.head.bookings (book_obeys fine).bookings_right i (omega arith) (omega arith));
  }

  -- what is written
  module _ {count : ℕ} {book es fs totals : List ℕ} (count_is : count ≡ length left.bookings) (book_is : book ≡ book_table left)
      (events_are : es ≡ events_from m (take rows t.events)) (free_are : fs ≡ rows_from most_links (take rows t.events) m (take (rows * most_links) t.free)) (dropped : totals ≡ totals_of left.bookings) where
    head_after : with_count (with_clock t.head m) count ≡ head_of links left
    head_after = head_is links left refl (links_are fine) count_is refl

    events_left : es ≡ events_in rows left
    events_left = events_are ∙ ap (events_from m) (events_front fine rows few fits) ∙ events_moved p m rows links few_links few onward

    free_left : fs ≡ free_in rows links left
    free_left = free_are ∙ ap₂ (λ (x y : List ℕ). rows_from most_links x m y) (events_front fine rows few fits) (free_front fine rows few fits) ∙ free_moved p m rows links few_links few onward

    pub moved_on : lent (with_count (with_clock t.head m) count) (es ++ drop rows t.events) (fs ++ drop (rows * most_links) t.free) book totals ≡ tables links left
    moved_on =
        tables_are links left head_after (events_whole fine rows few fits left enough events_left) (free_whole fine rows few fits left enough free_left) book_is
        (dropped ∙ table_is links left few_links obeys_left.bookings_right)

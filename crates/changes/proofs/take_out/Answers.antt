-- `take_out` meets its contract: a number that stands is found, and what its booking held is given back in the rows that can be used.
use Rattle.std.proofs.Common.{sym, ◌∙◌, ◌+◌, ◌-◌, ◌*◌, take, ap, subst, arith}
use mathlib.Core.Bool.{false≢true}
use Rattle.units.specs.Along.{less_along}
use Rattle.units.specs.Limits.{most_links}
use Rattle.book.specs.Places.{place_path}
use Rattle.changes.specs.Holding.{release_of, PlaceRight}
use Rattle.totals.specs.Totals.{place_work, WorkRight}
use Rattle.rules.specs.Tables.{held_by}
use Rattle.changes.specs.Updating.{with_count}
use Rattle.changes.specs.Holding.{GivesBack}
use Rattle.rules.proofs.Standing.{stands_found}
use Rattle.rules.proofs.Fine.{sizes, places_fit, book_obeys, few_bookings}
use Rattle.changes.proofs.InOrder.{Released, released}
use Rattle.changes.proofs.Front.{rows_few, events_inside, events_lent, free_inside, free_lent}
use Rattle.changes.proofs.Cancelled.{place_is_right, work_is_right, cancelled}
use Rattle.changes.proofs.take_out.Goals as goal
use Rattle.changes.proofs.take_out.Goals.{In-Some}

-- the number is found at the place
gone : (c : In-Some) → Released c.requires.fine c.args.number c.in-Some.place
gone c = released c.requires.fine c.args.number c.in-Some.place (sym c.find.ensures ∙ c.in-Some.is)

pub find-requires : goal.find-requires
find-requires c = (omega arith, places_fit c.requires.fine)

pub returns-in_default-clause-tables : goal.returns-in_default-clause-tables
returns-in_default-clause-tables c =
    let d = c.args.desk.now in
    let none = stands_found d.head.now d.book.now c.args.number (sym c.find.ensures ∙ c.in_default.is) in
    absurd (false≢true (sym none ∙ c.requires.stands))

pub booking_at-booking-requires : goal.booking_at-booking-requires
booking_at-booking-requires c = omega (arith, (gone (goal.at.booking_at-booking-requires c).In-Some).inside, few_bookings c.requires.fine, (sizes c.requires.fine).book_right)

pub overflow_sub-head : goal.overflow_sub-head
overflow_sub-head c = omega (arith, (gone (goal.at.overflow_sub-head c).In-Some).inside)

pub slice_bounds-events-end : goal.slice_bounds-events-end
slice_bounds-events-end c = let fine = c.requires.fine in events_inside fine (1 + 2 * c.args.desk.now.head.now.bookings) (rows_few fine)

pub slice_bounds-events-end-2 : goal.slice_bounds-events-end-2
slice_bounds-events-end-2 c = let fine = c.requires.fine in events_lent fine (1 + 2 * c.args.desk.now.head.now.bookings) (rows_few fine)

pub slice_bounds-free-end : goal.slice_bounds-free-end
slice_bounds-free-end c = let fine = c.requires.fine in free_inside fine (1 + 2 * c.args.desk.now.head.now.bookings) (rows_few fine)

pub slice_bounds-free-end-2 : goal.slice_bounds-free-end-2
slice_bounds-free-end-2 c = let fine = c.requires.fine in free_lent fine (1 + 2 * c.args.desk.now.head.now.bookings) (rows_few fine)

pub invariant_of-give_back : goal.invariant_of-give_back
invariant_of-give_back c =
    let found = gone (goal.at.invariant_of-give_back c).In-Some in
    record { right = subst PlaceRight (sym c.booking_at-booking.ensures) (place_is_right c.requires.fine c.args.number c.in-Some.place found) }

pub give_back-requires-clause-places : goal.give_back-requires-clause-places
give_back-requires-clause-places c = omega (arith, few_bookings c.requires.fine, (sizes c.requires.fine).book_right, c.remove_place.auto.book)

pub give_back-requires-clause-short_guard : goal.give_back-requires-clause-short_guard
give_back-requires-clause-short_guard c = (book_obeys c.requires.fine).guard_right

pub drop_work-requires-clause-right : goal.drop_work-requires-clause-right
drop_work-requires-clause-right c =
    let found = gone (goal.at.drop_work-requires-clause-right c).In-Some in
    subst WorkRight (sym c.booking_at-booking.ensures) (work_is_right c.requires.fine c.args.number c.in-Some.place found)

pub returns-clause-tables : goal.returns-clause-tables
returns-clause-tables c =
    let found = gone (goal.at.returns-clause-tables c).In-Some in
    let d = c.args.desk.now in
    let head = with_count d.head.now (d.head.now.bookings - 1) in
    let rows = 1 + 2 * d.head.now.bookings in
    cancelled c.requires.fine c.args.number c.in-Some.place found c.remove_place.ensures
    (subst (λ b. GivesBack (held_by head c.remove_place.new.book) b.start.0 (release_of head b) b.bandwidth.0 (place_path b) (take rows d.events.now) (take (rows * most_links) d.free.now) c.give_back.new.events c.give_back.new.free)
    c.booking_at-booking.ensures c.give_back.ensures)
    (c.drop_work.ensures ∙ ap (λ b. less_along (place_work b) (place_path b) d.totals.now) c.booking_at-booking.ensures)

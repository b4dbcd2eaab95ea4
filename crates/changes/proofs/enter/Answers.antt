-- `enter` meets its contract: the booking is put in at the place of its number, and added to the events and the figures.
use Rattle.std.proofs.Common.{ap, ◌∙◌, ◌+◌, ◌*◌, arith}
use Rattle.book.specs.Places.{with_booking}
use Rattle.rules.proofs.Fine.{sizes, few_bookings, book_obeys}
use Rattle.changes.proofs.Front.{events_inside, events_lent, free_inside, free_lent}
use Rattle.changes.proofs.Entered.{fits, granted_place, enter_asks, granted_right, granted_room, granted_work, granted_few, entered_tables}
use Rattle.changes.proofs.enter.Goals as goal

pub slot-place-requires : goal.slot-place-requires
slot-place-requires c = omega (arith, few_bookings c.requires.fine, (sizes c.requires.fine).book_right)

pub insert_booking-requires : goal.insert_booking-requires
insert_booking-requires c = omega (arith, c.slot-place.ensures, enter_asks c.requires.fine c.requires.grantable, (sizes c.requires.fine).book_right)

pub slice_bounds-events-end : goal.slice_bounds-events-end
slice_bounds-events-end c = let fine = c.requires.fine in events_inside fine (3 + 2 * c.args.desk.now.head.now.bookings) (fits fine c.requires.grantable)

pub slice_bounds-events-end-2 : goal.slice_bounds-events-end-2
slice_bounds-events-end-2 c = let fine = c.requires.fine in events_lent fine (3 + 2 * c.args.desk.now.head.now.bookings) (fits fine c.requires.grantable)

pub slice_bounds-free-end : goal.slice_bounds-free-end
slice_bounds-free-end c = let fine = c.requires.fine in free_inside fine (3 + 2 * c.args.desk.now.head.now.bookings) (fits fine c.requires.grantable)

pub slice_bounds-free-end-2 : goal.slice_bounds-free-end-2
slice_bounds-free-end-2 c = let fine = c.requires.fine in free_lent fine (3 + 2 * c.args.desk.now.head.now.bookings) (fits fine c.requires.grantable)

pub invariant_of-hold : goal.invariant_of-hold
invariant_of-hold c = record { right = granted_right c.requires.fine c.requires.grantable }

pub hold-requires-clause-room : goal.hold-requires-clause-room
hold-requires-clause-room c = granted_room c.requires.fine c.requires.grantable

pub hold-requires-clause-short_guard : goal.hold-requires-clause-short_guard
hold-requires-clause-short_guard c = (book_obeys c.requires.fine).guard_right

pub add_work-requires-clause-right : goal.add_work-requires-clause-right
add_work-requires-clause-right c = granted_work c.requires.fine c.requires.grantable

pub add_work-requires-clause-few : goal.add_work-requires-clause-few
add_work-requires-clause-few c = granted_few c.requires.fine c.requires.grantable

pub overflow_add-head : goal.overflow_add-head
overflow_add-head c = omega (arith, few_bookings c.requires.fine)

pub returns-clause-tables : goal.returns-clause-tables
returns-clause-tables c =
    let a = c.args in
    entered_tables c.requires.fine c.requires.grantable c.hold.ensures
    (c.insert_booking.ensures ∙ ap (λ i. with_booking i (granted_place a.number a.request a.start a.path) a.desk.now.book.now) c.slot-place.ensures)
    c.add_work.ensures

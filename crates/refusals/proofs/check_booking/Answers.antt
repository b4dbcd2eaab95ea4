-- `check_booking` meets its contract: past the offer's checks the book decides.
use mathlib.Core.Path.{sym, ◌∙◌}
use Rattle.rules.proofs.Standing.{stands_found}
use Rattle.refusals.proofs.OwnChecks.{number_stands, book_full, booking_passes}
use Rattle.refusals.proofs.check_booking.Goals as goal

pub returns-then-is_some : goal.returns-then-is_some
returns-then-is_some c =
    let t = c.args.tables.now in
    let stands = stands_found t.head t.book.now c.args.number (sym c.find.ensures) ∙ sym c.is_some.ensures ∙ c.if-is_some.true in
    sym (number_stands t.head t.book.now c.args.number c.args.request (sym c.number_ok.ensures ∙ c.if-not-number_ok.false) (sym c.in_ok-check_offer.ensures) stands)

pub returns-then-count-ge-BOOKINGS : goal.returns-then-count-ge-BOOKINGS
returns-then-count-ge-BOOKINGS c =
    let t = c.args.tables.now in
    let none = stands_found t.head t.book.now c.args.number (sym c.find.ensures) ∙ sym c.is_some.ensures ∙ c.if-is_some.false in
    sym (book_full t.head t.book.now c.args.number c.args.request (sym c.number_ok.ensures ∙ c.if-not-number_ok.false) (sym c.in_ok-check_offer.ensures) none c.if-count-ge-BOOKINGS.true)

pub returns : goal.returns
returns c =
    let t = c.args.tables.now in
    let none = stands_found t.head t.book.now c.args.number (sym c.find.ensures) ∙ sym c.is_some.ensures ∙ c.if-is_some.false in
    sym (booking_passes t.head t.book.now c.args.number c.args.request (sym c.number_ok.ensures ∙ c.if-not-number_ok.false) (sym c.in_ok-check_offer.ensures) none c.if-count-ge-BOOKINGS.false)

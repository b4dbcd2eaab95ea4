-- `make_booking` meets its contract: each way out is one of the outcome's; the start is the plain book's best, and it is entered.
use mathlib.Core.Path.{◌≡◌, refl, ap, ◌∙◌}
use mathlib.Core.Bool.{and-eq-true_iff}
use borrow.Author.Rules.{rules}
use Rattle.std.proofs.Common.{Err}
use Rattle.units.specs.Refusals.{number}
use Rattle.choice.specs.Answer.{values}
use Rattle.rules.specs.Calls.{Ask, ask, starts, refuse, no_start_at, breaks_off, own_checks, number_ok, request_ok, put_in}
use Rattle.rules.specs.Tables.{held, tables}
use Rattle.rules.proofs.Checks.{Passed}
use Rattle.rules.proofs.Tests.{RequestRight, request_right}
use Rattle.rules.proofs.Fine.{places_fit}
use Rattle.lent.specs.Lent.{tables_of}
use Rattle.starts.specs.Asked.{Asks}
use Rattle.starts.proofs.BestStart.{best_asks, chosen_start, chosen_none, best_starts, best_none}
use Rattle.sound_calls.specs.Lent.{choice_shown}
use Rattle.sound_calls.proofs.Handed.{handed_grant, handed_tables}
use Rattle.sound_calls.proofs.Granted.{found_best, answered, grantable, booked_is}
use Rattle.sound_calls.proofs.Ways.{found, moved, by_call, call_stops, passed, goes_on}
use Rattle.sound_calls.proofs.make_booking.Goals as goal
use Rattle.sound_calls.proofs.make_booking.Goals.{In_ok-check_booking, In_err-check_booking}

abbrev called : In_ok-check_booking → Ask
called c = Ask.book c.args.number c.args.request

-- what its own checks say of the desk
own : (c : In_ok-check_booking) → let d = c.args.desk.now in 0 ≡ by_call (called c) d.links.now (tables_of d)
own c = found c.tables-tables.ensures.links c.tables-tables.ensures.tables (by_call (called c)) c.in_ok-check_booking.ensures

own_refusal : (c : In_err-check_booking) → let d = c.args.desk.now in number c.in_err-check_booking.field-0.0 ≡ by_call (Ask.book c.args.number c.args.request) d.links.now (tables_of d)
own_refusal c = found c.tables-tables.ensures.links c.tables-tables.ensures.tables (by_call (Ask.book c.args.number c.args.request)) c.in_err-check_booking.ensures

-- a booking that passes them
checks : (c : In_ok-check_booking) → let d = c.args.desk.now in Passed (own_checks d.links.now (held (tables_of d)) (called c))
checks c =
    let d = c.args.desk.now in
    passed d.links.now (tables_of d) c.requires (called c) refl (own c)

-- asks within the ranges
right : (c : In_ok-check_booking) → RequestRight c.args.request
right c = request_right c.args.request ((and-eq-true_iff (number_ok c.args.number) (request_ok c.args.request)).0 (checks c).0).1

pub check_booking-requires : goal.check_booking-requires
check_booking-requires c =
    let read = c.tables-tables.ensures in
    rw (ap (λ x. x.head.bookings) read.tables, ap (λ x. x.book) read.tables) (places_fit c.requires)

pub returns-in_err-check_booking-clause-answer : goal.returns-in_err-check_booking-clause-answer
returns-in_err-check_booking-clause-answer c =
    let d = c.args.desk.now in
    let a = Ask.book c.args.number c.args.request in
    let same : values c.from_residual.result ≡ choice_shown (refuse (number c.in_err-check_booking.field-0.0)) = search rules in
    let k = own_refusal (goal.at.returns-in_err-check_booking-clause-answer c).In_err-check_booking in
    same ∙ handed_grant d.links.now (tables_of d) (ask a) _ (call_stops d.links.now (tables_of d) c.requires a refl _ k)

pub returns-in_err-check_booking-clause-tables : goal.returns-in_err-check_booking-clause-tables
returns-in_err-check_booking-clause-tables c =
    let d = c.args.desk.now in
    let a = Ask.book c.args.number c.args.request in
    let k = own_refusal (goal.at.returns-in_err-check_booking-clause-tables c).In_err-check_booking in
    handed_tables d.links.now (tables_of d) (ask a) _ (call_stops d.links.now (tables_of d) c.requires a refl _ k) refl

pub best_start-requires : goal.best_start-requires
best_start-requires c =
    let d = c.args.desk.now in
    let read = c.tables-tables.ensures in
    moved read.links read.tables (λ l x. Asks l x c.args.request) (best_asks d.links.now (tables_of d) c.requires c.args.request (right (goal.at.best_start-requires c).In_ok-check_booking))

pub returns-in_err-granted-clause-answer : goal.returns-in_err-granted-clause-answer
returns-in_err-granted-clause-answer c =
    let d = c.args.desk.now in
    let links = d.links.now in
    let t = tables_of d in
    let r = c.args.request in
    let a = Ask.book c.args.number r in
    let read = c.tables-tables.ensures in
    let w = (goal.at.returns-in_err-granted-clause-answer c).In_ok-check_booking in
    let same : values c.from_residual-in_err-granted.result ≡ values (Err c.in_err-granted.field-0.0) = search rules in
    same ∙ answered links t c.requires r (right w) _ (found_best read.links read.tables r c.in_err-granted.ensures) ∙ handed_grant links t (ask a) _ (goes_on links t c.requires a refl (own w) _ refl)

pub returns-in_err-granted-clause-tables : goal.returns-in_err-granted-clause-tables
returns-in_err-granted-clause-tables c =
    let d = c.args.desk.now in
    let links = d.links.now in
    let t = tables_of d in
    let r = c.args.request in
    let a = Ask.book c.args.number r in
    let read = c.tables-tables.ensures in
    let w = (goal.at.returns-in_err-granted-clause-tables c).In_ok-check_booking in
    let none = chosen_none links t c.requires r (right w) _ (found_best read.links read.tables r c.in_err-granted.ensures) in
    handed_tables links t (ask a) _ (goes_on links t c.requires a refl (own w) (no_start_at (breaks_off links (held t) r)) (best_none links t c.requires r (right w) none)) refl

pub enter-requires-clause-grantable : goal.enter-requires-clause-grantable
enter-requires-clause-grantable c =
    let d = c.args.desk.now in
    let links = d.links.now in
    let t = tables_of d in
    let r = c.args.request in
    let read = c.tables-tables.ensures in
    let w = (goal.at.enter-requires-clause-grantable c).In_ok-check_booking in
    let s = chosen_start links t c.requires r (right w) _ (found_best read.links read.tables r c.in_ok-granted.ensures) in
    grantable links t c.requires r (right w) c.args.number _ s (checks w)

pub returns-clause-answer : goal.returns-clause-answer
returns-clause-answer c =
    let d = c.args.desk.now in
    let links = d.links.now in
    let t = tables_of d in
    let r = c.args.request in
    let a = Ask.book c.args.number r in
    let read = c.tables-tables.ensures in
    let w = (goal.at.returns-clause-answer c).In_ok-check_booking in
    answered links t c.requires r (right w) _ (found_best read.links read.tables r c.in_ok-granted.ensures) ∙ handed_grant links t (ask a) _ (goes_on links t c.requires a refl (own w) _ refl)

pub returns-clause-tables : goal.returns-clause-tables
returns-clause-tables c =
    let d = c.args.desk.now in
    let links = d.links.now in
    let t = tables_of d in
    let r = c.args.request in
    let a = Ask.book c.args.number r in
    let read = c.tables-tables.ensures in
    let w = (goal.at.returns-clause-tables c).In_ok-check_booking in
    let s = chosen_start links t c.requires r (right w) _ (found_best read.links read.tables r c.in_ok-granted.ensures) in
    handed_tables links t (ask a) _ (goes_on links t c.requires a refl (own w) (starts s.grant) (best_starts links t c.requires r (right w) s.grant s.is_best))
    (c.enter.ensures.tables ∙ ap (λ b. tables links (put_in b (held t))) (booked_is links t c.requires r (right w) c.args.number _ s))

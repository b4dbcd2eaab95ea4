-- `cancel` meets its contract: each way out is one of the outcome's.
use mathlib.Core.Path.{◌≡◌, refl, ap, ◌∙◌}
use borrow.Author.Rules.{rules}
use Rattle.units.specs.Refusals.{number, number_of}
use Rattle.rules.specs.Calls.{Ask, ask, done}
use Rattle.lent.specs.Lent.{tables_of}
use Rattle.rules.proofs.Fine.{places_fit}
use Rattle.sound_calls.proofs.Handed.{handed_number, handed_tables}
use Rattle.sound_calls.proofs.Ways.{found, by_call, call_stops, passed, goes_on}
use Rattle.sound_calls.proofs.cancel.Goals as goal
use Rattle.sound_calls.proofs.cancel.Goals.{In_ok-check_cancel, In_err-check_cancel}

-- what its own checks say of the desk
own : (c : In_ok-check_cancel) → let d = c.args.desk.now in 0 ≡ by_call (Ask.cancel c.args.number) d.links.now (tables_of d)
own c = found c.tables.ensures.links c.tables.ensures.tables (by_call (Ask.cancel c.args.number)) c.in_ok-check_cancel.ensures

own_refusal : (c : In_err-check_cancel) → let d = c.args.desk.now in number c.in_err-check_cancel.field-0.0 ≡ by_call (Ask.cancel c.args.number) d.links.now (tables_of d)
own_refusal c = found c.tables.ensures.links c.tables.ensures.tables (by_call (Ask.cancel c.args.number)) c.in_err-check_cancel.ensures

pub check_cancel-requires : goal.check_cancel-requires
check_cancel-requires c =
    let read = c.tables.ensures in
    rw (ap (λ t. t.head.bookings) read.tables, ap (λ t. t.book) read.tables) (places_fit c.requires)

pub returns-in_err-check_cancel-clause-answer : goal.returns-in_err-check_cancel-clause-answer
returns-in_err-check_cancel-clause-answer c =
    let d = c.args.desk.now in
    let a = Ask.cancel c.args.number in
    let same : number_of c.from_residual.result ≡ number c.in_err-check_cancel.field-0.0 = search rules in
    same ∙ handed_number d.links.now (tables_of d) (ask a) _ (call_stops d.links.now (tables_of d) c.requires a refl _ (own_refusal (goal.at.returns-in_err-check_cancel-clause-answer c).In_err-check_cancel))

pub returns-in_err-check_cancel-clause-tables : goal.returns-in_err-check_cancel-clause-tables
returns-in_err-check_cancel-clause-tables c =
    let d = c.args.desk.now in
    let a = Ask.cancel c.args.number in
    handed_tables d.links.now (tables_of d) (ask a) _ (call_stops d.links.now (tables_of d) c.requires a refl _ (own_refusal (goal.at.returns-in_err-check_cancel-clause-tables c).In_err-check_cancel)) refl

pub take_out-requires-clause-stands : goal.take_out-requires-clause-stands
take_out-requires-clause-stands c =
    let d = c.args.desk.now in
    (passed d.links.now (tables_of d) c.requires (Ask.cancel c.args.number) refl (own (goal.at.take_out-requires-clause-stands c).In_ok-check_cancel)).1.0

pub returns-clause-answer : goal.returns-clause-answer
returns-clause-answer c =
    let d = c.args.desk.now in
    let a = Ask.cancel c.args.number in
    handed_number d.links.now (tables_of d) (ask a) _ (goes_on d.links.now (tables_of d) c.requires a refl (own (goal.at.returns-clause-answer c).In_ok-check_cancel) done refl)

pub returns-clause-tables : goal.returns-clause-tables
returns-clause-tables c =
    let d = c.args.desk.now in
    let a = Ask.cancel c.args.number in
    handed_tables d.links.now (tables_of d) (ask a) _ (goes_on d.links.now (tables_of d) c.requires a refl (own (goal.at.returns-clause-tables c).In_ok-check_cancel) done refl) c.take_out.ensures.tables

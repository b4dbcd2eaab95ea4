-- `move_clock` meets its contract: each way out is one of the outcome's.
use mathlib.Core.Path.{◌≡◌, refl, ◌∙◌}
use borrow.Author.Rules.{rules}
use borrow.Author.Tests.{leb-true}
use Rattle.units.specs.Refusals.{number, number_of}
use Rattle.rules.specs.Calls.{Ask, ask, done}
use Rattle.lent.specs.Lent.{tables_of}
use Rattle.sound_calls.proofs.Handed.{handed_number, handed_tables}
use Rattle.sound_calls.proofs.Ways.{call_stops, passed, goes_on}
use Rattle.sound_calls.proofs.move_clock.Goals as goal

pub returns-in_err-check_clock-clause-answer : goal.returns-in_err-check_clock-clause-answer
returns-in_err-check_clock-clause-answer c =
    let d = c.args.desk.now in
    let a = Ask.move_clock c.args.minute.0 in
    let same : number_of c.from_residual.result ≡ number c.in_err-check_clock.field-0.0 = search rules in
    same ∙ handed_number d.links.now (tables_of d) (ask a) _ (call_stops d.links.now (tables_of d) c.requires a refl _ c.in_err-check_clock.ensures)

pub returns-in_err-check_clock-clause-tables : goal.returns-in_err-check_clock-clause-tables
returns-in_err-check_clock-clause-tables c =
    let d = c.args.desk.now in
    let a = Ask.move_clock c.args.minute.0 in
    handed_tables d.links.now (tables_of d) (ask a) _ (call_stops d.links.now (tables_of d) c.requires a refl _ c.in_err-check_clock.ensures) refl

pub advance-requires-clause-in_range : goal.advance-requires-clause-in_range
advance-requires-clause-in_range c =
    let d = c.args.desk.now in
    leb-true _ _ (passed d.links.now (tables_of d) c.requires (Ask.move_clock c.args.minute.0) refl c.in_ok-check_clock.ensures).0

pub advance-requires-clause-onward : goal.advance-requires-clause-onward
advance-requires-clause-onward c =
    let d = c.args.desk.now in
    leb-true _ _ (passed d.links.now (tables_of d) c.requires (Ask.move_clock c.args.minute.0) refl c.in_ok-check_clock.ensures).1.0

pub returns-clause-answer : goal.returns-clause-answer
returns-clause-answer c =
    let d = c.args.desk.now in
    let a = Ask.move_clock c.args.minute.0 in
    handed_number d.links.now (tables_of d) (ask a) _ (goes_on d.links.now (tables_of d) c.requires a refl c.in_ok-check_clock.ensures done refl)

pub returns-clause-tables : goal.returns-clause-tables
returns-clause-tables c =
    let d = c.args.desk.now in
    let a = Ask.move_clock c.args.minute.0 in
    handed_tables d.links.now (tables_of d) (ask a) _ (goes_on d.links.now (tables_of d) c.requires a refl c.in_ok-check_clock.ensures done refl) c.advance.ensures.tables

-- `set_up` meets its contract: each way out is one of the outcome's.
use mathlib.Core.Path.{◌≡◌, refl, sym, ◌∙◌}
use borrow.Author.Rules.{rules}
use Rattle.units.specs.Refusals.{number, number_of}
use Rattle.units.specs.Limits.{most_guard}
use Rattle.units.proofs.Tests.{at_most}
use Rattle.units.proofs.Refusals.{numbered}
use Rattle.rules.specs.Calls.{set_up, first_refusal}
use Rattle.rules.specs.Tables.{table_checks}
use Rattle.lent.specs.Lent.{tables_of}
use Rattle.rules.proofs.Exits.{set_up_stopped, set_up_passed, set_up_done}
use Rattle.sound_calls.proofs.Handed.{handed_number, handed_tables}
use Rattle.sound_calls.proofs.Ways.{found}
use Rattle.desk_core.proofs.set_up.Goals as goal

pub returns-in_err-check_set_up-clause-answer : goal.returns-in_err-check_set_up-clause-answer
returns-in_err-check_set_up-clause-answer c =
    let d = c.args.desk.now in
    let same : number_of c.from_residual.result ≡ number c.in_err-check_set_up.field-0.0 = search rules in
    let k = found c.tables.ensures.links c.tables.ensures.tables (λ l t. first_refusal (table_checks l t (set_up c.args.guard.0))) c.in_err-check_set_up.ensures in
    same ∙ handed_number d.links.now (tables_of d) (set_up c.args.guard.0) _ (set_up_stopped d.links.now (tables_of d) c.args.guard.0 _ (sym k) (numbered _))

pub returns-in_err-check_set_up-clause-tables : goal.returns-in_err-check_set_up-clause-tables
returns-in_err-check_set_up-clause-tables c =
    let d = c.args.desk.now in
    let k = found c.tables.ensures.links c.tables.ensures.tables (λ l t. first_refusal (table_checks l t (set_up c.args.guard.0))) c.in_err-check_set_up.ensures in
    handed_tables d.links.now (tables_of d) (set_up c.args.guard.0) _ (set_up_stopped d.links.now (tables_of d) c.args.guard.0 _ (sym k) (numbered _)) refl

pub reset-requires : goal.reset-requires
reset-requires c =
    let d = c.args.desk.now in
    let k = found c.tables.ensures.links c.tables.ensures.tables (λ l t. first_refusal (table_checks l t (set_up c.args.guard.0))) c.in_ok-check_set_up.ensures in
    let ok = set_up_passed d.links.now (tables_of d) c.args.guard.0 (sym k) in
    record { sized = ok.0; short_guard = (at_most c.args.guard.0 most_guard).0 ok.1.0 }

pub returns-clause-answer : goal.returns-clause-answer
returns-clause-answer c =
    let d = c.args.desk.now in
    let k = found c.tables.ensures.links c.tables.ensures.tables (λ l t. first_refusal (table_checks l t (set_up c.args.guard.0))) c.in_ok-check_set_up.ensures in
    handed_number d.links.now (tables_of d) (set_up c.args.guard.0) _ (set_up_done d.links.now (tables_of d) c.args.guard.0 (sym k))

pub returns-clause-tables : goal.returns-clause-tables
returns-clause-tables c =
    let d = c.args.desk.now in
    let k = found c.tables.ensures.links c.tables.ensures.tables (λ l t. first_refusal (table_checks l t (set_up c.args.guard.0))) c.in_ok-check_set_up.ensures in
    handed_tables d.links.now (tables_of d) (set_up c.args.guard.0) _ (set_up_done d.links.now (tables_of d) c.args.guard.0 (sym k)) c.reset.ensures.tables

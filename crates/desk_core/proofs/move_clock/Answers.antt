-- `move_clock` meets its contract: the tables' checks refuse it, or `sound_calls` answers.
use mathlib.Core.Path.{◌≡◌, ◌∙◌}
use borrow.Author.Rules.{rules}
use Rattle.units.specs.Refusals.{number, number_of}
use Rattle.rules.specs.Calls.{Ask}
use Rattle.desk_core.proofs.Ways.{are_fine, refused_number, refused_tables}
use Rattle.desk_core.proofs.move_clock.Goals as goal

pub returns-in_err-check_tables-clause-answer : goal.returns-in_err-check_tables-clause-answer
returns-in_err-check_tables-clause-answer c =
    let same : number_of c.from_residual.result ≡ number c.in_err-check_tables.field-0.0 = search rules in
    same ∙ refused_number (Ask.move_clock c.args.minute.0) c.tables.ensures.links c.tables.ensures.tables _ c.in_err-check_tables.ensures

pub returns-in_err-check_tables-clause-tables : goal.returns-in_err-check_tables-clause-tables
returns-in_err-check_tables-clause-tables c = refused_tables (Ask.move_clock c.args.minute.0) c.tables.ensures.links c.tables.ensures.tables _ c.in_err-check_tables.ensures

pub move_clock-requires : goal.move_clock-requires
move_clock-requires c = are_fine (Ask.move_clock c.args.minute.0) c.tables.ensures.links c.tables.ensures.tables c.in_ok-check_tables.ensures

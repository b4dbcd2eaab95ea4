-- `make_booking` meets its contract: the tables' checks refuse it, or `sound_calls` answers.
use mathlib.Core.Path.{◌≡◌, ◌∙◌}
use borrow.Author.Rules.{rules}
use Rattle.units.specs.Refusals.{number}
use Rattle.choice.specs.Answer.{values}
use Rattle.rules.specs.Calls.{Ask, refuse}
use Rattle.sound_calls.specs.Lent.{choice_shown}
use Rattle.desk_core.proofs.Ways.{are_fine, refused_grant, refused_tables}
use Rattle.desk_core.proofs.make_booking.Goals as goal

pub returns-in_err-check_tables-clause-answer : goal.returns-in_err-check_tables-clause-answer
returns-in_err-check_tables-clause-answer c =
    let same : values c.from_residual.result ≡ choice_shown (refuse (number c.in_err-check_tables.field-0.0)) = search rules in
    same ∙ refused_grant (Ask.book c.args.number c.args.request) c.tables.ensures.links c.tables.ensures.tables _ c.in_err-check_tables.ensures

pub returns-in_err-check_tables-clause-tables : goal.returns-in_err-check_tables-clause-tables
returns-in_err-check_tables-clause-tables c = refused_tables (Ask.book c.args.number c.args.request) c.tables.ensures.links c.tables.ensures.tables _ c.in_err-check_tables.ensures

pub make_booking-requires : goal.make_booking-requires
make_booking-requires c = are_fine (Ask.book c.args.number c.args.request) c.tables.ensures.links c.tables.ensures.tables c.in_ok-check_tables.ensures

-- `sold_work` meets its contract: the tables' checks refuse it, or `sound_calls` answers.
use mathlib.Core.Path.{◌≡◌, refl, ◌∙◌}
use borrow.Author.Rules.{rules}
use Rattle.units.specs.Refusals.{number}
use Rattle.rules.specs.Calls.{Ask, refuse}
use Rattle.sound_calls.specs.Lent.{sold_shown, sold_values}
use Rattle.desk_core.proofs.Ways.{are_fine, refused_sold}
use Rattle.desk_core.proofs.sold_work.Goals as goal

pub returns-in_err-check_tables : goal.returns-in_err-check_tables
returns-in_err-check_tables c =
    let same : sold_values c.from_residual.result ≡ sold_shown (refuse (number c.in_err-check_tables.field-0.0)) = search rules in
    same ∙ refused_sold (Ask.sold c.args.link.0) refl refl _ c.in_err-check_tables.ensures

pub sold_work-requires : goal.sold_work-requires
sold_work-requires c = are_fine (Ask.sold c.args.link.0) refl refl c.in_ok-check_tables.ensures

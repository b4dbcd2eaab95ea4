-- `show` meets its contract: the tables' checks refuse it, or `sound_calls` answers.
use mathlib.Core.Path.{◌≡◌, refl, ◌∙◌}
use borrow.Author.Rules.{rules}
use Rattle.units.specs.Refusals.{number}
use Rattle.rules.specs.Calls.{Ask, refuse}
use Rattle.sound_calls.specs.Lent.{shown, shown_values}
use Rattle.desk_core.proofs.Ways.{are_fine, refused_shown}
use Rattle.desk_core.proofs.show.Goals as goal

pub returns-in_err-check_tables : goal.returns-in_err-check_tables
returns-in_err-check_tables c =
    let same : shown_values c.from_residual.result ≡ shown (refuse (number c.in_err-check_tables.field-0.0)) = search rules in
    same ∙ refused_shown (Ask.show c.args.link.0 c.args.minute.0) refl refl _ c.in_err-check_tables.ensures

pub show-requires : goal.show-requires
show-requires c = are_fine (Ask.show c.args.link.0 c.args.minute.0) refl refl c.in_ok-check_tables.ensures

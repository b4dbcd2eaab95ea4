-- `offer` meets its contract: the tables' checks refuse it, or `sound_calls` answers.
use mathlib.Core.Path.{◌≡◌, refl, ◌∙◌}
use borrow.Author.Rules.{rules}
use Rattle.units.specs.Refusals.{number}
use Rattle.choice.specs.Answer.{values}
use Rattle.rules.specs.Calls.{Ask, refuse}
use Rattle.sound_calls.specs.Lent.{choice_shown}
use Rattle.desk_core.proofs.Ways.{are_fine, refused_grant}
use Rattle.desk_core.proofs.offer.Goals as goal

pub returns-in_err-check_tables : goal.returns-in_err-check_tables
returns-in_err-check_tables c =
    let same : values c.from_residual.result ≡ choice_shown (refuse (number c.in_err-check_tables.field-0.0)) = search rules in
    same ∙ refused_grant (Ask.offer c.args.request) refl refl _ c.in_err-check_tables.ensures

pub offer-requires : goal.offer-requires
offer-requires c = are_fine (Ask.offer c.args.request) refl refl c.in_ok-check_tables.ensures

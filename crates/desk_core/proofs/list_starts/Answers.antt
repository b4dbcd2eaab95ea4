-- `list_starts` meets its contract: the checks of the tables and the list refuse it, or `sound_calls` answers.
use mathlib.Core.Path.{◌≡◌, refl, ◌∙◌}
use borrow.Author.Rules.{rules}
use borrow.Author.Tests.{eqb-true}
use lib.ListN.{length}
use Rattle.units.specs.Refusals.{number}
use Rattle.units.specs.Limits.{list_size}
use Rattle.rules.specs.Calls.{Ask, refuse}
use Rattle.lent.specs.Lent.{tables_in}
use Rattle.sound_calls.specs.Lent.{listed, listed_values}
use Rattle.desk_core.proofs.Ways.{are_fine, list_right, refused_listing}
use Rattle.desk_core.proofs.list_starts.Goals as goal

pub returns-in_err-check_listing : goal.returns-in_err-check_listing
returns-in_err-check_listing c =
    let same : listed_values c.from_residual.result ≡ listed (refuse (number c.in_err-check_listing.field-0.0)) = search rules in
    let both = refused_listing (Ask.list (length c.args.list.now) c.args.request) refl refl _ c.in_err-check_listing.ensures c.args.list.now in
    record { answer = same ∙ both.0; list_left = both.1 }

pub list_starts-requires : goal.list_starts-requires
list_starts-requires c =
    let a = Ask.list (length c.args.list.now) c.args.request in
    let t = c.args.tables.now in
    let passes = c.in_ok-check_listing.ensures in
    record { fine = are_fine a refl refl passes; list_sized = eqb-true (length c.args.list.now) list_size (list_right a t.links.now (tables_in t) passes) }

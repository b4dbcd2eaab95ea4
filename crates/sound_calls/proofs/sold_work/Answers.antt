-- `sold_work` meets its contract: each way out is one of the outcome's; the total is the sum over the plain book.
use mathlib.Core.Path.{◌≡◌, refl, ap, ◌∙◌}
use borrow.Author.Rules.{rules}
use Prim.Native.Nat.{◌<◌}
use native.Mathlib.Omega.{arith}
use lib.ListN.{length}
use Rattle.units.specs.Refusals.{number}
use Rattle.units.proofs.Tests.{less_than}
use Rattle.rules.specs.Plain.{sold_work}
use Rattle.rules.specs.Calls.{Ask, ask, shows, refuse}
use Rattle.rules.specs.Tables.{held}
use Rattle.rules.proofs.Fine.{sizes}
use Rattle.lent.specs.Lent.{tables_in}
use Rattle.sound_calls.specs.Lent.{sold_shown, sold_values}
use Rattle.sound_calls.proofs.Handed.{handed_sold}
use Rattle.sound_calls.proofs.Ways.{call_stops, passed, goes_on}
use Rattle.sound_calls.proofs.Figures.{total_is}
use Rattle.sound_calls.proofs.sold_work.Goals as goal
use Rattle.sound_calls.proofs.sold_work.Goals.{In_ok-check_sold}

-- a question that passes is for a link of the list
on_list : (c : In_ok-check_sold) → let t = c.args.tables.now in c.args.link.0 < length t.links.now
on_list c =
    let t = c.args.tables.now in
    let links = t.links.now in
    (less_than c.args.link.0 (length links)).0 (passed links (tables_in t) c.requires (Ask.sold c.args.link.0) refl c.in_ok-check_sold.ensures).0

pub returns-in_err-check_sold : goal.returns-in_err-check_sold
returns-in_err-check_sold c =
    let t = c.args.tables.now in
    let links = t.links.now in
    let a = Ask.sold c.args.link.0 in
    let same : sold_values c.from_residual.result ≡ sold_shown (refuse (number c.in_err-check_sold.field-0.0)) = search rules in
    same ∙ handed_sold links (tables_in t) (ask a) _ (call_stops links (tables_in t) c.requires a refl _ c.in_err-check_sold.ensures)

pub bounds-tables-link : goal.bounds-tables-link
bounds-tables-link c = omega (arith, (sizes c.requires).links_right, (sizes c.requires).totals_right, on_list (goal.at.bounds-tables-link c).In_ok-check_sold)

pub returns : goal.returns
returns c =
    let t = c.args.tables.now in
    let links = t.links.now in
    let a = Ask.sold c.args.link.0 in
    let q = on_list (goal.at.returns c).In_ok-check_sold in
    ap (λ x. record { refusal = 0; work = record { 0 = x } }) (total_is links (tables_in t) c.requires c.args.link.0 q)
    ∙ handed_sold links (tables_in t) (ask a) _ (goes_on links (tables_in t) c.requires a refl c.in_ok-check_sold.ensures (shows (sold_work (held (tables_in t)) c.args.link.0)) refl)

-- `show` meets its contract: each way out is one of the outcome's; the figure is the plain book's.
use mathlib.Core.Path.{◌≡◌, refl, ap, ap₂, ◌∙◌}
use borrow.Author.Rules.{rules}
use Prim.Native.Nat.{◌<◌}
use Rattle.units.specs.Refusals.{number}
use native.Mathlib.Omega.{arith}
use lib.ListN.{length}
use Rattle.units.specs.Limits.{last_shown}
use Rattle.units.specs.Lists.{Within}
use Rattle.units.proofs.Tests.{◌&◌, less_than, in_range}
use Rattle.free_table.specs.Figures.{kept}
use Rattle.rules.specs.Plain.{free}
use Rattle.rules.specs.Calls.{Ask, ask, shows, refuse}
use Rattle.rules.specs.Tables.{held}
use Rattle.rules.proofs.Fine.{sizes}
use Rattle.lent.specs.Lent.{tables_in}
use Rattle.sound_calls.specs.Lent.{shown, shown_values}
use Rattle.sound_calls.proofs.Handed.{handed_shown}
use Rattle.sound_calls.proofs.Ways.{call_stops, passed, goes_on}
use Rattle.sound_calls.proofs.Figures.{figure_is}
use Rattle.sound_calls.proofs.show.Goals as goal
use Rattle.sound_calls.proofs.show.Goals.{In_ok-check_show}

-- a showing that passes is of a link of the list, in a minute that may be asked for
may : (c : In_ok-check_show) → let t = c.args.tables.now in (c.args.link.0 < length t.links.now) × Within t.head.clock.0 last_shown c.args.minute.0
may c =
    let t = c.args.tables.now in
    let links = t.links.now in
    let a = Ask.show c.args.link.0 c.args.minute.0 in
    (less_than c.args.link.0 (length links) & in_range t.head.clock.0 last_shown c.args.minute.0).0 (passed links (tables_in t) c.requires a refl c.in_ok-check_show.ensures).0

pub returns-in_err-check_show : goal.returns-in_err-check_show
returns-in_err-check_show c =
    let t = c.args.tables.now in
    let links = t.links.now in
    let a = Ask.show c.args.link.0 c.args.minute.0 in
    let same : shown_values c.from_residual.result ≡ shown (refuse (number c.in_err-check_show.field-0.0)) = search rules in
    same ∙ handed_shown links (tables_in t) (ask a) _ (call_stops links (tables_in t) c.requires a refl _ c.in_err-check_show.ensures)

pub figure-requires : goal.figure-requires
figure-requires c = omega (arith, (sizes c.requires).links_right, may (goal.at.figure-requires c).In_ok-check_show)

pub returns : goal.returns
returns c =
    let t = c.args.tables.now in
    let links = t.links.now in
    let a = Ask.show c.args.link.0 c.args.minute.0 in
    let q = may (goal.at.returns c).In_ok-check_show in
    let read = ap₂ (λ es fr. kept es fr c.args.link.0 c.args.minute.0) c.free_table.ensures.events c.free_table.ensures.figures in
    ap (λ x. record { refusal = 0; free = record { 0 = x } }) (c.figure.ensures ∙ read ∙ figure_is links (tables_in t) c.requires c.args.link.0 c.args.minute.0 q.0 q.1.0)
    ∙ handed_shown links (tables_in t) (ask a) _ (goes_on links (tables_in t) c.requires a refl c.in_ok-check_show.ensures (shows (free links (held (tables_in t)) c.args.link.0 c.args.minute.0)) refl)

-- `offer` meets its contract: each way out is one of the outcome's; the start is the plain book's best.
use mathlib.Core.Path.{◌≡◌, refl, ◌∙◌}
use borrow.Author.Rules.{rules}
use Rattle.units.specs.Refusals.{number}
use Rattle.choice.specs.Answer.{values}
use Rattle.rules.specs.Calls.{Ask, ask, refuse}
use Rattle.rules.proofs.Tests.{RequestRight, request_right}
use Rattle.lent.specs.Lent.{tables_in}
use Rattle.starts.proofs.BestStart.{best_asks}
use Rattle.sound_calls.specs.Lent.{choice_shown}
use Rattle.sound_calls.proofs.Granted.{answered}
use Rattle.sound_calls.proofs.Handed.{handed_grant}
use Rattle.sound_calls.proofs.Ways.{call_stops, passed, goes_on}
use Rattle.sound_calls.proofs.offer.Goals as goal
use Rattle.sound_calls.proofs.offer.Goals.{In_ok-check_offer}

-- an offer that passes its checks asks within the ranges
right : (c : In_ok-check_offer) → RequestRight c.args.request
right c =
    let t = c.args.tables.now in
    request_right c.args.request (passed t.links.now (tables_in t) c.requires (Ask.offer c.args.request) refl c.in_ok-check_offer.ensures).0

pub returns-in_err-check_offer : goal.returns-in_err-check_offer
returns-in_err-check_offer c =
    let t = c.args.tables.now in
    let links = t.links.now in
    let a = Ask.offer c.args.request in
    let same : values c.from_residual.result ≡ choice_shown (refuse (number c.in_err-check_offer.field-0.0)) = search rules in
    same ∙ handed_grant links (tables_in t) (ask a) _ (call_stops links (tables_in t) c.requires a refl _ c.in_err-check_offer.ensures)

pub best_start-requires : goal.best_start-requires
best_start-requires c =
    let t = c.args.tables.now in
    best_asks t.links.now (tables_in t) c.requires c.args.request (right (goal.at.best_start-requires c).In_ok-check_offer)

pub returns : goal.returns
returns c =
    let t = c.args.tables.now in
    let links = t.links.now in
    let a = Ask.offer c.args.request in
    answered links (tables_in t) c.requires c.args.request (right (goal.at.returns c).In_ok-check_offer) _ c.best_start.ensures
    ∙ handed_grant links (tables_in t) (ask a) _ (goes_on links (tables_in t) c.requires a refl c.in_ok-check_offer.ensures _ refl)

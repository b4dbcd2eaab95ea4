-- `list_starts` meets its contract: each way out is one of the outcome's; the ranges are the plain book's.
use mathlib.Core.Path.{◌≡◌, refl, sym, ap, ◌∙◌}
use mathlib.Core.Bool.{true}
use borrow.Author.Rules.{rules}
use borrow.Author.Tests.{eq-eqb}
use Rattle.units.specs.declared.Request.{Request}
use Rattle.units.specs.Refusals.{number}
use Prim.Native.Nat.{ℕ}
use lib.ListN.{length}
use Rattle.units.specs.Limits.{list_size}
use Rattle.listing.specs.Ranges.{list_table}
use Rattle.rules.specs.Calls.{Ask, ask, list_fits, lists, refuse, every}
use Rattle.rules.specs.Tables.{held}
use Rattle.rules.proofs.Tests.{RequestRight, request_right}
use Rattle.refusals.proofs.OwnChecks.{listed_as_offer}
use Rattle.lent.specs.Lent.{tables_in}
use Rattle.starts.proofs.BestStart.{best_asks, same_ranges}
use Rattle.sound_calls.specs.Lent.{listed, listed_values}
use Rattle.sound_calls.proofs.Handed.{handed_listing}
use Rattle.sound_calls.proofs.Ways.{by_call, call_stops, passed, goes_on}
use Rattle.sound_calls.proofs.list_starts.Goals as goal
use Rattle.sound_calls.proofs.list_starts.Goals.{In_ok-check_offer, In_err-check_offer}

-- the list that is lent fits
fits : {n : ℕ} (r : Request) → n ≡ list_size → list_fits (Ask.list n r) ≡ true
fits {n} r e = eq-eqb n list_size e

-- what its own checks say
own : (c : In_ok-check_offer) → let t = c.args.tables.now in 0 ≡ by_call (Ask.list (length c.args.list.now) c.args.request) t.links.now (tables_in t)
own c =
    let t = c.args.tables.now in
    c.in_ok-check_offer.ensures ∙ sym (listed_as_offer t.links.now (held (tables_in t)) (length c.args.list.now) c.args.request (fits c.args.request c.requires.list_sized))

-- a listing that passes its checks asks within the ranges
right : (c : In_ok-check_offer) → RequestRight c.args.request
right c =
    let t = c.args.tables.now in
    request_right c.args.request (passed t.links.now (tables_in t) c.requires.fine (Ask.list (length c.args.list.now) c.args.request) (fits c.args.request c.requires.list_sized) (own c)).1.0

pub returns-in_err-check_offer : goal.returns-in_err-check_offer
returns-in_err-check_offer c =
    let t = c.args.tables.now in
    let links = t.links.now in
    let a = Ask.list (length c.args.list.now) c.args.request in
    let same : listed_values c.from_residual.result ≡ listed (refuse (number c.in_err-check_offer.field-0.0)) = search rules in
    let fit = fits c.args.request c.requires.list_sized in
    let k = c.in_err-check_offer.ensures ∙ sym (listed_as_offer links (held (tables_in t)) (length c.args.list.now) c.args.request fit) in
    let both = handed_listing links (tables_in t) (ask a) _ (call_stops links (tables_in t) c.requires.fine a fit _ k) c.args.list.now same refl in
    record { answer = both.0; list_left = both.1 }

pub all_starts-requires-clause-asks : goal.all_starts-requires-clause-asks
all_starts-requires-clause-asks c =
    let t = c.args.tables.now in
    best_asks t.links.now (tables_in t) c.requires.fine c.args.request (right (goal.at.all_starts-requires-clause-asks c).In_ok-check_offer)

pub returns : goal.returns
returns c =
    let t = c.args.tables.now in
    let links = t.links.now in
    let a = Ask.list (length c.args.list.now) c.args.request in
    let passed_all = (goal.at.returns c).In_ok-check_offer in
    let same = same_ranges links (tables_in t) c.requires.fine c.args.request (right passed_all) in
    let both = handed_listing links (tables_in t) (ask a) _ (goes_on links (tables_in t) c.requires.fine a (fits c.args.request c.requires.list_sized) (own passed_all) (lists (every links (held (tables_in t)) c.args.request)) refl) c.args.list.now
    (ap (λ n. record { refusal = 0; count = n }) (c.all_starts.ensures.count ∙ ap length same)) (c.all_starts.ensures.written ∙ ap list_table same) in
    record { answer = both.0; list_left = both.1 }

-- `path_right` meets its contract: each way out is decided by the first link that does not go on.
use Rattle.std.proofs.Common.{sym, ap, ◌≡◌, ◌∙◌, ◌<◌, ◌≤◌, arith, length}
use lib.ListN.{length-take, get_or}
use Rattle.rules.specs.Plain.{no_link, link}
use Rattle.units.specs.Limits.{most_hops}
use Rattle.book.specs.Places.{place_path}
use Rattle.soundness.proofs.Going.{going_first, stops_first, stops_past, stops_elsewhere, stops_again, goes_further, goes_whole}
use Rattle.soundness.proofs.path_right.Goals as goal
use Rattle.soundness.proofs.path_right.Goals.{Start, In-Some, then-link-node-via-then-link-node, then-link-node-via-else-link-node+then-met-end-ne0}

few : (c : Start) → length (place_path c.args.booking) ≤ most_hops
few c = omega (arith, length-take c.args.booking.count c.args.booking.links, c.requires)

some : (c : In-Some) → 0 < length (place_path c.args.booking)
some c = c.in-Some.ensures.item.3.0

first_is : (c : In-Some) → c.in-Some.field-0.now ≡ get_or (place_path c.args.booking) 0 0
first_is c = c.in-Some.ensures.item.3.1 0

pub returns-in_default-get : goal.returns-in_default-get
returns-in_default-get c =
    let at = goal.at.returns-in_default-get c in
    sym (stops_first c.args.links.links.now c.args.links.right _ (some at.In-Some) (few at.Start) (omega (arith, c.in_default-get.ensures.lookup.3, first_is at.In-Some)))

pub loop-number-init : goal.loop-number-init
loop-number-init c =
    let at = goal.at.loop-number-init c in
    let found = c.in-Some-get.ensures.lookup.3 in
    going_first c.args.links.links.now c.args.links.right _ (some at.In-Some) _ (omega (arith, found.0, first_is at.In-Some)) (found.1 no_link ∙ ap (link c.args.links.links.now) (first_is at.In-Some))

pub returns-in_default-get-2 : goal.returns-in_default-get-2
returns-in_default-get-2 c =
    sym (stops_past _ c.args.links.right _ (few (goal.at.returns-in_default-get-2 c).Start) _ _ _ c.loop-number.invariant c.loop-number-test.true c.in_default-get-2.ensures.lookup.3)

pub returns-then-link-node : goal.returns-then-link-node
returns-then-link-node c =
    let least = few (goal.at.returns-then-link-node c).Start in
    let found = c.in-Some-get-2.ensures.lookup.3 in
    elim c.then-link-node.branch [
      | then-link-node-via-then-link-node w ↦ sym (stops_elsewhere _ c.args.links.right _ least _ _ _ c.loop-number.invariant c.loop-number-test.true _ found.0 (found.1 no_link) w.if-link-node.true)
      | then-link-node-via-else-link-node+then-met-end-ne0 w ↦
          sym (stops_again _ c.args.links.right _ least _ _ _ c.loop-number.invariant c.loop-number-test.true _ found.0 (found.1 no_link) w.if-link-node.false w.if-met-end-ne0.true)
    ]

pub loop-number-preserved : goal.loop-number-preserved
loop-number-preserved c =
    let found = c.in-Some-get-2.ensures.lookup.3 in
    goes_further _ c.args.links.right _ (few (goal.at.loop-number-preserved c).Start) _ _ _ c.loop-number.invariant c.loop-number-test.true _ found.0 (found.1 no_link) c.if-link-node.false c.if-met-end-ne0.false

pub returns : goal.returns
returns c =
    let at = goal.at.returns c in
    sym (goes_whole _ c.args.links.right _ (some at.In-Some) (few at.Start) _ _ _ c.loop-number.invariant c.loop-number-test.false)

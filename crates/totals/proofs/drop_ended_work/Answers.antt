-- `drop_ended_work` meets its contract: one place more.
use Rattle.std.proofs.Common.{◌≡◌, ◌*◌, subst, ap, ◌∙◌, arith}
use Rattle.totals.specs.Totals.{without_ended}
use Rattle.totals.proofs.Ended.{Dropped, dropped_none, dropped_next, dropped_all}
use Rattle.totals.proofs.drop_ended_work.Goals as goal

pub loop-place-init : goal.loop-place-init
loop-place-init c = dropped_none c.requires.can c.requires.were

pub drop_if_ended-requires-clause-right : goal.drop_if_ended-requires-clause-right
drop_if_ended-requires-clause-right c = rw c.booking_at.ensures (c.requires.can.places_right c.loop-place.place (omega arith))

pub loop-place-preserved : goal.loop-place-preserved
loop-place-preserved c = dropped_next c.requires.can c.loop-place.place (omega arith) c.loop-place.invariant (c.drop_if_ended.ensures ∙ ap (λ b. without_ended c.args.head b c.loop-place.totals) c.booking_at.ensures)

pub returns : goal.returns
returns c =
    let a = c.args in
    let last : c.loop-place.place ≡ a.head.bookings = omega arith in
    dropped_all c.requires.can (subst (λ i. Dropped a.head a.book.now i c.loop-place.totals) last c.loop-place.invariant)

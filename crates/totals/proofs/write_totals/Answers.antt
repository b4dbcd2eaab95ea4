-- `write_totals` meets its contract: at the loop's head the totals are those of the places from `place` on.
use Rattle.std.proofs.Common.{sym, ap, ap₂, ◌∙◌, ◌-◌, replicate, arith}
use Rattle.book.specs.Places.{booking_in, place_path}
use Rattle.units.specs.Along.{more_along}
use Rattle.totals.specs.Totals.{place_work}
use Rattle.totals.proofs.Totals.{no_totals, few_totals, totals_before}
use Rattle.totals.proofs.write_totals.Goals as goal

pub loop-place-init : goal.loop-place-init
loop-place-init c = c.fill.ensures.after (λ y same. same) ∙ ap (λ n. replicate n 0) c.requires.sized ∙ sym (no_totals c.requires.can)

pub add_along-requires-clause-few : goal.add_along-requires-clause-few
add_along-requires-clause-few c = rw c.loop-place.invariant (few_totals c.requires.can c.loop-place.place (omega arith))

pub loop-place-preserved : goal.loop-place-preserved
loop-place-preserved c =
    let b = booking_in c.args.book.now (c.loop-place.place - 1) in
    let work = c.work_of-work.ensures ∙ ap place_work c.booking_at-booking.ensures in
    c.add_along.ensures ∙ ap₂ (λ x path. more_along x path c.loop-place.totals) work c.path_at.ensures
    ∙ ap (more_along (place_work b) (place_path b)) c.loop-place.invariant
    ∙ totals_before c.requires.can c.loop-place.place (omega arith) (omega arith)

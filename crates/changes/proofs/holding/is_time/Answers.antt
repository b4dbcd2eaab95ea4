-- `is_time` meets its contract: one place more is looked at.
use mathlib.Core.Bool.{◌||◌}
use lib.Dec.{eqb}
use Rattle.std.proofs.Common.{◌≡◌, ap, ◌∙◌, arith}
use Rattle.units.specs.Lists.{member}
use Rattle.changes.proofs.Times.{times_from, times_all, times_none, times_before}
use Rattle.changes.proofs.holding.is_time.Goals as goal

pub loop-place-init : goal.loop-place-init
loop-place-init c = let a = c.args in times_none a.head a.book.now a.minute.0

pub loop-place-preserved : goal.loop-place-preserved
loop-place-preserved c =
    let a = c.args in
    ap (λ end. c.loop-place.found || (eqb a.minute.0 c.booking_at-b.result.start.0 || eqb a.minute.0 end)) c.release-end.ensures
    ∙ times_before a.head a.book.now a.minute.0 c.loop-place.place (omega arith) (omega arith) c.booking_at-b.ensures c.loop-place.invariant

pub returns : goal.returns
returns c =
    let a = c.args in
    let first : c.loop-place.place ≡ 0 = omega arith in
    c.loop-place.invariant ∙ ap (λ k. member a.minute.0 (times_from a.head a.book.now k)) first ∙ ap (member a.minute.0) (times_all a.head a.book.now)

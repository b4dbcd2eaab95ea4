-- `drop_work` meets its contract: a link more is dropped from.
use Rattle.std.proofs.Common.{sym, ap, ◌∙◌, ◌+◌, drop, slice_set, arith}
use lib.ListN.{get_or, length-set}
use Rattle.book.specs.Places.{place_path}
use Rattle.units.specs.Along.{less_along}
use Rattle.units.proofs.Along.{less_next}
use Rattle.totals.proofs.drop_work.Goals as goal

pub loop-link-preserved : goal.loop-link-preserved
loop-link-preserved c =
    let path = place_path c.args.booking in
    let x = c.work_of-work.result.0 in
    let i = c.loop-link.link-index in
    let t = c.loop-link.totals in
    let so_far = c.loop-link.invariant in (
      so_far.0 ∙ less_next x path i t (omega arith) ∙ ap (λ y. less_along x (drop (i + 1) path) (slice_set t (get_or path i 0) y)) (sym c.saturating_sub.ensures),
      length-set t (get_or path i 0) c.saturating_sub.result ∙ so_far.1,
    )

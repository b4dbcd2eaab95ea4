-- `drop_work` meets its contract: the work is dropped from the links before `link`, and what is left is to drop from the others.
use Rattle.units.specs.Along.{less_along}
use Rattle.std.proofs.Common.{◌≡◌, drop, length}
use Rattle.book.specs.Places.{place_path}
use Rattle.totals.proofs.drop_work.Given as goal

abbrev pub invariant-loop-link : goal.invariant-loop-link
invariant-loop-link l =
    let path = place_path l.fn.booking in
    (less_along l.work.0 path l.initial.totals ≡ less_along l.work.0 (drop l.link-index path) l.totals)
    × (length l.totals ≡ length l.initial.totals)

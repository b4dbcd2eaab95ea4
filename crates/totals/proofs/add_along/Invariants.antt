-- `add_along` meets its contract: the work is added to the links before `link`, and what is left is to add to the others.
use Rattle.units.specs.Limits.{most_totals, most_bookings}
use Rattle.units.specs.Work.{most_work}
use Rattle.units.proofs.Along.{Adding}
use Rattle.totals.proofs.add_along.Given as goal

abbrev pub invariant-loop-link : goal.invariant-loop-link
invariant-loop-link l = Adding most_totals most_bookings most_work l.work.0 l.path l.initial.totals l.link-index l.totals

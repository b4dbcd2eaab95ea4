-- `take_path` meets its contract: the bandwidth is added at the links before `link`, and what is left is to add at the others.
use Rattle.units.specs.Limits.{most_links, most_bookings, most_bandwidth}
use Rattle.units.proofs.Along.{Adding}
use Rattle.row_changes.proofs.take_path.Given as goal

abbrev pub invariant-loop-link : goal.invariant-loop-link
invariant-loop-link l = Adding most_links most_bookings most_bandwidth l.bandwidth.0 l.path l.initial.taken l.link-index l.taken

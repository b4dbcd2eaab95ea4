-- `release_path` meets its contract: the bandwidth is taken off at the links before `link`, and what is left is to take off at the others.
use Rattle.units.specs.Limits.{most_links}
use Rattle.units.proofs.Along.{Taking}
use Rattle.row_changes.proofs.release_path.Given as goal

abbrev pub invariant-loop-link : goal.invariant-loop-link
invariant-loop-link l = Taking most_links l.bandwidth.0 l.path l.initial.taken l.link-index l.taken

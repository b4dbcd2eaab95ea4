-- links_of meets its contract. The sets have the links below `link`.
use mathlib.Core.Path.{◌≡◌}
use lib.ListN.{length}
use Rattle.path_search.specs.Ends.{LinksOf}
use Rattle.path_search.proofs.net.links_of.Given as goal

abbrev pub invariant-loop-link : goal.invariant-loop-link
invariant-loop-link l = (length l.sets ≡ 32) × LinksOf l.link l.ends l.sets

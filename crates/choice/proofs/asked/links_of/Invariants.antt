-- `links_of` meets its contract: the links at the places before `place` are in the set.
use Rattle.std.proofs.Common.{◌≡◌, ◌<◌, ◌%◌, ℕ, true, get_or}
use Rattle.units.specs.Limits.{most_links}
use Rattle.units.specs.Sets.{has}
use Rattle.choice.proofs.asked.links_of.Given as goal

abbrev pub invariant-loop-place : goal.invariant-loop-place
invariant-loop-place l = (i : ℕ) → i < l.place → has l.bits (get_or l.path.links i 0 % most_links) ≡ true

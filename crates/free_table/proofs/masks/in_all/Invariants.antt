-- `in_all` meets its contract: the links are in each of the masks before the loop's.
use Rattle.std.proofs.Common.{◌≡◌, ℕ, ◌<◌, get_or}
use Rattle.units.specs.Limits.{most_links}
use Rattle.units.specs.Search.{all_from}
use Rattle.units.specs.Sets.{has}
use Rattle.free_table.proofs.masks.in_all.Given as goal

abbrev pub invariant-loop-mask : goal.invariant-loop-mask
invariant-loop-mask l = (k : ℕ) → k < most_links → has l.all k ≡ all_from 0 l.mask-index (λ i. has (get_or l.masks i 0) k)

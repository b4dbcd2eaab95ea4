-- `in_rows` meets its contract: the links have enough in each of the rows before the loop's.
use Rattle.std.proofs.Common.{◌≡◌, [], ℕ, ◌<◌, leb, get_or}
use Rattle.units.specs.Limits.{most_links}
use Rattle.units.specs.Search.{all_from}
use Rattle.units.specs.Sets.{has}
use Rattle.free_table.proofs.masks.in_rows.Given as goal

abbrev pub invariant-loop-row : goal.invariant-loop-row
invariant-loop-row l = (k : ℕ) → k < most_links → has l.all k ≡ all_from 0 l.row-index (λ i. leb l.bandwidth.0 (get_or (get_or l.rows i []) k 0))

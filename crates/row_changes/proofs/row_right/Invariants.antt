-- `row_right` meets its contract: the answer is that of the links below `link`.
use Rattle.std.proofs.Common.{◌≡◌, ◌+◌, ◌<◌, true, ℕ, get_or}
use Rattle.std.specs.Prelude.{◌↔◌}
use Rattle.row_changes.proofs.row_right.Given as goal

abbrev pub invariant-loop-link : goal.invariant-loop-link
invariant-loop-link l = (l.right ≡ true) ↔ ((k : ℕ) → k < l.link → get_or l.row k 0 + get_or l.taken k 0 ≡ get_or l.capacities k 0)

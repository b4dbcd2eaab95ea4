-- `steps_right` meets its contract: the rows before `row` are right, and what is taken is what these leave.
use Rattle.std.proofs.Common.{◌≡◌, ◌<◌, true, ℕ}
use Rattle.std.specs.Prelude.{◌↔◌}
use Rattle.row_changes.specs.Changes.{StepRight}
use Rattle.row_changes.proofs.Steps.{Taken}
use Rattle.row_changes.proofs.steps_right.Given as goal

abbrev pub invariant-loop-row : goal.invariant-loop-row
invariant-loop-row l =
    ((l.right ≡ true) ↔ ((r : ℕ) → r < l.row → StepRight l.head l.events.events.now l.capacities l.free l.book l.changes.starts l.changes.ends r))
    × Taken l.head l.events.events.now l.book l.row l.taken

-- `find_changes` meets its contract: the places below `place` are in the sets of their rows.
use Rattle.std.proofs.Common.{◌≡◌, ◌<◌, true, ℕ}
use Rattle.std.specs.Prelude.{◌↔◌}
use Rattle.row_changes.specs.Changes.{start_row, end_row, BothFound, Marks}
use Rattle.row_changes.proofs.find_changes.Given as goal

abbrev pub invariant-loop-place : goal.invariant-loop-place
invariant-loop-place l =
    ((l.found ≡ true) ↔ ((i : ℕ) → i < l.place → BothFound l.head l.events.events.now l.book i))
    × Marks (start_row l.events.events.now l.book) l.place l.changes.starts
    × Marks (end_row l.head l.events.events.now l.book) l.place l.changes.ends

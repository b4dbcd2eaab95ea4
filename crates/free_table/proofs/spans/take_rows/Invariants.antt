-- `take_rows` meets its contract: the bandwidth is taken in the rows below `row`.
use Rattle.std.proofs.Common.{◌≡◌}
use Rattle.free_table.specs.Spans.{taken, change_rows}
use Rattle.free_table.proofs.spans.take_rows.Given as goal

abbrev pub invariant-loop-row : goal.invariant-loop-row
invariant-loop-row l = l.part ≡ change_rows (taken l.bandwidth.0) l.row l.column l.initial.part

-- `subtract` meets its contract: the bandwidth is taken in the rows below `row`.
use Rattle.std.proofs.Common.{◌≡◌}
use Rattle.free_table.specs.Taking.{less_rows}
use Rattle.free_table.proofs.subtract.Given as goal

abbrev pub invariant-loop-row : goal.invariant-loop-row
invariant-loop-row l = l.part ≡ less_rows l.row l.column l.bandwidth.0 l.initial.part

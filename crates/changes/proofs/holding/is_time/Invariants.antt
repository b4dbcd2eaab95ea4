-- `is_time` meets its contract: it is found where the minute is a time of the places from `place` on.
use Rattle.std.proofs.Common.{◌≡◌}
use Rattle.units.specs.Lists.{member}
use Rattle.changes.proofs.Times.{times_from}
use Rattle.changes.proofs.holding.is_time.Given as goal

abbrev pub invariant-loop-place : goal.invariant-loop-place
invariant-loop-place l = l.found ≡ member l.minute.0 (times_from l.fn.head l.book l.place)

-- `write_totals` meets its contract: the totals are those of the places from `place` on.
use Rattle.std.proofs.Common.{◌≡◌}
use Rattle.totals.specs.Totals.{totals_of}
use Rattle.rules.proofs.Standing.{bookings_from}
use Rattle.totals.proofs.write_totals.Given as goal

abbrev pub invariant-loop-place : goal.invariant-loop-place
invariant-loop-place l = l.totals ≡ totals_of (bookings_from l.fn.head l.book l.place)

-- Each arm writes the definition's case.
use Rattle.std.proofs.Common.{append_assoc, arith}
use Rattle.report.specs.Line.{answer}
use Rattle.report.proofs.Writing.{joined}
use Rattle.report.proofs.LineWriter.write_answer.Goals as goal

pub returns-in-Booked : goal.returns-in-Booked
unfolding answer
returns-in-Booked c = rw c.in-Booked.is (rw append_assoc at (joined (omega arith) c.write_placed.ensures c.write_route.ensures))

pub returns-in-Offered : goal.returns-in-Offered
unfolding answer
returns-in-Offered c = rw c.in-Offered.is (joined (omega arith) c.write_decimal.ensures (joined (omega arith) c.write_bytes.ensures c.write_route-in-Offered.ensures))

pub returns-in-RefusedAt : goal.returns-in-RefusedAt
unfolding answer
returns-in-RefusedAt c = rw c.in-RefusedAt.is (rw append_assoc at (joined (omega arith) c.write_placed-in-RefusedAt.ensures c.write_field-in-RefusedAt.ensures))

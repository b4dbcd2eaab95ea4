-- The place and the field behind it.
use Rattle.std.proofs.Common.{arith}
use Rattle.report.proofs.Writing.{joined}
use Rattle.report.proofs.LineWriter.write_placed.Goals as goal

pub returns : goal.returns
returns c = joined (omega arith) c.write_decimal.ensures c.write_field.ensures

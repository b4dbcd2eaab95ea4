-- The word and the number behind it are the field.
use Rattle.std.proofs.Common.{arith}
use Rattle.report.proofs.Writing.{joined}
use Rattle.report.proofs.LineWriter.write_field.Goals as goal

pub returns : goal.returns
returns c = joined (omega arith) c.write_bytes.ensures c.write_decimal.ensures

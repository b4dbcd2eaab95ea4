-- The start, then the word and the link numbers behind it.
use Rattle.std.proofs.Common.{arith}
use Rattle.report.specs.Line.{route}
use Rattle.report.proofs.Writing.{joined}
use Rattle.report.proofs.LineWriter.write_route.Goals as goal

pub returns : goal.returns
unfolding route
returns c = joined (omega arith) c.write_field.ensures (joined (omega arith) c.write_bytes.ensures c.write_links.ensures)

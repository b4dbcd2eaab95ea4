-- So far the numbers of the links passed are written.
use Rattle.std.proofs.Common.{take}
use Rattle.report.specs.Line.{numbers}
use Rattle.report.specs.Written.{Writes}
use Rattle.report.proofs.LineWriter.write_links.Given as goal

abbrev pub invariant-loop-link : goal.invariant-loop-link
invariant-loop-link l = Writes (numbers (take l.link-index l.links)) l.initial.self l.self

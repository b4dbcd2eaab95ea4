-- The places below i hold the links of their records, which are read.
use Rattle.std.proofs.Common.{length}
use Rattle.opening.proofs.Records.{Filled}
use Rattle.opening.proofs.read_links.Given as goal

abbrev pub invariant-loop-i : goal.invariant-loop-i
invariant-loop-i l = Filled l.bytes (length l.initial.links) l.links l.i

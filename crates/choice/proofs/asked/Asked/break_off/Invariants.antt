-- break_off meets its contract: some path lasts throughout the rows before the loop's.
use Rattle.choice.specs.Known.{KnownOf}
use Rattle.choice.proofs.LastingRows.{Looked}
use Rattle.choice.proofs.asked.Asked.break_off.Given as goal

abbrev pub invariant-loop-row : goal.invariant-loop-row
invariant-loop-row l = record {
  looked : Looked l.self l.low.0 l.rows l.links.bits l.row;
  known : KnownOf l.self l.known;
}

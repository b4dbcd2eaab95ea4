-- first_event meets its contract. Low and the events at the places below the loop's are tried in vain.
use Rattle.choice.specs.Answer.{possible_of}
use Rattle.choice.specs.Known.{KnownOf}
use Rattle.choice.proofs.Starts.{Tried}
use Rattle.choice.proofs.asked.Asked.first_event.Given as goal

abbrev pub invariant-loop-event : goal.invariant-loop-event
invariant-loop-event l = record {
  tried : Tried (possible_of l.self) l.self.table.events.now l.low.0 l.latest.0 l.event-index;
  known : KnownOf l.self l.known;
}

-- run_end meets its contract. The minutes up to one whose span ends before `end` are possible, and the events at the places
-- below the loop's lie before it.
use Rattle.choice.specs.Answer.{possible_of}
use Rattle.choice.specs.Known.{KnownOf}
use Rattle.listing.proofs.Runs.{RunTo}
use Rattle.listing.proofs.run_end.Given as goal

abbrev pub invariant-loop-event : goal.invariant-loop-event
invariant-loop-event l = record {
  run : RunTo (possible_of l.asked) l.asked.table.events.now l.span.0 l.fn.start.0 l.latest.0 l.end l.event-index;
  known : KnownOf l.asked l.known;
}

-- next_start meets its contract: past the window there is no start; in it the choice among the events is taken apart.
use mathlib.Core.Path.{sym, ◌∙◌, ap}
use native.Mathlib.Omega.{arith}
use Rattle.units.proofs.Minutes.{earlier}
use Rattle.choice.specs.Answer.{choice_of}
use Rattle.choice.proofs.Exits.{try_of}
use Rattle.choice.proofs.Starts.{earliest_none}
use Rattle.listing.specs.Ranges.{start_of, start_granted}
use Rattle.listing.proofs.Found.{start_answered}
use Rattle.listing.proofs.next_start.Goals as goal

pub returns-then-lt : goal.returns-then-lt
returns-then-lt c = record {
  next = sym (ap start_of (earliest_none (try_of c.args.asked.now) c.args.end.0 c.args.latest.0 (λ m early late. absurd (omega (arith, earlier {a = c.args.latest.0} {b = c.args.end.0} c.lt.ensures c.if-lt.true)))));
  known = c.requires.known;
}

pub returns : goal.returns
returns c = record {
  next = c.start_granted.ensures ∙ ap start_granted c.first_event.ensures.first ∙ start_answered (choice_of c.args.asked.now c.args.end.0 c.args.latest.0);
  known = c.first_event.ensures.known;
}

-- first_start meets its contract: low, where it has a path; else the first event that has one.
use mathlib.Core.Path.{sym, ◌∙◌, ap}
use Rattle.std.specs.Option.{is_some}
use Rattle.units.proofs.Minutes.{earlier, not_earlier}
use Rattle.choice.proofs.Exits.{possible_some, finds_empty, finds_low}
use Rattle.choice.proofs.asked.Asked.first_start.Goals as goal

pub returns-then-lt : goal.returns-then-lt
returns-then-lt c = record { first = finds_empty c.args.self.now c.args.low.0 c.args.latest.0 c.requires.askable.not_past (earlier c.lt.ensures c.if-lt.true); known = c.requires.known }

pub returns-in-Some : goal.returns-in-Some
returns-in-Some c =
    record {
      first = finds_low c.args.self.now c.args.low.0 c.args.latest.0 c.requires.askable.not_past (not_earlier c.lt.ensures c.if-lt.false) c.path_at.result c.path_at.ensures.path c.in-Some.path c.in-Some.is;
      known = c.path_at.ensures.known;
    }

pub first_event-requires-clause-low_impossible : goal.first_event-requires-clause-low_impossible
first_event-requires-clause-low_impossible c = sym (possible_some c.args.self.now c.args.low.0 c.path_at.result c.path_at.ensures.path) ∙ ap is_some c.in_default.is

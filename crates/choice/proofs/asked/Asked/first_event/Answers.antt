-- first_event meets its contract. Low and the events at the places below the loop's are tried in vain.
use mathlib.Core.Path.{sym, ◌∙◌, ap}
use native.Mathlib.Numerals.{add-one}
use native.Mathlib.Omega.{arith}
use lib.ListN.{get_or}
use Rattle.std.specs.Option.{is_some}
use Rattle.choice.specs.Answer.{possible_of}
use Rattle.units.proofs.Minutes.{earlier, not_earlier}
use Rattle.choice.proofs.Starts.{tried_next}
use Rattle.choice.proofs.Exits.{possible_some, finds_event, finds_late, finds_left}
use Rattle.choice.proofs.asked.Asked.first_event.Goals as goal
use Rattle.choice.proofs.asked.Asked.first_event.Goals.{then-lt-2+in_default, else-lt-2}

pub returns-then-lt : goal.returns-then-lt
returns-then-lt c =
    let l = c.loop-event in
    record { first = finds_late c.args.self.now c.args.low.0 c.args.latest.0 c.requires.askable.not_past l.event-index l.invariant.tried (earlier c.lt.ensures c.if-lt.true); known = l.invariant.known }

pub returns-in-Some : goal.returns-in-Some
returns-in-Some c =
    let l = c.loop-event in
    record {
      first = finds_event c.args.self.now c.args.low.0 c.args.latest.0 c.requires.askable.not_past l.event-index l.invariant.tried (earlier c.lt-in-loop-event.ensures c.if-lt-2.true) (not_earlier c.lt.ensures c.if-lt.false) c.path_at.result c.path_at.ensures.path c.in-Some.path c.in-Some.is;
      known = c.path_at.ensures.known;
    }

pub loop-event-preserved : goal.loop-event-preserved
loop-event-preserved c =
    let a = c.args.self.now in
    let l = c.loop-event in
    record {
      tried = rw add-one
          (tried_next (possible_of a) a.table.events.now c.args.low.0 c.args.latest.0 l.event-index l.invariant.tried
          (λ after in_time.
          elim c.if-lt-2.branch [
            | then-lt-2+in_default w ↦ sym (possible_some a (get_or a.table.events.now l.event-index 0) w.path_at.result w.path_at.ensures.path) ∙ ap is_some w.in_default.is
            | else-lt-2 w ↦ absurd (omega (arith, not_earlier {a = c.args.low.0} {b = get_or a.table.events.now l.event-index 0} c.lt-in-loop-event.ensures w.if-lt-2.false))
          ]));
      known = elim c.if-lt-2.branch [ then-lt-2+in_default w ↦ rw w.known-is w.path_at.ensures.known | else-lt-2 w ↦ rw w.known-is l.invariant.known ];
    }

pub returns : goal.returns
returns c =
    let l = c.loop-event in
    record { first = finds_left c.args.self.now c.args.low.0 c.args.latest.0 c.requires.askable.not_past l.event-index l.invariant.tried (omega arith); known = l.invariant.known }

-- run_end meets its contract. The minutes up to one whose span ends before `end` are possible, and the events at the places
-- below the loop's lie before it.
use mathlib.Core.Path.{refl, sym, ◌∙◌}
use native.Mathlib.Omega.{arith}
use Rattle.listing.proofs.Runs.{run_skips, run_meets, run_stops, run_late, run_left}
use Rattle.listing.proofs.run_end.Goals as goal
use Rattle.listing.proofs.run_end.Goals.{then-end-event+else-not-possible_at, else-end-event}

pub returns-then-last_end-event : goal.returns-then-last_end-event
returns-then-last_end-event c =
    let l = c.loop-event in
    record {
      run = run_late c.args.asked.now c.args.start.0 c.args.latest.0 c.requires.askable.not_past l.end l.event-index l.invariant.run (omega (arith, c.if-last_end-event.true, c.end_minute-last_end.ensures));
      known = l.invariant.known;
    }

pub returns-then-not-possible_at : goal.returns-then-not-possible_at
returns-then-not-possible_at c =
    let l = c.loop-event in
    record {
      run = run_stops c.args.asked.now c.args.start.0 c.args.latest.0 c.requires.askable.not_past l.end l.event-index l.invariant.run _ refl (omega (arith, c.if-end-event.true))
          (omega (arith, c.if-last_end-event.false, c.end_minute-last_end.ensures))
          (sym c.possible_at.ensures.possible ∙ c.if-not-possible_at.true);
      known = c.possible_at.ensures.known;
    }

pub loop-event-preserved : goal.loop-event-preserved
loop-event-preserved c =
    let a = c.args in
    let l = c.loop-event in
    elim c.if-end-event.branch [
      | then-end-event+else-not-possible_at w ↦
          record {
            run = rw w.end-is (run_meets a.asked.now a.start.0 a.latest.0 c.requires.askable.not_past l.end l.event-index l.invariant.run _ refl (omega (arith, w.if-end-event.true)) (omega (arith, c.if-last_end-event.false, c.end_minute-last_end.ensures))
                (sym w.possible_at.ensures.possible ∙ w.if-not-possible_at.false));
            known = rw w.known-is w.possible_at.ensures.known;
          }
      | else-end-event w ↦
          record {
            run = rw w.end-is (run_skips a.asked.now a.start.0 a.latest.0 c.requires.askable.not_past l.end l.event-index l.invariant.run (omega (arith, w.if-end-event.false)));
            known = rw w.known-is l.invariant.known;
          }
    ]

pub returns : goal.returns
returns c =
    let l = c.loop-event in
    record { run = run_left c.args.asked.now c.args.start.0 c.args.latest.0 c.requires.askable.not_past l.end l.event-index l.invariant.run (omega arith); known = l.invariant.known }

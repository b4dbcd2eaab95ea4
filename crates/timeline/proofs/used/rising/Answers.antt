-- `rising` meets its contract: one more rises, or the next does not.
use Rattle.std.proofs.Common.{subst, sym, arith}
use Rattle.timeline.specs.EventTable.{Used}
use Rattle.timeline.proofs.Risen.{part_used, risen_first, risen_next, risen_end, risen_stop}
use Rattle.timeline.proofs.used.rising.Goals as goal
use Rattle.timeline.proofs.used.rising.Goals.{then-loop-rows-test+else-events-rows, else-loop-rows-test}

pub loop-rows-init : goal.loop-rows-init
loop-rows-init c = risen_first c.args.events.now (omega (arith, c.requires))

pub loop-rows-preserved : goal.loop-rows-preserved
loop-rows-preserved c = risen_next c.args.events.now c.loop-rows.rows c.loop-rows.invariant (omega arith) (omega (arith, c.if-events-rows.true))

pub returns-clause-part : goal.returns-clause-part
returns-clause-part c =
    elim c.loop-rows-test.branch [
      | then-loop-rows-test+else-events-rows w ↦ risen_stop c.args.events.now c.loop-rows.rows c.loop-rows.invariant (omega arith) (omega (arith, w.if-events-rows))
      | else-loop-rows-test w ↦ risen_end c.args.events.now c.loop-rows.rows c.loop-rows.invariant (omega arith)
    ]

pub invariant_of-result : goal.invariant_of-result
invariant_of-result c = record {
  rising = elim c.loop-rows-test.branch [
    | then-loop-rows-test+else-events-rows w ↦ subst Used (sym (risen_stop c.args.events.now c.loop-rows.rows c.loop-rows.invariant (omega arith) (omega (arith, w.if-events-rows)))) (part_used c.args.events.now (omega (arith, c.requires)))
    | else-loop-rows-test w ↦ subst Used (sym (risen_end c.args.events.now c.loop-rows.rows c.loop-rows.invariant (omega arith))) (part_used c.args.events.now (omega (arith, c.requires)))
  ];
}

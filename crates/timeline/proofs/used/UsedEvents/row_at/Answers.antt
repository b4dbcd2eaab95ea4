-- `row_at` meets its contract: each halving keeps the half that holds the row.
use Rattle.std.proofs.Common.{ℕ, ◌-◌, ◌/◌, subst, sym, arith}
use Rattle.timeline.proofs.Halving.{Narrowed, all_rows, upper_rows, lower_rows}
use Rattle.timeline.proofs.used.UsedEvents.row_at.Goals as goal
use Rattle.timeline.proofs.used.UsedEvents.row_at.Goals.{then-events-row, else-events-row}

pub loop-left-init : goal.loop-left-init
loop-left-init c = all_rows c.args.self.rising

pub loop-left-preserved : goal.loop-left-preserved
loop-left-preserved c =
    let n = c.loop-left.invariant in
    let u = c.args.self.rising in
    let half = c.loop-left.left / 2 in
    let kept : ℕ → Type 0 = λ r. Narrowed c.args.self.events.now c.args.minute.0 r (c.loop-left.left - half) in
    elim c.if-events-row.branch [
      | then-events-row w ↦ subst kept (sym w.row-is) (upper_rows u n half (omega arith) (omega arith) (omega (arith, w.if-events-row)))
      | else-events-row w ↦ subst kept (sym w.row-is) (lower_rows u n half (omega arith) (omega arith) (omega (arith, w.if-events-row)))
    ]

-- `remove_event` meets its contract: the row and the event that hold in the minute are dropped from the front of what they begin.
use Rattle.std.proofs.Common.{sym, ◌∙◌, ◌*◌, ◌<◌, length, arith}
use Rattle.units.specs.Limits.{most_links}
use Rattle.units.proofs.Pieces.{part_back}
use Rattle.timeline.specs.Removal.{drop_front}
use Rattle.timeline.proofs.Rows.{row_inside}
use Rattle.timeline.proofs.Removal.{event_stays, row_stays, event_out, row_out}
use Rattle.timeline.proofs.remove_event.Goals as goal

pub returns-then-row-eq0 : goal.returns-then-row-eq0
returns-then-row-eq0 c =
    let a = c.args in
    let found = c.row_at-row.ensures in
    (sym (event_stays a.minute.0 a.events.now c.row_at-row.result found c.if-row-eq0.true), sym (row_stays a.minute.0 a.events.now c.row_at-row.result found most_links a.rows.now c.if-row-eq0.true))

pub returns : goal.returns
returns c =
    let a = c.args in
    let row = c.row_at-row.result in
    let found = c.row_at-row.ensures in
    let fits : row < length a.events.now = omega (arith, row_inside a.minute.0 a.events.now (omega arith)) in (
      part_back row a.events.now c.drop_front-2.new.part (drop_front 1) (omega arith) c.drop_front-2.ensures ∙ event_out a.minute.0 a.events.now row found (omega arith),
      part_back (row * most_links) a.rows.now c.drop_front.new.part (drop_front most_links) (omega arith) c.drop_front.ensures ∙ row_out a.minute.0 a.events.now row found most_links a.rows.now (omega arith),
    )

-- `drop_before` meets its contract: what stands before the row that holds in the minute is dropped, and the minute written over its event.
use Rattle.std.proofs.Common.{ap, ◌∙◌, slice_set}
use Rattle.units.specs.Limits.{most_links}
use Rattle.timeline.proofs.Removal.{events_moved, rows_moved}
use Rattle.timeline.proofs.drop_before.Goals as goal

pub returns : goal.returns
returns c =
    let a = c.args in
    let row = c.row_at-row.result in
    let found = c.row_at-row.ensures in (
      ap (λ l. slice_set l 0 a.minute.0) c.drop_front-2.ensures ∙ events_moved a.minute.0 a.events.now row found,
      c.drop_front.ensures ∙ rows_moved a.minute.0 a.events.now row found most_links a.rows.now,
    )

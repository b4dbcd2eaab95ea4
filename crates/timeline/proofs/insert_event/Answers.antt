-- `insert_event` meets its contract: the row and the event that hold in the minute are put in again behind themselves, and the event is written over.
use Rattle.std.proofs.Common.{ℕ, List, ◌+◌, ◌*◌, ◌<◌, length, take, slice_set, ap, ◌∙◌, arith}
use Rattle.units.specs.Limits.{most_links}
use Rattle.units.specs.Lists.{put_piece}
use Rattle.units.proofs.Pieces.{part_back}
use Rattle.timeline.proofs.Insertion.{row_fits, event_put, row_put}
use Rattle.timeline.proofs.insert_event.Goals as goal

pub returns : goal.returns
returns c =
    let a = c.args in
    let row = c.row_at-row.result in
    let found = c.row_at-row.ensures in
    let late = c.if-minute-events.false in
    let fits : row + 1 < length a.events.now = omega (arith, row_fits a.minute.0 c.requires) in (
      ap (λ l. slice_set l (row + 1) a.minute.0) (part_back row a.events.now c.repeat-2.new.part (λ (l : List ℕ). put_piece 1 (take 1 l) l) (omega arith) c.repeat-2.ensures)
          ∙ event_put a.minute.0 a.events.now row found late fits,
      part_back (row * most_links) a.rows.now c.repeat.new.part (λ (l : List ℕ). put_piece most_links (take most_links l) l) (omega arith) c.repeat.ensures
          ∙ row_put a.minute.0 a.events.now row found late most_links a.rows.now,
    )

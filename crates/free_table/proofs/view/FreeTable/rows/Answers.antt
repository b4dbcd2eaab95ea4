-- `rows` meets its contract: they are the table's from the row of the start to that of the last minute.
use Rattle.std.proofs.Common.{◌<◌, ◌+◌, ◌-◌, ◌/◌, length, take, drop, ap, ap₂, ◌∙◌, arith}
use Rattle.timeline.specs.Events.{row_at}
use Rattle.timeline.proofs.Rows.{row_inside, row_later}
use Rattle.free_table.proofs.SpanRows.{rows_are}
use Rattle.free_table.proofs.view.FreeTable.rows.Goals as goal

pub returns-clause-rows : goal.returns-clause-rows
returns-clause-rows c =
    let a = c.args in
    let es = a.self.now.events.now in
    let t = a.self.now.figures.now in
    let sized = a.self.now.sized in
    let inside : row_at es (a.minutes.end.0 - 1) < length t / 64 = omega (arith, row_inside (a.minutes.end.0 - 1) es sized.some, sized.free_sized) in
    ap₂ (λ i j. take (j + 1 - i) (drop i c.as_chunks.result.0.now)) c.row_at-first.ensures c.row_at-last.ensures
    ∙ ap (λ rows. take (row_at es (a.minutes.end.0 - 1) + 1 - row_at es a.minutes.start.0) (drop (row_at es a.minutes.start.0) rows)) c.as_chunks.ensures.front
    ∙ rows_are es a.minutes.start.0 a.minutes.end.0 t (length t / 64) (row_later a.minutes.start.0 (a.minutes.end.0 - 1) es (omega arith)) inside

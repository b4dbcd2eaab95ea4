-- `take_span` meets its contract: the rows from the start's on are lent.
use Rattle.std.proofs.Common.{◌<◌, ◌-◌, ◌*◌, ◌++◌, length, take, drop, ap₂, ◌∙◌, arith}
use Rattle.units.specs.Limits.{most_links}
use Rattle.units.proofs.Pieces.{part_back}
use Rattle.timeline.proofs.Rows.{row_inside}
use Rattle.free_table.specs.Spans.{taken, change_path, change_span}
use Rattle.free_table.proofs.spans.take_span.Goals as goal

pub returns : goal.returns
unfolding change_span
returns c =
    let a = c.args in
    let t = a.free.now in
    let first = c.row_at-first.result in
    let past = c.row_at-past.result in
    let inside : first < length a.events.now = omega (arith, row_inside a.minutes.start.0 a.events.now (omega arith)) in
    part_back (first * most_links) t c.take_path.new.part (change_path (taken a.bandwidth.0) (past - first) a.path.now) (omega arith) c.take_path.ensures
    ∙ ap₂ (λ i j. take (i * most_links) t ++ change_path (taken a.bandwidth.0) (j - i) a.path.now (drop (i * most_links) t)) c.row_at-first.ensures c.row_at-past.ensures

-- `take_bandwidth` meets its contract: the rows of the span are lent, and what stands before them stays.
use Rattle.std.proofs.Common.{◌≤◌, ◌<◌, ◌-◌, ◌*◌, ◌++◌, length, take, drop, ap₂, ◌∙◌, arith}
use borrow.Rule.Slice.PartMut.{take_put}
use Rattle.units.specs.Limits.{most_links}
use Rattle.timeline.proofs.Rows.{row_inside, row_later}
use Rattle.free_table.specs.Taking.{less_rows, less_span}
use Rattle.free_table.proofs.Steps.{less_part}
use Rattle.free_table.proofs.take_bandwidth.Goals as goal

pub returns : goal.returns
unfolding less_span
returns c =
    let a = c.args in
    let t = a.free.now in
    let first = c.row_at-first.result in
    let past = c.row_at-past.result in
    let order : first ≤ past = omega (arith, row_later a.start.0 a.end.0 a.events.now c.requires.1) in
    let inside : past < length a.events.now = omega (arith, row_inside a.end.0 a.events.now (omega arith)) in (
      less_part a.link.0 a.bandwidth.0 (omega arith) first past t c.subtract.new.part order (omega arith) c.subtract.ensures
          ∙ ap₂ (λ i j. take (i * most_links) t ++ less_rows (j - i) a.link.0 a.bandwidth.0 (drop (i * most_links) t)) c.row_at-first.ensures c.row_at-past.ensures,
      rw (← c.row_at-first.ensures) (take_put (first * most_links) (past * most_links - first * most_links) t c.subtract.new.part (omega arith)),
    )

-- `row_mask` meets its contract: the bits of 16 links each stand side by side.
use Rattle.free_table.proofs.Lanes.{side_by_side}
use Rattle.free_table.proofs.masks.row_mask.Goals as goal

pub returns : goal.returns
returns c =
    let a = c.lanes-first in
    let b = c.lanes-second in
    let d = c.lanes-third in
    let e = c.lanes-fourth in
    side_by_side a.result b.result d.result e.result c.args.bandwidth.0 c.args.row.now a.ensures.few b.ensures.few d.ensures.few e.ensures.few a.ensures.enough b.ensures.enough d.ensures.enough e.ensures.enough

-- `in_rows` meets its contract: the links have enough in each of the rows before the loop's.
use Rattle.std.proofs.Common.{◌≡◌, [], leb, length, get_or, ap, ◌∙◌, arith}
use Rattle.units.specs.Search.{all_from}
use Rattle.free_table.proofs.MaskRows.{in_none, in_next}
use Rattle.free_table.proofs.masks.in_rows.Goals as goal

pub loop-row-init : goal.loop-row-init
loop-row-init c = λ k h. in_none (λ i. leb c.args.bandwidth.0 (get_or (get_or c.args.rows.now i []) k 0)) k h

pub loop-row-preserved : goal.loop-row-preserved
loop-row-preserved c = λ k h. in_next (λ i. leb c.args.bandwidth.0 (get_or (get_or c.args.rows.now i []) k 0)) c.loop-row.all c.row_mask-all.result k c.loop-row.row-index (c.loop-row.invariant k h) (c.row_mask-all.ensures k h)

pub returns : goal.returns
returns c = λ l h.
    let all : c.loop-row.row-index ≡ length c.args.rows.now = omega arith in
    c.loop-row.invariant l h ∙ ap (λ n. all_from 0 n (λ i. leb c.args.bandwidth.0 (get_or (get_or c.args.rows.now i []) l 0))) all

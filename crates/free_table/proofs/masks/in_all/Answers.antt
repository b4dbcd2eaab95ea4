-- `in_all` meets its contract: the links are in each of the masks before the loop's.
use Rattle.std.proofs.Common.{◌≡◌, length, get_or, refl, ap, ◌∙◌, arith}
use Rattle.units.specs.Search.{all_from}
use Rattle.units.specs.Sets.{has}
use Rattle.free_table.proofs.MaskRows.{in_none, in_next}
use Rattle.free_table.proofs.masks.in_all.Goals as goal

pub loop-mask-init : goal.loop-mask-init
loop-mask-init c = λ k h. in_none (λ i. has (get_or c.args.masks.now i 0) k) k h

pub loop-mask-preserved : goal.loop-mask-preserved
loop-mask-preserved c = λ k h. in_next (λ i. has (get_or c.args.masks.now i 0) k) c.loop-mask.all (get_or c.args.masks.now c.loop-mask.mask-index 0) k c.loop-mask.mask-index (c.loop-mask.invariant k h) refl

pub returns : goal.returns
returns c = λ l h.
    let all : c.loop-mask.mask-index ≡ length c.args.masks.now = omega arith in
    c.loop-mask.invariant l h ∙ ap (λ n. all_from 0 n (λ i. has (get_or c.args.masks.now i 0) l)) all

-- `release_path` meets its contract: a link more is taken off at.
use Rattle.std.proofs.Common.{arith, ◌<◌, length}
use Rattle.units.specs.Limits.{most_links}
use Rattle.units.proofs.Along.{enough_now, taken_one}
use Rattle.units.proofs.Parts.{all_get}
use Rattle.row_changes.proofs.release_path.Goals as goal

pub overflow_sub-taken : goal.overflow_sub-taken
overflow_sub-taken c =
    let inside : c.loop-link.link-index < length c.args.path.now = omega arith in
    omega (arith, enough_now c.loop-link.invariant c.requires.differ inside)

pub loop-link-preserved : goal.loop-link-preserved
loop-link-preserved c =
    let path = c.args.path.now in
    let inside : c.loop-link.link-index < length path = omega arith in
    taken_one c.loop-link.invariant c.requires.differ inside (all_get (λ l. l < most_links) path c.loop-link.link-index c.requires.path inside)

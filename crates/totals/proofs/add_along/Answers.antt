-- `add_along` meets its contract: a link more is added to.
use Rattle.std.proofs.Common.{arith, ◌<◌, length}
use Rattle.units.specs.Limits.{most_totals}
use Rattle.units.proofs.Along.{added_one}
use Rattle.units.proofs.Parts.{all_get}
use Rattle.totals.proofs.add_along.Goals as goal

pub loop-link-preserved : goal.loop-link-preserved
loop-link-preserved c =
    let path = c.args.path.now in
    let inside : c.loop-link.link-index < length path = omega arith in
    added_one c.loop-link.invariant c.requires.fits inside (all_get (λ l. l < most_totals) path c.loop-link.link-index c.requires.on_list inside)

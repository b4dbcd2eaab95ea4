-- `repeat` meets its contract: moving the part up by the piece leaves the piece twice.
use Rattle.std.proofs.Common.{◌∙◌, arith}
use Rattle.timeline.proofs.Insertion.{put_behind}
use Rattle.timeline.proofs.repeat.Goals as goal

pub returns : goal.returns
returns g c = let a = c.args in c.copy_within.ensures.after ∙ put_behind g.row.WIDTH a.part.now (omega arith)

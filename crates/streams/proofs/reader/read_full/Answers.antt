-- `read_full` meets its contract: what came is what had come and what a read brought.
use Rattle.std.proofs.Common.{rules, sym, subst}
use Rattle.std.proofs.KnownBytes.{Consumes-trans}
use Rattle.std.specs.Io.KnownBytes.{Consumes}
use Rattle.streams.proofs.Came.{came_more}
use Rattle.streams.proofs.reader.read_full.Goals as goal

pub loop-done-preserved : goal.loop-done-preserved
loop-done-preserved g c =
    let l = c.loop-done in
    let (within, long, had) = l.invariant in
    (search rules, search rules, subst (Consumes _ _) (sym (came_more l.done c.in_ok-came.came l.buffer c.read_once.new.buffer within (search rules))) (Consumes-trans _ _ _ _ _ had c.in_ok-came.ensures.came))

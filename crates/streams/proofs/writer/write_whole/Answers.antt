-- `write_whole` meets its contract: what a write took stands behind what was written.
use Rattle.std.proofs.Common.{rules, ◌-◌, ◌≤◌, length, sym, subst, arith}
use Rattle.std.specs.Io.KnownBytes.{Appends}
use Rattle.std.proofs.KnownBytes.{Appends-trans}
use Rattle.streams.proofs.Came.{take_behind}
use Rattle.streams.proofs.writer.write_whole.Goals as goal

pub loop-done-preserved : goal.loop-done-preserved
loop-done-preserved g c =
    let l = c.loop-done in
    let (within, had, intact) = l.invariant in
    let k = c.in_ok-written.written in
    let wrote = c.in_ok-written.ensures in
    let bound : k ≤ length c.args.bytes.now - l.done = search rules in (
      omega (arith, bound, within),
      subst (Appends _ _) (sym (take_behind l.done k c.args.bytes.now bound)) (Appends-trans _ _ _ _ _ had wrote.written),
      wrote.intact,
    )

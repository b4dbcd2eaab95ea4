-- After so many turns as many link numbers are written.
use Rattle.std.proofs.Common.{arith}
use Rattle.report.specs.Line.{numbers}
use Rattle.report.proofs.Writing.{none, joined}
use Rattle.report.proofs.Lines.{one_link_more, room_for_one}
use Rattle.report.proofs.LineWriter.write_links.Goals as goal

pub loop-link-init : goal.loop-link-init
unfolding numbers
loop-link-init c = none (omega arith)

pub write_field-requires : goal.write_field-requires
write_field-requires c =
    let l = c.loop-link in
    let room = room_for_one c.args.links.now l.link-index c.loop-link-test.true in
    omega (arith, l.invariant.wrote.behind, room, c.requires)

pub loop-link-preserved : goal.loop-link-preserved
loop-link-preserved c =
    let l = c.loop-link in
    rw (one_link_more c.args.links.now l.link-index c.loop-link-test.true) (joined (omega arith) l.invariant c.write_field.ensures)

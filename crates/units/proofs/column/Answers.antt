-- Each link that is read puts its field at its place, and the links past the 64th do not count.
use Rattle.std.proofs.Common.{refl, ◌∙◌, ap, arith, take}
use Rattle.std.proofs.lemmas.Fn.{says_at}
use native.Mathlib.Numerals.{add-one}
use lib.ListN.{length-take}
use lib.Seq.{take_all}
use Rattle.units.specs.Columns.{column}
use Rattle.units.proofs.Columns.{column_step, column_end}
use Rattle.units.proofs.column.Goals as goal

pub loop-i-init : goal.loop-i-init
unfolding column
loop-i-init g c = λ field reads. refl

pub loop-i-preserved : goal.loop-i-preserved
loop-i-preserved g c = λ field reads.
    let value = reads _ _ (says_at g.F.Fn c.read.ensures refl) in
    let first = take c.min.result c.args.links.now in
    let step = column_step field first c.loop-i.i _ (omega (arith, length-take c.min.result c.args.links.now)) c.loop-i-test.true in
    rw (c.loop-i.invariant field reads, value, add-one) step

pub returns : goal.returns
returns g c = λ field reads.
    let first = take c.min.result c.args.links.now in
    c.loop-i.invariant field reads
    ∙ ap (column field) (take_all c.loop-i.i first c.loop-i-test.false)
    ∙ rw c.min.ensures (column_end field c.args.links.now)

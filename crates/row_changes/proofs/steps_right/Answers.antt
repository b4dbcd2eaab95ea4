-- `steps_right` meets its contract: a row more is compared.
use Rattle.std.proofs.Common.{◌*◌, get_or, take, drop, arith, ap, ◌∙◌, refl}
use Rattle.std.proofs.Math.Seq.{get_or-take, get_or-drop}
use Rattle.units.proofs.Pieces.{rest_whole}
use Rattle.units.specs.Limits.{most_links}
use Rattle.row_changes.specs.Changes.{StepRight}
use Rattle.row_changes.proofs.Steps.{none_taken, room_for, enough_for, taken_next, step_tells, changed_tells, rows_next}
use Rattle.row_changes.proofs.steps_right.Goals as goal

pub loop-row-init : goal.loop-row-init
loop-row-init c = (((λ e r h. absurd (omega arith)), λ h. refl), none_taken c.requires.fits 64)

pub pass_row-requires-clause-room : goal.pass_row-requires-clause-room
pass_row-requires-clause-room c = room_for c.args.changes.now.starts c.args.changes.now.ends c.requires.fits c.requires.starts c.requires.ends c.loop-row.invariant.1

pub pass_row-requires-clause-enough : goal.pass_row-requires-clause-enough
pass_row-requires-clause-enough c = enough_for c.args.changes.now.starts c.args.changes.now.ends c.requires.fits c.requires.starts c.requires.ends c.loop-row.invariant.1

pub loop-row-preserved : goal.loop-row-preserved
loop-row-preserved c =
    let a = c.args in
    let before = c.loop-row.invariant.1 in
    let passed = c.pass_row.ensures in
    let from = c.loop-row.row * most_links in
    let figures = (rw c.unwrap-figures.ensures at c.first_chunk.ensures.cases).same ∙ ap (take most_links) (rest_whole from a.free.now) in (
      rows_next (StepRight a.head a.events.events.now a.capacities.now a.free.now a.book.now a.changes.now.starts a.changes.now.ends) c.loop-row.row _ _ c.loop-row.invariant.0
          (step_tells a.changes.now.starts a.changes.now.ends c.requires.fits c.requires.starts c.requires.ends before _ passed a.capacities.now a.free.now _ (λ l h. ap (λ f. get_or f l 0) figures ∙ get_or-take most_links (drop from a.free.now) l 0 h ∙ get_or-drop from a.free.now l 0) _ _ (changed_tells c.loop-row.row _ _) c.row_right.ensures),
      taken_next a.changes.now.starts a.changes.now.ends c.requires.fits c.requires.starts c.requires.ends before _ passed,
    )

-- `find_changes` meets its contract: a place more is put into the sets of its rows.
use Rattle.std.proofs.Common.{◌≡◌, ◌+◌, true, length, rules, arith, ap, ◌∙◌, subst, sym}
use Rattle.std.specs.Prelude.{◌↔◌}
use Rattle.units.specs.Spans.{span_of, release}
use Rattle.timeline.specs.Events.{row_at}
use Rattle.timeline.proofs.Halving.{inside}
use Rattle.row_changes.specs.Changes.{start_row, end_row, end_of, with_place, Marks, Found}
use Rattle.book.specs.Places.{booking_in}
use Rattle.row_changes.proofs.Marked.{marked_next, found_next}
use Rattle.row_changes.proofs.find_changes.Goals as goal

pub loop-place-preserved : goal.loop-place-preserved
loop-place-preserved c =
    let a = c.args in
    let es = a.events.events.now in
    let n = c.loop-place.place in
    let i = c.loop-place.invariant in
    let starts = c.mark-found.ensures in
    let ends = c.mark-found-in-loop-place.ensures in
    let start_is : c.booking_at-booking.result.start.0 ≡ (booking_in a.book.now n).start.0 = ap (λ b. b.start.0) c.booking_at-booking.ensures in
    let end_is : c.release.result ≡ end_of a.head a.book.now n = c.release.ensures ∙ ap (λ b. release b.start.0 (span_of a.head b.duration.0)) c.booking_at-booking.ensures in
    let starts_long : length c.loop-place.changes.starts ≡ 129 = search rules in
    let ends_long : length c.loop-place.changes.ends ≡ 129 = search rules in (
      found_next (λ i. Found es (booking_in a.book.now i).start.0) (λ i. Found es (end_of a.head a.book.now i)) n _ _ _ i.0
          (subst (λ m. (c.mark-found.result ≡ true) ↔ Found es m) start_is starts.found)
          (subst (λ m. (c.mark-found-in-loop-place.result ≡ true) ↔ Found es m) end_is ends.found),
      subst (Marks (start_row es a.book.now) (n + 1)) (sym (starts.marked ∙ ap (λ m. with_place (row_at es m) n c.loop-place.changes.starts) start_is))
          (marked_next (start_row es a.book.now) n c.loop-place.changes.starts (omega (arith, inside es a.events.rising (booking_in a.book.now n).start.0, c.requires.few, starts_long)) i.1),
      subst (Marks (end_row a.head es a.book.now) (n + 1)) (sym (ends.marked ∙ ap (λ m. with_place (row_at es m) n c.loop-place.changes.ends) end_is))
          (marked_next (end_row a.head es a.book.now) n c.loop-place.changes.ends (omega (arith, inside es a.events.rising (end_of a.head a.book.now n), c.requires.few, ends_long)) i.2),
    )

-- `rows_right` meets its contract: what changes at each row is found, or the events are not those of the book.
use Rattle.std.proofs.Common.{ℕ, List, get_or, rules, ap, ◌∙◌, sym, refl}
use mathlib.Core.Bool.{false≢true}
use Rattle.units.proofs.Columns.{column_any}
use Rattle.units.proofs.Padded.{fill_at}
use Rattle.rules.specs.Plain.{no_link}
use Rattle.row_changes.proofs.Rows.{not_found, rows_tell}
use Rattle.row_changes.proofs.rows_right.Goals as goal

pub find_changes-requires-clause-no_starts : goal.find_changes-requires-clause-no_starts
find_changes-requires-clause-no_starts c = fill_at 0 129

pub find_changes-requires-clause-no_ends : goal.find_changes-requires-clause-no_ends
find_changes-requires-clause-no_ends c = fill_at 0 129

pub returns-then-not-find_changes : goal.returns-then-not-find_changes
returns-then-not-find_changes c =
    let a = c.args in (
      (λ e. absurd (false≢true e)),
      λ r. absurd (not_found a.links.now a.head a.book.now a.events.events.now a.free.now a.events.rising (λ h. false≢true (sym c.if-not-find_changes.true ∙ c.find_changes.ensures.found.1 h)) r),
    )

pub returns : goal.returns
returns c =
    let a = c.args in
    let capacities = c.column-capacities.ensures (λ l. l.capacity.0) (λ link value called. search rules) in
    let found = c.find_changes.ensures in
    let steps = c.steps_right.ensures in
    let tell = rows_tell a.links.now a.head a.book.now a.events.events.now a.free.now c.column-capacities.result a.events.rising c.requires.clock c.requires.fits.few_bookings
    (λ l h. ap (λ (t : List ℕ). get_or t l 0) capacities ∙ column_any (λ l. l.capacity.0) a.links.now l no_link refl h)
    (found.found.0 c.if-not-find_changes.false) c.find_changes.new.changes.starts c.find_changes.new.changes.ends found.starts found.ends in (
      (λ e. tell.0 (steps.0 e)),
      λ r. steps.1 (tell.1 r),
    )

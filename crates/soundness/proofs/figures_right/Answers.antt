-- `figures_right` meets its contract: what is compared is what must agree, part by part.
use Rattle.std.proofs.Common.{◌≡◌, ◌*◌, ◌-◌, ℕ, List, length, get_or, take, drop, ap, ◌∙◌, subst, sym}
use mathlib.Core.Bool.{Bool, false≢true}
use Rattle.units.proofs.Search.{clash}
use Rattle.units.proofs.Pieces.{rest_whole}
use Rattle.units.specs.Limits.{most_links}
use Rattle.timeline.specs.EventTable.{rising_part}
use Rattle.timeline.proofs.Risen.{part_first}
use Rattle.rules.specs.Tables.{held_by}
use Rattle.row_changes.specs.Changes.{RowsRight}
use Rattle.soundness.specs.Checking.{all_zero}
use Rattle.soundness.proofs.Compared.{book_fits, compared, compares}
use Rattle.soundness.proofs.figures_right.Goals as goal

-- what is looked at is all behind the first n
behind : (n k : ℕ) (l : List ℕ) (zero : Bool) → zero ≡ all_zero (take (length l - n) (drop n l)) → n ≡ k → zero ≡ all_zero (drop k l)
behind n k l zero e same = e ∙ ap all_zero (rest_whole n l) ∙ ap (λ j. all_zero (drop j l)) same

pub returns-then-tables : goal.returns-then-tables
returns-then-tables c = ((λ e. absurd (false≢true e)), λ f. absurd (c.if-tables.true (compares c.requires f).clock_first))

pub returns-then-not-all_zero : goal.returns-then-not-all_zero
returns-then-not-all_zero c =
    let es = c.args.tables.now.events.now in
    let end = behind (length c.rising-events.result.events.now) (length (rising_part es)) es c.all_zero.result c.all_zero.ensures (ap length c.rising-events.ensures.part) in
    ((λ e. absurd (false≢true e)), λ f. absurd (clash ((compares c.requires f).events_end) (sym end ∙ c.if-not-all_zero.true)))

pub returns-then-not-all_zero-2 : goal.returns-then-not-all_zero-2
returns-then-not-all_zero-2 c =
    let t = c.args.tables.now.free.now in
    let end = behind (length c.rising-events.result.events.now * most_links) (length (rising_part c.args.tables.now.events.now) * most_links) t c.all_zero-2.result c.all_zero-2.ensures (ap (λ (u : List ℕ). length u * most_links) c.rising-events.ensures.part) in
    ((λ e. absurd (false≢true e)), λ f. absurd (clash ((compares c.requires f).figures_end) (sym end ∙ c.if-not-all_zero-2.true)))

pub rows_right-requires-clause-fits : goal.rows_right-requires-clause-fits
rows_right-requires-clause-fits c = book_fits c.requires

pub rows_right-requires-clause-clock : goal.rows_right-requires-clause-clock
rows_right-requires-clause-clock c =
    let es = c.args.tables.now.events.now in
    ap (λ (u : List ℕ). get_or u 0 0) c.rising-events.ensures.part ∙ part_first es ∙ c.if-tables.false

pub returns : goal.returns
returns c =
    let a = c.args.tables.now in
    let es = a.events.now in
    let t = a.free.now in
    let part = c.rising-events.ensures.part in
    let right : List ℕ → Type 0 = λ u. RowsRight a.links.now (held_by a.head a.book.now) u t in (
      (λ e. compared c.requires (record {
        clock_first = c.if-tables.false;
        events_end = sym (behind (length c.rising-events.result.events.now) (length (rising_part es)) es c.all_zero.result c.all_zero.ensures (ap length part)) ∙ c.if-not-all_zero.false;
        figures_end = sym (behind (length c.rising-events.result.events.now * most_links) (length (rising_part es) * most_links) t c.all_zero-2.result c.all_zero-2.ensures (ap (λ (u : List ℕ). length u * most_links) part)) ∙ c.if-not-all_zero-2.false;
        rows_are = subst right part (c.rows_right.ensures.0 e);
      })),
      λ f. c.rows_right.ensures.1 (subst right (sym part) (compares c.requires f).rows_are),
    )

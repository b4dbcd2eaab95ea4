-- `sound` meets its contract: each check that fails is one that sound tables pass, and tables that pass all are sound.
use mathlib.Core.Path.{◌≡◌, sym, ◌∙◌}
use mathlib.Core.Bool.{Bool, true}
use Prim.Native.Nat.{ℕ, ◌≤◌}
use native.Mathlib.Omega.{arith}
use Rattle.units.proofs.Search.{clash}
use Rattle.units.specs.Lists.{All}
use Rattle.rules.specs.Tables.{held, totals_table, guard_ok, sound}
use Rattle.rules.specs.Sound.{BookingRight}
use Rattle.lent.specs.Lent.{tables_in}
use Rattle.soundness.specs.Checking.{book_ok, BookFits}
use Rattle.rules.proofs.Tests.{Sized, sized_tells}
use Rattle.units.specs.Limits.{most_guard}
use Rattle.units.proofs.Tests.{same_test, at_most}
use Rattle.totals.specs.Totals.{totals_of}
use Rattle.totals.proofs.Kept.{table_is, can_total}
use Rattle.soundness.proofs.Tidy.{book_tells, book_counts}
use Rattle.soundness.proofs.Passing.{checked_sound, sound_checked, unsound}
use Rattle.soundness.proofs.sound.Goals as goal
use Rattle.soundness.proofs.sound.Goals.{Else-head-gt-BOOKINGS, Else-not-book_right, Start}

sizes : (c : Start) → let t = c.args.tables.now in Sized t.links.now (tables_in t)
sizes c = let t = c.args.tables.now in (sized_tells t.links.now (tables_in t)).0 c.requires

book_fits : (c : Else-head-gt-BOOKINGS) → let t = c.args.tables.now in BookFits t.book.now t.head.bookings
book_fits c = let t = c.args.tables.now in record { few = c.if-head-gt-BOOKINGS.false; sized = ((sized_tells t.links.now (tables_in t)).0 c.requires).book_right }

pub returns-then-not-links_right : goal.returns-then-not-links_right
returns-then-not-links_right c = let t = c.args.tables.now in unsound t.links.now (tables_in t) (λ k. clash k.links_right (sym c.links_right.ensures ∙ c.if-not-links_right.true))

pub returns-then-head-gt-MAX_MINUTE : goal.returns-then-head-gt-MAX_MINUTE
returns-then-head-gt-MAX_MINUTE c = let t = c.args.tables.now in unsound t.links.now (tables_in t) (λ k. omega (arith, k.clock_right, c.if-head-gt-MAX_MINUTE.true))

-- a guard that is found to be in range
guard_right : (guard : ℕ) (found : Bool) → found ≡ guard_ok guard → found ≡ true → guard ≤ most_guard
guard_right guard found e f = (at_most guard most_guard).0 (sym e ∙ f)

pub returns-then-not-guard_ok : goal.returns-then-not-guard_ok
returns-then-not-guard_ok c = let t = c.args.tables.now in unsound t.links.now (tables_in t) (λ k. clash ((at_most t.head.guard.0 most_guard).1 k.guard_right) (sym c.guard_ok.ensures ∙ c.if-not-guard_ok.true))

pub returns-then-head-tables : goal.returns-then-head-tables
returns-then-head-tables c = let t = c.args.tables.now in unsound t.links.now (tables_in t) (λ k. c.if-head-tables.true k.links_counted)

pub returns-then-head-gt-BOOKINGS : goal.returns-then-head-gt-BOOKINGS
returns-then-head-gt-BOOKINGS c = let t = c.args.tables.now in unsound t.links.now (tables_in t) (λ k. omega (arith, k.few_bookings, c.if-head-gt-BOOKINGS.true))

-- the book passed
passed : (c : Else-not-book_right) → let t = c.args.tables.now in book_ok t.links.now t.book.now (held (tables_in t)) ≡ true
passed c = sym c.book_right.ensures ∙ c.if-not-book_right.false

all_right : (c : Else-not-book_right) → let t = c.args.tables.now in All (BookingRight t.links.now (held (tables_in t))) (held (tables_in t)).bookings
all_right c = let t = c.args.tables.now in ((book_tells t.links.now t.book.now (held (tables_in t))).0 (passed c)).0.1

pub totals_right-requires : goal.totals_right-requires
totals_right-requires c =
    let t = c.args.tables.now in
    let at = goal.at.totals_right-requires c in
    let size = sizes at.Start in
    can_total t.links.now t.head t.book.now size.links_right.1 c.if-head-gt-BOOKINGS.false size.book_right
    (book_counts t.links.now t.head t.book.now (book_fits at.Else-head-gt-BOOKINGS) (passed at.Else-not-book_right)) (all_right at.Else-not-book_right)

pub figures_right-requires : goal.figures_right-requires
figures_right-requires c =
    let t = c.args.tables.now in
    let at = goal.at.figures_right-requires c in
    let size = sizes at.Start in
    record {
      few_links = size.links_right.1;
      events_sized = size.events_right;
      free_sized = size.free_right;
      book_sized = size.book_right;
      few_bookings = c.if-head-gt-BOOKINGS.false;
      short_guard = guard_right t.head.guard.0 _ c.guard_ok.ensures c.if-not-guard_ok.false;
      counts_right = book_counts t.links.now t.head t.book.now (book_fits at.Else-head-gt-BOOKINGS) (passed at.Else-not-book_right);
      bookings_right = all_right at.Else-not-book_right;
    }

pub returns-then-not-book_right : goal.returns-then-not-book_right
returns-then-not-book_right c = let t = c.args.tables.now in unsound t.links.now (tables_in t) (λ k. clash k.book_right (sym c.book_right.ensures ∙ c.if-not-book_right.true))

-- the totals of the bookings are those of the table
totals_same : (c : Else-not-book_right) → let t = c.args.tables.now in totals_of (held (tables_in t)).bookings ≡ totals_table t.links.now (held (tables_in t))
totals_same c = let t = c.args.tables.now in table_is t.links.now (held (tables_in t)) (sizes (goal.at.Else-not-book_right c).Start).links_right.1 (all_right c)

pub returns-then-not-totals_right : goal.returns-then-not-totals_right
returns-then-not-totals_right c =
    let t = c.args.tables.now in
    let at = goal.at.returns-then-not-totals_right c in
    unsound t.links.now (tables_in t) (λ k. clash (c.totals_right.ensures.1 (k.totals_right ∙ sym (totals_same at.Else-not-book_right))) c.if-not-totals_right.true)

pub returns : goal.returns
returns c =
    let t = c.args.tables.now in
    let at = goal.at.returns c in
    same_test c.figures_right.result (sound t.links.now (tables_in t))
    (λ e. checked_sound t.links.now (tables_in t) (record {
      links_right = sym c.links_right.ensures ∙ c.if-not-links_right.false;
      clock_right = c.if-head-gt-MAX_MINUTE.false;
      guard_right = guard_right t.head.guard.0 _ c.guard_ok.ensures c.if-not-guard_ok.false;
      links_counted = c.if-head-tables.false;
      few_bookings = c.if-head-gt-BOOKINGS.false;
      book_right = passed at.Else-not-book_right;
      totals_right = c.totals_right.ensures.0 c.if-not-totals_right.false ∙ totals_same at.Else-not-book_right;
      figures_right = c.figures_right.ensures.0 e;
    }))
    (λ e. c.figures_right.ensures.1 (sound_checked t.links.now (tables_in t) e).figures_right)

-- The tables after an accepted call, table by table, and those of a desk that was just set up.
use mathlib.Core.Path.{◌≡◌, refl, sym, ap, ◌∙◌}
use mathlib.Core.List.{List, flatten}
use Prim.Native.Nat.{ℕ, ◌≤◌, ◌<◌}
use native.Mathlib.Omega.{arith}
use lib.ListN.{length, get_or, replicate}
use Rattle.units.specs.declared.Link.{Link}
use Rattle.units.specs.declared.Head.{Head}
use Rattle.units.specs.Limits.{most_links, most_events}
use Rattle.units.specs.Lists.{sum, count_from}
use Rattle.plain_book.specs.Bookings as plain-book
use Rattle.rules.specs.Plain.{Plain, no_link, empty, free}
use Rattle.rules.specs.Tables.{Tables, tables, held, head_of, event_table, free_table, book_table, totals_table, lent, Fine}
use Rattle.rules.proofs.Tests.{Sized}
use Rattle.rules.proofs.Fine.{sizes, book_obeys, totals_are}
use Rattle.totals.specs.Totals.{totals_of}
use Rattle.totals.proofs.Kept.{table_is}
use Rattle.units.specs.Columns.{column}
use Rattle.units.proofs.Columns.{length_column, column_at}
use Rattle.timeline.specs.EventTable.{only_clock}
use Rattle.timeline.proofs.Inserted.{only_clock_events}
use Rattle.free_table.specs.Figures.{all_free}
use Rattle.free_table.proofs.Tables.{all_free_table}

-- a right head and four right tables
pub tables_are : (links : List Link) (p : Plain) {head : Head} {es t book totals : List ℕ} → head ≡ head_of links p → es ≡ event_table p → t ≡ free_table links p → book ≡ book_table p → totals ≡ totals_table links p
    → lent head es t book totals ≡ tables links p
unfolding tables
tables_are links p a b c d e = λ i. record { head = a i; events = b i; free = c i; book = d i; totals = e i }

-- the head of a plain book, figure by figure
pub head_is : (links : List Link) (p : Plain) {head : Head} → head.clock.0 ≡ p.clock → head.links ≡ length links → head.bookings ≡ length p.bookings → head.guard.0 ≡ p.guard → head ≡ head_of links p
head_is links p a b c d = λ i. record { clock = record { 0 = a i }; links = b i; bookings = c i; guard = record { 0 = d i } }

-- ---- no bookings

-- the head of a desk that was just set up with that guard
abbrev pub bare_head : List Link → ℕ → Head
bare_head links guard = record { clock = record { 0 = 0 }; links = length links; bookings = 0; guard = record { 0 = guard } }

-- the clock alone, all capacity free, no place and no work
pub bare_tables : {links : List Link} {t : Tables} → Sized links t → (guard : ℕ) → {es fs book totals : List ℕ} → es ≡ only_clock (length t.events) 0
    → fs ≡ all_free (length t.free) (length links) (column (λ l. l.capacity.0) links) → book ≡ replicate (length t.book) 0 → totals ≡ replicate (length t.totals) 0
    → lent (bare_head links guard) es fs book totals ≡ tables links (empty guard)
unfolding count_from flatten sum plain-book.by_number
bare_tables {links} {t} right guard a b c d =
    tables_are links (empty guard) refl
    (a ∙ ap (λ n. only_clock n 0) right.events_right ∙ only_clock_events most_events 0)
    (b ∙ ap (λ n. all_free n (length links) (column (λ l. l.capacity.0) links)) right.free_right
    ∙ all_free_table most_events (length links) (free links (empty guard)) 0 (column (λ l. l.capacity.0) links) (omega arith) few long figures)
    (c ∙ ap (λ n. replicate n 0) right.book_right)
    (d ∙ ap (λ n. replicate n 0) right.totals_right ∙ table_is links (empty guard) few tt)
  where
    few : length links ≤ most_links
    few = right.links_right.1

    long : length links ≤ length (column (λ l. l.capacity.0) links)
    long = omega (arith, length_column (λ l. l.capacity.0) links)

    figures : (l : ℕ) → l < length links → get_or (column (λ l. l.capacity.0) links) l 0 ≡ free links (empty guard) l 0
    figures l h = let same = column_at (λ l. l.capacity.0) links l no_link (omega arith) h in omega arith

-- the totals of sound tables are those of their bookings
pub totals_were : {links : List Link} {t : Tables} → Fine links t → t.totals ≡ totals_of (held t).bookings
totals_were {links} {t} fine = totals_are fine ∙ sym (table_is links (held t) (sizes fine).links_right.1 (book_obeys fine).bookings_right)

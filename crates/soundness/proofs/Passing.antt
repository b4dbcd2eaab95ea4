-- Tables are sound exactly if they pass the checks one by one: links, clock, guard, the head's counts, the book, and the figures.
use mathlib.Core.Path.{◌≡◌, sym, ap}
use mathlib.Core.List.{List}
use mathlib.Core.Bool.{true, false}
use Prim.Native.Nat.{◌≤◌}
use lib.ListN.{length}
use Rattle.units.specs.declared.Link.{Link}
use Rattle.units.specs.Limits.{most_bookings, last_minute, most_guard}
use Rattle.units.proofs.Search.{not_true}
use Rattle.rules.specs.Tables.{Tables, tables, held, totals_table, links_ok, sound}
use Rattle.soundness.specs.Checking.{book_ok, FiguresRight}
use Rattle.rules.proofs.Tests.{links_tell}
use Rattle.rules.proofs.Obeys.{sound_facts, sound_test, held_count}
use Rattle.soundness.proofs.Tidy.{BookRight, book_tells}

pub record Checked (links : List Link) (t : Tables) : Type 0 where
  pub links_right : links_ok links ≡ true
  pub clock_right : t.head.clock.0 ≤ last_minute
  pub guard_right : t.head.guard.0 ≤ most_guard
  pub links_counted : t.head.links ≡ length links
  pub few_bookings : t.head.bookings ≤ most_bookings
  pub book_right : book_ok links t.book (held t) ≡ true
  pub totals_right : t.totals ≡ totals_table links (held t)
  pub figures_right : FiguresRight links (held t) t.events t.free

module _ (links : List Link) (t : Tables) where
  pub checked_sound : Checked links t → sound links t ≡ true
  unfolding tables
  checked_sound c = sound_test links t (record {
    links_right = (links_tell links).0 c.links_right;
    clock_right = c.clock_right;
    guard_right = c.guard_right;
    count_right = c.few_bookings;
    in_order = book.0.0;
    bookings_right = book.0.1;
    not_oversold = c.figures_right.not_oversold;
    tables_are = all_same;
  })
    where
      book : BookRight links t.book (held t)
      book = (book_tells links t.book (held t)).0 c.book_right

      all_same : t ≡ tables links (held t)
      all_same = λ i. record {
        head = record { clock = t.head.clock; links = c.links_counted i; bookings = sym (held_count t) i; guard = t.head.guard };
        events = c.figures_right.events_are i;
        free = c.figures_right.free_are i;
        book = book.1 i;
        totals = c.totals_right i;
      }

  pub sound_checked : sound links t ≡ true → Checked links t
  unfolding tables
  sound_checked e =
      let s = sound_facts links t e in
      record {
        links_right = (links_tell links).1 s.links_right;
        clock_right = s.clock_right;
        guard_right = s.guard_right;
        links_counted = ap (λ x. x.head.links) s.tables_are;
        few_bookings = s.count_right;
        book_right = (book_tells links t.book (held t)).1 ((s.in_order, s.bookings_right), ap (λ x. x.book) s.tables_are);
        totals_right = ap (λ x. x.totals) s.tables_are;
        figures_right = record {
          not_oversold = s.not_oversold;
          events_are = ap (λ x. x.events) s.tables_are;
          free_are = ap (λ x. x.free) s.tables_are;
        };
      }

  -- what fails one of them is not sound
  pub unsound : ¬ Checked links t → false ≡ sound links t
  unsound h = sym (not_true (sound links t) (λ e. h (sound_checked e)))

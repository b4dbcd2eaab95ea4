-- On fine tables the chooser may be asked, and what it answers is the plain book's best start; so are the ranges listed.
use mathlib.Core.List.{List}
use mathlib.Core.Path.{◌≡◌, refl, sym, ◌∙◌, ap, ap₂}
use Prim.Native.Nat.{ℕ, ◌≤◌, ◌<◌}
use native.Mathlib.Nat.{le_refl}
use native.Mathlib.Omega.{arith}
use lib.ListN.{length, get_or}
use Rattle.std.proofs.Common.{Ok, Err}
use Rattle.units.specs.declared.Refused.{Refused}
use Rattle.units.specs.declared.Request.{Request}
use Rattle.units.specs.Limits.{most_links, most_events}
use Rattle.units.specs.Lists.{padded}
use Rattle.units.specs.Spans.{span_of}
use Rattle.free_table.specs.Figures.{kept}
use Rattle.free_table.specs.Looking.{TablesSized}
use Rattle.path_search.specs.Ends.{InRange}
use Rattle.path_search.specs.Answer as search
use Rattle.path_search.proofs.Agree.{Agree}
use Rattle.choice.specs.declared.Granted.{Granted}
use Rattle.choice.specs.Choice.{Grant, Choice, granted, no_start, choose}
use Rattle.choice.specs.EventTables.{clock_of}
use Rattle.choice.specs.Answer as answers
use Rattle.choice.specs.Carrying.{carries as carries_by}
use Rattle.choice.proofs.BreakOff.{break_off_agree}
use Rattle.choice.proofs.Figures.{choose_agree, carries_shown}
use Rattle.choice.proofs.Answers.{started, none_started}
use Rattle.choice.proofs.EventTables.{are_events}
use Rattle.listing.specs.Ranges.{ranges_for}
use Rattle.listing.proofs.Laws.{ranges_agree}
use Rattle.units.specs.declared.Link.{Link}
use Rattle.units.specs.Columns.{column}
use Rattle.units.proofs.Columns.{column_at}
use Rattle.rules.specs.Plain.{no_link, link, graph, free, carries_in, carries, low}
use Rattle.rules.specs.Calls.{starts, no_start_at, breaks_off, best, every, chosen as desk_chosen}
use Rattle.rules.specs.Tables.{Tables, events_of, held, Fine}
use Rattle.starts.specs.Asked.{begins, ends, ends_of, search_of, Asks}
use Rattle.rules.proofs.Uses.{all_times, free_changes}
use Rattle.rules.proofs.Tests.{RequestRight, link_right}
use Rattle.rules.proofs.Fine.{sizes, book_obeys, events_are, free_are}

module _ (links : List Link) (t : Tables) (f : Fine links t) where
  few_links : length links ≤ most_links
  few_links = (sizes f).links_right.1

  -- below the last link a column has the field of the link
  field : (read : Link → ℕ) (l : ℕ) → l < length links → get_or (column read links) l 0 ≡ read (link links l)
  field read l h = column_at read links l no_link (omega (arith, few_links)) h

  ends_in_range : InRange (length links) (begins links) (ends links)
  ends_in_range = record {
    few = few_links;
    from_node = λ l h. rw (field (λ x. x.from) l h) (link_right links (book_obeys f).links_right l h).from_right;
    to_node = λ l h. rw (field (λ x. x.to) l h) (link_right links (book_obeys f).links_right l h).to_right;
  }

  pub tables_sized : TablesSized t.events t.free
  tables_sized = record { some = omega (arith, (sizes f).events_right); free_sized = omega (arith, (sizes f).events_right, (sizes f).free_right) }

  -- the events are those of the clock and the times of the bookings
  shown_events : t.events ≡ padded (length t.events) (events_of (held t))
  shown_events = events_are f ∙ ap (λ n. padded n (events_of (held t))) (sym (sizes f).events_right)

  module _ (r : Request) (q : RequestRight r) where
    pub best_asks : Asks links t r
    best_asks = record {
      in_range = ends_in_range;
      sized = tables_sized;
      lasts = omega (arith, q.duration_right.0);
      are_events = are_events t.events t.head.clock.0 (all_times (held t)) shown_events;
      askable = record { not_past = omega (arith, ap clock_of shown_events); in_time = omega (arith, q.duration_right.1, q.latest_right, (book_obeys f).guard_right) };
      low_in_time = omega (arith, q.duration_right.1, q.earliest_right, (book_obeys f).clock_right, (book_obeys f).guard_right);
    }

    -- the choice by the tables, as the chooser promises it
    abbrev pub by_tables : Choice Grant
    by_tables = answers.choice_for (search_of t.head links r) t.events t.free (low (held t) r) r.latest.0

    -- where every path from low on breaks off, by the tables
    abbrev pub broken_by_tables : ℕ
    broken_by_tables = answers.break_off_for (search_of t.head links r) t.events t.free (low (held t) r)

    -- the choice by the plain book
    abbrev pub by_book : Choice Grant
    by_book = choose (graph links) (carries links (held t) r) r.from r.to (low (held t) r) r.latest.0

    -- the links, and what they carry in n minutes from low on, are the same
    agree_in : (n m : ℕ) → low (held t) r ≤ m
        → Agree (ends_of links) (graph links) (carries_by (kept t.events t.free) r.bandwidth.0 n m) (carries_in links (held t) r n m)
    agree_in n m a = record {
      count = refl;
      from = λ l h. field (λ x. x.from) l h;
      to = λ l h. field (λ x. x.to) l h;
      usable = λ l h. usable_same n m l (omega arith) h;
    }
      where
        usable_same : (n m l : ℕ) → t.head.clock.0 ≤ m → l < length links → carries_by (kept t.events t.free) r.bandwidth.0 n m l ≡ carries_in links (held t) r n m l
        usable_same n m l a h =
            ap₂ (λ es fr. carries_by (kept es fr) r.bandwidth.0 n m l) (events_are f) (free_are f)
            ∙ carries_shown most_events (length links) (free links (held t)) (sizes f).links_right.1 t.head.clock.0 (all_times (held t)) (λ k j. free_changes links (held t) k) r.bandwidth.0 n m l a h

    agree : (m : ℕ) → low (held t) r ≤ m → m ≤ r.latest.0
        → Agree (ends_of links) (graph links) (answers.carried (search_of t.head links r) t.events t.free m) (carries links (held t) r m)
    agree m a b = agree_in (span_of t.head r.duration.0) m a

    pub same_choice : by_tables ≡ by_book
    same_choice =
        choose_agree (ends_of links) (graph links) (answers.carried (search_of t.head links r) t.events t.free) (carries links (held t) r) r.from r.to (low (held t) r) r.latest.0 agree

    same_break_off : broken_by_tables ≡ breaks_off links (held t) r
    unfolding breaks_off
    same_break_off =
        break_off_agree (ends_of links) (graph links) (carries_by (kept t.events t.free) r.bandwidth.0) (carries_in links (held t) r) r.from r.to (span_of t.head r.duration.0) (low (held t) r) (λ n a b. agree_in n (low (held t) r) (le_refl (low (held t) r)))

    -- the answer by the tables is that by the plain book
    pub same_answer : answers.chosen broken_by_tables by_tables ≡ answers.chosen (breaks_off links (held t) r) by_book
    same_answer = ap₂ answers.chosen same_break_off same_choice

    -- the ranges by the tables are those by the plain book
    pub same_ranges : ranges_for (search_of t.head links r) t.events t.free (low (held t) r) r.latest.0 ≡ every links (held t) r
    unfolding every
    same_ranges =
        ranges_agree (ends_of links) (graph links) (answers.carried (search_of t.head links r) t.events t.free) (carries links (held t) r) r.from r.to (low (held t) r) r.latest.0 agree

    -- a start that the chooser answers is the plain book's grant, with its path
    pub record Started (given : Granted) : Type 0 where
      pub grant : Grant
      pub is_best : by_book ≡ granted grant
      pub given_is : given ≡ record { start = record { 0 = grant.start }; path = search.path_of grant.path }

    pub chosen_start : (given : Granted) → Ok given ≡ answers.chosen broken_by_tables by_tables → Started given
    chosen_start given e =
        let w = started broken_by_tables by_tables given e in
        record { grant = w.grant; is_best = sym same_choice ∙ w.is_granted; given_is = w.given_is }

    pub chosen_none : (k : Refused) → Err k ≡ answers.chosen broken_by_tables by_tables → by_book ≡ no_start
    chosen_none k e = sym same_choice ∙ none_started broken_by_tables by_tables k e

    -- what the plain book answers then
    pub best_starts : (g : Grant) → by_book ≡ granted g → best links (held t) r ≡ starts g
    unfolding best
    best_starts g e = ap (desk_chosen (breaks_off links (held t) r)) e

    pub best_none : by_book ≡ no_start → best links (held t) r ≡ no_start_at (breaks_off links (held t) r)
    unfolding best
    best_none e = ap (desk_chosen (breaks_off links (held t) r)) e

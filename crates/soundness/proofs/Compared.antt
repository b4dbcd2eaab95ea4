-- Events and free figures are those of the plain book if the used events are its events, each row's figures are what it leaves, and
-- zeros stand behind them.
use mathlib.Core.Path.{◌≡◌, refl, sym, ap, ap₂, ◌∙◌, subst}
use mathlib.Core.List.{List, [], ◌∷◌, ◌++◌, map, flatten, Memᴰ}
use mathlib.Core.Bool.{true}
use Prim.Native.Nat.{ℕ, ◌+◌, ◌-◌, ◌*◌, ◌≤◌, ◌<◌}
use native.Mathlib.Decide.{dec_lt}
use native.Mathlib.Omega.{arith}
use lib.ListN.{length, get_or, drop, replicate, length-append, get_or-eq_default}
use lib.Seq.{get_or-drop, drop-append_seam}
use Rattle.units.specs.declared.Link.{Link}
use Rattle.units.specs.declared.Head.{Head}
use Rattle.units.specs.Limits.{most_links, most_events}
use Rattle.units.specs.Lists.{padded, sum, All}
use Rattle.units.proofs.Search.{clash}
use Rattle.units.proofs.Tests.{absent_test}
use Rattle.units.proofs.Parts.{all_in, all_at, all_map, member_at, place_of, counted_one}
use Rattle.units.proofs.Padded.{fill_at}
use Rattle.timeline.specs.EventTable.{rising_part}
use Rattle.timeline.proofs.Risen.{part_split, part_events}
use Rattle.free_table.specs.Figures.{row}
use Rattle.free_table.proofs.Figures.{same_figures, length_table_rows, length_table, table_figure, table_column, table_past}
use Rattle.path_search.proofs.Paths.{path_inside, path_distinct}
use Rattle.book.specs.Places.{booking_in, place_path}
use Rattle.rules.specs.Plain.{Booking, Plain, uses, taken, capacity, graph, no_link, free}
use Rattle.rules.specs.Tables.{booking_at, held_by, events_of, event_table, free_table}
use Rattle.rules.specs.Sound.{BookingRight}
use Rattle.rules.proofs.Uses.{all_times, uses_most}
use Rattle.row_changes.specs.Changes.{BookFits, RowsRight}
use Rattle.soundness.specs.Checking.{all_zero, FiguresRight, CanCompare}
use Rattle.soundness.proofs.Tidy.{zeros_tell}

-- ---- a book of right bookings

module _ (links : List Link) (p : Plain) where
  -- takes nothing of a link past the list
  taken_beyond : (bs : List Booking) → All (BookingRight links p) bs → (l m : ℕ) → length links ≤ l → sum (map (λ b. uses p b l m) bs) ≡ 0
  unfolding sum
  taken_beyond [] a l m h = refl
  taken_beyond (b ∷ bs) a l m h =
      let off = absent_test l b.grant.path (λ k. let inside = all_at (λ l. l < length links) (path_inside (graph links) b.grant.path a.0.path_right) k in omega arith) in
      let none = uses_most p b l m 0 (λ s e i. clash i off) in
      omega (arith, none, taken_beyond bs a.1 l m h)

capacity_beyond : (links : List Link) (l : ℕ) → length links ≤ l → capacity links l ≡ 0
capacity_beyond links l h = ap (λ k. k.capacity.0) (get_or-eq_default links no_link h)

module _ {links : List Link} {head : Head} {book es₀ t₀ : List ℕ} (can : CanCompare links head book es₀ t₀) where
  pub book_fits : BookFits head book
  book_fits = record {
    few_bookings = can.few_bookings;
    book_sized = can.book_sized;
    short_guard = can.short_guard;
    places_right = λ i h. (
        let b = booking_in book i in
        let r = counted_one (booking_at book) (BookingRight links (held_by head book)) 0 head.bookings can.bookings_right i (omega arith) (omega arith) in
        record {
          start_right = r.start_right;
          duration_right = r.duration_right.1;
          bandwidth_right = r.bandwidth_right.1;
          count_right = can.counts_right i h;
          links_right = all_map (λ l. l < length links) (λ l. l < most_links) (λ l k. omega (arith, can.few_links)) (place_path b) (path_inside (graph links) (place_path b) r.path_right);
          links_differ = path_distinct (graph links) (place_path b) r.path_right;
        });
  }

-- ---- what is compared

pub record Compares (links : List Link) (head : Head) (book es t : List ℕ) : Type 0 where
  pub clock_first : get_or es 0 0 ≡ head.clock.0
  pub events_end : all_zero (drop (length (rising_part es)) es) ≡ true
  pub figures_end : all_zero (drop (length (rising_part es) * most_links) t) ≡ true
  pub rows_are : RowsRight links (held_by head book) (rising_part es) t

module _ {links : List Link} {head : Head} {book es t : List ℕ} (can : CanCompare links head book es t) where
  p : Plain
  p = held_by head book

  used : List ℕ
  used = rising_part es

  few_used : length used ≤ most_events
  unfolding used
  few_used = omega (arith, can.events_sized, ap length (part_split es), length-append (rising_part es) (drop (length (rising_part es)) es))

  module _ (c : Compares links head book es t) where
    within_capacity : (m l : ℕ) → Memᴰ m (events_of p) → l < length links → taken p l m ≤ capacity links l
    unfolding p
    within_capacity m l i h =
        let q = place_of (rising_part es) m (subst (Memᴰ m) (sym c.rows_are.events_are) i) in
        omega (arith, c.rows_are.figures_are q.0 l q.1 (omega (arith, can.few_links)), ap (taken (held_by head book) l) q.2)

    compared_events : es ≡ event_table p
    unfolding p
    compared_events =
        sym (part_split es)
        ∙ ap₂ ◌++◌ c.rows_are.events_are ((zeros_tell (length (rising_part es)) es).0 c.events_end ∙ ap₂ (λ n k. replicate (n - k) 0) can.events_sized (ap length c.rows_are.events_are))

    figure_at : (i l : ℕ) → i < most_events → l < most_links → get_or t (i * most_links + l) 0 ≡ get_or (free_table links p) (i * most_links + l) 0
    unfolding p
    figure_at i l h k = elim (dec_lt i (length (rising_part es))) [ yes a ↦ in_use a | no a ↦ behind (omega arith) ]
      where
        rows : length (rising_part es) ≡ length (events_of (held_by head book))
        rows = ap length c.rows_are.events_are

        in_use : i < length (rising_part es) → get_or t (i * most_links + l) 0 ≡ get_or (free_table links (held_by head book)) (i * most_links + l) 0
        in_use a =
            let sum = c.rows_are.figures_are i l a k in
            let event = ap (λ e. taken (held_by head book) l (get_or e i 0)) c.rows_are.events_are in
            elim (dec_lt l (length links)) [
              | yes b ↦ omega (arith, sum, event, table_figure (length links) (free links (held_by head book)) can.few_links most_events (events_of (held_by head book)) i l (omega (arith, rows)) b)
              | no b ↦ omega (arith, sum, capacity_beyond links l (omega arith), table_column (length links) (free links (held_by head book)) can.few_links most_events (events_of (held_by head book)) i l (omega (arith, rows)) (omega arith) k)
            ]

        behind : length (rising_part es) ≤ i → get_or t (i * most_links + l) 0 ≡ get_or (free_table links (held_by head book)) (i * most_links + l) 0
        behind a =
            let from = length (rising_part es) * most_links in
            let place : from + (i * most_links + l - from) ≡ i * most_links + l = omega arith in
            ap (λ j. get_or t j 0) (sym place)
            ∙ sym (get_or-drop from t (i * most_links + l - from) 0)
            ∙ ap (λ (z : List ℕ). get_or z (i * most_links + l - from) 0) ((zeros_tell from t).0 c.figures_end)
            ∙ fill_at 0 (length t - from) (i * most_links + l - from)
            ∙ sym (table_past (length links) (free links (held_by head book)) can.few_links most_events (events_of (held_by head book)) i l (omega (arith, rows)))

    pub compared : FiguresRight links (held_by head book) es t
    unfolding p used
    compared = record {
      not_oversold = all_in _ (events_of (held_by head book)) (λ m i l h. within_capacity m l i h);
      events_are = compared_events;
      free_are =
          same_figures most_events t (free_table links (held_by head book)) can.free_sized
          (length_table (length links) (free links (held_by head book)) can.few_links most_events (events_of (held_by head book)) (omega (arith, few_used, ap length c.rows_are.events_are)))
          figure_at;
    }

-- ---- and back
module _ {links : List Link} {head : Head} {book es t : List ℕ} (can : CanCompare links head book es t) (f : FiguresRight links (held_by head book) es t) where
  q : Plain
  q = held_by head book

  used_are : rising_part es ≡ events_of q
  unfolding q
  used_are = ap rising_part f.events_are ∙ part_events most_events head.clock.0 (all_times (held_by head book))

  few_events : length (events_of q) ≤ most_events
  unfolding q
  few_events = omega (arith, can.events_sized, ap length (part_split es), length-append (rising_part es) (drop (length (rising_part es)) es), ap length used_are)

  -- behind its first k the list is zeros
  zeros_behind : (k n : ℕ) (front l : List ℕ) → length front ≡ k → l ≡ padded n front → length l ≡ n → all_zero (drop k l) ≡ true
  zeros_behind k n front l long is sized =
      (zeros_tell k l).1
      (ap (drop k) is ∙ ap (λ j. drop j (padded n front)) (sym long) ∙ drop-append_seam front (replicate (n - length front) 0) ∙ ap₂ (λ a b. replicate (a - b) 0) (sym sized) long)

  pub compares : Compares links head book es t
  unfolding q
  compares = record {
    clock_first = ap (λ e. get_or e 0 0) f.events_are;
    events_end = zeros_behind (length (rising_part es)) most_events (events_of (held_by head book)) es (sym (ap length used_are)) f.events_are can.events_sized;
    figures_end =
        zeros_behind (length (rising_part es) * most_links) (most_events * most_links) (flatten (map (row (length links) (free links (held_by head book))) (events_of (held_by head book)))) t
        (length_table_rows (length links) (free links (held_by head book)) can.few_links (events_of (held_by head book)) ∙ ap (λ n. n * most_links) (sym (ap length used_are)))
        f.free_are can.free_sized;
    rows_are = record { events_are = used_are; figures_are = figures };
  }
    where
      figures : (r l : ℕ) → r < length (rising_part es) → l < most_links → get_or t (r * most_links + l) 0 + taken (held_by head book) l (get_or (rising_part es) r 0) ≡ capacity links l
      figures r l h k =
          let inside : r < length (events_of (held_by head book)) = omega (arith, ap length used_are) in
          let event = ap (λ e. taken (held_by head book) l (get_or e r 0)) used_are in
          let kept = ap (λ z. get_or z (r * most_links + l) 0) f.free_are in
          elim (dec_lt l (length links)) [
            | yes b ↦
                (let fits = all_at (λ m. (l : ℕ) → l < length links → taken (held_by head book) l m ≤ capacity links l) f.not_oversold (member_at (events_of (held_by head book)) r inside) l b in
                omega (arith, kept, event, fits, table_figure (length links) (free links (held_by head book)) can.few_links most_events (events_of (held_by head book)) r l inside b))
            | no b ↦
                omega (
                  arith,
                  kept,
                  event,
                  capacity_beyond links l (omega arith),
                  table_column (length links) (free links (held_by head book)) can.few_links most_events (events_of (held_by head book)) r l inside (omega arith) k,
                  taken_beyond links (held_by head book) (held_by head book).bookings can.bookings_right l (get_or (events_of (held_by head book)) r 0) (omega arith),
                )
          ]

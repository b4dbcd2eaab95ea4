-- A plain book that obeys document 01's rules gives sound tables, and sound tables hold such a book.
use mathlib.Core.Path.{◌≡◌, refl, sym, ap, ◌∙◌, fun_ext, subst}
use mathlib.Core.List.Permᴰ
use mathlib.Core.List.{List, ◌∷◌, map, flatten, Permᴰ}
use mathlib.Core.Bool.{true}
use Prim.Native.Nat.{ℕ, ◌-◌, ◌*◌, ◌≤◌, ◌<◌}
use native.Mathlib.Omega.{arith}
use lib.ListN.{length, length-map}
use Rattle.units.specs.declared.Link.{Link}
use Rattle.units.specs.Limits.{most_links, most_bookings, most_events, most_totals, place_size, last_minute, most_guard}
use Rattle.units.specs.Lists.{Within, count_from, padded, All, Distinct}
use Rattle.units.proofs.Tests.{Tells, ◌&◌, at_most, all_tells, Rising, rising_tells, Side, below, above, side}
use Rattle.units.proofs.Permuted.{sum_permuted, length_permuted, all_permuted, flatten_permuted, distinct_permuted}
use Rattle.units.proofs.Parts.{all_map, all_of, all_at, rising_distinct}
use Rattle.units.proofs.Padded.{length_padded, length_count, rows, length_rows}
use Rattle.timeline.proofs.Events.{later_permuted, later_length}
use Rattle.timeline.proofs.Steady.{last_event_is, steady}
use Rattle.free_table.specs.Figures.{table}
use Rattle.free_table.proofs.Figures.{length_table}
use Rattle.rules.specs.Plain.{Booking, Plain, until, times, taken, work, sold_work, capacity, free, with_book}
use Rattle.rules.specs.Calls.{numbers}
use Rattle.rules.specs.Tables.{Tables, tables, held, place, booking_at, by_number, events_of, booking_ok, none_oversold, sized, sound_with, sound}
use Rattle.rules.specs.Sound.{LinkRight, BookingRight, Obeys}
use Rattle.rules.proofs.Totals.{length_totals}
use Rattle.rules.proofs.Uses.{all_times, taken_permuted, taken_past, taken_changes}
use Rattle.rules.proofs.Book.{by_number_permuted, by_number_is, by_number_rises, Short, place_rows, held_tables}
use Rattle.rules.proofs.Tests.{links_tell, booking_tells, none_oversold_tells, same_tells, sized_tells}

-- ---- the order of the bookings doesn't count

-- a right booking is right in every plain book in which it stands
pub right_in : (links : List Link) (p q : Plain) (b : Booking) → q.clock < until q b → BookingRight links p b → BookingRight links q b
right_in links p q b h r = record {
  number_right = r.number_right;
  start_right = r.start_right;
  duration_right = r.duration_right;
  bandwidth_right = r.bandwidth_right;
  path_right = r.path_right;
  still_stands = h;
}

-- and so are right bookings in the same plain book with other bookings
pub all_right_in : (links : List Link) (p : Plain) (cs bs : List Booking) → All (BookingRight links p) bs → All (BookingRight links (with_book p cs)) bs
all_right_in links p cs bs = all_map (BookingRight links p) (BookingRight links (with_book p cs)) (λ b r. right_in links p (with_book p cs) b r.still_stands r) bs

module _ (links : List Link) (p : Plain) {bs cs : List Booking} (q : Permᴰ bs cs) where
  pub free_permuted : free links (with_book p bs) ≡ free links (with_book p cs)
  free_permuted = fun_ext λ l. fun_ext λ m. ap (λ x. capacity links l - x) (taken_permuted p q l m)

  pub events_permuted : events_of (with_book p bs) ≡ events_of (with_book p cs)
  events_permuted = ap (λ (es : List ℕ). p.clock ∷ es) (later_permuted p.clock (flatten_permuted (Permᴰ.map (times p) q)))

  pub sold_permuted : sold_work (with_book p bs) ≡ sold_work (with_book p cs)
  sold_permuted = fun_ext λ l. sum_permuted (Permᴰ.map (λ b. work b l) q)

  pub tables_permuted : Distinct (numbers bs) → tables links (with_book p bs) ≡ tables links (with_book p cs)
  unfolding tables
  tables_permuted d = λ i. record {
    head = record { clock = record { 0 = p.clock }; links = length links; bookings = length_permuted q i; guard = record { 0 = p.guard } };
    events = padded most_events (events_permuted i);
    free = table most_events (length links) (free_permuted i) (events_permuted i);
    book = padded (most_bookings * place_size) (flatten (map place (by_number_permuted q d i)));
    totals = padded most_totals (map (sold_permuted i) (count_from 0 (length links)));
  }

  pub obeys_permuted : Obeys links (with_book p bs) → Obeys links (with_book p cs)
  obeys_permuted o = record {
    links_right = o.links_right;
    clock_right = o.clock_right;
    guard_right = o.guard_right;
    not_too_many = rw (← (length_permuted q)) o.not_too_many;
    numbers_differ = distinct_permuted (Permᴰ.map (λ b. b.number) q) o.numbers_differ;
    bookings_right = all_right_in links (with_book p bs) cs cs (all_permuted (BookingRight links (with_book p bs)) q o.bookings_right);
    not_oversold = λ l m h. rw (← (taken_permuted p q l m)) (o.not_oversold l m h);
  }

-- ---- sound

-- what `sound_with` tells
pub record SoundWith (links : List Link) (t : Tables) (p : Plain) : Type 0 where
  pub links_right : All LinkRight links
  pub clock_right : p.clock ≤ last_minute
  pub guard_right : p.guard ≤ most_guard
  pub count_right : t.head.bookings ≤ most_bookings
  pub in_order : Rising 0 (numbers p.bookings)
  pub bookings_right : All (BookingRight links p) p.bookings
  pub not_oversold : All (λ m. (l : ℕ) → l < length links → taken p l m ≤ capacity links l) (events_of p)
  pub tables_are : t ≡ tables links p

pub sound_with_tells : (links : List Link) (t : Tables) (p : Plain) → Tells (sound_with links t p) (SoundWith links t p)
unfolding sound_with
sound_with_tells links t p =
    let b = links_tell links & at_most p.clock last_minute & at_most p.guard most_guard & at_most t.head.bookings most_bookings & rising_tells 0 (numbers p.bookings)
    & all_tells (booking_ok links p) (BookingRight links p) (booking_tells links p) p.bookings
    & all_tells (none_oversold links p) (λ m. (l : ℕ) → l < length links → taken p l m ≤ capacity links l) (none_oversold_tells links p) (events_of p)
    & same_tells t (tables links p) in (
      (λ e. let h = b.0 e in record {
        links_right = h.0.0.0.0.0.0.0;
        clock_right = h.0.0.0.0.0.0.1;
        guard_right = h.0.0.0.0.0.1;
        count_right = h.0.0.0.0.1;
        in_order = h.0.0.0.1;
        bookings_right = h.0.0.1;
        not_oversold = h.0.1;
        tables_are = h.1;
      }),
      λ s. b.1 (((((((s.links_right, s.clock_right), s.guard_right), s.count_right), s.in_order), s.bookings_right), s.not_oversold), s.tables_are),
    )

pub sound_facts : (links : List Link) (t : Tables) → sound links t ≡ true → SoundWith links t (held t)
unfolding sound
sound_facts links t e = (sound_with_tells links t (held t)).0 e

pub sound_test : (links : List Link) (t : Tables) → SoundWith links t (held t) → sound links t ≡ true
unfolding sound
sound_test links t s = (sound_with_tells links t (held t)).1 s

pub held_count : (t : Tables) → length (held t).bookings ≡ t.head.bookings
held_count t = length-map (count_from 0 t.head.bookings) (booking_at t.book) ∙ length_count 0 t.head.bookings

-- no link is oversold at an event, and so in no minute
nowhere_oversold : (links : List Link) (p : Plain) → All (λ b. p.clock < until p b) p.bookings → All (λ m. (l : ℕ) → l < length links → taken p l m ≤ capacity links l) (events_of p)
    → (l m : ℕ) → l < length links → taken p l m ≤ capacity links l
nowhere_oversold links p stand fits l m h = by (side m p.clock)
  where
    since : (m : ℕ) → p.clock ≤ m → taken p l m ≤ capacity links l
    since m k =
        let e = all_at (λ m. (l : ℕ) → l < length links → taken p l m ≤ capacity links l) fits (last_event_is m p.clock (all_times p)) l h in
        rw (← (steady (taken p l) p.clock m (all_times p) (taken_changes p l) k)) e

    by : Side m p.clock → taken p l m ≤ capacity links l
    by (below k) = omega (arith, taken_past p p.clock p.bookings stand l m (omega arith), since p.clock (omega arith))
    by (above k) = since m k

-- sound tables hold a book that obeys the rules
pub sound_obeys : (links : List Link) (t : Tables) → sound links t ≡ true → Obeys links (held t)
sound_obeys links t e =
    let s = sound_facts links t e in
    record {
      links_right = s.links_right;
      clock_right = s.clock_right;
      guard_right = s.guard_right;
      not_too_many = rw held_count s.count_right;
      numbers_differ = rising_distinct 0 (numbers (held t).bookings) s.in_order;
      bookings_right = s.bookings_right;
      not_oversold = nowhere_oversold links (held t) (all_map (BookingRight links (held t)) (λ b. (held t).clock < until (held t) b) (λ b r. r.still_stands) (held t).bookings s.bookings_right) s.not_oversold;
    }

-- and are its tables
pub sound_tables : (links : List Link) (t : Tables) → sound links t ≡ true → t ≡ tables links (held t)
sound_tables links t e = (sound_facts links t e).tables_are

module _ (links : List Link) (p : Plain) (o : Obeys links p) where
  pub all_short : All Short p.bookings
  all_short = all_map (BookingRight links p) Short (λ b r. r.path_right.length_right.1) p.bookings o.bookings_right

  -- the book by rising number, as the tables hold it
  abbrev pub Ordered : Plain
  Ordered = with_book p (by_number p.bookings)

  pub held_ordered : held (tables links p) ≡ Ordered
  held_ordered = held_tables links p all_short

  pub obeys_ordered : Obeys links Ordered
  obeys_ordered = obeys_permuted links p (Permᴰ.symm (by_number_is p.bookings)) o

  pub tables_ordered : tables links p ≡ tables links Ordered
  tables_ordered = tables_permuted links p (Permᴰ.symm (by_number_is p.bookings)) o.numbers_differ

  count_is : (tables links p).head.bookings ≤ most_bookings
  unfolding tables
  count_is = o.not_too_many

  -- a book that obeys the rules gives sound tables
  pub tables_sound : sound links (tables links p) ≡ true
  tables_sound = sound_test links (tables links p) (subst (SoundWith links (tables links p)) (sym held_ordered) (record {
    links_right = o.links_right;
    clock_right = o.clock_right;
    guard_right = o.guard_right;
    count_right = count_is;
    in_order = by_number_rises p.bookings o.numbers_differ (all_map (BookingRight links p) (λ b. 1 ≤ b.number) (λ b r. r.number_right.0) p.bookings o.bookings_right);
    bookings_right = obeys_ordered.bookings_right;
    not_oversold = all_of (λ m. (l : ℕ) → l < length links → taken Ordered l m ≤ capacity links l) (λ m l h. obeys_ordered.not_oversold l m h) (events_of Ordered);
    tables_are = tables_ordered;
  }))

  -- of the right sizes
  pub few_events : length (events_of p) ≤ most_events
  few_events =
      let two = length_rows (times p) 2 p.bookings (rows (times p) 2 (λ b. refl) p.bookings) in
      let few = later_length p.clock (all_times p) in
      let most = o.not_too_many in
      omega arith

  module _ (count : Within 1 most_links (length links)) where
    pub tables_sized : sized links (tables links p) ≡ true
    unfolding tables
    tables_sized = (sized_tells links (tables links p)).1 (record {
      links_right = count;
      events_right = length_padded 0 most_events (events_of p) few_events;
      free_right = length_table (length links) (free links p) count.1 most_events (events_of p) few_events;
      book_right = length_padded 0 (most_bookings * place_size) (flatten (map place (by_number p.bookings)))
          (rw (length_rows place place_size (by_number p.bookings) (place_rows (by_number p.bookings) (all_permuted Short (Permᴰ.symm (by_number_is p.bookings)) all_short)), length_permuted (by_number_is p.bookings)) (let few = o.not_too_many in omega arith));
      totals_right = length_totals links p count.1;
    })

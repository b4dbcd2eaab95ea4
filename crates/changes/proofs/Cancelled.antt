-- The tables after a cancellation: what the booking held is given back in the first rows, its place is taken out and its work dropped.
use mathlib.Core.Path.{◌≡◌, refl, ap, ap₂, ◌∙◌, subst}
use mathlib.Core.List.{List, ◌++◌, map}
use Prim.Native.Nat.{ℕ, ◌+◌, ◌-◌, ◌*◌, ◌≤◌}
use native.Mathlib.Omega.{arith}
use lib.Dec.{eqb}
use mathlib.Core.Bool.{not}
use lib.ListN.{length, take, drop}
use Rattle.units.specs.Along.{less_along}
use Rattle.units.specs.declared.Link.{Link}
use Rattle.units.specs.Limits.{most_links, most_events, most_totals, place_size}
use Rattle.units.specs.Lists.{count_from, padded}
use Rattle.free_table.specs.Figures.{table}
use Rattle.places.specs.Places.{without_place}
use Rattle.book.specs.declared.Booking.{Booking as Place}
use Rattle.book.specs.Places.{booking_in, place_path}
use Rattle.rules.specs.Plain.{Booking, Plain, free}
use Rattle.rules.specs.Calls.{put_in, take_out}
use Rattle.rules.specs.Tables.{Tables, tables, held, held_by, head_of, booking_at, events_of, book_table, totals_table, lent, Fine}
use Rattle.rules.specs.Sound.{BookingRight, Obeys}
use Rattle.rules.proofs.Obeys.{held_count, events_permuted, free_permuted, sold_permuted, obeys_permuted}
use Rattle.rules.proofs.Step.{obeys_take_out}
use Rattle.rules.proofs.Fine.{sizes, book_obeys, few_bookings, links_are}
use Rattle.changes.specs.Holding.{release_of, PlaceRight, events_in, free_in}
use Rattle.totals.specs.Totals.{place_work, WorkRight}
use Rattle.totals.proofs.Totals.{less_totals}
use Rattle.totals.proofs.Kept.{table_is, work_right}
use Rattle.changes.specs.Updating.{with_count}
use Rattle.changes.specs.Holding.{GivesBack}
use Rattle.changes.proofs.InOrder.{Released, counts_right, held_part}
use Rattle.changes.proofs.Held.{place_right}
use Rattle.changes.proofs.Front.{events_few, events_front, free_front, events_whole, free_whole}
use Rattle.changes.proofs.GivenBack.{given_back}
use Rattle.changes.proofs.Written.{head_is, tables_are, totals_were}

module _ {links : List Link} {t : Tables} (fine : Fine links t) (number i : ℕ) (r : Released fine number i) where
  -- the plain book before and after the call, and the booking between them
  abbrev p : Plain
  p = held t

  abbrev pub left : Plain
  left = take_out number p

  abbrev place : Place
  place = booking_in t.book i

  abbrev b : Booking
  b = booking_at t.book i

  -- the rows that can be used
  abbrev pub rows : ℕ
  rows = 1 + 2 * t.head.bookings

  pub obeys_left : Obeys links left
  obeys_left = obeys_take_out links p number (book_obeys fine)

  -- the plain book with the booking in front is as good
  obeys_with : Obeys links (put_in b left)
  obeys_with = obeys_permuted links p r.among (book_obeys fine)

  right : BookingRight links (put_in b left) b
  right = obeys_with.bookings_right.0

  few_links : length links ≤ most_links
  few_links = (sizes fine).links_right.1

  events_same : events_of p ≡ events_of (put_in b left)
  events_same = events_permuted links p r.among

  free_same : free links p ≡ free links (put_in b left)
  free_same = free_permuted links p r.among

  few : length (events_of p) ≤ rows
  few = omega (arith, events_few p, held_count t)

  fits : rows ≤ most_events
  fits = omega (arith, few_bookings fine)

  -- what `give_back` and `drop_work` ask
  pub place_is_right : PlaceRight place
  place_is_right = place_right links (put_in b left) place few_links (counts_right fine i r.inside) right

  pub work_is_right : WorkRight place
  work_is_right = work_right links (put_in b left) few_links place (counts_right fine i r.inside) right

  -- what is written
  module _ {book es fs totals : List ℕ} (took : book ≡ without_place place_size i t.book)
      (gave : let head = with_count t.head (t.head.bookings - 1) in
      GivesBack (held_by head book) place.start.0 (release_of head place) place.bandwidth.0 (place_path place) (take rows t.events) (take (rows * most_links) t.free) es fs)
      (dropped : totals ≡ less_along (place_work place) (place_path place) t.totals) where
    one_less : with_count t.head (t.head.bookings - 1) ≡ head_of links left
    one_less = head_is links left refl (links_are fine) r.count_is refl

    book_is : book ≡ book_table left
    book_is = took ∙ r.book_is

    held_is : held_by (with_count t.head (t.head.bookings - 1)) book ≡ left
    held_is = held_part fine (λ b. not (eqb number b.number)) left refl obeys_left one_less book_is

    gave_left : GivesBack left place.start.0 (release_of t.head place) place.bandwidth.0 (place_path place) (events_in rows (put_in b left)) (free_in rows links (put_in b left)) es fs
    gave_left =
        subst (λ x. GivesBack left place.start.0 (release_of t.head place) place.bandwidth.0 (place_path place) (events_in rows (put_in b left)) x es fs) (free_front fine rows few fits ∙ ap₂ (table rows (length links)) free_same events_same)
        (subst (λ x. GivesBack left place.start.0 (release_of t.head place) place.bandwidth.0 (place_path place) x (take (rows * most_links) t.free) es fs) (events_front fine rows few fits ∙ ap (padded rows) events_same)
        (subst (λ q. GivesBack q place.start.0 (release_of t.head place) place.bandwidth.0 (place_path place) (take rows t.events) (take (rows * most_links) t.free) es fs) held_is gave))

    tables_given : (es ≡ events_in rows left) × (fs ≡ free_in rows links left)
    tables_given =
        given_back rows links left b few_links (subst (λ (xs : List ℕ). length xs ≤ rows) events_same few) right obeys_with.not_oversold obeys_with.links_right es fs gave_left

    enough : length (events_of left) ≤ rows
    enough = omega (arith, events_few left, r.count_is, r.inside)

    totals_is : totals ≡ totals_table links left
    totals_is =
        dropped
        ∙ ap (less_along (place_work place) (place_path place)) (totals_were fine ∙ ap (λ (f : ℕ → ℕ). map f (count_from 0 most_totals)) (sold_permuted links p r.among))
        ∙ less_totals place work_is_right left.bookings
        ∙ table_is links left few_links obeys_left.bookings_right

    pub cancelled : lent (with_count t.head (t.head.bookings - 1)) (es ++ drop rows t.events) (fs ++ drop (rows * most_links) t.free) book totals ≡ tables links left
    cancelled = tables_are links left one_less (events_whole fine rows few fits left enough tables_given.0) (free_whole fine rows few fits left enough tables_given.1) book_is totals_is

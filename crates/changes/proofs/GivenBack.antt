-- Giving back what a booking held makes the right tables of the plain book with it those of the plain book without it. No link is
-- oversold with it, so what comes back fits in the capacity.
use mathlib.Core.Path.{◌≡◌, refl, sym, ap, ap₂, ◌∙◌}
use mathlib.Core.List.{List, ◌∷◌, flatten, Memᴰ}
use mathlib.Core.Bool.{Bool, true, false, ◌||◌}
use Prim.Native.Nat.{ℕ, ◌+◌, ◌-◌, ◌%◌, ◌^◌, ◌≤◌, ◌<◌}
use native.Mathlib.Omega.{arith}
use Rattle.std.proofs.Math.Nat.{mod-eq_of_lt}
use lib.ListN.{length}
use borrow.Author.Tests.{ne_eqb}
use Rattle.units.specs.declared.Link.{Link}
use Rattle.units.specs.Limits.{most_links}
use Rattle.units.specs.Lists.{if_so, member, padded, All}
use Rattle.plain_book.specs.Stretches.{holds}
use Rattle.timeline.specs.Events.{events}
use Rattle.timeline.proofs.Inserted.{fewer}
use Rattle.timeline.proofs.Removed.{event_dropped, row_dropped}
use Rattle.free_table.specs.Figures.{row, table}
use Rattle.free_table.specs.Spans.{given, change_span, where_so, changed}
use Rattle.free_table.proofs.Figures.{length_row}
use Rattle.free_table.proofs.Changed.{change_span_table}
use Rattle.path_search.proofs.Paths.{path_inside, path_distinct}
use Rattle.rules.specs.Plain.{Booking, Plain, until, stretch, taken, capacity, graph, free}
use Rattle.rules.specs.Calls.{put_in}
use Rattle.rules.specs.Tables.{events_of}
use Rattle.rules.specs.Sound.{LinkRight, BookingRight}
use Rattle.rules.specs.Desk.{NotOversold}
use Rattle.rules.proofs.Tests.{link_right}
use Rattle.rules.proofs.Uses.{taken_put_in}
use Rattle.changes.specs.Holding.{events_in, free_in}
use Rattle.changes.specs.Holding.{times_of, events_left, rows_left, GivesBack}

module _ (n : ℕ) (links : List Link) (p : Plain) (b : Booking) (small : length links ≤ most_links) (few : length (events_of (put_in b p)) ≤ n)
    (right : BookingRight links (put_in b p) b) (within : NotOversold links (put_in b p)) (capacities : All LinkRight links) where
  abbrev start : ℕ
  start = b.grant.start

  abbrev end : ℕ
  end = until p b

  abbrev w : ℕ
  w = b.terms.bandwidth

  abbrev ts : List ℕ
  ts = times_of p

  -- the events of so many times, and the figures of p at them
  abbrev events_at : List ℕ → List ℕ
  events_at xs = padded n (events p.clock xs)

  abbrev figures_at : List ℕ → List ℕ
  figures_at xs = table n (length links) (free links p) (events p.clock xs)

  -- what the booking gave up is free again
  back : (held : Bool) (all t : ℕ) → all < 2 ^ 32 → if_so held w + t ≤ all → where_so held (given w) (all - (if_so held w + t)) ≡ all - t
  back true all t most fits = let whole : all - (w + t) + w ≡ all - t = omega arith in ap (λ x. x % 2 ^ 32) whole ∙ mod-eq_of_lt (omega arith)
  back false all t most fits = omega arith

  free_back : (j m : ℕ) → j < length links → p.clock ≤ m → changed (given w) start end b.grant.path (free links (put_in b p)) j m ≡ free links p j m
  free_back j m h k =
      let most = (link_right links capacities j h).capacity_right.1 in
      let fits = within j m h in
      ap (λ x. where_so (holds (stretch p b) j m) (given w) (capacity links j - x)) (taken_put_in p b j m)
      ∙ back (holds (stretch p b) j m) (capacity links j) (taken p j m) (omega arith) (omega (arith, taken_put_in p b j m))

  given_back_rows : change_span (given w) (events_in n (put_in b p)) start end b.grant.path (free_in n links (put_in b p)) ≡ figures_at (start ∷ end ∷ ts)
  unfolding flatten
  given_back_rows =
      change_span_table (given w) n (length links) (free links (put_in b p)) (free links p) small p.clock (start ∷ end ∷ ts) few start end b.grant.path (omega arith)
      (Memᴰ.head refl) (Memᴰ.tail (Memᴰ.head refl)) (path_distinct (graph links) b.grant.path right.path_right) (path_inside (graph links) b.grant.path right.path_right) free_back

  -- the start is not the end, so the other bookings say whether it is needed
  start_needed : member start ts ≡ member start (end ∷ ts)
  unfolding member
  start_needed = let other : (start ≡ end → ⊥) = (let some = right.duration_right.0 in λ e. omega arith) in sym (ap (λ t. t || member start ts) (ne_eqb start end other))

  -- its two events dropped
  fewer_events : length (events p.clock (end ∷ ts)) ≤ n
  unfolding flatten
  fewer_events = omega (arith, few, fewer p.clock start (end ∷ ts))

  start_dropped : events_left (member start ts) start (events_at (start ∷ end ∷ ts)) ≡ events_at (end ∷ ts)
  unfolding flatten
  start_dropped = event_dropped n p.clock start (end ∷ ts) few (member start ts) start_needed

  end_dropped : events_left (member end ts) end (events_at (end ∷ ts)) ≡ events_at ts
  end_dropped = event_dropped n p.clock end ts fewer_events (member end ts) refl

  start_row_dropped : rows_left (member start ts) (events_at (start ∷ end ∷ ts)) start (figures_at (start ∷ end ∷ ts)) ≡ figures_at (end ∷ ts)
  unfolding flatten
  start_row_dropped = row_dropped n p.clock start (end ∷ ts) few (member start ts) start_needed (row (length links) (free links p)) most_links (length_row (length links) (free links p) small)

  end_row_dropped : rows_left (member end ts) (events_at (end ∷ ts)) end (figures_at (end ∷ ts)) ≡ figures_at ts
  end_row_dropped = row_dropped n p.clock end ts fewer_events (member end ts) refl (row (length links) (free links p)) most_links (length_row (length links) (free links p) small)

  pub given_back : (es t : List ℕ) → GivesBack p start end w b.grant.path (events_in n (put_in b p)) (free_in n links (put_in b p)) es t → (es ≡ events_in n p) × (t ≡ free_in n links p)
  unfolding flatten
  given_back es t h = (
    h.0 ∙ ap (events_left (member end ts) end) start_dropped ∙ end_dropped,
    h.1
        ∙ ap₂ (λ (es t : List ℕ). rows_left (member end ts) es end t) start_dropped (ap (rows_left (member start ts) (events_at (start ∷ end ∷ ts)) start) given_back_rows ∙ start_row_dropped)
        ∙ end_row_dropped,
  )

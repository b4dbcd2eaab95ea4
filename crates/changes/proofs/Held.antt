-- Holding makes the right tables of a plain book those of the plain book with one booking more. It holds too where a link is oversold,
-- since figures stop at zero.
use mathlib.Core.Path.{◌≡◌, refl, sym, ap, ap₂, ◌∙◌}
use mathlib.Core.List.{List, ◌∷◌, flatten, Memᴰ}
use mathlib.Core.Bool.{Bool, true, false}
use Prim.Native.Nat.{ℕ, ◌+◌, ◌-◌, ◌≤◌, ◌<◌}
use native.Mathlib.Omega.{arith}
use lib.ListN.{length}
use Rattle.units.specs.declared.Link.{Link}
use Rattle.units.specs.Limits.{most_links, most_hops}
use Rattle.units.specs.Lists.{if_so}
use Rattle.units.proofs.Parts.{all_get}
use Rattle.plain_book.specs.Stretches.{holds}
use Rattle.timeline.specs.Insertion.{with_span, with_span_rows, Room}
use Rattle.timeline.proofs.Inserted.{with_span_events, room_of_events}
use Rattle.free_table.specs.Figures.{table}
use Rattle.free_table.specs.Spans.{taken, change_span, where_so, changed}
use Rattle.free_table.proofs.Figures.{length_table}
use Rattle.free_table.proofs.Tables.{table_with_span}
use Rattle.free_table.proofs.Changed.{change_span_table}
use Rattle.path_search.proofs.Paths.{path_inside, path_distinct}
use Rattle.book.specs.declared.Booking.{Booking as Place}
use Rattle.book.specs.Places.{place_path}
use Rattle.rules.specs.Plain as plain
use Rattle.rules.specs.Plain.{Booking, Plain, until, stretch, capacity, graph, free}
use Rattle.rules.specs.Calls.{put_in}
use Rattle.rules.specs.Tables.{events_of, booking_of}
use Rattle.rules.specs.Sound.{BookingRight}
use Rattle.rules.proofs.Uses.{taken_put_in, free_changes}
use Rattle.changes.specs.Holding.{PlaceRight, events_in, free_in, times_of, Holds}

-- the place of a right booking has figures in range
pub place_right : (links : List Link) (p : Plain) (b : Place) → length links ≤ most_links → b.count ≤ most_hops → BookingRight links p (booking_of b) → PlaceRight b
place_right links p b few count r = record {
  start_right = r.start_right;
  duration_right = r.duration_right;
  count_right = count;
  links_right = λ i h. omega (arith, few, all_get (λ l. l < length links) (place_path b) i (path_inside (graph links) (place_path b) r.path_right) h);
}

-- the tables have room for two events more
pub hold_room : (n : ℕ) (links : List Link) (p : Plain) → length links ≤ most_links → length (events_of p) + 2 ≤ n → Room (events_in n p) (free_in n links p) 2
hold_room n links p small more = room_of_events n p.clock (times_of p) (free_in n links p) 2 (length_table (length links) (free links p) small n (events_of p) (omega (arith, more))) more

module _ (n : ℕ) (links : List Link) (p : Plain) (b : Booking) (small : length links ≤ most_links) (few : length (events_of (put_in b p)) ≤ n) (right : BookingRight links (put_in b p) b) where
  abbrev start : ℕ
  start = b.grant.start

  abbrev end : ℕ
  end = until p b

  abbrev w : ℕ
  w = b.terms.bandwidth

  events_held : with_span start end (events_in n p) ≡ events_in n (put_in b p)
  unfolding flatten
  events_held = with_span_events p.clock start end (times_of p) n few

  rows_held : with_span_rows most_links (events_in n p) start end (free_in n links p) ≡ table n (length links) (free links p) (events_of (put_in b p))
  unfolding flatten
  rows_held = table_with_span n (length links) (free links p) small p.clock (times_of p) (λ l h. free_changes links p l) start end few

  -- what the booking takes is free no longer
  gone : (held : Bool) (all t : ℕ) → where_so held (taken w) (all - t) ≡ all - (if_so held w + t)
  gone true all t = omega arith
  gone false all t = omega arith

  free_gone : (j m : ℕ) → j < length links → p.clock ≤ m → changed (taken w) start end b.grant.path (free links p) j m ≡ free links (put_in b p) j m
  free_gone j m h k = gone (holds (stretch p b) j m) (capacity links j) (plain.taken p j m) ∙ ap (λ x. capacity links j - x) (sym (taken_put_in p b j m))

  figures_held : change_span (taken w) (events_in n (put_in b p)) start end b.grant.path (table n (length links) (free links p) (events_of (put_in b p))) ≡ free_in n links (put_in b p)
  unfolding flatten
  figures_held =
      change_span_table (taken w) n (length links) (free links p) (free links (put_in b p)) small p.clock (start ∷ end ∷ times_of p) few start end b.grant.path (omega arith)
      (Memᴰ.head refl) (Memᴰ.tail (Memᴰ.head refl)) (path_distinct (graph links) b.grant.path right.path_right) (path_inside (graph links) b.grant.path right.path_right) free_gone

  pub held_now : (es t : List ℕ) → Holds start end w b.grant.path (events_in n p) (free_in n links p) es t → (es ≡ events_in n (put_in b p)) × (t ≡ free_in n links (put_in b p))
  held_now es t h = (h.0 ∙ events_held, h.1 ∙ ap₂ (λ (x y : List ℕ). change_span (taken w) x start end b.grant.path y) events_held rows_held ∙ figures_held)

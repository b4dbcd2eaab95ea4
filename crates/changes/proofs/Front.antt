-- The first rows of a table, lent and handed back: behind the used ones there are zeros, before and after.
use mathlib.Core.Path.{◌≡◌, refl, sym, ap, ap₂, ◌∙◌}
use mathlib.Core.List.{List, ◌++◌, map, flatten, append_assoc}
use Prim.Native.Nat.{ℕ, ◌+◌, ◌-◌, ◌*◌, ◌≤◌}
use native.Mathlib.Omega.{arith}
use lib.ListN.{length, take, drop, replicate, replicate-append-replicate}
use lib.Seq.{take-append-add, drop-append-add, length-take-le}
use Rattle.std.proofs.lemmas.List.{take-replicate, drop-replicate}
use Rattle.units.specs.declared.Link.{Link}
use Rattle.units.specs.Limits.{most_links, most_events}
use Rattle.units.specs.Lists.{padded}
use Rattle.units.proofs.Padded.{rows, length_rows}
use Rattle.timeline.proofs.Events.{later_length}
use Rattle.free_table.specs.Figures.{row}
use Rattle.free_table.proofs.Figures.{length_table_rows}
use Rattle.rules.specs.Plain.{Plain, times, free}
use Rattle.rules.specs.Tables.{Tables, held, events_of, event_table, free_table, Fine}
use Rattle.rules.proofs.Fine.{sizes, few_bookings, events_are, free_are}
use Rattle.changes.specs.Holding.{events_in, free_in, times_of}

module _ (n all : ℕ) (l : List ℕ) (few : length l ≤ n) (fits : n ≤ all) where
  used : n ≡ length l + (n - length l)
  used = omega arith

  pub front_of : take n (padded all l) ≡ padded n l
  front_of =
      ap (λ k. take k (padded all l)) used ∙ take-append-add l (replicate (all - length l) 0) (n - length l)
      ∙ ap (λ (z : List ℕ). l ++ z) (take-replicate (n - length l) (all - length l) 0 (omega arith))

  behind : drop n (padded all l) ≡ replicate (all - n) 0
  behind =
      let count : all - length l - (n - length l) ≡ all - n = omega arith in
      ap (λ k. drop k (padded all l)) used ∙ drop-append-add l (replicate (all - length l) 0) (n - length l) ∙ drop-replicate (n - length l) (all - length l) 0 ∙ ap (λ k. replicate k 0) count

  pub front_back : (after : List ℕ) → length after ≤ n → padded n after ++ drop n (padded all l) ≡ padded all after
  front_back after h =
      let count : (n - length after) + (all - n) ≡ all - length after = omega arith in
      ap (λ (z : List ℕ). padded n after ++ z) behind
      ∙ append_assoc after (replicate (n - length after) 0) (replicate (all - n) 0)
      ∙ ap (λ (z : List ℕ). after ++ z) (replicate-append-replicate (n - length after) (all - n) 0 ∙ ap (λ k. replicate k 0) count)

-- ---- the first rows of sound tables

-- no more events than the clock and two for each booking
pub events_few : (p : Plain) → length (events_of p) ≤ 1 + 2 * length p.bookings
events_few p =
    let two = length_rows (times p) 2 p.bookings (rows (times p) 2 (λ b. refl) p.bookings) in
    let few = later_length p.clock (times_of p) in
    omega arith

-- they can be lent
module _ {links : List Link} {t : Tables} (fine : Fine links t) (n : ℕ) (fits : n ≤ most_events) where
  pub events_inside : n ≤ length t.events
  events_inside = omega (arith, (sizes fine).events_right)

  pub free_inside : n * most_links ≤ length t.free
  free_inside = omega (arith, (sizes fine).free_right)

  pub events_lent : n ≡ length (take n t.events)
  events_lent = sym (length-take-le n t.events events_inside)

  pub free_lent : n * most_links ≡ length (take (n * most_links) t.free)
  free_lent = sym (length-take-le (n * most_links) t.free free_inside)

-- the rows that the bookings of a head can use
pub rows_few : {links : List Link} {t : Tables} → Fine links t → 1 + 2 * t.head.bookings ≤ most_events
rows_few fine = omega (arith, few_bookings fine)

-- n rows, in which every event has one
module _ {links : List Link} {t : Tables} (fine : Fine links t) (n : ℕ) (few : length (events_of (held t)) ≤ n) (fits : n ≤ most_events) where
  few_links : length links ≤ most_links
  few_links = (sizes fine).links_right.1

  abbrev figures : Plain → List ℕ
  figures p = flatten (map (row (length links) (free links p)) (events_of p))

  rows_fit : (p : Plain) → length (events_of p) ≤ n → length (figures p) ≤ n * most_links
  rows_fit p h = omega (arith, length_table_rows (length links) (free links p) few_links (events_of p), h)

  pub events_front : take n t.events ≡ events_in n (held t)
  events_front = ap (take n) (events_are fine) ∙ front_of n most_events (events_of (held t)) few fits

  pub free_front : take (n * most_links) t.free ≡ free_in n links (held t)
  free_front = ap (take (n * most_links)) (free_are fine) ∙ front_of (n * most_links) (most_events * most_links) (figures (held t)) (rows_fit (held t) few) (omega arith)

  -- and handed back as those of another plain book
  module _ (p : Plain) (enough : length (events_of p) ≤ n) where
    pub events_whole : {es : List ℕ} → es ≡ events_in n p → es ++ drop n t.events ≡ event_table p
    events_whole e = ap₂ (λ (x y : List ℕ). x ++ drop n y) e (events_are fine) ∙ front_back n most_events (events_of (held t)) few fits (events_of p) enough

    pub free_whole : {fs : List ℕ} → fs ≡ free_in n links p → fs ++ drop (n * most_links) t.free ≡ free_table links p
    free_whole e =
        ap₂ (λ (x y : List ℕ). x ++ drop (n * most_links) y) e (free_are fine)
        ∙ front_back (n * most_links) (most_events * most_links) (figures (held t)) (rows_fit (held t) few) (omega arith) (figures p) (rows_fit p enough)

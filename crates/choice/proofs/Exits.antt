-- What the code may answer at each of its exits: the laws of `Starts`, on the lent tables and the code's own values.
use mathlib.Core.Path.{◌≡◌, refl, sym, ◌∙◌, ap, subst}
use mathlib.Core.List.{List}
use mathlib.Core.Bool.{Bool, true}
use Prim.Native.Nat.{ℕ, ◌≤◌, ◌<◌}
use native.Mathlib.Omega.{arith}
use lib.ListN.{length, get_or, drop, length-append, get_or-eq_default}
use Rattle.std.proofs.Common.{Option, Some, None}
use Rattle.std.specs.Option.{is_some}
use Rattle.units.proofs.Tests.{Side, below, above, side}
use Rattle.timeline.specs.Events.{events}
use Rattle.timeline.proofs.Steady.{NoneBetween}
use Rattle.path_search.specs.declared.Path.{Path}
use Rattle.path_search.specs.Paths.{Graph, Route, along, none}
use Rattle.path_search.specs.Answer.{graph, path_of, found_path}
use Rattle.choice.specs.declared.asked.Asked.{Asked}
use Rattle.choice.specs.declared.Granted.{Granted}
use Rattle.choice.specs.Choice.{Grant, Choice, granted, grant_at, route_at, try_at, possible}
use Rattle.choice.specs.EventTables.{clock_of}
use Rattle.choice.specs.Answer.{wanted, carried, route_of, possible_of, choice_of, Askable, given_start, found_start}
use Rattle.choice.proofs.Starts.{Tried, earliest_none, earliest_low, earliest_event, earliest_none_left, earliest_too_late, granted_can_start, no_start_cannot}
use Rattle.choice.proofs.Possible.{possible_back}
use Rattle.choice.proofs.Lent.{kept_back, event_at}

-- ---- a route, where there is one

module _ (g : Graph) (usable : ℕ → ℕ → Bool) (from to m : ℕ) (r : Option Path) (answered : r ≡ found_path (route_at g usable from to m)) where
  -- a path that was found is the route
  route_found : (p : Path) → r ≡ Some p → (path : List ℕ) × (route_at g usable from to m ≡ along path) × (p ≡ path_of path)
  route_found p some = by (route_at g usable from to m) refl
    where
      by : (x : Route) → route_at g usable from to m ≡ x → (path : List ℕ) × (route_at g usable from to m ≡ along path) × (p ≡ path_of path)
      by (along path) e = let q : Some p ≡ Some (path_of path) = sym some ∙ answered ∙ ap found_path e in (path, e, cc)
      by none e = let q : Some p ≡ None = sym some ∙ answered ∙ ap found_path e in absurd (let z : ◌≡◌ {A = ℕ} 0 1 = cc in omega arith)

  -- so the start is possible if and only if there is one
  pub some_route : is_some r ≡ possible g usable from to m
  some_route = by (route_at g usable from to m) refl
    where
      by : (x : Route) → route_at g usable from to m ≡ x → is_some r ≡ possible g usable from to m
      by (along path) e = ap is_some (answered ∙ ap found_path e) ∙ sym (granted_can_start (try_at g usable from to) m (ap (grant_at m) e))
      by none e = ap is_some (answered ∙ ap found_path e) ∙ sym (no_start_cannot (try_at g usable from to) m (ap (grant_at m) e))

-- ---- the exits

-- a part of the window may be asked for
pub askable_part : {es : List ℕ} {span low latest : ℕ} → Askable es span low latest → (from until : ℕ) → low ≤ from → until ≤ latest → Askable es span from until
askable_part a from until early late = record { not_past = omega (arith, a.not_past); in_time = omega (arith, a.in_time) }

module _ (a : Asked) where
  abbrev es : List ℕ
  es = a.table.events.now

  -- the clock and the times of the table
  abbrev pub clock : ℕ
  clock = clock_of es

  abbrev pub times : List ℕ
  times = drop 1 es

  abbrev g : Graph
  g = graph a.search.now.ends

  abbrev carries_it : ℕ → ℕ → Bool
  carries_it = carried (wanted a.search.now) es a.table.figures.now

  abbrev from : ℕ
  from = a.search.now.source

  abbrev to : ℕ
  to = a.search.now.destination

  abbrev pub try_of : ℕ → Choice Grant
  try_of = try_at g carries_it from to

  -- what the links carry, they carry from an earlier start
  pub carried_back : (k m l : ℕ) → k ≤ m → NoneBetween times k m → carries_it m l ≡ true → carries_it k l ≡ true
  carried_back = kept_back clock times es a.table.figures.now a.are_events a.search.now.bandwidth.0 a.search.now.span.0

  -- the path of a minute tells whether it is possible
  pub possible_some : (m : ℕ) (r : Option Path) → r ≡ found_path (route_of a m) → is_some r ≡ possible_of a m
  possible_some = some_route g carries_it from to

  module _ (low latest : ℕ) (early : clock ≤ low) where
    abbrev Finds : Option Granted → Type 0
    Finds r = r ≡ found_start (choice_of a low latest)

    back : (k m : ℕ) → k ≤ m → NoneBetween times k m → possible_of a m ≡ true → possible_of a k ≡ true
    back = possible_back g carries_it from to times carried_back

    place : (i : ℕ) → get_or es i 0 ≡ get_or (events clock times) i 0
    place = event_at clock times es a.table.figures.now a.are_events a.search.now.bandwidth.0 a.search.now.span.0

    tried_events : (i : ℕ) → Tried (possible_of a) es low latest i → Tried (possible_of a) (events clock times) low latest i
    tried_events i h = record { not_low = h.not_low; not_events = λ j b c d. rw (place j) at (h.not_events j b (rw (place j) c) (rw (place j) d)) }

    -- a window that ends before it begins has no start
    pub finds_empty : latest < low → Finds None
    finds_empty h = sym (ap found_start (earliest_none try_of low latest (λ m b c. absurd (omega arith))))

    -- low, where it has a path
    pub finds_low : low ≤ latest → (r : Option Path) → r ≡ found_path (route_of a low) → (p : Path) → r ≡ Some p → Finds (Some (given_start low p))
    finds_low h r e p some =
        let f = route_found g carries_it from to low r e p some in
        ap (λ x. Some (given_start low x)) f.2 ∙ sym (ap found_start (earliest_low try_of clock times back low latest early (record { start = low; path = f.0 }) h (ap (grant_at low) f.1)))

    module _ (i : ℕ) (tried : Tried (possible_of a) es low latest i) where
      -- the next event, where it lies in the window and has a path
      pub finds_event : low < get_or es i 0 → get_or es i 0 ≤ latest → (r : Option Path) → r ≡ found_path (route_of a (get_or es i 0)) → (p : Path) → r ≡ Some p
          → Finds (Some (given_start (get_or es i 0) p))
      finds_event b c r e p some =
          let f = route_found g carries_it from to (get_or es i 0) r e p some in
          let inside : i < length (events clock times) = by (side i (length (events clock times))) in
          ap (λ x. Some (given_start (get_or es i 0) x)) f.2
          ∙ ap (λ m. found_start (granted (record { start = m; path = f.0 }))) (place i)
          ∙ sym (ap found_start (earliest_event try_of clock times back low latest early i (record { start = get_or (events clock times) i 0; path = f.0 }) (tried_events i tried) inside (rw (place i) at b) (rw (place i) at c) (subst (λ m. try_of m ≡ granted (record { start = m; path = f.0 })) (place i) (ap (grant_at (get_or es i 0)) f.1))))
        where
          by : Side i (length (events clock times)) → i < length (events clock times)
          by (below h) = h
          by (above h) = absurd (omega (arith, place i, get_or-eq_default (events clock times) 0 h, b))

      -- no start, where the next event is too late or none is left
      pub finds_late : latest < get_or es i 0 → Finds None
      finds_late h = sym (ap found_start (earliest_too_late try_of clock times back low latest early i (tried_events i tried) (rw (place i) at h)))

      pub finds_left : length es ≤ i → Finds None
      finds_left h =
          let long : length (events clock times) ≤ i = omega (arith, simp (length-append) at (ap length a.are_events)) in
          let all = tried_events i tried in
          sym (ap found_start (earliest_none_left try_of clock times back low latest early (record { not_low = all.not_low; not_events = λ j b. all.not_events j (omega arith) })))

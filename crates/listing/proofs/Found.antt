-- The ranges that `list_ranges` has found and written so far.
use mathlib.Core.Path.{◌≡◌, refl, sym, ◌∙◌, ap, ap₂, subst}
use mathlib.Core.List.{List, [], ◌∷◌, ◌++◌, append_assoc, append-nil}
use mathlib.Core.Bool.{Bool, true, false}
use Prim.Native.Nat.{ℕ, suc, ◌+◌, ◌-◌, ◌*◌, ◌≤◌, ◌<◌}
use native.Mathlib.Nat.{le_refl}
use native.Mathlib.Decide.{dec_lt}
use native.Mathlib.Omega.{arith}
use lib.ListN.{length, set, take, replicate, length-append, length-set}
use lib.Seq.{take-suc-set}
use Rattle.std.proofs.Common.{Option, Some, None}
use Rattle.units.specs.declared.Minute.{Minute}
use Rattle.units.specs.Limits.{most_ranges, list_size}
use Rattle.timeline.specs.Events.{events}
use Rattle.path_search.specs.Paths.{Graph}
use Rattle.path_search.specs.Answer.{graph}
use Rattle.choice.specs.Choice.{Grant, Choice, granted, no_start, route_at, try_at, possible, choose}
use Rattle.choice.specs.declared.asked.Asked.{Asked}
use Rattle.choice.specs.Answer.{wanted, carried, route_of, possible_of, choice_of, found_start}
use Rattle.choice.proofs.Starts.{ChoiceFound, found, none_found, choice_found}
use Rattle.choice.proofs.Possible.{grant_starts}
use Rattle.choice.proofs.Exits.{clock, times, carried_back, try_of}
use Rattle.listing.specs.Ranges.{Range, ranges_from, ranges, figures, list_table, start_of, start_granted}
use Rattle.listing.specs.Right.{RunEnd}
use Rattle.listing.proofs.Laws.{IsRange, AreRanges, fails_first, are_ranges, are_only}
use Rattle.listing.proofs.Theorems.{ranges_are, ranges_fit}

-- ---- the start of a choice, or the minute after the window

abbrev pub minute_or : ℕ → Option Minute → ℕ
minute_or after (Some m) = m.0
minute_or after None = after

abbrev pub start_or : ℕ → Choice Grant → ℕ
start_or after c = minute_or after (start_of c)

-- what is answered tells it
pub start_answered : (c : Choice Grant) → start_granted (found_start c) ≡ start_of c
start_answered (granted g) = refl
start_answered no_start = refl

-- it lies in the window and is possible
pub start_found : (asked : Asked) (low latest : ℕ) (m : Minute) → start_of (choice_of asked low latest) ≡ Some m → (low ≤ m.0) × (m.0 ≤ latest) × (possible_of asked m.0 ≡ true)
start_found asked low latest m e = by (choice_found (try_of asked) low latest)
  where
    by : ChoiceFound (try_of asked) low latest → (low ≤ m.0) × (m.0 ≤ latest) × (possible_of asked m.0 ≡ true)
    by (found first c f t p) =
        let same : ◌≡◌ {A = Option Minute} (Some (record { 0 = c.start })) (Some m) = sym (ap start_of p) ∙ e in
        let is : record { 0 = c.start } ≡ m = cc in
        let at_first : m.0 ≡ first = sym (ap (λ (x : Minute). x.0) is) ∙ grant_starts first (route_of asked first) t in
        (omega (arith, f.low), omega (arith, f.high), rw at_first f.passes)
    by (none_found f p) = let same : ◌≡◌ {A = Option Minute} None (Some m) = sym (ap start_of p) ∙ e in absurd (let z : ◌≡◌ {A = ℕ} 0 1 = cc in omega arith)

-- s is the first minute from e on that passes, or the end of the window
pub record NextStart (test : ℕ → Bool) (e end s : ℕ) : Type 0 where
  pub not_before : e ≤ s
  pub not_past : s ≤ end
  pub fails_before : (m : ℕ) → e ≤ m → m < s → test m ≡ false
  pub passes : s < end → test s ≡ true

pub next_start : (g : Graph) (carries : ℕ → ℕ → Bool) (from to e latest s : ℕ) → e ≤ suc latest → s ≡ start_or (suc latest) (choose g carries from to e latest)
    → NextStart (possible g carries from to) e (suc latest) s
next_start g carries from to e latest s h q = by (choice_found (try_at g carries from to) e latest)
  where
    by : ChoiceFound (try_at g carries from to) e latest → NextStart (possible g carries from to) e (suc latest) s
    by (found first c f t p) =
        let same : s ≡ first = q ∙ ap (start_or (suc latest)) p ∙ grant_starts first (route_at g carries from to first) t in
        record {
          not_before = omega (arith, f.low);
          not_past = omega (arith, f.high);
          fails_before = λ m a b. f.before m a (omega arith);
          passes = λ a. rw same f.passes;
        }
    by (none_found f p) =
        let same : s ≡ suc latest = q ∙ ap (start_or (suc latest)) p in
        record { not_before = omega arith; not_past = omega arith; fails_before = λ m a b. f m a (omega arith); passes = λ a. absurd (omega arith) }

-- ---- the ranges that are found so far

module _ (test : ℕ → Bool) (low end : ℕ) where
  -- `before` are the ranges that begin before start: whatever ranges there are from start on come behind them
  pub record FoundTo (before : List Range) (start : ℕ) : Type 0 where
    pub not_before : low ≤ start
    pub in_window : start ≤ end
    pub passes : start < end → test start ≡ true
    pub go_on : (rest : List Range) → AreRanges test start end rest → AreRanges test low end (before ++ rest)

  pub found_none : low ≤ end → (low < end → test low ≡ true) → FoundTo [] low
  found_none h p = record { not_before = le_refl low; in_window = h; passes = p; go_on = λ rest a. a }

  -- one range more
  module _ (before : List Range) (start e : ℕ) (f : FoundTo before start) (inside : start < end) (r : RunEnd test start end e) where
    abbrev pub next_range : Range
    next_range = record { first = start; last = e - 1 }

    is_next : IsRange test start end next_range
    is_next = record {
      not_before = le_refl start;
      some = omega (arith, r.after);
      not_past = omega (arith, r.after, r.not_past);
      fails_before = λ m a b. absurd (omega arith);
      passes = λ m a b. r.passes m a (omega (arith, r.after));
      stops = λ h. let same : suc (e - 1) ≡ e = omega (arith, r.after) in rw same (r.stops (omega (arith, h, r.after)));
    }

    with_next : (rest : List Range) → AreRanges test e end rest → AreRanges test low end (before ++ (next_range ∷ rest))
    with_next rest a =
        f.go_on (next_range ∷ rest) (is_next, subst (λ x. AreRanges test x end rest) (omega (arith, r.after)) a)

    pub found_next : (s : ℕ) → NextStart test e end s → FoundTo (before ++ (next_range ∷ [])) s
    found_next s n = record {
      not_before = omega (arith, f.not_before, r.after, n.not_before);
      in_window = n.not_past;
      passes = n.passes;
      go_on = λ rest a. subst (AreRanges test low end) (sym (append_assoc before (next_range ∷ []) rest)) (with_next rest (fails_first test e s end n.not_before n.fails_before rest a));
    }

    -- all ranges there are have these among them
    pub found_few : (rs : List Range) → AreRanges test low end rs → length before < length rs
    found_few rs a =
        let meets : e + (end - e) ≡ end = omega (arith, r.not_past) in
        let rest = ranges_from e (end - e) test in
        let same = are_only test low end rs (before ++ (next_range ∷ rest)) a (with_next rest (subst (λ x. AreRanges test e x rest) meets (are_ranges test e (end - e)))) in
        omega (arith, simp (length-append) at (ap length same))

-- ---- what is written

figures_append : (a b : List Range) → figures (a ++ b) ≡ figures a ++ figures b
unfolding figures
figures_append [] b = refl
figures_append (r ∷ a) b = ap (λ l. r.first ∷ r.last ∷ l) (figures_append a b)

pub length_figures : (rs : List Range) → length (figures rs) ≡ length rs * 2
unfolding figures
length_figures [] = refl
length_figures (r ∷ rs) = let h = length_figures rs in omega arith

-- a range written behind the ones before it
pub written_next : (l : List ℕ) (before : List Range) (place : ℕ) (r : Range) → suc place < length l → take place l ≡ figures before
    → take (suc (suc place)) (set (set l place r.first) (suc place) r.last) ≡ figures (before ++ (r ∷ []))
unfolding figures
written_next l before place r h e =
    take-suc-set (set l place r.first) (suc place) r.last (rw (length-set l place r.first) h)
    ∙ ap (λ x. x ++ (r.last ∷ [])) (take-suc-set l place r.first (omega arith) ∙ ap (λ x. x ++ (r.first ∷ [])) e)
    ∙ append_assoc (figures before) (r.first ∷ []) (r.last ∷ [])
    ∙ sym (figures_append before (r ∷ []))

-- zeros behind them all
pub written_all : (l : List ℕ) (rs : List Range) (place : ℕ) → length l ≡ list_size → place ≡ length rs * 2 → take place l ≡ figures rs
    → take place l ++ replicate (length l - place) 0 ≡ list_table rs
written_all l rs place h q e = let room : length l - place ≡ list_size - length (figures rs) = omega (arith, length_figures rs) in ap₂ (λ x n. x ++ replicate n 0) e room

-- ---- the loop

-- the ranges before start are found, counted and written
pub record Listed (test : ℕ → Bool) (latest from_start : ℕ) (list : List ℕ) (count start : ℕ) : Type 0 where
  pub sized : length list ≡ list_size
  pub room : count ≤ most_ranges
  pub before : List Range
  pub counted : count ≡ length before
  pub written : take (count * 2) list ≡ figures before
  pub found_to : FoundTo test from_start (suc latest) before start

module _ (asked : Asked) (low latest first : ℕ) (is_first : first ≡ start_or (suc latest) (choice_of asked low latest)) where
  abbrev g : Graph
  g = graph asked.search.now.ends

  abbrev carries : ℕ → ℕ → Bool
  carries = carried (wanted asked.search.now) asked.table.events.now asked.table.figures.now

  abbrev from : ℕ
  from = asked.search.now.source

  abbrev to : ℕ
  to = asked.search.now.destination

  abbrev test : ℕ → Bool
  test = possible_of asked

  abbrev ListedTo : List ℕ → ℕ → ℕ → Type 0
  ListedTo = Listed test latest first

  -- where the first start is in the window
  in_window : (first ≤ suc latest) × (first ≤ latest → (low ≤ first) × (test first ≡ true))
  in_window = by (choice_found (try_at g carries from to) low latest)
    where
      by : ChoiceFound (try_at g carries from to) low latest → (first ≤ suc latest) × (first ≤ latest → (low ≤ first) × (test first ≡ true))
      by (found m c f t p) =
          let same : first ≡ m = is_first ∙ ap (start_or (suc latest)) p ∙ grant_starts m (route_at g carries from to m) t in
          (omega (arith, f.low, f.high), λ h. (omega (arith, f.low), rw same f.passes))
      by (none_found f p) = let same : first ≡ suc latest = is_first ∙ ap (start_or (suc latest)) p in (omega arith, λ h. absurd (omega arith))

  pub listed_first : (list : List ℕ) → length list ≡ list_size → ListedTo list 0 first
  unfolding figures
  listed_first list h = record {
    sized = h;
    room = omega arith;
    before = [];
    counted = refl;
    written = refl;
    found_to = found_none test first (suc latest) in_window.0 (λ k. (in_window.1 (omega arith)).1);
  }

  module _ (list : List ℕ) (count start : ℕ) (l : ListedTo list count start) where
    module _ (inside : start ≤ latest) (e : ℕ) (r : RunEnd test start (suc latest) e) where
      -- there is room for one more
      pub listed_few : clock asked ≤ low → length asked.table.events.now ≤ most_ranges → count < most_ranges
      listed_few early fits =
          let few : length (events (clock asked) (times asked)) ≤ most_ranges = omega (arith, simp (length-append) at (ap length asked.are_events)) in
          let n = l.found_to.not_before in
          let k = (in_window.1 (omega arith)).0 in
          let meets : first + (suc latest - first) ≡ suc latest = omega arith in
          let all = subst (λ x. AreRanges test first x (ranges g carries from to first latest)) meets (ranges_are g carries from to first latest) in
          let some = found_few test first (suc latest) l.before start e l.found_to (omega arith) r (ranges g carries from to first latest) all in
          omega (arith, l.counted, ranges_fit g carries from to first latest (clock asked) (times asked) (carried_back asked) (omega arith))

      pub listed_next : (s : ℕ) → NextStart test e (suc latest) s → count < most_ranges → ListedTo (set (set list (count * 2) start) (count * 2 + 1) (e - 1)) (count + 1) s
      listed_next s n room =
          let x = next_range test first (suc latest) l.before start e l.found_to (omega arith) r in
          let size = l.sized in
          let place : (count + 1) * 2 ≡ suc (suc (count * 2)) = omega arith in
          let next : count * 2 + 1 ≡ suc (count * 2) = omega arith in
          record {
            sized = length-set (set list (count * 2) start) (count * 2 + 1) (e - 1) ∙ length-set list (count * 2) start ∙ size;
            room = omega arith;
            before = l.before ++ (x ∷ []);
            counted = simp (length-append) (omega (arith, l.counted));
            written = rw (place, next) (written_next list l.before (count * 2) x (omega arith) l.written);
            found_to = found_next test first (suc latest) l.before start e l.found_to (omega arith) r s n;
          }

    -- behind the window they are all the ranges there are
    module _ (outside : latest < start) where
      before_all : l.before ≡ ranges g carries from to low latest
      before_all = elim (dec_lt (suc latest) low) [ yes h ↦ nothing_asked h | no h ↦ some_asked h ]
        where
          are : AreRanges test first (suc latest) l.before
          are = subst (AreRanges test first (suc latest)) (append-nil l.before) (l.found_to.go_on [] (λ m a b. absurd (omega arith)))

          some_asked : ¬ (suc latest < low) → l.before ≡ ranges g carries from to low latest
          some_asked h =
              let meets : low + (suc latest - low) ≡ suc latest = omega arith in
              let n = next_start g carries from to low latest first (omega arith) is_first in
              are_only test low (suc latest) l.before (ranges g carries from to low latest) (fails_first test low first (suc latest) n.not_before n.fails_before l.before are)
              (subst (λ x. AreRanges test low x (ranges g carries from to low latest)) meets (ranges_are g carries from to low latest))

          nothing_asked : suc latest < low → l.before ≡ ranges g carries from to low latest
          nothing_asked h =
              let behind : suc latest ≤ first = elim (dec_lt latest first) [ yes k ↦ k | no k ↦ absurd (let q = (in_window.1 (omega arith)).0 in omega arith) ] in
              are_only test first (suc latest) l.before [] are (λ m a b. absurd (omega arith))
              ∙ sym (are_only test low (low + (suc latest - low)) (ranges g carries from to low latest) [] (ranges_are g carries from to low latest) (λ m a b. absurd (omega arith)))

      pub all_counted : count ≡ length (ranges g carries from to low latest)
      all_counted = l.counted ∙ ap length before_all

      pub all_written : take (count * 2) list ++ replicate (length list - count * 2) 0 ≡ list_table (ranges g carries from to low latest)
      all_written = written_all list l.before (count * 2) l.sized (omega (arith, l.counted)) l.written ∙ ap list_table before_all

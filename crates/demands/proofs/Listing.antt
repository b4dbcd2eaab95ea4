-- The desk lists every start there is.
use mathlib.Core.Path.{◌≡◌, refl, sym, ◌∙◌, ap}
use mathlib.Core.Logic.{◌↔◌, ◌⊎◌, inl, inr, ⊎_elim}
use mathlib.Core.List.{List, [], ◌∷◌, map, Memᴰ}
use mathlib.Core.Bool.{Bool, true, false≢true}
use Prim.Native.Nat.{ℕ, suc, ◌≤◌}
use native.Mathlib.Nat.{le_trans}
use native.Mathlib.Omega.{arith}
use lib.Dec.{lit≤}
use Rattle.units.specs.declared.Link.{Link}
use Rattle.units.specs.declared.Request.{Request}
use Rattle.units.specs.Limits.{list_size}
use Rattle.units.specs.Lists.{member, sum, select}
use Rattle.units.specs.Search.{first_from, all_from, any_below}
use Rattle.units.proofs.Tests.{Tells}
use Rattle.units.proofs.Parts.{all_map}
use Rattle.timeline.proofs.Steady.{NoneBetween}
use Rattle.path_search.specs.Paths.{reaches, lowest, fewest, Route, route}
use Rattle.path_search.proofs.Routes.{RouteView, found, no_chain, route_view}
use Rattle.choice.specs.Earliest.{is_granted, can_start, earliest}
use Rattle.choice.specs.Choice.{Grant, grant_at, possible}
use Rattle.listing.specs.Ranges.{Range, ranges_from, ranges}
use Rattle.listing.proofs.Theorems.{Possible, listed_once, listed_no_other, ranges_apart, ranges_longest, AtStart, ranges_begin, ranges_fit, empty_iff, first_is_start}
use Rattle.rules.specs.Plain.{Plain, span, terms, graph, carries, low}
use Rattle.rules.specs.Calls.{Ask, book, list, offer, set_up, ask, Answer, done, starts, lists, shows, refused, refuse, no_start_at, checked, breaks_off, chosen, best, every}
use Rattle.rules.specs.Tables.{Tables, sized, held, events_of}
use Rattle.rules.specs.Desk.{bandwidth_desk, outcome}
use Rattle.rules.specs.Sound.{Obeys}
use Rattle.rules.specs.Choosing.{PathAt}
use Rattle.histories.specs.Kinds as kinds
use Rattle.histories.specs.Kinds.{all_checks}
use Rattle.histories.specs.Histories.{answers}
use Rattle.demands.specs.Demands.{Passes}
use Rattle.demands.specs.Examples.{start_at, request, only}
use Rattle.demands.specs.Listing.{PossibleAt, RightListing, EveryStart}
use Rattle.rules.proofs.Uses.{all_times}
use Rattle.rules.proofs.Checks.{Passed, passed_answer, passed_done}
use Rattle.rules.proofs.Tests.{links_tell, nodes_below, RequestRight, request_right}
use Rattle.rules.proofs.Choices.{choice, chosen_none, chosen_granted, carries_tells, way_path, path_way}
use Rattle.rules.proofs.Obeys.{sound_obeys, few_events}
use Rattle.demands.proofs.EventsSuffice.{carries_back}
use Rattle.histories.proofs.Replies as every_kind
use Rattle.demands.proofs.Replies.{replies_after}
use Rattle.histories.proofs.Exits.{answer_is}

-- ---- a minute is possible by the search if and only if it is by some path

module _ (links : List Link) (p : Plain) (r : Request) (o : Obeys links p) (q : RequestRight r) where
  abbrev possible_at : ℕ → Bool
  possible_at = possible (graph links) (carries links p r) r.from r.to

  pub possible_tells : (m : ℕ) → Tells (possible_at m) ((path : List ℕ) × PathAt links p r m path)
  unfolding can_start
  possible_tells m = by (route (graph links) (carries links p r m) r.to r.from) (route_view (graph links) (carries links p r m) r.to r.from q.ends_differ (nodes_below links o.links_right) q.from_right)
    where
      by : (x : Route) → RouteView (graph links) (carries links p r m) r.to r.from q.ends_differ (nodes_below links o.links_right) q.from_right x → Tells (is_granted (grant_at m x)) ((path : List ℕ) × PathAt links p r m path)
      by x (found path i) = ((λ e. (path, way_path links p r q.bandwidth_right.0 m path i.chain)), λ w. refl)
      by x (no_chain h) = ((λ e. absurd (false≢true e)), λ w. absurd (h w.0 (path_way links p r q.bandwidth_right.0 m w.0 w.1)))

  -- a possible minute of the window, as the search finds it
  abbrev Found : ℕ → Type 0
  Found = Possible (graph links) (carries links p r) r.from r.to (low p r) r.latest.0

  -- what a link carries from m on it carries from an earlier minute on, if no time lies between
  back : (k m l : ℕ) → k ≤ m → NoneBetween (all_times p) k m → carries links p r m l ≡ true → carries links p r k l ≡ true
  back k m l h n e = (carries_tells links p r q.bandwidth_right.0 (span p (terms r)) k l).1 (carries_back links p r k m l h n ((carries_tells links p r q.bandwidth_right.0 (span p (terms r)) m l).0 e))

  pub every_right : RightListing links p r (every links p r)
  unfolding every
  every_right = record {
    once = λ m h. listed_once (graph links) (carries links p r) r.from r.to (low p r) r.latest.0 m h.0.0 h.0.1 ((possible_tells m).1 h.1);
    no_other = λ m h. listed_no_other (graph links) (carries links p r) r.from r.to (low p r) r.latest.0 m (λ w. h ((w.0, w.1), (possible_tells m).0 w.2));
    apart = ranges_apart (graph links) (carries links p r) r.from r.to (low p r) r.latest.0;
    longest = all_map (λ x. ((m : ℕ) → x.first ≡ suc m → ¬ Found m) × ¬ Found (suc x.last)) (λ x. ((m : ℕ) → x.first ≡ suc m → ¬ PossibleAt links p r m) × ¬ PossibleAt links p r (suc x.last)) (λ x h. ((λ m e w. h.0 m e (found_at m w)), λ w. h.1 (found_at (suc x.last) w)))
        (every links p r) (ranges_longest (graph links) (carries links p r) r.from r.to (low p r) r.latest.0);
    begins = all_map (λ x. AtStart (graph links) (carries links p r) r.from r.to (low p r) r.latest.0 p.clock (all_times p) back early x.first) (λ x. (x.first ≡ low p r) ⊎ Memᴰ x.first (events_of p)) (λ x. ⊎_elim inl (λ i. inr i.0))
        (every links p r) (ranges_begin (graph links) (carries links p r) r.from r.to (low p r) r.latest.0 p.clock (all_times p) back early);
    fits = le_trans (ranges_fit (graph links) (carries links p r) r.from r.to (low p r) r.latest.0 p.clock (all_times p) back early) (few_events links p o);
  }
    where
      early : p.clock ≤ low p r
      early = omega arith

      found_at : (m : ℕ) → PossibleAt links p r m → Found m
      found_at m w = (w.0.0, w.0.1, (possible_tells m).1 w.1)

-- ---- the listing and the offer

module _ (links : List Link) (p : Plain) (r : Request) where
  none_listed : (every links p r ≡ []) ↔ ((m : ℕ) × (best links p r ≡ no_start_at m))
  unfolding every best
  none_listed = let i = empty_iff (graph links) (carries links p r) r.from r.to (low p r) r.latest.0 in ((λ e. (breaks_off links p r, ap (chosen (breaks_off links p r)) (i.0 e))), λ e. i.1 (chosen_none (breaks_off links p r) (choice links p r) e.1))

  first_listed : (x : Range) (rs : List Range) (g : Grant) → every links p r ≡ x ∷ rs → best links p r ≡ starts g → x.first ≡ g.start
  unfolding every best
  first_listed x rs g e b = first_is_start (graph links) (carries links p r) r.from r.to (low p r) r.latest.0 x rs e g (chosen_granted (breaks_off links p r) (choice links p r) g b)

-- ---- the answers

abbrev listed_in : Answer → List Range
listed_in done = []
listed_in (starts g) = []
listed_in (lists rs) = rs
listed_in (shows x) = []
listed_in (refused k) = []

module _ (links : List Link) (t : Tables) (n : ℕ) (r : Request) (passes : Passes links t (ask (list n r))) where
  passed : Passed (all_checks bandwidth_desk links t (ask (list n r)))
  passed = passed_done (all_checks bandwidth_desk links t (ask (list n r))) passes

  obeyed : Obeys links (held t)
  obeyed = sound_obeys links t passed.1.1.0

  asked : RequestRight r
  asked = request_right r passed.1.1.1.1.0

  list_answer : (outcome links t (ask (list n r))).answer ≡ lists (every links (held t) r)
  list_answer = answer_is bandwidth_desk links t (ask (list n r)) ∙ passed_answer refuse (all_checks bandwidth_desk links t (ask (list n r))) (lists (every links (held t) r)) passed

  -- the offer of the same fields passes too
  offer_answer : (outcome links t (ask (offer r))).answer ≡ best links (held t) r
  offer_answer =
      answer_is bandwidth_desk links t (ask (offer r))
      ∙ passed_answer refuse (all_checks bandwidth_desk links t (ask (offer r))) (best links (held t) r) (passed.0, (refl, (passed.1.1.0, passed.1.1.1.1)))

-- 'Every start there is': document 02's Job 1.
pub every_start : EveryStart outcome
every_start = record {
  listing = λ links t n r h. (every links (held t) r, list_answer links t n r h, every_right links (held t) r (obeyed links t n r h) (asked links t n r h));
  empty_iff = λ links t n r h. (
    (λ e. let none = (none_listed links (held t) r).0 (ap listed_in (sym (list_answer links t n r h) ∙ e)) in (none.0, offer_answer links t n r h ∙ none.1)),
    λ e. list_answer links t n r h ∙ ap lists ((none_listed links (held t) r).1 (e.0, sym (offer_answer links t n r h) ∙ e.1)),
  );
  first_is = λ links t n r h x rs e g f. first_listed links (held t) r x rs g (ap listed_in (sym (list_answer links t n r h) ∙ e)) (sym (offer_answer links t n r h) ∙ f);
}

-- For example, one link that is sold full in minutes 3 and 4: two ranges of a window, none of another, and refusals 13, 4 and 5.
abbrev calls : List Ask
calls =
    book 1 (request 0 2 1 2 3 3)
    ∷ list list_size (request 0 2 1 2 0 6)
    ∷ list list_size (request 0 2 1 2 2 4)
    ∷ list 257 (request 2 2 1 2 0 6)
    ∷ list list_size (request 2 2 1 2 0 6)
    ∷ list list_size (request 0 2 1 2 6 5)
    ∷ []

pub example : (t : Tables) → sized (only 1) t ≡ true → answers outcome (only 1) t (set_up 0 ∷ map ask calls)
    ≡ done ∷ start_at 3 (0 ∷ []) ∷ lists (record { first = 0; last = 1 } ∷ record { first = 5; last = 6 } ∷ []) ∷ lists [] ∷ refuse 13 ∷ refuse 4 ∷ refuse 5 ∷ []
unfolding every_kind.replies kinds.answer checked best every ranges ranges_from select member sum earliest can_start reaches lowest fewest route first_from all_from any_below
example t size = replies_after (only 1) 0 (lit≤ tt) ((links_tell (only 1)).0 refl) t size calls

-- What the desk's choice of a start grants, said of chains of links that have the bandwidth free throughout.
use mathlib.Core.Path.{◌≡◌, refl, sym, ap, subst}
use mathlib.Core.Logic.{◌↔◌, inl, inr}
use mathlib.Core.List.{List}
use mathlib.Core.Bool.{Bool, true}
use Prim.Native.Nat.{ℕ, suc, ◌+◌, ◌-◌, ◌≤◌}
use native.Mathlib.Nat.{le_refl}
use native.Mathlib.Omega.{arith}
use lib.Dec.{leb}
use Rattle.units.specs.declared.Link.{Link}
use Rattle.units.specs.declared.Request.{Request}
use Rattle.units.specs.Lists.{All}
use Rattle.units.proofs.Tests.{Tells, at_most}
use Rattle.units.proofs.Search.{all_from_all, all_allFrom}
use Rattle.units.proofs.Parts.{all_map}
use Rattle.path_search.specs.Paths.{PathRight}
use Rattle.path_search.proofs.Chains.{Way}
use Rattle.path_search.proofs.Paths.{chain_leads, route_path}
use Rattle.choice.specs.Choice.{Grant, Choice, granted, no_start, choose}
use Rattle.choice.specs.BreakOff.{break_off}
use Rattle.choice.specs.Carrying.{carries as carries_by}
use Rattle.choice.proofs.Choice.{IsGrant, NoGrant, granted_iff, no_start_iff}
use Rattle.choice.proofs.BreakOff.{chains_break_off}
use Rattle.rules.specs.Plain.{Plain, span, terms, graph, free_for, carries_in, carries, low}
use Rattle.rules.specs.Calls.{Refusal, Answer, starts, refused, no_start_at, breaks_off, chosen, best}
use Rattle.rules.specs.Sound.{LinkRight}
use Rattle.rules.specs.Choosing.{FreeIn, PathIn, Carries, PathAt, IsChoice, BreaksOff, RightChoice}
use Rattle.rules.proofs.Checks.{starts≢refused, no_start_same}
use Rattle.rules.proofs.Tests.{nodes_below, RequestRight}

-- what was chosen, by the answer
pub chosen_none : (m : ℕ) (c : Choice Grant) {f : Refusal} → chosen m c ≡ refused f → c ≡ no_start
chosen_none m (granted g) e = starts≢refused e
chosen_none m no_start e = refl

pub chosen_granted : (m : ℕ) (c : Choice Grant) (g : Grant) → chosen m c ≡ starts g → c ≡ granted g
chosen_granted m (granted h) g e = let q : h ≡ g = cc in ap granted q
chosen_granted m no_start g e = starts≢refused (sym e)

-- the choice by any figures, span and low
abbrev pub choice_by : List Link → Request → (ℕ → ℕ → ℕ) → ℕ → ℕ → Choice Grant
choice_by links r figure duration first = choose (graph links) (carries_by figure r.bandwidth.0 duration) r.from r.to first r.latest.0

module _ (links : List Link) (p : Plain) (r : Request) where
  abbrev pub Granted : Grant → Type 0
  Granted = IsGrant (graph links) (carries links p r) r.from r.to (low p r) r.latest.0

  abbrev NoneGranted : Type 0
  NoneGranted = NoGrant (graph links) (carries links p r) r.from r.to (low p r) r.latest.0

  abbrev pub choice : Choice Grant
  choice = choice_by links r (free_for links p r) (span p (terms r)) (low p r)

  module _ (asked : 1 ≤ r.bandwidth.0) where
    pub carries_tells : (n m l : ℕ) → Tells (carries_in links p r n m l) (FreeIn links p r m (m + n) l)
    carries_tells n m l =
        let fits : ℕ → Bool = λ k. leb r.bandwidth.0 (free_for links p r l k) in (
          (λ e k a b. let h = (at_most r.bandwidth.0 (free_for links p r l k)).0 (all_from_all fits m n e k a b) in omega arith),
          λ c. all_allFrom fits m n (λ k a b. (at_most r.bandwidth.0 (free_for links p r l k)).1 (let h = c k a b in omega arith)),
        )

    -- the chains that the choice searches are the paths of demand 2
    way_in : (n m : ℕ) (path : List ℕ) → Way (graph links) (carries_in links p r n m) r.to r.from path → PathIn links p r m (m + n) path
    way_in n m path c =
        let h = (chain_leads (graph links) (λ l. carries_in links p r n m l ≡ true) r.from r.to path).0 c in
        (h.0, all_map (λ l. carries_in links p r n m l ≡ true) (FreeIn links p r m (m + n)) (λ l. (carries_tells n m l).0) path h.1)

    in_way : (n m : ℕ) (path : List ℕ) → PathIn links p r m (m + n) path → Way (graph links) (carries_in links p r n m) r.to r.from path
    in_way n m path h =
        (chain_leads (graph links) (λ l. carries_in links p r n m l ≡ true) r.from r.to path).1
        (h.0, all_map (FreeIn links p r m (m + n)) (λ l. carries_in links p r n m l ≡ true) (λ l. (carries_tells n m l).1) path h.1)

    pub way_path : (m : ℕ) (path : List ℕ) → Way (graph links) (carries links p r m) r.to r.from path → PathAt links p r m path
    way_path = way_in (span p (terms r))

    pub path_way : (m : ℕ) (path : List ℕ) → PathAt links p r m path → Way (graph links) (carries links p r m) r.to r.from path
    path_way = in_way (span p (terms r))

    grant_choice : (g : Grant) → Granted g → IsChoice links p r g
    grant_choice g i = record {
      in_window = (i.not_before, i.not_after);
      works = way_path g.start g.path i.is_route.chain;
      earliest = λ m other w c. i.earliest m other w.0 w.1 (path_way m other c);
      fewest = λ other c. i.is_route.fewest other (path_way g.start other c);
      lowest = λ other c. i.is_route.lowest other (path_way g.start other c);
    }

    choice_grant : (g : Grant) → IsChoice links p r g → Granted g
    choice_grant g i = record {
      not_before = i.in_window.0;
      not_after = i.in_window.1;
      is_route = record {
        chain = path_way g.start g.path i.works;
        fewest = λ other c. i.fewest other (way_path g.start other c);
        lowest = λ other c. i.lowest other (way_path g.start other c);
      };
      earliest = λ m other a b c. i.earliest m other (a, b) (way_path m other c);
    }

    -- an answer is right if it is what a right choice says, and its minute is where every path breaks off
    chosen_right : (b : ℕ) (c : Choice Grant) → ((g : Grant) → (c ≡ granted g) ↔ Granted g) → ((c ≡ no_start) ↔ NoneGranted) → (NoneGranted → BreaksOff links p r b) → RightChoice links p r (chosen b c)
    chosen_right b (granted x) s n breaks = record {
      start_iff = λ g. ((λ e. let q : x ≡ g = cc in grant_choice g ((s g).0 (ap granted q))), λ i. let e = (s g).1 (choice_grant g i) in let q : x ≡ g = cc in ap starts q);
      no_start_iff = ((λ e. starts≢refused e.1), λ h. absurd (let w = grant_choice x ((s x).0 refl) in h x.start x.path w.in_window w.works));
      breaks_off = λ m e. starts≢refused e;
      either = inl (x, refl);
    }
    chosen_right b no_start s n breaks = record {
      start_iff = λ g. ((λ e. starts≢refused (sym e)), λ i. absurd (n.0 refl g.start g.path i.in_window.0 i.in_window.1 (path_way g.start g.path i.works)));
      no_start_iff = ((λ e m path w c. n.0 refl m path w.0 w.1 (path_way m path c)), λ h. (b, refl));
      breaks_off = λ m e. subst (BreaksOff links p r) (no_start_same e) (breaks (n.0 refl));
      either = inr (b, refl);
    }

  module _ (right : All LinkRight links) (q : RequestRight r) where
    -- where no path lasts throughout low's span, every path from low on breaks off
    none_breaks_off : low p r ≤ r.latest.0 → NoneGranted → BreaksOff links p r (breaks_off links p r)
    unfolding breaks_off
    none_breaks_off window none =
        let first = low p r in
        let bandwidth = q.bandwidth_right.0 in
        let b = chains_break_off (graph links) (carries_in links p r) r.from r.to (span p (terms r)) first q.ends_differ (nodes_below links right) q.from_right (omega (arith, q.duration_right.0)) (λ path. none first path (le_refl first) window) in
        let m = break_off (graph links) (carries_in links p r) r.from r.to (span p (terms r)) first in
        record {
          from_low = b.from_low;
          none_lasts = λ path h. let end : suc m ≡ first + (suc m - first) = omega (arith, b.from_low) in b.none_lasts path (in_way bandwidth (suc m - first) first path (subst (λ e. PathIn links p r first e path) end h));
          lasts_before = λ k x y. let w = b.lasts_before k x y in let end : first + (suc k - first) ≡ suc k = omega arith in (w.0, subst (λ e. PathIn links p r first e w.0) end (way_in bandwidth (suc k - first) first w.0 w.1));
        }

    pub best_right : low p r ≤ r.latest.0 → RightChoice links p r (best links p r)
    unfolding best
    best_right window =
        chosen_right q.bandwidth_right.0 (breaks_off links p r) choice
        (granted_iff (graph links) (carries links p r) r.from r.to (low p r) r.latest.0 q.ends_differ (nodes_below links right) q.from_right)
        (no_start_iff (graph links) (carries links p r) r.from r.to (low p r) r.latest.0 q.ends_differ (nodes_below links right) q.from_right)
        (none_breaks_off window)

    -- what the best start and its path are good for
    pub record GoodGrant (g : Grant) : Type 0 where
      pub not_before : low p r ≤ g.start
      pub not_after : g.start ≤ r.latest.0
      pub is_path : PathRight (graph links) g.path
      pub carried : All (Carries links p r g.start) g.path

    good_grant : (g : Grant) → Granted g → GoodGrant g
    good_grant g i = record {
      not_before = i.not_before;
      not_after = i.not_after;
      is_path = route_path (graph links) (carries links p r g.start) r.to r.from q.ends_differ (nodes_below links right) q.from_right g.path i.is_route;
      carried = (way_path q.bandwidth_right.0 g.start g.path i.is_route.chain).1;
    }

    pub good_best : (g : Grant) → choice ≡ granted g → GoodGrant g
    good_best g e =
        good_grant g ((granted_iff (graph links) (carries links p r) r.from r.to (low p r) r.latest.0 q.ends_differ (nodes_below links right) q.from_right g).0 e)

    -- what holds of every good grant and of refusal 8 holds of the best answer
    pub best_elim : (P : Answer → Type 0) → ((g : Grant) → GoodGrant g → P (starts g)) → ((m : ℕ) → P (no_start_at m)) → P (best links p r)
    unfolding best
    best_elim P f h = by choice refl
      where
        by : (c : Choice Grant) → choice ≡ c → P (chosen (breaks_off links p r) c)
        by (granted g) e = f g (good_best g e)
        by no_start e = h (breaks_off links p r)

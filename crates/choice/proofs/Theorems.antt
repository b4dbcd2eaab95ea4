-- The theorems on the choice. That it is right is said for links whose nodes are 0 to 31 and a source that is not the destination;
-- that figures which are nowhere lower make no start impossible, for any links and nodes.
use mathlib.Core.Path.{◌≡◌, refl, sym, ◌∙◌, ap, subst}
use mathlib.Core.Logic.{◌≢◌, ◌↔◌, ◌⊎◌}
use mathlib.Core.List.{List, Memᴰ}
use mathlib.Core.Bool.{Bool, true}
use Prim.Native.Nat.{ℕ, suc, ◌+◌, ◌-◌, ◌≤◌, ◌<◌}
use native.Mathlib.Nat.{le_refl, le_trans, le_antisymm}
use native.Mathlib.Decide.{dec_lt}
use native.Mathlib.Omega.{arith}
use Rattle.std.proofs.Common.{Result, Ok}
use Rattle.units.specs.Limits.{last_node}
use Rattle.units.proofs.Tests.{Tells, at_most}
use Rattle.units.proofs.Search.{clash, all_from_all, all_allFrom, one_failing}
use Rattle.units.proofs.Parts.{all_map, all_at}
use Rattle.timeline.specs.Events.{events}
use Rattle.timeline.proofs.Steady.{ChangesAt}
use Rattle.timeline.proofs.Spans.{span_back, last_start, last_start_le, last_start_between, last_start_is}
use Rattle.free_table.specs.Figures.{kept}
use Rattle.choice.specs.declared.search.Search.{Search}
use Rattle.path_search.specs.declared.Path.{Path}
use Rattle.path_search.specs.Paths.{Graph}
use Rattle.path_search.specs.Answer.{graph, path_of}
use Rattle.path_search.proofs.Chains.{Way}
use Rattle.path_search.proofs.Loops.{NodesBelow}
use Rattle.path_search.proofs.Paths.{chain_leads}
use Rattle.path_search.proofs.InRange.{nodes_below}
use Rattle.units.specs.declared.Refused.{Refused}
use Rattle.choice.specs.declared.Granted.{Granted}
use Rattle.choice.specs.Choice.{Grant, Choice, granted, route_at, try_at, possible, choose}
use Rattle.choice.specs.Carrying.{suffices, carries}
use Rattle.choice.specs.BreakOff.{break_off}
use Rattle.choice.specs.Answer.{wanted, choice_for, break_off_for, given_start, refusal, chosen}
use Rattle.choice.specs.Right.{NowhereLower, FreeIn, CarriedIn, CarriedBy, BreaksOff, Best, NonePossible, Right, best, none_possible}
use Rattle.choice.proofs.Choice.{granted≢no_start, IsGrant, is_grant_only, ChoiceView, grants, grants_none, choose_view}
use Rattle.choice.proofs.Starts.{ChoiceFound, found, none_found, choice_found}
use Rattle.choice.proofs.Possible.{grant_starts, possible_more}
use Rattle.choice.proofs.BreakOff.{chains_break_off}

-- a start is no refusal
started_refused : {X : Type 0} (start m : ℕ) (path : Path) → Ok (given_start start path) ≡ refusal m → X
started_refused start m path e =
    let apart : ◌≡◌ {A = Result Granted Refused} (Ok (given_start start path)) (refusal m) = e in
    let z : ◌≡◌ {A = ℕ} 0 1 = cc in
    absurd (omega arith)

module _ (g : Graph) (figure : ℕ → ℕ → ℕ) (bandwidth duration source destination : ℕ) where
  abbrev At : ℕ → List ℕ → Type 0
  At = CarriedBy g figure bandwidth duration source destination

  abbrev carried : ℕ → ℕ → Bool
  carried = carries figure bandwidth duration

  -- ---- the test of a span, and the chains that pass it

  carries_tells : (n m l : ℕ) → Tells (carries figure bandwidth n m l) (FreeIn g figure bandwidth duration source destination m (m + n) l)
  carries_tells n m l =
      let fits : ℕ → Bool = λ k. suffices bandwidth (figure l k) in (
        (λ e k a b. (at_most bandwidth (figure l k)).0 (all_from_all fits m n e k a b)),
        λ h. all_allFrom fits m n (λ k a b. (at_most bandwidth (figure l k)).1 (h k a b)),
      )

  way_in : (n m : ℕ) (path : List ℕ) → Way g (carries figure bandwidth n m) destination source path → CarriedIn g figure bandwidth duration source destination m (m + n) path
  way_in n m path w =
      let h = (chain_leads g (λ l. carries figure bandwidth n m l ≡ true) source destination path).0 w in
      (h.0, all_map (λ l. carries figure bandwidth n m l ≡ true) (FreeIn g figure bandwidth duration source destination m (m + n)) (λ l. (carries_tells n m l).0) path h.1)

  in_way : (n m : ℕ) (path : List ℕ) → CarriedIn g figure bandwidth duration source destination m (m + n) path → Way g (carries figure bandwidth n m) destination source path
  in_way n m path h =
      (chain_leads g (λ l. carries figure bandwidth n m l ≡ true) source destination path).1
      (h.0, all_map (FreeIn g figure bandwidth duration source destination m (m + n)) (λ l. carries figure bandwidth n m l ≡ true) (λ l. (carries_tells n m l).1) path h.1)

  way_carried : (m : ℕ) (path : List ℕ) → Way g (carried m) destination source path → At m path
  way_carried = way_in duration

  carried_way : (m : ℕ) (path : List ℕ) → At m path → Way g (carried m) destination source path
  carried_way = in_way duration

  -- ---- low and the events

  -- Low and event times lose nothing: what can start at m can start no later at low, or at an event after low. The figures
  -- are any that change only at the times.
  pub events_suffice : (c : ℕ) (ts : List ℕ) → ((l : ℕ) → ChangesAt ts (figure l)) → (low m : ℕ) (path : List ℕ) → c ≤ low → low ≤ m → At m path
      → (e : ℕ) × (low ≤ e) × (e ≤ m) × ((e ≡ low) ⊎ (Memᴰ e (events c ts) × (low < e))) × At e path
  events_suffice c ts s low m path early h w =
      let e = last_start c ts low m early h in (
        e,
        omega arith,
        last_start_le c ts low m early h,
        last_start_is c ts low m early h,
        (
          w.0,
          all_map (FreeIn g figure bandwidth duration source destination m (m + duration)) (FreeIn g figure bandwidth duration source destination e (e + duration))
              (λ l. span_back (figure l) (λ x. bandwidth ≤ x) ts (s l) e m duration (last_start_le c ts low m early h) (last_start_between c ts low m early h)) path w.1,
        ),
      )

  -- ---- where it breaks off

  -- there is one such minute
  pub breaks_off_only : {low : ℕ} (m n : ℕ) → BreaksOff g figure bandwidth duration source destination low m → BreaksOff g figure bandwidth duration source destination low n → m ≡ n
  breaks_off_only m n b d = one_failing m n b.from_low d.from_low (λ w. b.none_lasts w.0 w.1) (λ w. d.none_lasts w.0 w.1) b.lasts_before d.lasts_before

  module _ (low latest : ℕ) where
    abbrev RightAnswer : Result Granted Refused → Type 0
    RightAnswer = Right g figure bandwidth duration source destination low latest

    abbrev None : Type 0
    None = NonePossible g figure bandwidth duration source destination low latest

    abbrev broken : ℕ
    broken = break_off g (carries figure bandwidth) source destination duration low

    -- The latest start, which source document 001 tries too, isn't needed: the best start is low or an event.
    pub latest_not_needed : (c : ℕ) (ts : List ℕ) → ((l : ℕ) → ChangesAt ts (figure l)) → c ≤ low → (start : ℕ) (path : List ℕ)
        → Best g figure bandwidth duration source destination low latest start path → (start ≡ low) ⊎ (Memᴰ start (events c ts) × (low < start))
    latest_not_needed c ts s early start path b =
        let r = events_suffice c ts s low start path early b.in_window.0 b.carried in
        let w = b.in_window in
        let late : r.0 ≤ start = r.2 in
        let same : r.0 ≡ start = le_antisymm late (b.earliest r.0 path (r.1, omega arith) r.4) in
        subst (λ e. (e ≡ low) ⊎ (Memᴰ e (events c ts) × (low < e))) same r.3

    -- Low is tried, even if it is no event: where a chain can start at low, low is the start.
    pub low_first : (start : ℕ) (path other : List ℕ) → Best g figure bandwidth duration source destination low latest start path → At low other → start ≡ low
    low_first start path other b w =
        let k = b.in_window in
        le_antisymm (b.earliest low other (le_refl low, omega arith) w) k.0

    -- A link that lacks the bandwidth in some minute of the span only is not usable: no path of the best start has it.
    pub partly_free_unused : (start : ℕ) (path : List ℕ) → Best g figure bandwidth duration source destination low latest start path
        → (l k : ℕ) → start ≤ k → k < start + duration → figure l k < bandwidth → ¬ Memᴰ l path
    partly_free_unused start path b l k early late short i =
        let enough = all_at (FreeIn g figure bandwidth duration source destination start (start + duration)) b.carried.1 i k early late in
        omega arith

    -- ---- the answer

    -- Refusal 8 if and only if no minute of the window has a chain.
    pub refused_iff : (r : Result Granted Refused) → RightAnswer r → ((m : ℕ) × (r ≡ refusal m)) ↔ None
    refused_iff r (best start path b) = ((λ e. started_refused start e.0 (path_of path) e.1), λ h. absurd (h start path b.in_window b.carried))
    refused_iff r (none_possible m h b) = ((λ e. h), λ k. (m, refl))

    best_grant : (start : ℕ) (path : List ℕ) → Best g figure bandwidth duration source destination low latest start path
        → IsGrant g carried source destination low latest (record { start = start; path = path })
    best_grant start path b =
        record {
          not_before = b.in_window.0;
          not_after = b.in_window.1;
          is_route = record {
            chain = carried_way start path b.carried;
            fewest = λ other w. b.fewest other (way_carried start other w);
            lowest = λ other w. b.lower other (way_carried start other w);
          };
          earliest = λ m other a z w. b.earliest m other (a, z) (way_carried m other w);
        }

    -- One answer is right.
    pub right_only : (r s : Result Granted Refused) → RightAnswer r → RightAnswer s → r ≡ s
    right_only r s (best m p b) (best n q d) =
        ap (λ x. chosen 0 (granted x)) (is_grant_only g carried source destination low latest (record { start = m; path = p }) (record { start = n; path = q }) (best_grant m p b) (best_grant n q d))
    right_only r s (best m p b) (none_possible n h d) = absurd (h m p b.in_window b.carried)
    right_only r s (none_possible m h b) (best n q d) = absurd (h n q d.in_window d.carried)
    right_only r s (none_possible m h b) (none_possible n k d) = ap refusal (breaks_off_only m n b d)

    module _ (apart : source ≢ destination) (below : NodesBelow g (suc last_node)) (node : source ≤ last_node) (lasts : 1 ≤ duration) (window : low ≤ latest) where
      -- where no path lasts throughout low's span, every path from low on breaks off
      none_breaks_off : ((path : List ℕ) → ¬ Way g (carried low) destination source path) → BreaksOff g figure bandwidth duration source destination low broken
      none_breaks_off none =
          let b = chains_break_off g (carries figure bandwidth) source destination duration low apart below node lasts none in
          record {
            from_low = b.from_low;
            none_lasts = λ path h. let end : suc broken ≡ low + (suc broken - low) = omega (arith, b.from_low) in b.none_lasts path (in_way (suc broken - low) low path (subst (λ e. CarriedIn g figure bandwidth duration source destination low e path) end h));
            lasts_before = λ k x y. let w = b.lasts_before k x y in let end : low + (suc k - low) ≡ suc k = omega arith in (w.0, subst (λ e. CarriedIn g figure bandwidth duration source destination low e w.0) end (way_in (suc k - low) low w.0 w.1));
          }

      -- The choice is the earliest minute, then fewest links, then the lower number at the first difference, or refusal 8 with the
      -- minute at which every path from low on breaks off.
      pub choose_right : RightAnswer (chosen broken (choose g carried source destination low latest))
      choose_right = by (choose g carried source destination low latest) (choose_view g carried source destination low latest apart below node)
        where
          by : (x : Choice Grant) → ChoiceView g carried source destination low latest apart below node x → RightAnswer (chosen broken x)
          by x (grants d i) =
              best d.start d.path (record {
                in_window = (i.not_before, i.not_after);
                carried = way_carried d.start d.path i.is_route.chain;
                earliest = λ m other w h. i.earliest m other w.0 w.1 (carried_way m other h);
                fewest = λ other h. i.is_route.fewest other (carried_way d.start other h);
                lower = λ other h. i.is_route.lowest other (carried_way d.start other h);
              })
          by x (grants_none h) = none_possible broken (λ m path w k. h m path w.0 w.1 (carried_way m path k)) (none_breaks_off (λ path. h low path (le_refl low) window))

-- ---- figures that are nowhere lower

-- The figures are any two for each link and minute, whatever makes the first lower.
module _ (g : Graph) (before after : ℕ → ℕ → ℕ) (more : NowhereLower before after) (bandwidth duration source destination : ℕ) where
  abbrev carried_before : ℕ → ℕ → Bool
  carried_before = carries before bandwidth duration

  abbrev carried_after : ℕ → ℕ → Bool
  carried_after = carries after bandwidth duration

  abbrev try_before : ℕ → Choice Grant
  try_before = try_at g carried_before source destination

  abbrev try_after : ℕ → Choice Grant
  try_after = try_at g carried_after source destination

  still_carried : (m l : ℕ) → carried_before m l ≡ true → carried_after m l ≡ true
  still_carried m l e =
      (carries_tells g after bandwidth duration source destination duration m l).1
      (λ k a b. le_trans ((carries_tells g before bandwidth duration source destination duration m l).0 e k a b) (more l k))

  -- They make no start impossible.
  pub stays_possible : (m : ℕ) → possible g carried_before source destination m ≡ true → possible g carried_after source destination m ≡ true
  stays_possible m = possible_more g carried_before carried_after source destination m m (still_carried m)

  -- So where a start was chosen one is, and it is no later.
  pub chosen_no_later : (low latest : ℕ) (c : Grant) → choose g carried_before source destination low latest ≡ granted c
      → (d : Grant) × (choose g carried_after source destination low latest ≡ granted d) × (d.start ≤ c.start)
  chosen_no_later low latest c e = by (choice_found try_before low latest) (choice_found try_after low latest)
    where
      by : ChoiceFound try_before low latest → ChoiceFound try_after low latest
          → (d : Grant) × (choose g carried_after source destination low latest ≡ granted d) × (d.start ≤ c.start)
      by (none_found h q) x = granted≢no_start (sym e ∙ q)
      by (found m b f t q) (none_found h r) = clash (stays_possible m f.passes) (h m f.low (omega (arith, f.high)))
      by (found m b f t q) (found n d i u r) =
          let same : b ≡ c = cc in
          let at_m = grant_starts m (route_at g carried_before source destination m) t in
          let at_n = grant_starts n (route_at g carried_after source destination n) u in
          (d, r, elim (dec_lt m n) [ yes k ↦ clash (stays_possible m f.passes) (i.before m f.low k) | no k ↦ omega (arith, at_m, at_n, ap (λ (x : Grant). x.start) same) ])

-- What `choose` promises is right, by the figures that the lent tables keep.
pub promise_right : (s : Search) (es t : List ℕ) (low latest : ℕ) → s.source ≢ s.destination → s.source ≤ last_node → low ≤ latest
    → (r : Result Granted Refused) → r ≡ chosen (break_off_for (wanted s) es t low) (choice_for (wanted s) es t low latest) → Right (graph s.ends) (kept es t) s.bandwidth.0 s.span.0 s.source s.destination low latest r
promise_right s es t low latest apart node window r e =
    subst (Right (graph s.ends) (kept es t) s.bandwidth.0 s.span.0 s.source s.destination low latest) (sym e)
    (choose_right (graph s.ends) (kept es t) s.bandwidth.0 s.span.0 s.source s.destination low latest apart (nodes_below s.ends) node s.lasts window)

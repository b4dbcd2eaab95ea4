-- The theorems on the answer, with no search in what they say. From a node to another one, over links in range: the answer
-- is right; it has a link exactly where some chain leads there; 31 links are enough; one answer is right. Beneath it: the
-- rounds answer the links that each node needs, and their number is one more than the most that any needs.
use mathlib.Core.Path.{◌≡◌, refl, sym, ◌∙◌, ap, subst}
use mathlib.Core.Logic.{◌≢◌, ◌↔◌}
use mathlib.Core.List.{List, [], ◌∷◌}
use mathlib.Core.Bool.{Bool, true, false}
use Prim.Native.Nat.{ℕ, suc, ◌-◌, ◌≤◌}
use native.Mathlib.Decide.{dec_le}
use native.Mathlib.Omega.{arith}
use lib.ListN.{length, get_or, take, replicate}
use lib.Dec.{eqb}
use lib.Seq.{take-append_seam}
use Rattle.std.proofs.Common.{Option, Some, unwrap_or}
use Rattle.units.specs.Limits.{last_node, most_hops}
use Rattle.units.specs.Lists.{All, Within, padded}
use Rattle.units.specs.Sets.{has}
use Rattle.units.proofs.Search.{first_from_nothing, clash, not_true}
use Rattle.path_search.specs.declared.ends.LinkEnds.{LinkEnds}
use Rattle.path_search.specs.declared.Layers.{Layers}
use Rattle.path_search.specs.declared.LinkSet.{LinkSet}
use Rattle.path_search.specs.declared.Network.{Network}
use Rattle.path_search.specs.declared.Path.{Path}
use Rattle.path_search.specs.declared.RoundsDone.{RoundsDone}
use Rattle.path_search.specs.Paths.{Graph, Route, along, none, reaches, fewest, route_of, route}
use Rattle.path_search.specs.Answer.{graph, usable, graph_of, usable_in, path_of, found_path, answer}
use Rattle.path_search.specs.Right.{Joins, Chosen, Right, chosen, no_chain}
use Rattle.path_search.specs.Rounds.{Shows, distance}
use Rattle.path_search.specs.Layers.{LayersOf, LayersIn}
use Rattle.path_search.specs.Needed.{most_needed}
use Rattle.path_search.specs.RightRounds.{FigureRight, needs, none_leads, RoundsRight, LayersRight}
use Rattle.path_search.proofs.Chains.{Way, chain_reaches, reaches_iff}
use Rattle.path_search.proofs.Loops.{NodesBelow}
use Rattle.path_search.proofs.Routes.{route_stays, short_way, IsRoute, is_route_only, is_route_distinct, RouteView, found, no_chain as no_way, route_view}
use Rattle.path_search.proofs.Paths.{chain_leads, route_path}
use Rattle.path_search.proofs.InRange.{nodes_below}
use Rattle.path_search.proofs.Needed.{fewest_needs, needs_fewest, most_right}
use Rattle.path_search.proofs.DistanceLaws.{Says, fewest_are, none_yet, distance_says, distance_tells}

module _ (g : Graph) (usable : ℕ → Bool) (source destination : ℕ) where
  joins_way : (path : List ℕ) → Joins g usable source destination path → Way g usable destination source path
  joins_way path = (chain_leads g (λ l. usable l ≡ true) source destination path).1

  way_joins : (path : List ℕ) → Way g usable destination source path → Joins g usable source destination path
  way_joins path = (chain_leads g (λ l. usable l ≡ true) source destination path).0

  chosen_route : (path : List ℕ) → Chosen g usable source destination path → IsRoute g usable destination source path
  chosen_route path c =
      record {
        chain = joins_way path c.joins;
        fewest = λ other w. c.fewest other (way_joins other w);
        lowest = λ other w. c.lower other (way_joins other w);
      }

  module _ (apart : source ≢ destination) (below : NodesBelow g (suc last_node)) where
    -- no link begins at a node above 31
    none_above : ¬ (source ≤ last_node) → (path : List ℕ) → ¬ Joins g usable source destination path
    none_above h [] j = apart j.0
    none_above h (l ∷ path) j = let b = below.from_below l j.0.0 in let e : g.from l ≡ source = j.0.1 in h (omega arith)

    route_above : ¬ (source ≤ last_node) → route g usable destination source ≡ none
    unfolding route fewest
    route_above h =
        ap (route_of g usable destination source)
        (first_from_nothing (λ n. reaches g usable destination n source) 1 most_hops
        (λ n a b. not_true (reaches g usable destination n source) (λ t. let r = (reaches_iff g usable destination n source).0 t in none_above h r.0 (way_joins r.0 r.2))))

    route_chosen : source ≤ last_node → (path : List ℕ) → IsRoute g usable destination source path → Chosen g usable source destination path
    route_chosen node path r =
        record {
          joins = way_joins path r.chain;
          fewest = λ other j. r.fewest other (joins_way other j);
          lower = λ other j. r.lowest other (joins_way other j);
          none_twice = is_route_distinct g usable destination source path r;
          long = (route_path g usable destination source apart below node path r).length_right;
        }

    -- the search answers right
    pub answer_right : Right g usable source destination (answer (route g usable destination source))
    answer_right =
        elim (dec_le source last_node) [
          | yes node ↦ by node (route g usable destination source) (route_view g usable destination source apart below node)
          | no h ↦ subst (λ r. Right g usable source destination (answer r)) (sym (route_above h)) (no_chain (none_above h))
        ]
      where
        by : (node : source ≤ last_node) (r : Route) → RouteView g usable destination source apart below node r → Right g usable source destination (answer r)
        by node r (found path i) = chosen path (route_chosen node path i)
        by node r (no_way h) = no_chain (λ path j. h path (joins_way path j))

    -- where a chain of any length leads to the destination, one of 1 to 31 links does
    pub few_enough : (path : List ℕ) → Joins g usable source destination path → (few : List ℕ) × Joins g usable source destination few × Within 1 most_hops (length few)
    few_enough path j = by (answer (route g usable destination source)) answer_right
      where
        by : (r : Path) → Right g usable source destination r → (few : List ℕ) × Joins g usable source destination few × Within 1 most_hops (length few)
        by r (chosen few c) = (few, c.joins, c.long)
        by r (no_chain h) = absurd (h path j)

  -- a right answer has a link exactly where some chain, of any length, leads from source to destination
  pub some_iff : (r : Path) → Right g usable source destination r → (1 ≤ r.count) ↔ ((path : List ℕ) × Joins g usable source destination path)
  some_iff r (chosen path c) = ((λ h. (path, c.joins)), λ j. c.long.0)
  some_iff r (no_chain h) = ((λ z. absurd (omega arith)), λ j. absurd (h j.0 j.1))

  -- and then its links are the chosen path, and the places past them are zero
  pub links_chosen : (r : Path) → Right g usable source destination r → 1 ≤ r.count
      → Chosen g usable source destination (take r.count r.links) × (r.links ≡ padded most_hops (take r.count r.links))
  links_chosen r (chosen path c) h =
      let e : take (length path) (padded most_hops path) ≡ path = take-append_seam path (replicate (most_hops - length path) 0) in
      (subst (Chosen g usable source destination) (sym e) c, ap (padded most_hops) (sym e))
  links_chosen r (no_chain n) h = absurd (omega arith)

  -- one answer is right
  pub right_only : (r s : Path) → Right g usable source destination r → Right g usable source destination s → r ≡ s
  right_only r s (chosen p c) (chosen q d) = ap path_of (is_route_only g usable destination source p q (chosen_route p c) (chosen_route q d))
  right_only r s (chosen p c) (no_chain h) = absurd (h p c.joins)
  right_only r s (no_chain h) (chosen q d) = absurd (h q d.joins)
  right_only r s (no_chain h) (no_chain k) = refl

-- what C is answered is the right answer, and so is what `find_route` promises
pub find_route_right : (ends : LinkEnds) (set : LinkSet) (source destination : ℕ) → source ≢ destination → (r : Path)
    → r ≡ answer (route (graph ends) (usable set) destination source) → Right (graph ends) (usable set) source destination r
find_route_right ends set source destination apart r e =
    subst (Right (graph ends) (usable set) source destination) (sym e) (answer_right (graph ends) (usable set) source destination apart (nodes_below ends))

pub found_path_right : (ends : LinkEnds) (set : LinkSet) (source destination : ℕ) → source ≢ destination → (r : Option Path)
    → r ≡ found_path (route (graph ends) (usable set) destination source) → Right (graph ends) (usable set) source destination (unwrap_or r (path_of []))
found_path_right ends set source destination apart r e = find_route_right ends set source destination apart (unwrap_or r (path_of [])) (ap (λ p. unwrap_or p (path_of [])) e)

-- what a figure of the rounds says of its node
figure_right : (g : Graph) (usable : ℕ → Bool) (destination : ℕ) → NodesBelow g (suc last_node) → (v : ℕ) → v ≤ last_node
    → FigureRight g usable destination v (distance g usable destination last_node v)
figure_right g usable destination below v node = by (distance g usable destination last_node v) (distance_says g usable destination last_node v)
  where
    by : (d : ℕ) → Says g usable destination last_node v d → FigureRight g usable destination v d
    by d (fewest_are k h f) = needs k (fewest_needs g usable destination v k f)
    by d (none_yet u) =
        none_leads (λ path j. let s = short_way g usable destination v below node path (joins_way g usable v destination path j) in clash (chain_reaches g usable destination v s.0 s.1) (u (length s.0) s.2))

-- what `distances` promises is the right answer
pub distances_right : (ends : LinkEnds) (set : LinkSet) (destination : ℕ) → (done : RoundsDone) → Shows done.table (distance (graph ends) (usable set) destination last_node)
    → done.number ≡ suc (most_needed (graph ends) (usable set) destination) → done.reached ≡ false → RoundsRight (graph ends) (usable set) destination done
distances_right ends set destination done shows number last =
    let below = nodes_below ends in
    record {
      figure = λ v h. subst (FigureRight (graph ends) (usable set) destination v) (sym (shows v h)) (figure_right (graph ends) (usable set) destination below v h);
      most = most_needed (graph ends) (usable set) destination;
      is_most = most_right (graph ends) (usable set) destination below;
      number = number;
      last = last;
    }

-- and so are the rounds of a search
layers_are : (g : Graph) (usable : ℕ → Bool) → NodesBelow g (suc last_node) → (layers : Layers) → LayersOf g usable layers → LayersRight g usable layers.destination layers
layers_are g usable below layers made =
    record {
      node = λ near v a b.
          let e : has (get_or layers.nodes near 0) v ≡ eqb (distance g usable layers.destination last_node v) near = made.nodes near a v b in
          let tells = distance_tells g usable layers.destination v near a in
          ((λ h. fewest_needs g usable layers.destination v near (tells.0 (sym e ∙ h))), λ n. e ∙ tells.1 (needs_fewest g usable layers.destination v near n));
      most = most_needed g usable layers.destination;
      is_most = most_right g usable layers.destination below;
      number = made.number;
    }

-- by what `layers` promises
pub layers_right : (network : Network) (layers : Layers) → LayersIn network layers → LayersRight (graph_of network) (usable_in network) layers.destination layers
layers_right network layers made = layers_are (graph_of network) (usable_in network) (nodes_below network.net.now.ends) layers made

-- while all links of a path that was found can be used there is a path
pub found_stays : (g : Graph) (some more : ℕ → Bool) (source destination : ℕ) (p : Path) → found_path (route g some destination source) ≡ Some p
    → All (λ l. more l ≡ true) (take p.count p.links) → (other : List ℕ) × (route g more destination source ≡ along other)
found_stays g some more source destination p told all = by (route g some destination source) refl
  where
    by : (r : Route) → route g some destination source ≡ r → (other : List ℕ) × (route g more destination source ≡ along other)
    by (along path) e =
        let same : path_of path ≡ p = cc (ap found_path (sym e) ∙ told) in
        let links : take p.count p.links ≡ path = ap (λ q. take q.count q.links) (sym same) ∙ take-append_seam path (replicate (most_hops - length path) 0) in
        route_stays g some more destination source path e (subst (All (λ l. more l ≡ true)) links all)
    by none e = let z : ◌≡◌ {A = ℕ} 0 1 = cc (ap found_path (sym e) ∙ told) in absurd (omega arith)

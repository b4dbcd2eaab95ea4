-- The loop of `layers`: after n rounds the frontier is the nodes that need n links, the layers below n are right and those from n on
-- empty.
use mathlib.Core.Path.{◌≡◌, sym, ◌∙◌, ap, subst}
use mathlib.Core.List.{List}
use mathlib.Core.Bool.{Bool, true, not, ◌&&◌, ◌||◌, and-eq-true_iff}
use Prim.Native.Nat.{ℕ, zero, suc, ◌+◌, ◌-◌, ◌≤◌, ◌<◌, zero-le}
use native.Mathlib.Nat.{le_refl}
use native.Mathlib.Decide.{ℕ_discrete, dec_lt}
use native.Mathlib.Numerals.{add-one}
use native.Mathlib.Omega.{arith}
use lib.Dec.{eqb, ltb}
use lib.ListN.{length, get_or, set}
use lib.Seq.{get_or-set_same, get_or-set_other}
use borrow.Author.Tests.{eqb-true, eq-eqb, not-true}
use Rattle.units.specs.Limits.{last_node}
use Rattle.units.specs.Sets.{has}
use Rattle.units.proofs.Search.{any_below_some, some_anyBelow, clash, not_true}
use Rattle.units.proofs.Sets.{has_none}
use Rattle.units.proofs.Tests.{Tells, ◌&◌, less_than, or_elim, left_or, right_or}
use Rattle.path_search.specs.Paths.{Graph, reaches}
use Rattle.path_search.specs.Rounds.{distance, sources}
use Rattle.path_search.specs.Layers.{LayersOf}
use Rattle.path_search.specs.Needed.{most_needed, MostNeeded}
use Rattle.path_search.proofs.Loops.{NodesBelow}
use Rattle.path_search.proofs.Needed.{Fewest, fewest_needs, needs_fewest, none_needed, some_needed, needs_few, most_only, most_right}
use Rattle.path_search.proofs.DistanceLaws.{distance_tells, reached_fewest, fewest_first, fewest_step, none_further}
use Rattle.path_search.proofs.Sets.{same_tells}

module _ (g : Graph) (usable : ℕ → Bool) (target : ℕ) (below : NodesBelow g (suc last_node)) where
  abbrev Away : ℕ → ℕ → Type 0
  Away v n = Fewest g usable target v n

  -- link l can be used and leads to a node that needs n links
  abbrev Leads : ℕ → ℕ → Type 0
  Leads l n = (l < g.count) × (usable l ≡ true) × Away (g.to l) n

  -- the nodes that need n links, the links to them, and the nodes that need n or fewer
  abbrev NodesBy : ℕ → ℕ → Type 0
  NodesBy n nodes = (v : ℕ) → v ≤ last_node → Tells (has nodes v) (Away v n)

  abbrev LinksBy : ℕ → ℕ → Type 0
  LinksBy n links = (l : ℕ) → Tells (has links l) (Leads l n)

  abbrev MetBy : ℕ → ℕ → Type 0
  MetBy n met = (v : ℕ) → v ≤ last_node → Tells (has met v) ((m : ℕ) × (m ≤ n) × Away v m)

  -- n rounds are done, each from some node on
  pub record Going (nodes links : List ℕ) (frontier met n : ℕ) : Type 0 where
    pub frontier_of : NodesBy n frontier
    pub met_by : MetBy n met
    pub nodes_of : (j : ℕ) → j < n → NodesBy j (get_or nodes j 0)
    pub links_of : (j : ℕ) → j < n → LinksBy j (get_or links j 0)
    pub no_nodes : (j : ℕ) → n ≤ j → get_or nodes j 0 ≡ 0
    pub no_links : (j : ℕ) → n ≤ j → get_or links j 0 ≡ 0
    pub some : (j : ℕ) → j < n → (v : ℕ) × Away v j

  target_away : (v : ℕ) → v ≡ target → Away v 0
  target_away v e = subst (λ w. Away w 0) (sym e) (none_needed g usable target)

  away_target : (v : ℕ) → Away v 0 → eqb v target ≡ true
  unfolding reaches
  away_target v f = f.leads

  -- before the first the target alone is met
  pub begun : (nodes links : List ℕ) (met : ℕ) → ((v : ℕ) → v ≤ last_node → has met v ≡ eqb v target) → ((j : ℕ) → get_or nodes j 0 ≡ 0) → ((j : ℕ) → get_or links j 0 ≡ 0)
      → Going nodes links met met 0
  begun nodes links met one no_nodes no_links =
      record {
        frontier_of = λ v h. ((λ e. target_away v (eqb-true v target (sym (one v h) ∙ e))), λ f. one v h ∙ away_target v f);
        met_by = λ v h. (
          (λ e. (0, le_refl 0, target_away v (eqb-true v target (sym (one v h) ∙ e)))),
          λ r. one v h ∙ away_target v (subst (Away v) (let z : r.0 ≡ 0 = omega (arith, r.1) in z) r.2),
        );
        nodes_of = λ j h. absurd (omega arith);
        links_of = λ j h. absurd (omega arith);
        no_nodes = λ j h. no_nodes j;
        no_links = λ j h. no_links j;
        some = λ j h. absurd (omega arith);
      }

  module _ (nodes links : List ℕ) (frontier met n : ℕ) (going : Going nodes links frontier met n) where
    -- a node to go on from needs n links, which are few
    pub few : (v : ℕ) → v ≤ last_node → has frontier v ≡ true → n ≤ last_node
    few v h e = needs_few g usable target below v n ((going.frontier_of v h).0 e)

    -- the next round, over the links that lead to the frontier
    module _ (layer next : ℕ) (leads : (l : ℕ) → has layer l ≡ (ltb l g.count && usable l && has frontier (g.to l)))
        (new : (v : ℕ) → v ≤ last_node → has next v ≡ (sources g layer v && not (has met v))) where
      layer_of : LinksBy n layer
      layer_of l = (there, back)
        where
          there : has layer l ≡ true → Leads l n
          there e =
              let o = (and-eq-true_iff (ltb l g.count && usable l) (has frontier (g.to l))).0 (sym (leads l) ∙ e) in
              let p = ((less_than l g.count) & ((λ t. t), λ t. t)).0 o.0 in
              (p.0, p.1, (going.frontier_of (g.to l) (let b = below.to_below l p.0 in omega arith)).0 o.1)

          back : Leads l n → has layer l ≡ true
          back r =
              leads l
              ∙ (and-eq-true_iff (ltb l g.count && usable l) (has frontier (g.to l))).1 (
                (and-eq-true_iff (ltb l g.count) (usable l)).1 ((less_than l g.count).1 r.0, r.1),
                (going.frontier_of (g.to l) (let b = below.to_below l r.0 in omega arith)).1 r.2,
              )

      next_of : NodesBy (suc n) next
      next_of v h = (there, back)
        where
          there : has next v ≡ true → Away v (suc n)
          there e =
              let o = (and-eq-true_iff (sources g layer v) (not (has met v))).0 (sym (new v h) ∙ e) in
              let s = any_below_some (λ l. has layer l && eqb (g.from l) v) g.count o.0 in
              let p = (and-eq-true_iff (has layer s.0) (eqb (g.from s.0) v)).0 s.2 in
              let r = (layer_of s.0).0 p.0 in
              fewest_step g usable target n v s.0 (record { known = s.1; begins = eqb-true _ _ p.1; usable = r.1 }) r.2
              (λ m a. not_true (reaches g usable target m v) (λ t. let f = reached_fewest g usable target m v t in clash ((going.met_by v h).1 (f.0, omega (arith, f.1), f.2)) (not-true (has met v) o.1)))

          back : Away v (suc n) → has next v ≡ true
          back f =
              let s = fewest_first g usable target n v f in
              new v h
              ∙ (and-eq-true_iff (sources g layer v) (not (has met v))).1 (
                some_anyBelow (λ l. has layer l && eqb (g.from l) v) g.count s.0 s.1.known
                    ((and-eq-true_iff (has layer s.0) (eqb (g.from s.0) v)).1 ((layer_of s.0).1 (s.1.known, s.1.usable, s.2), eq-eqb _ _ s.1.begins)),
                ap not (not_true (has met v) (λ t. let r = (going.met_by v h).0 t in clash r.2.leads (f.before r.0 (omega (arith, r.1))))),
              )

      pub goes_on : (met_next : ℕ) → ((v : ℕ) → has met_next v ≡ (has met v || has next v)) → (v : ℕ) → v ≤ last_node → has frontier v ≡ true
          → n < length nodes → n < length links → Going (set nodes n frontier) (set links n layer) next met_next (n + 1)
      goes_on met_next both w low e room_nodes room_links =
          rw (add-one n)
          (record {
            frontier_of = next_of;
            met_by = met_by;
            nodes_of = λ j a. elim (ℕ_discrete j n) [
              | yes q ↦ subst (NodesBy j) (sym (ap (λ k. get_or (set nodes n frontier) k 0) q ∙ get_or-set_same nodes n frontier 0 room_nodes)) (subst (λ k. NodesBy k frontier) (sym q) going.frontier_of)
              | no d ↦ subst (NodesBy j) (sym (get_or-set_other nodes n j frontier 0 d)) (going.nodes_of j (omega arith))
            ];
            links_of = λ j a. elim (ℕ_discrete j n) [
              | yes q ↦ subst (LinksBy j) (sym (ap (λ k. get_or (set links n layer) k 0) q ∙ get_or-set_same links n layer 0 room_links)) (subst (λ k. LinksBy k layer) (sym q) layer_of)
              | no d ↦ subst (LinksBy j) (sym (get_or-set_other links n j layer 0 d)) (going.links_of j (omega arith))
            ];
            no_nodes = λ j a. get_or-set_other nodes n j frontier 0 (λ q. omega arith) ∙ going.no_nodes j (omega arith);
            no_links = λ j a. get_or-set_other links n j layer 0 (λ q. omega arith) ∙ going.no_links j (omega arith);
            some = λ j a. elim (ℕ_discrete j n) [
              | yes q ↦ (w, subst (Away w) (sym q) ((going.frontier_of w low).0 e))
              | no d ↦ going.some j (omega arith)
            ];
          })
        where
          met_by : MetBy (suc n) met_next
          met_by v h = (there, back)
            where
              there : has met_next v ≡ true → (m : ℕ) × (m ≤ suc n) × Away v m
              there t =
                  or_elim (has met v) (has next v) (sym (both v) ∙ t) (λ a. let r = (going.met_by v h).0 a in (r.0, omega (arith, r.1), r.2)) (λ a. (suc n, le_refl _, (next_of v h).0 a))

              back : ((m : ℕ) × (m ≤ suc n) × Away v m) → has met_next v ≡ true
              back r =
                  both v
                  ∙ elim (ℕ_discrete r.0 (suc n)) [
                    | yes q ↦ right_or (has met v) (has next v) ((next_of v h).1 (subst (Away v) q r.2))
                    | no d ↦ left_or (has met v) (has next v) ((going.met_by v h).1 (r.0, omega (arith, r.1), r.2))
                  ]

    -- no node is left to go on from
    module _ (stop : frontier ≡ 0) where
      no_more : (m v : ℕ) → n ≤ m → v ≤ last_node → ¬ Away v m
      no_more =
          none_further g usable target below n (λ v h f. clash ((going.frontier_of v h).1 f) (ap (λ s. has s v) stop ∙ has_none v))

      at_node : (j : ℕ) → NodesBy j (get_or nodes j 0)
      at_node j =
          elim (dec_lt j n) [
            | yes a ↦ going.nodes_of j a
            | no a ↦ λ v h.
                ((λ e. clash e (ap (λ s. has s v) (going.no_nodes j (omega arith)) ∙ has_none v)), λ f. absurd (no_more j v (omega arith) h f))
          ]

      at_link : (j : ℕ) → LinksBy j (get_or links j 0)
      at_link j =
          elim (dec_lt j n) [
            | yes a ↦ going.links_of j a
            | no a ↦ λ l. (
              (λ e. clash e (ap (λ s. has s l) (going.no_links j (omega arith)) ∙ has_none l)),
              λ r. absurd (no_more j (g.to l) (omega arith) (let b = below.to_below l r.0 in omega arith) r.2),
            )
          ]

      most : MostNeeded g usable target (n - 1)
      most = let w = some_node in record { node = w.0; needs = fewest_needs g usable target w.0 (n - 1) w.1; most = λ v m d. bound v m (needs_fewest g usable target v m d) }
        where
          some_node : (v : ℕ) × Away v (n - 1)
          some_node =
              elim (ℕ_discrete n 0) [
                | yes q ↦ (target, subst (Away target) (let z : 0 ≡ n - 1 = omega arith in z) (none_needed g usable target))
                | no d ↦ going.some (n - 1) (omega arith)
              ]

          bound : (v m : ℕ) → Away v m → m ≤ n - 1
          bound v zero f = zero-le
          bound v (suc m) f = elim (dec_lt (n - 1) (suc m)) [ yes a ↦ absurd (no_more (suc m) v (omega arith) (some_needed g usable target below v m f) f) | no a ↦ omega arith ]

      pub ended : LayersOf g usable (record { destination = target; nodes = nodes; links = links; met = met; number = n })
      ended =
          record {
            nodes = λ j few v h. same_tells (at_node j v h) (distance_tells g usable target v j few);
            links = λ j few l. same_tells (at_link j l) (leads_tells j few l);
            met = λ h. (going.met_by target h).1 (0, zero-le, none_needed g usable target);
            number = let z = most_only g usable target (n - 1) (most_needed g usable target) most (most_right g usable target below) in omega arith;
          }
        where
          leads_tells : (j : ℕ) → j ≤ last_node → (l : ℕ) → Tells (ltb l g.count && usable l && eqb (distance g usable target last_node (g.to l)) j) (Leads l j)
          leads_tells j few l =
              let t = less_than l g.count & ((λ e. e), λ e. e) & distance_tells g usable target (g.to l) j few in
              ((λ e. let r = t.0 e in (r.0.0, r.0.1, r.1)), λ r. t.1 ((r.0, r.1), r.2))

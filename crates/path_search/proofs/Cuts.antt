-- A set of links that has each link into the met nodes, from another node or from the source, cuts the source off: a chain over
-- other links to the destination keeps to the met nodes, and leaves the source nowhere.
use mathlib.Core.Path.{◌≡◌, refl, sym, ◌∙◌, ap, subst}
use mathlib.Core.List.{List, [], ◌∷◌}
use mathlib.Core.Bool.{Bool, true, false, not, ◌&&◌, and-eq-true_iff}
use Prim.Native.Nat.{ℕ, suc, ◌≤◌, ◌<◌}
use native.Mathlib.Omega.{arith}
use lib.Dec.{eqb}
use lib.ListN.{length}
use borrow.Author.Tests.{eq-eqb, not-true}
use Rattle.units.specs.Limits.{last_node, most_hops}
use Rattle.units.specs.Sets.{has}
use Rattle.units.proofs.Search.{first_from_nothing, clash, not_true}
use Rattle.path_search.specs.Paths.{Graph, reaches, fewest}
use Rattle.path_search.specs.Answer.{Cuts}
use Rattle.path_search.proofs.Chains.{Way, reaches_iff}
use Rattle.path_search.proofs.Loops.{NodesBelow}
use Rattle.path_search.proofs.Picks.{route_none}

module _ (g : Graph) (source destination : ℕ) (below : NodesBelow g (suc last_node)) (met cut : ℕ) (reached : destination ≤ last_node → has met destination ≡ true)
    (crosses : (l : ℕ) → l < g.count → has cut l ≡ (has met (g.to l) && not (has met (g.from l) && not (eqb (g.from l) source)))) where
  module _ (usable : ℕ → Bool) (none_in : (l : ℕ) → l < g.count → usable l ≡ true → has cut l ≡ false) where
    -- a link to a met node begins at one that is not the source
    keeps : (l : ℕ) → l < g.count → usable l ≡ true → has met (g.to l) ≡ true → (has met (g.from l) ≡ true) × (eqb (g.from l) source ≡ false)
    keeps l known can to =
        let inside : Bool = has met (g.from l) && not (eqb (g.from l) source) in
        let o = (and-eq-true_iff (has met (g.from l)) (not (eqb (g.from l) source))).0 (by inside (sym (crosses l known ∙ ap (λ t. t && not inside) to) ∙ none_in l known can)) in
        (o.0, not-true _ o.1)
      where
        by : (t : Bool) → not t ≡ false → t ≡ true
        by true e = refl
        by false e = clash refl e

    ends_met : (v : ℕ) (path : List ℕ) → Way g usable destination v path → v ≤ last_node → has met v ≡ true
    ends_met v [] c h = subst (λ w. has met w ≡ true) (sym c) (reached (subst (λ w. w ≤ last_node) c h))
    ends_met v (l ∷ path) c h =
        subst (λ w. has met w ≡ true) c.0.begins
        (keeps l c.0.known c.0.usable (ends_met (g.to l) path c.1 (let b = below.to_below l c.0.known in omega arith))).0

    none_leads : (n : ℕ) → 1 ≤ n → reaches g usable destination n source ≡ false
    none_leads n some = not_true (reaches g usable destination n source) (λ t. let r = (reaches_iff g usable destination n source).0 t in by r.0 r.2 (omega (arith, r.1)))
      where
        by : (path : List ℕ) → Way g usable destination source path → 1 ≤ length path → ⊥
        by [] c h = omega arith
        by (l ∷ path) c h =
            clash (eq-eqb _ _ c.0.begins) (keeps l c.0.known c.0.usable (ends_met (g.to l) path c.1 (let b = below.to_below l c.0.known in omega arith))).1

  pub cuts : Cuts g source destination cut
  unfolding fewest
  cuts usable none_in =
      route_none g usable destination source (first_from_nothing (λ n. reaches g usable destination n source) 1 most_hops (λ n a b. none_leads usable none_in n a))

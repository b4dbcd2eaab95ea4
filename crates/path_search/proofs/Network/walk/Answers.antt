-- walk meets its contract. The first `place` links have been picked, and the rest is to be picked from `node` on.
use mathlib.Core.Path.{◌≡◌, refl, sym, ◌∙◌, ap, ap₂, subst}
use mathlib.Core.List.{List, [], ◌∷◌, ◌++◌}
use Prim.Native.Nat.{ℕ, suc, ◌+◌, ◌-◌, ◌<◌}
use native.Mathlib.Omega.{arith}
use lib.ListN.{length, set, replicate, length-append}
use lib.Seq.{set_at, append_snoc}
use Rattle.units.specs.Limits.{most_hops}
use Rattle.units.specs.Lists.{padded}
use Rattle.path_search.specs.Layers.{away}
use Rattle.path_search.specs.Picks.{picked}
use Rattle.path_search.specs.Answer.{graph_of, usable_in}
use Rattle.path_search.proofs.Picks.{Picked, some_left, picked_next}
use Rattle.path_search.proofs.Network.walk.Goals as goal
use Rattle.path_search.proofs.Network.walk.Goals.{In-loop-place}

-- as many links can be picked as are left
left : (c : In-loop-place) → let n = c.args.count - 1 - c.loop-place.place in
    length (picked (graph_of c.args.self) (usable_in c.args.self) (away (graph_of c.args.self) (usable_in c.args.self) c.args.layers.now) (suc n) c.loop-place.node) ≡ suc n
left c =
    let inv = c.loop-place.invariant in
    let more : suc (c.args.count - 1 - c.loop-place.place) ≡ c.args.count - c.loop-place.place = omega arith in
    subst (λ k. length (picked (graph_of c.args.self) (usable_in c.args.self) (away (graph_of c.args.self) (usable_in c.args.self) c.args.layers.now) k c.loop-place.node) ≡ k) (sym more)
    (omega (arith, simp length-append at (ap length inv.3), c.requires.walkable.all))

-- the next link stands behind those that were picked
padded_set : (n : ℕ) (done : List ℕ) (l : ℕ) → length done < n → set (padded n done) (length done) l ≡ padded n (done ++ l ∷ [])
padded_set n done l h =
    let m = n - length (done ++ l ∷ []) in
    let e : n - length done ≡ suc m = simp length-append (omega arith) in
    ap (λ k. set (done ++ replicate k 0) (length done) l) e ∙ set_at done 0 (replicate m 0) l (length done) refl ∙ sym (append_snoc done l (replicate m 0))

pub nearer_link-link-requires-clause-some : goal.nearer_link-link-requires-clause-some
nearer_link-link-requires-clause-some c =
    some_left (graph_of c.args.self) (usable_in c.args.self) (away (graph_of c.args.self) (usable_in c.args.self) c.args.layers.now) (c.args.count - 1 - c.loop-place.place) c.loop-place.node
    (left (goal.at.nearer_link-link-requires-clause-some c).In-loop-place)

pub loop-place-init : goal.loop-place-init
loop-place-init c = ([], refl, refl, ap (λ k. picked (graph_of c.args.self) (usable_in c.args.self) (away (graph_of c.args.self) (usable_in c.args.self) c.args.layers.now) k c.args.source) (omega arith))

pub bounds-self-link : goal.bounds-self-link
bounds-self-link c =
    let p : Picked (graph_of c.args.self) (usable_in c.args.self) (away (graph_of c.args.self) (usable_in c.args.self) c.args.layers.now) (c.args.count - 1 - c.loop-place.place) c.loop-place.node c.nearer_link-link.result.0
    = picked_next _ _ _ _ _ _ c.nearer_link-link.ensures in
    omega (arith, p.known, c.args.self.net.now.ends.in_range.few)

pub loop-place-preserved : goal.loop-place-preserved
loop-place-preserved c =
    let a = c.args in
    let g = graph_of a.self in
    let figure = away g (usable_in a.self) a.layers.now in
    let pick = picked g (usable_in a.self) figure in
    let inv = c.loop-place.invariant in
    let link = c.nearer_link-link.result.0 in
    let place = c.loop-place.place in
    let p : Picked g (usable_in a.self) figure (a.count - 1 - place) c.loop-place.node link = picked_next g (usable_in a.self) figure (a.count - 1 - place) c.loop-place.node link c.nearer_link-link.ensures in
    let more : a.count - place ≡ suc (a.count - 1 - place) = omega arith in
    let less : a.count - (place + 1) ≡ a.count - 1 - place = omega arith in (
      inv.0 ++ link ∷ [],
      simp length-append (omega arith),
      ap₂ (λ l i. set l i link) inv.2 (sym inv.1) ∙ padded_set most_hops inv.0 link (omega (arith, c.requires.walkable.few)),
      ap (λ k. (inv.0 ++ link ∷ []) ++ pick k (g.to link)) less ∙ append_snoc inv.0 link (pick (a.count - 1 - place) (g.to link))
          ∙ ap (λ l. inv.0 ++ l) (sym p.next ∙ ap (λ k. pick k c.loop-place.node) (sym more)) ∙ inv.3,
    )

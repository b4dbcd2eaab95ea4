-- layers meets its contract. After `number` rounds the frontier is the nodes that need that many links.
use mathlib.Core.Path.{◌≡◌, refl, ◌∙◌, ap₂}
use mathlib.Core.Bool.{true, ◌&&◌}
use Prim.Native.Nat.{ℕ, zero, suc, ◌≤◌}
use native.Mathlib.Omega.{arith}
use borrow.Author.Rules.{rules}
use lib.ListN.{get_or, replicate, length-set}
use Rattle.std.specs.Int.{w32, bit_not, trailing_zeros}
use Rattle.std.specs.Int.Bits.{bit_and, bit_or}
use Rattle.units.specs.Limits.{last_node}
use Rattle.units.specs.Sets.{has}
use Rattle.units.proofs.Sets.{has_and, has_or, has_not}
use Rattle.path_search.specs.Rounds.{far}
use Rattle.path_search.specs.Answer.{graph_of, usable_in}
use Rattle.path_search.proofs.InRange.{nodes_below}
use Rattle.path_search.proofs.LayerLaws.{begun, few, goes_on, ended}
use Rattle.path_search.proofs.Sets.{lowest_node}
use Rattle.path_search.proofs.Network.layers.Goals as goal
use Rattle.path_search.proofs.Network.layers.Goals.{In-loop-frontier}

zeros : (n j : ℕ) → ◌≡◌ {A = ℕ} (get_or (replicate n 0) j 0) 0
zeros zero j = refl
zeros (suc n) zero = refl
zeros (suc n) (suc j) = zeros n j

-- a node of the frontier, which needs as many links as rounds are done
record Next (c : In-loop-frontier) : Type 0 where
  node : ℕ
  is_node : node ≤ last_node
  next : has c.loop-frontier.frontier node ≡ true
  few_rounds : c.loop-frontier.number ≤ last_node

here : (c : In-loop-frontier) → Next c
here c =
    let l = c.loop-frontier in
    let low = lowest_node l.frontier (omega (arith, c.loop-frontier-test.true)) (search rules) in
    record {
      node = trailing_zeros w32 l.frontier;
      is_node = low.0;
      next = low.1.in_set;
      few_rounds = few (graph_of c.args.self) (usable_in c.args.self) c.args.destination (nodes_below c.args.self.net.now.ends) l.nodes l.links l.frontier l.met l.number l.invariant.2 (trailing_zeros w32 l.frontier) low.0 low.1.in_set;
    }

pub loop-frontier-init : goal.loop-frontier-init
loop-frontier-init c =
    (refl, refl, begun (graph_of c.args.self) (usable_in c.args.self) c.args.destination (nodes_below c.args.self.net.now.ends) (replicate far 0) (replicate far 0) c.node_set-met.result c.node_set-met.ensures (zeros far) (zeros far))

pub bounds-nodes-number : goal.bounds-nodes-number
bounds-nodes-number c = omega (arith, (here (goal.at.bounds-nodes-number c).In-loop-frontier).few_rounds)

pub bounds-links-number : goal.bounds-links-number
bounds-links-number c = omega (arith, (here (goal.at.bounds-links-number c).In-loop-frontier).few_rounds)

pub overflow_add-number : goal.overflow_add-number
overflow_add-number c = let h = (here (goal.at.overflow_add-number c).In-loop-frontier).few_rounds in search rules

pub loop-frontier-smaller : goal.loop-frontier-smaller
loop-frontier-smaller c = omega (arith, (here (goal.at.loop-frontier-smaller c).In-loop-frontier).few_rounds)

pub loop-frontier-preserved : goal.loop-frontier-preserved
loop-frontier-preserved c =
    let l = c.loop-frontier in
    let n = here (goal.at.loop-frontier-preserved c).In-loop-frontier in
    let leading = c.links_to-leading.result in
    let next = bit_and c.sources.result (bit_not w32 l.met) in (
      length-set l.nodes _ _ ∙ l.invariant.0,
      length-set l.links _ _ ∙ l.invariant.1,
      goes_on (graph_of c.args.self) (usable_in c.args.self) c.args.destination (nodes_below c.args.self.net.now.ends) l.nodes l.links l.frontier l.met l.number l.invariant.2 leading next
          c.links_to-leading.ensures (λ v h. has_and c.sources.result (bit_not w32 l.met) v ∙ ap₂ ◌&&◌ (c.sources.ensures v) (has_not w32 l.met v (search rules) (omega arith)))
          (bit_or l.met next) (λ v. has_or l.met next v) n.node n.is_node n.next (omega (arith, n.few_rounds, l.invariant.0)) (omega (arith, n.few_rounds, l.invariant.1)),
    )

pub returns-clause-of : goal.returns-clause-of
returns-clause-of c =
    let l = c.loop-frontier in
    ended (graph_of c.args.self) (usable_in c.args.self) c.args.destination (nodes_below c.args.self.net.now.ends) l.nodes l.links l.frontier l.met l.number l.invariant.2 (omega (arith, c.loop-frontier-test.false))

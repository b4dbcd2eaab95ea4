-- sources meets its contract. The nodes so far and those at which the links that are left begin are all.
use mathlib.Core.Path.{◌≡◌, sym, ◌∙◌, ap}
use mathlib.Core.Bool.{◌||◌, and-eq-true_iff}
use native.Mathlib.Omega.{arith}
use Rattle.std.specs.Int.{w64, trailing_zeros}
use Rattle.std.proofs.Math.Bool.{or-false}
use borrow.Author.Rules.{rules}
use Rattle.units.specs.Sets.{has}
use Rattle.units.proofs.Sets.{lowest_is, has_rest, none_left}
use Rattle.path_search.specs.Rounds.{sources}
use Rattle.path_search.specs.Answer.{graph_of}
use Rattle.path_search.proofs.Sets.{sources_lowest}
use Rattle.path_search.proofs.Network.sources.Goals as goal

pub overflow_shl-nodes : goal.overflow_shl-nodes
overflow_shl-nodes c =
    let l = c.loop-left in
    let low = lowest_is w64 l.left (omega (arith, c.loop-left-test.true)) (search rules) in
    omega (arith, c.args.self.net.now.ends.in_range.from_node (trailing_zeros w64 l.left) (l.invariant.0 _ low.1.in_set))

pub loop-left-preserved : goal.loop-left-preserved
loop-left-preserved c =
    let l = c.loop-left in
    let g = graph_of c.args.self in
    let low = lowest_is w64 l.left (omega (arith, c.loop-left-test.true)) (search rules) in
    let known = l.invariant.0 _ low.1.in_set in (
      (λ k e. l.invariant.0 k ((and-eq-true_iff _ _).0 (sym (has_rest l.left _ low.1 k) ∙ e)).0),
      λ v. sources_lowest g l.nodes l.left _ v low.1 known (c.args.self.net.now.ends.in_range.from_node _ known) ∙ l.invariant.1 v,
    )

pub returns : goal.returns
returns c =
    let l = c.loop-left in
    let g = graph_of c.args.self in
    λ v. sym (or-false (has l.nodes v)) ∙ ap (λ b. has l.nodes v || b) (sym (none_left _ g.count)) ∙ ap (λ s. has l.nodes v || sources g s v) (let e : 0 ≡ l.left = omega (arith, c.loop-left-test.false) in e) ∙ l.invariant.1 v

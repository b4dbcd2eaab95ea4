-- joined meets its contract. The links so far and those of the nodes that are left are all.
use mathlib.Core.Path.{◌≡◌, sym, ◌∙◌, ap}
use mathlib.Core.Bool.{◌||◌}
use native.Mathlib.Omega.{arith}
use borrow.Author.Rules.{rules}
use Rattle.units.specs.Sets.{has}
use Rattle.units.proofs.Sets.{none_left}
use Rattle.std.proofs.Math.Bool.{or-false}
use Rattle.path_search.specs.Rounds.{far, joined}
use Rattle.path_search.proofs.Sets.{lowest_node, joined_lowest}
use Rattle.path_search.proofs.joined.Goals as goal

pub loop-left-preserved : goal.loop-left-preserved
loop-left-preserved c =
    let l = c.loop-left in
    let low = lowest_node l.left (omega (arith, c.loop-left-test.true)) (search rules) in
    λ k. joined_lowest c.args.sets.now l.links l.left _ k low.1 low.0 ∙ l.invariant k

pub returns : goal.returns
returns c =
    let l = c.loop-left in
    λ k. sym (or-false (has l.links k)) ∙ ap (λ b. has l.links k || b) (sym (none_left _ far)) ∙ ap (λ s. has l.links k || joined c.args.sets.now s k) (let e : 0 ≡ l.left = omega (arith, c.loop-left-test.false) in e) ∙ l.invariant k

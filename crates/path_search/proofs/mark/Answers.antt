-- mark meets its contract. With the nodes that are left marked the table is what it is to be.
use mathlib.Core.Path.{◌≡◌, ◌∙◌}
use native.Mathlib.Omega.{arith}
use lib.ListN.{length}
use borrow.Author.Rules.{rules}
use Rattle.path_search.proofs.Sets.{lowest_node, marked_lowest}
use Rattle.path_search.proofs.mark.Goals as goal

pub loop-left-preserved : goal.loop-left-preserved
loop-left-preserved c =
    let l = c.loop-left in
    let low = lowest_node l.left (omega (arith, c.loop-left-test.true)) (search rules) in
    let long : length l.table ≡ 32 = search rules in
    λ v h. marked_lowest l.table l.left _ c.args.figure low.1 (omega (arith, low.0)) v ∙ l.invariant v h

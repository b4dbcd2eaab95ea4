-- links_of meets its contract. The sets have the links below `link`.
use mathlib.Core.Path.{refl, sym, ◌∙◌, ap}
use native.Mathlib.Omega.{arith}
use lib.ListN.{get_or, get_or-replicate, length-set}
use lib.Dec.{eqb}
use Prim.Native.Nat.{zero-le}
use mathlib.Core.Bool.{◌&&◌}
use borrow.Author.Tests.{le-ltb}
use Rattle.units.specs.Sets.{has}
use Rattle.units.proofs.Sets.{has_none}
use Rattle.path_search.specs.Rounds.{far}
use Rattle.path_search.proofs.Sets.{links_more}
use Rattle.path_search.proofs.net.links_of.Goals as goal

pub loop-link-init : goal.loop-link-init
loop-link-init c = (refl, λ v h l. ap (λ s. has s l) (get_or-replicate far v 0 0 (omega arith)) ∙ has_none l ∙ ap (λ b. b && eqb (get_or c.args.ends.now l 0) v) (sym (le-ltb l 0 zero-le)))

pub loop-link-preserved : goal.loop-link-preserved
loop-link-preserved c =
    let l = c.loop-link in
    (length-set l.sets _ _ ∙ l.invariant.0, links_more c.args.ends.now l.sets l.link l.invariant.1 (omega (arith, c.loop-link-test.true, c.requires.few)) (omega (arith, c.requires.nodes l.link c.loop-link-test.true, l.invariant.0)))

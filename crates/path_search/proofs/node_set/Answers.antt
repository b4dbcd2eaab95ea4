-- node_set meets its contract: one bit.
use Rattle.std.specs.Int.{w32}
use Rattle.units.proofs.Sets.{has_one}
use native.Mathlib.Omega.{arith}
use Rattle.path_search.proofs.node_set.Goals as goal

pub returns-then-node-le-LAST_NODE : goal.returns-then-node-le-LAST_NODE
returns-then-node-le-LAST_NODE c = λ v h. has_one w32 c.args.node v (omega (arith, c.if-node-le-LAST_NODE.true))

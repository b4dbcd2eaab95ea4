-- cut meets its contract: the set has each link into the met nodes from another node or from the source.
use mathlib.Core.Path.{◌∙◌, ap, ap₂}
use mathlib.Core.Bool.{not, ◌&&◌}
use native.Mathlib.Omega.{arith}
use lib.ListN.{get_or}
use borrow.Author.Tests.{lt-ltb}
use borrow.Author.Rules.{rules}
use Rattle.std.specs.Int.{w32, w64, bit_not}
use Rattle.std.specs.Int.Bits.{bit_and}
use Rattle.units.specs.Sets.{has}
use Rattle.units.proofs.Sets.{has_and, has_not}
use Rattle.path_search.specs.Answer.{graph_of}
use Rattle.path_search.proofs.InRange.{nodes_below}
use Rattle.path_search.proofs.Sets.{joined_is}
use Rattle.path_search.proofs.Cuts.{cuts}
use Rattle.path_search.proofs.Network.cut.Goals as goal

pub returns : goal.returns
returns c =
    let net = c.args.self.net.now in
    let ends = net.ends in
    let layers = c.args.layers.now in
    let source = c.args.source in
    let inside = bit_and layers.met (bit_not w32 c.node_set.result) in
    cuts (graph_of c.args.self) source layers.destination (nodes_below ends) layers.met (bit_and c.joined.result (bit_not w64 c.joined-2.result)) c.requires.met
    (λ l known.
    let to = get_or ends.to l 0 in
    let from = get_or ends.from l 0 in
    let from_low = ends.in_range.from_node l known in
    has_and c.joined.result (bit_not w64 c.joined-2.result) l
    ∙ ap₂ ◌&&◌ (c.joined.ensures l ∙ joined_is ends.count ends.to net.into net.entering ends.in_range.to_node layers.met l ∙ ap (λ b. b && has layers.met to) (lt-ltb l ends.count known))
    (has_not w64 c.joined-2.result l (search rules) (omega (arith, ends.in_range.few))
    ∙ ap not (c.joined-2.ensures l ∙ joined_is ends.count ends.from net.out net.leaving ends.in_range.from_node inside l ∙ ap (λ b. b && has inside from) (lt-ltb l ends.count known)
    ∙ has_and layers.met (bit_not w32 c.node_set.result) from ∙ ap (λ b. has layers.met from && b) (has_not w32 c.node_set.result from (search rules) (omega (arith, from_low)) ∙ ap not (c.node_set.ensures from from_low)))))

-- nearer_link meets its contract: the lowest of the links out of the node that lead to the layer.
use native.Mathlib.Omega.{arith}
use borrow.Author.Rules.{rules}
use lib.ListN.{get_or}
use Rattle.std.specs.Int.{w64, trailing_zeros}
use Rattle.std.specs.Int.Bits.{bit_and}
use Rattle.units.proofs.Sets.{lowest_is}
use Rattle.path_search.specs.Answer.{graph_of, usable_in}
use Rattle.path_search.specs.Layers.{away}
use Rattle.path_search.proofs.Picks.{Nearer, some_nearer}
use Rattle.path_search.proofs.Sets.{lowest_onward, onward_some}
use Rattle.path_search.proofs.Network.nearer_link.Goals as goal

pub bounds-self-node : goal.bounds-self-node
bounds-self-node c =
    let g = graph_of c.args.self in
    let f : Nearer g (usable_in c.args.self) (away g (usable_in c.args.self) c.args.layers.now) c.args.node c.args.near = some_nearer g (usable_in c.args.self) _ c.args.node c.args.near c.requires.some in
    omega (arith, c.args.self.net.now.ends.in_range.from_node f.link f.known, f.begins)

pub returns : goal.returns
returns c =
    let net = c.args.self.net.now in
    let g = graph_of c.args.self in
    let u = usable_in c.args.self in
    let a = away g u c.args.layers.now in
    let f : Nearer g u a c.args.node c.args.near = some_nearer g u a c.args.node c.args.near c.requires.some in
    let out = get_or net.out c.args.node 0 in
    let links = get_or c.args.layers.now.links c.args.near 0 in
    let leaving = net.leaving c.args.node (omega (arith, net.ends.in_range.from_node f.link f.known, f.begins)) in
    let leading = c.requires.layers.links c.args.near c.requires.near in
    let low = lowest_is w64 (bit_and out links) (onward_some g u a c.args.near c.args.node out links leaving leading f.link f.found) (search rules) in
    lowest_onward g u a c.args.near c.args.node out links leaving leading (trailing_zeros w64 (bit_and out links)) low.1

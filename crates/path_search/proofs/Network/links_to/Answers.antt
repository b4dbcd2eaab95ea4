-- links_to meets its contract: the links that the nodes have, which can be used.
use mathlib.Core.Path.{◌≡◌, refl, ◌∙◌, ap}
use mathlib.Core.Bool.{Bool, true, false, ◌&&◌}
use lib.Dec.{ltb}
use lib.ListN.{get_or}
use Rattle.units.specs.Sets.{has}
use Rattle.units.proofs.Sets.{has_and}
use Rattle.path_search.specs.Answer.{usable_in}
use Rattle.path_search.proofs.Sets.{joined_is}
use Rattle.path_search.proofs.Network.links_to.Goals as goal

by : (a b c : Bool) → ((a && b) && c) ≡ ((a && c) && b)
by true true true = refl
by true true false = refl
by true false true = refl
by true false false = refl
by false b c = refl

pub returns : goal.returns
returns c =
    let net = c.args.self.net.now in
    λ l. has_and c.joined.result c.args.self.usable.bits l
    ∙ ap (λ b. b && usable_in c.args.self l) (c.joined.ensures l ∙ joined_is net.ends.count net.ends.to net.into net.entering net.ends.in_range.to_node c.args.nodes l)
    ∙ by (ltb l net.ends.count) (has c.args.nodes (get_or net.ends.to l 0)) (usable_in c.args.self l)

-- search meets its contract. By the layers the links of a path are as few as can be, and the links picked are the route.
use mathlib.Core.Path.{sym, ◌∙◌, ap}
use Rattle.std.proofs.Common.{Some}
use Rattle.path_search.specs.Answer.{graph_of, usable_in, found_path}
use Rattle.path_search.specs.Paths.{route}
use Rattle.path_search.proofs.Picks.{found_at, found_nothing, walkable, route_is, route_none}
use Rattle.path_search.proofs.Network.search.Goals as goal

pub walk-requires-clause-walkable : goal.walk-requires-clause-walkable
walk-requires-clause-walkable c =
    let d = c.layers-layers.result.destination in
    walkable (graph_of c.args.self) (usable_in c.args.self) d c.args.source c.in-Some.count (found_at _ c.in-Some.count (sym c.fewest_links.ensures ∙ c.in-Some.is))

pub returns-in-Some-clause-path : goal.returns-in-Some-clause-path
returns-in-Some-clause-path c =
    let g = graph_of c.args.self in
    let u = usable_in c.args.self in
    let d = c.layers-layers.result.destination in
    ap Some c.walk.ensures
    ∙ sym (ap found_path (route_is g u d c.args.source c.in-Some.count (found_at _ c.in-Some.count (sym c.fewest_links.ensures ∙ c.in-Some.is))))
    ∙ ap (λ t. found_path (route g u t c.args.source)) c.layers-layers.ensures.destination

pub returns-in-None-clause-path : goal.returns-in-None-clause-path
returns-in-None-clause-path c =
    let g = graph_of c.args.self in
    let u = usable_in c.args.self in
    let d = c.layers-layers.result.destination in
    sym (ap found_path (route_none g u d c.args.source (found_nothing _ (sym c.fewest_links.ensures ∙ c.in-None.is))))
    ∙ ap (λ t. found_path (route g u t c.args.source)) c.layers-layers.ensures.destination

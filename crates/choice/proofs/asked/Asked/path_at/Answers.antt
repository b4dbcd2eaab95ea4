-- `path_at` meets its contract: the links of the set carry the span, and the route depends on nothing else.
use Rattle.std.proofs.Common.{ap, ◌∙◌}
use Rattle.units.specs.Sets.{has}
use Rattle.path_search.specs.Answer.{graph, found_path}
use Rattle.path_search.proofs.Agree.{route_agree}
use Rattle.choice.specs.Answer.{wanted, carried}
use Rattle.choice.proofs.Tries.{same_links}
use Rattle.choice.proofs.asked.Asked.path_at.Goals as goal

pub returns-clause-path : goal.returns-clause-path
returns-clause-path c =
    let a = c.args.self.now in
    let s = a.search.now in
    let g = graph s.ends in
    let links = c.links_at-links in
    let carry = carried (wanted s) a.table.events.now a.table.figures.now c.args.start.0 in
    c.path_over.ensures.path ∙ ap found_path (route_agree g g (has links.result.bits) carry (same_links s (has links.result.bits) carry links.ensures.links) s.destination s.source)

-- `possible_at` meets its contract: a start is possible if there is a path over the links that carry its span.
use Rattle.std.proofs.Common.{◌∙◌}
use Rattle.choice.specs.Answer.{wanted, carried}
use Rattle.choice.proofs.Tries.{leads_possible}
use Rattle.choice.proofs.asked.Asked.possible_at.Goals as goal

pub returns-clause-possible : goal.returns-clause-possible
returns-clause-possible c =
    let a = c.args.self.now in
    let s = a.search.now in
    let links = c.links_at-links in
    c.leads_over.ensures.leads ∙ leads_possible s links.result.bits (carried (wanted s) a.table.events.now a.table.figures.now) c.args.start.0 links.ensures.links

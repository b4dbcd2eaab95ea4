-- `leads_over` meets its contract: the links that are held are among those of the set, or a path is searched.
use Rattle.std.proofs.Common.{sym, ◌∙◌, subst}
use Rattle.units.specs.Sets.{has}
use Rattle.units.proofs.Sets.{all_common}
use Rattle.path_search.specs.Answer.{graph}
use Rattle.choice.specs.Known.{HeldKnown}
use Rattle.choice.proofs.Possible.{possible_more}
use Rattle.choice.proofs.Exits.{some_route}
use Rattle.choice.proofs.asked.Asked.leads_over.Goals as goal

pub returns-then-links-held-clause-leads : goal.returns-then-links-held-clause-leads
returns-then-links-held-clause-leads c =
    let s = c.args.self.now.search.now in
    let held = c.in-Some.held.bits in
    let links = c.args.links.bits in
    sym (possible_more (graph s.ends) (λ m. has held) (λ m. has links) s.source s.destination 0 0 (λ l. all_common links held l c.if-links-held.true)
    (subst (HeldKnown s) c.in-Some.is c.requires.held))

pub returns-clause-leads : goal.returns-clause-leads
returns-clause-leads c =
    let s = c.args.self.now.search.now in
    c.is_some.ensures ∙ some_route (graph s.ends) (λ m. has c.args.links.bits) s.source s.destination 0 c.path_over.result c.path_over.ensures.path

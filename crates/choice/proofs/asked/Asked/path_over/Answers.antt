-- `path_over` meets its contract: where the links lack each of the cut there is no path, and a path that is found can be held.
use Rattle.std.proofs.Common.{Option, sym, ap, ◌∙◌, subst}
use Rattle.units.specs.Sets.{has}
use Rattle.path_search.specs.declared.ends.LinkEnds.{LinkEnds}
use Rattle.path_search.specs.declared.Path.{Path}
use Rattle.path_search.specs.Paths.{route}
use Rattle.path_search.specs.Answer.{graph, found_path, path_in}
use Rattle.choice.specs.Known.{CutKnown}
use Rattle.units.proofs.Sets.{none_common}
use Rattle.choice.proofs.Tries.{held_leads}
use Rattle.choice.proofs.asked.Asked.path_over.Goals as goal

pub returns-then-links-cut-eq0-clause-path : goal.returns-then-links-cut-eq0-clause-path
returns-then-links-cut-eq0-clause-path c =
    let s = c.args.self.now.search.now in
    let cut = subst (CutKnown s) c.in-Some.is c.requires.cut in
    sym (ap found_path (cut (has c.args.links.bits) (λ l h e. none_common c.args.links.bits c.in-Some.cut.bits l c.if-links-cut-eq0.true e)))

pub returns-in-Along-clause-known : goal.returns-in-Along-clause-known
returns-in-Along-clause-known c =
    let s = c.args.self.now.search.now in
    let over : LinkEnds → Option Path = λ ends. found_path (route (graph ends) (has c.args.links.bits) s.destination s.source) in
    record {
      kept = c.requires.kept;
      cut = c.requires.cut;
      held = held_leads s (has c.args.links.bits) c.in-Along.path c.links_of.result.bits (sym (ap path_in c.in-Along.is) ∙ c.search.ensures.path ∙ ap over c.args.self.now.same_links) c.links_of.ensures;
    }

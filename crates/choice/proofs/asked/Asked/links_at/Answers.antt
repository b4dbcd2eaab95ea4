-- `links_at` meets its contract: the links that have enough throughout the span carry it.
use Rattle.std.proofs.Common.{ap, ◌∙◌}
use Rattle.free_table.specs.Looking.{enough_span}
use Rattle.choice.proofs.Exits.{clock, times}
use Rattle.choice.proofs.Lent.{enough_carries}
use Rattle.choice.proofs.asked.Asked.links_at.Goals as goal

pub returns-clause-links : goal.returns-clause-links
returns-clause-links c = λ l h.
    let a = c.args.self.now in
    let es = a.table.events.now in
    let t = a.table.figures.now in
    let s = a.search.now in
    c.throughout-bits.ensures.enough l h
    ∙ ap (λ end. enough_span es c.args.start.0 end l s.bandwidth.0 t) c.end_minute-end.ensures
    ∙ enough_carries (clock a) (times a) es t a.are_events l s.bandwidth.0 c.args.start.0 s.span.0 c.requires.askable.not_past s.lasts

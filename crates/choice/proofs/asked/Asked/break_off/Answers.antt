-- break_off meets its contract: some path lasts throughout the rows before the loop's.
use Rattle.std.proofs.Common.{◌≡◌, ◌+◌, length, sym, ap, ◌∙◌, subst, arith}
use Rattle.free_table.specs.Looking.{span_rows}
use Rattle.choice.proofs.LastingRows.{Looked, looked_first, looked_next, looked_broken, looked_all}
use Rattle.choice.proofs.asked.Asked.break_off.Goals as goal
use Rattle.choice.proofs.asked.Asked.break_off.Goals.{After-rows-first}

-- the rows are those of low's span
rows_are : (c : After-rows-first) → c.rows-first.result.1.now ≡ span_rows c.args.self.now.table.events.now c.args.low.0 (c.args.low.0 + c.args.self.now.search.now.span.0) c.args.self.now.table.figures.now
rows_are c = c.rows-first.ensures.rows ∙ ap (λ end. span_rows c.args.self.now.table.events.now c.args.low.0 end c.args.self.now.table.figures.now) c.end_minute-end.ensures

pub loop-row-init : goal.loop-row-init
loop-row-init c = record { looked = looked_first c.args.self.now c.args.low.0 c.rows-first.result.1.now; known = c.requires.known }

pub leads_over-requires : goal.leads_over-requires
leads_over-requires c = c.loop-row.invariant.known

pub returns-then-not-leads_over : goal.returns-then-not-leads_over
returns-then-not-leads_over c =
    c.row_minute.ensures
    ∙ looked_broken c.args.self.now c.args.low.0 c.requires.askable c.rows-first.result.1.now (rows_are (goal.at.returns-then-not-leads_over c).After-rows-first) c.loop-row.links.bits c.loop-row.row c.row_mask.result c.loop-row-test.true c.loop-row.invariant.looked c.row_mask.ensures
    (sym c.leads_over.ensures.leads ∙ c.if-not-leads_over.true)

pub loop-row-preserved : goal.loop-row-preserved
loop-row-preserved c =
    record {
      looked = looked_next c.args.self.now c.args.low.0 c.requires.askable c.rows-first.result.1.now (rows_are (goal.at.loop-row-preserved c).After-rows-first) c.loop-row.links.bits c.loop-row.row c.row_mask.result c.loop-row-test.true c.loop-row.invariant.looked c.row_mask.ensures
          (sym c.leads_over.ensures.leads ∙ c.if-not-leads_over.false);
      known = c.leads_over.ensures.known;
    }

pub returns : goal.returns
returns c =
    let rows = c.rows-first.result.1.now in
    let all : c.loop-row.row ≡ length rows = omega arith in
    c.end_minute-end.ensures
    ∙ looked_all c.args.self.now c.args.low.0 c.requires.askable rows (rows_are (goal.at.returns c).After-rows-first) c.loop-row.links.bits (subst (Looked c.args.self.now c.args.low.0 rows c.loop-row.links.bits) all c.loop-row.invariant.looked)

-- `first_missing` meets its contract: the first row that lacks the bandwidth, as its minute.
use Rattle.std.proofs.Common.{◌≡◌, List, ℕ, Some, None, cond, ltb, length, get_or, sym, ap, ◌∙◌, rules}
use borrow.Author.Tests.{tests}
use Rattle.std.specs.List.{position_or_len}
use Rattle.std.proofs.lemmas.Iterator.{YieldsList-from_slice}
use Rattle.std.proofs.lemmas.Iterator.Search.{position_from_yields_List}
use Rattle.free_table.specs.declared.missing.Missing.TheVariants.{At}
use Rattle.free_table.specs.Looking.{first_missing, minute_found, missing_of}
use Rattle.free_table.proofs.SpanRows.{found_at, lacking_is}
use Rattle.free_table.proofs.view.FreeTable.first_missing.Goals as goal
use Rattle.free_table.proofs.view.FreeTable.first_missing.Goals.{After-position}

-- what `position` answers is the row that the definition finds
row_is : (c : After-position) → missing_of (minute_found c.args.self.now.events.now c.args.minutes.start.0 (found_at c.position.result))
    ≡ missing_of (first_missing c.args.self.now.events.now c.args.minutes.start.0 c.args.minutes.end.0 c.args.link.0 c.args.bandwidth.0 c.args.self.now.figures.now)
unfolding first_missing
row_is c =
    let a = c.args in
    let test = λ (row : List ℕ). ltb (get_or row a.link.0 0) a.bandwidth.0 in
    let look = λ (rows : List (List ℕ)). cond (ltb (position_or_len test rows) (length rows)) (Some (position_or_len test rows)) None in
    let found = position_from_yields_List test _ _ _ c.position.ensures.ran (YieldsList-from_slice c.rows-first.result.1.now (cc)) (λ x b q k. search (rules, tests)) in
    ap (λ f. missing_of (minute_found a.self.now.events.now a.minutes.start.0 f))
    (lacking_is a.self.now.events.now a.minutes.start.0 a.minutes.end.0 a.self.now.figures.now a.link.0 a.bandwidth.0 c.requires c.position.result (found ∙ ap look c.rows-first.ensures.rows))

pub returns-in-Some : goal.returns-in-Some
returns-in-Some c =
    let a = c.args in
    ap (λ m. At (record { 0 = m })) c.row_minute.ensures
    ∙ ap (λ r. missing_of (minute_found a.self.now.events.now a.minutes.start.0 (found_at r))) (sym c.in-Some.is)
    ∙ row_is (goal.at.returns-in-Some c).After-position

pub returns-in-None : goal.returns-in-None
returns-in-None c =
    let a = c.args in
    ap (λ r. missing_of (minute_found a.self.now.events.now a.minutes.start.0 (found_at r))) (sym c.in-None.is)
    ∙ row_is (goal.at.returns-in-None c).After-position

-- `check_cancel` meets its contract: a number stands where it is found.
use mathlib.Core.Path.{sym, ap, ◌∙◌}
use mathlib.Core.Bool.{not}
use Rattle.rules.specs.Calls.{checked}
use Rattle.rules.proofs.Standing.{stands_found}
use Rattle.refusals.proofs.check_cancel.Goals as goal

pub returns-then-is_none : goal.returns-then-is_none
unfolding checked
returns-then-is_none c =
    let t = c.args.tables.now in
    simp (sym c.number_ok.ensures ∙ c.if-not-number_ok.false, stands_found t.head t.book.now c.args.number (sym c.find.ensures) ∙ c.is_none.ensures ∙ ap not c.if-is_none.true)

pub returns : goal.returns
unfolding checked
returns c =
    let t = c.args.tables.now in
    simp (sym c.number_ok.ensures ∙ c.if-not-number_ok.false, stands_found t.head t.book.now c.args.number (sym c.find.ensures) ∙ c.is_none.ensures ∙ ap not c.if-is_none.false)

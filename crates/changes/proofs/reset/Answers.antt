-- `reset` meets its contract: the clock and the capacities are written, and zeros else.
use Rattle.std.proofs.Common.{ap, ◌∙◌}
use borrow.Author.Rules.{rules}
use lib.ListN.{length}
use Rattle.free_table.specs.Figures.{all_free}
use Rattle.free_table.proofs.Tables.{all_free_part}
use Rattle.lent.specs.Lent.{tables_of}
use Rattle.rules.proofs.Tests.{Sized, sized_tells}
use Rattle.changes.proofs.Written.{bare_tables}
use Rattle.changes.proofs.reset.Goals as goal
use Rattle.changes.proofs.reset.Goals.{Start}

right : (s : Start) → let d = s.args.desk.now in Sized d.links.now (tables_of d)
right s = let d = s.args.desk.now in (sized_tells d.links.now (tables_of d)).0 s.requires.sized

pub returns-clause-tables : goal.returns-clause-tables
returns-clause-tables c =
    let d = c.args.desk.now in
    let at = goal.at.returns-clause-tables c in
    let capacities = c.column-capacities.ensures (λ l. l.capacity.0) (λ link value called. search rules) in
    bare_tables (right at.Start) c.args.guard.0
    c.reset_events.ensures
    (c.reset_free.ensures ∙ all_free_part (length d.free.now) (length d.links.now) _ ∙ ap (λ column. all_free (length d.free.now) (length d.links.now) column) capacities)
    (c.fill.ensures.after (λ y same. same))
    (c.fill-2.ensures.after (λ y same. same))

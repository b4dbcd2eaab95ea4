-- What is lent, read as tables, and that a desk still holds what it was lent.
use Rattle.std.specs.Prelude.{◌≡◌}
use Rattle.rules.specs.Tables.{Tables, lent}
use Rattle.lent.specs.declared.LentTables.{LentTables}
use Rattle.lent.specs.declared.Desk.{Desk}

abbrev pub tables_in : LentTables → Tables
tables_in t = lent t.head t.events.now t.free.now t.book.now t.totals.now

abbrev pub tables_of : Desk → Tables
tables_of d = lent d.head.now d.events.now d.free.now d.book.now d.totals.now

-- after a call a desk holds the loans that it held before, so that what it wrote stands where its owner lent it
pub record SameLoans (old new : Desk) : Type 0 where
  pub head : new.head.ghost_name ≡ old.head.ghost_name
  pub links : new.links ≡ old.links
  pub events : new.events.ghost_name ≡ old.events.ghost_name
  pub free : new.free.ghost_name ≡ old.free.ghost_name
  pub book : new.book.ghost_name ≡ old.book.ghost_name
  pub totals : new.totals.ghost_name ≡ old.totals.ghost_name

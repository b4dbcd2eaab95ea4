-- An order on sound tables leaves sound tables, whatever its bytes are.
use mathlib.Core.Path.{◌≡◌, sym, subst}
use mathlib.Core.List.{List}
use Prim.Native.Nat.{ℕ}
use Rattle.std.specs.Prelude.{Result, Ok, Err}
use Rattle.units.specs.declared.Link.{Link}
use Rattle.units.specs.declared.Refusal.{Refusal}
use Rattle.layout.specs.declared.Order.{Order}
use Rattle.layout.specs.Records.{order_read}
use Rattle.rules.specs.Tables.{Tables, Fine}
use Rattle.lent.specs.declared.Desk.{Desk}
use Rattle.lent.specs.Lent.{tables_of, SameLoans}
use Rattle.demands.proofs.Sound.{stays_sound}
use Rattle.orders.specs.Ordered.{call_of, by_reading, answered, ordered}

pub ordered_fine : {links : List Link} {t : Tables} (bytes : List ℕ) → Fine links t → Fine links (ordered links t bytes).tables
unfolding ordered answered
ordered_fine {links} {t} bytes f = by (order_read bytes)
  where
    by : (r : Result Order Refusal) → Fine links (by_reading links t r).tables
    by (Ok order) = stays_sound links t (call_of order) f
    by (Err refusal) = f

-- a desk that an order was answered on
pub left_fine : (old new : Desk) (bytes : List ℕ) → Fine old.links.now (tables_of old) → SameLoans old new → tables_of new ≡ (ordered old.links.now (tables_of old) bytes).tables → Fine new.links.now (tables_of new)
left_fine old new bytes f same e = subst (λ l. Fine l.now (tables_of new)) (sym same.links) (subst (Fine old.links.now) (sym e) (ordered_fine bytes f))

-- Moving the clock on drops what stands before it from the right tables of a plain book, and leaves those of the bookings that still
-- stand: an ended booking holds nothing from its end on, and its times are past.
use mathlib.Core.Path.{◌≡◌, refl, ap}
use mathlib.Core.List.{List, [], ◌∷◌, map, flatten}
use mathlib.Core.Bool.{Bool, true, false, ◌||◌}
use Prim.Native.Nat.{ℕ, ◌+◌, ◌-◌, ◌≤◌, ◌<◌}
use native.Mathlib.Omega.{arith}
use lib.Dec.{eqb, ltb}
use lib.ListN.{length}
use borrow.Author.Tests.{ne_eqb, ltb-false}
use Rattle.units.specs.declared.Link.{Link}
use Rattle.units.specs.Limits.{most_links}
use Rattle.units.specs.Lists.{member, sum, select, cons_if}
use Rattle.timeline.specs.Removal.{events_from, rows_from}
use Rattle.timeline.proofs.Removed.{events_from_events}
use Rattle.free_table.proofs.Tables.{table_from}
use Rattle.rules.specs.Plain.{Booking, Plain, until, uses, times, capacity, free}
use Rattle.rules.specs.Calls.{move_to}
use Rattle.rules.specs.Tables.{events_of}
use Rattle.rules.proofs.Uses.{uses_behind, free_changes}
use Rattle.changes.specs.Holding.{events_in, free_in}
use Rattle.changes.specs.Holding.{times_of}

module _ (p : Plain) (m : ℕ) where
  abbrev stands : Booking → Bool
  stands b = ltb m (until p b)

  -- what is taken from m on is taken by those that stand then
  taken_standing : (bs : List Booking) (l x : ℕ) → m ≤ x → sum (map (λ b. uses p b l x) bs) ≡ sum (map (λ b. uses p b l x) (select stands bs))
  unfolding sum select
  taken_standing [] l x h = refl
  taken_standing (b ∷ bs) l x h = by (stands b) refl (taken_standing bs l x h)
    where
      by : (t : Bool) → stands b ≡ t → sum (map (λ b. uses p b l x) bs) ≡ sum (map (λ b. uses p b l x) (select stands bs))
          → sum (map (λ b. uses p b l x) (b ∷ bs)) ≡ sum (map (λ b. uses p b l x) (cons_if t b (select stands bs)))
      by true e ih = ap (λ y. uses p b l x + y) ih
      by false e ih = let over = ltb-false m (until p b) e in omega (arith, uses_behind p b l x (omega arith), ih)

  -- and a later minute is a time of one of them
  times_standing : (bs : List Booking) (x : ℕ) → m < x → member x (flatten (map (times p) bs)) ≡ member x (flatten (map (times p) (select stands bs)))
  unfolding member flatten select
  times_standing [] x h = refl
  times_standing (b ∷ bs) x h = by (stands b) refl (times_standing bs x h)
    where
      by : (t : Bool) → stands b ≡ t → member x (flatten (map (times p) bs)) ≡ member x (flatten (map (times p) (select stands bs)))
          → member x (flatten (map (times p) (b ∷ bs))) ≡ member x (flatten (map (times p) (cons_if t b (select stands bs))))
      by true e ih = ap (λ y. eqb x b.grant.start || (eqb x (until p b) || y)) ih
      by false e ih =
          let over = ltb-false m (until p b) e in
          let before : (x ≡ b.grant.start → ⊥) = (λ q. omega arith) in
          let end : (x ≡ until p b → ⊥) = (λ q. omega arith) in
          rw (ne_eqb x b.grant.start before, ne_eqb x (until p b) end) ih

  module _ (n : ℕ) (links : List Link) (small : length links ≤ most_links) (few : length (events_of p) ≤ n) (onward : p.clock ≤ m) where
    pub events_moved : events_from m (events_in n p) ≡ events_in n (move_to m p)
    events_moved = events_from_events n p.clock m (times_of p) (times_of (move_to m p)) few onward (times_standing p.bookings)

    pub free_moved : rows_from most_links (events_in n p) m (free_in n links p) ≡ free_in n links (move_to m p)
    free_moved =
        table_from n (length links) (free links p) small p.clock (times_of p) (λ l h. free_changes links p l) (free links (move_to m p)) m (times_of (move_to m p)) few onward (times_standing p.bookings)
        (λ l x h a. ap (λ y. capacity links l - y) (taken_standing p.bookings l x a))

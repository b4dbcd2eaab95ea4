-- The times of the bookings of a head and a book table, place by place.
use mathlib.Core.Path.{◌≡◌, refl, sym, ap, ap₂, ◌∙◌}
use mathlib.Core.List.{List, map, flatten}
use mathlib.Core.Bool.{Bool, true, false, ◌||◌}
use Prim.Native.Nat.{ℕ, suc, ◌-◌, ◌≤◌, ◌<◌}
use native.Mathlib.Omega.{arith}
use lib.Dec.{eqb}
use Rattle.units.specs.declared.Head.{Head}
use Rattle.units.specs.Lists.{member}
use Rattle.book.specs.declared.Booking.{Booking as Place}
use Rattle.book.specs.Places.{booking_in}
use Rattle.rules.specs.Plain.{times}
use Rattle.rules.specs.Tables.{held_by}
use Rattle.rules.proofs.Standing.{bookings_from, all_from, none_from, next_from}
use Rattle.changes.specs.Holding.{release_of}
use Rattle.changes.specs.Holding.{times_of}

-- those of the places from i on
abbrev pub times_from : Head → List ℕ → ℕ → List ℕ
times_from head book i = flatten (map (times (held_by head book)) (bookings_from head book i))

module _ (head : Head) (book : List ℕ) where
  pub times_all : times_from head book 0 ≡ times_of (held_by head book)
  times_all = ap (λ bs. flatten (map (times (held_by head book)) bs)) (all_from head book)

  pub times_none : (m : ℕ) → false ≡ member m (times_from head book head.bookings)
  unfolding flatten member
  times_none m = sym (ap (λ bs. member m (flatten (map (times (held_by head book)) bs))) (none_from head book))

  either : (found x y : Bool) → (found || (x || y)) ≡ (x || (y || found))
  either true true y = refl
  either true false true = refl
  either true false false = refl
  either false true y = refl
  either false false true = refl
  either false false false = refl

  -- the booking of the place before
  pub times_before : (m place : ℕ) {found : Bool} {b : Place} → 0 < place → place ≤ head.bookings → b ≡ booking_in book (place - 1) → found ≡ member m (times_from head book place)
      → (found || (eqb m b.start.0 || eqb m (release_of head b))) ≡ member m (times_from head book (place - 1))
  unfolding flatten member
  times_before m place {found} {b} some inside is so_far =
      let next : suc (place - 1) ≡ place = omega arith in
      either found (eqb m b.start.0) (eqb m (release_of head b))
      ∙ ap₂ (λ (d : Place) t. eqb m d.start.0 || (eqb m (release_of head d) || t)) is (so_far ∙ ap (λ k. member m (times_from head book k)) (sym next))
      ∙ sym (ap (λ bs. member m (flatten (map (times (held_by head book)) bs))) (next_from head book (place - 1) (omega arith)))

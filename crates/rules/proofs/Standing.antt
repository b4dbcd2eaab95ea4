-- The bookings that a head and a book table hold: how many they are, those of the places from one on, and that a number stands exactly
-- where it is found.
use mathlib.Core.Path.{◌≡◌, refl, sym, ◌∙◌, ap}
use mathlib.Core.List.{List, [], ◌∷◌, map}
use mathlib.Core.Bool.{Bool, true, false, cond, ◌||◌}
use Prim.Native.Nat.{ℕ, zero, suc, ◌+◌, ◌-◌, ◌<◌}
use native.Mathlib.Omega.{arith}
use lib.Dec.{eqb}
use borrow.Author.Tests.{eq-eqb, ne_eqb, eqb-true, eqb-false}
use lib.ListN.{length, length-map}
use Rattle.std.specs.Option.{is_some}
use Rattle.std.specs.Prelude.{Option, Some}
use Rattle.std.specs.List.{position_from}
use Rattle.std.proofs.lemmas.Iterator.Adapters.{position_from-zero}
use Rattle.units.specs.declared.Head.{Head}
use Rattle.units.specs.Limits.{place_size}
use Rattle.units.specs.Lists.{member, count_from}
use Rattle.units.proofs.Padded.{length_count}
use Rattle.places.specs.Places.{number_at, find}
use Rattle.rules.specs.Plain.{Booking}
use Rattle.rules.specs.Calls.{stands}
use Rattle.rules.specs.Tables.{booking_at, held_by}

-- as many bookings are read as the head says
pub count_read : (head : Head) (book : List ℕ) → length (held_by head book).bookings ≡ head.bookings
count_read head book = length-map (count_from 0 head.bookings) _ ∙ length_count 0 head.bookings

-- ---- the places from i on

abbrev pub bookings_from : Head → List ℕ → ℕ → List Booking
bookings_from head book i = map (booking_at book) (count_from i (head.bookings - i))

module _ (head : Head) (book : List ℕ) where
  pub length_from : (i : ℕ) → length (bookings_from head book i) ≡ head.bookings - i
  length_from i = length-map (count_from i (head.bookings - i)) (booking_at book) ∙ length_count i (head.bookings - i)

  pub all_from : bookings_from head book 0 ≡ (held_by head book).bookings
  all_from = let e : head.bookings - 0 ≡ head.bookings = omega arith in ap (λ k. map (booking_at book) (count_from 0 k)) e

  pub none_from : bookings_from head book head.bookings ≡ []
  unfolding count_from
  none_from = let e : head.bookings - head.bookings ≡ 0 = omega arith in ap (λ k. map (booking_at book) (count_from head.bookings k)) e

  pub next_from : (i : ℕ) → i < head.bookings → bookings_from head book i ≡ booking_at book i ∷ bookings_from head book (suc i)
  unfolding count_from
  next_from i h = let e : head.bookings - i ≡ suc (head.bookings - suc i) = omega arith in ap (λ k. map (booking_at book) (count_from i k)) e

-- ---- a number stands exactly where it is found

number_found : (places : List ℕ) (x i n from : ℕ) → stands x (map (booking_at places) (count_from i n)) ≡ is_some (position_from (λ m. eqb m x) from (map (number_at place_size places) (count_from i n)))
unfolding member count_from
number_found places x i zero from = refl
number_found places x i (suc n) from = by (eqb (number_at place_size places i) x) refl _ (number_found places x (suc i) n (from + 1))
  where
    rest : Bool
    rest = stands x (map (booking_at places) (count_from (suc i) n))

    by : (t : Bool) → eqb (number_at place_size places i) x ≡ t → (behind : Option ℕ) → rest ≡ is_some behind → (eqb x (number_at place_size places i) || rest) ≡ is_some (cond t (Some from) behind)
    by true e behind ih = ap (λ b. b || rest) (eq-eqb x (number_at place_size places i) (sym (eqb-true (number_at place_size places i) x e)))
    by false e behind ih = ap (λ b. b || rest) (ne_eqb x (number_at place_size places i) (λ q. eqb-false (number_at place_size places i) x e (sym q))) ∙ ih

pub stands_found : (head : Head) (places : List ℕ) (x : ℕ) {s : Option ℕ} → find place_size x places head.bookings ≡ s → stands x (held_by head places).bookings ≡ is_some s
unfolding find
stands_found head places x e = number_found places x 0 head.bookings 0 ∙ ap is_some (sym (position_from-zero (λ m. eqb m x) _) ∙ e)

-- The work of ended bookings dropped place by place: at each place, what is left of the totals and what those behind still sell of
-- them is what the standing ones sell and what those behind sell now.
use mathlib.Core.Path.{◌≡◌, refl, sym, ap, ap₂, ◌∙◌}
use mathlib.Core.List.{List, [], ◌∷◌}
use mathlib.Core.Bool.{Bool, true, false, cond}
use Prim.Native.Nat.{ℕ, suc, ◌+◌, ◌-◌, ◌*◌, ◌≤◌, ◌<◌}
use native.Mathlib.Numerals.{add-one}
use native.Mathlib.Omega.{arith}
use lib.Dec.{ltb}
use lib.ListN.{length, get_or}
use lib.Seq.{ext_get_or}
use Rattle.units.specs.Along.{less_along}
use Rattle.units.specs.declared.Head.{Head}
use Rattle.units.specs.Limits.{most_totals}
use Rattle.units.specs.Lists.{sum, select, cons_if}
use Rattle.units.proofs.Parts.{select_part, map_part, sum_part}
use Rattle.book.specs.Places.{booking_in, place_path}
use Rattle.rules.specs.Plain.{Booking, until, work, sold_by}
use Rattle.rules.specs.Tables.{booking_at, held_by}
use Rattle.rules.proofs.Standing.{bookings_from, all_from, none_from, next_from}
use Rattle.totals.specs.Totals.{place_work, without_ended, still_standing, totals_of, WorkRight, CanTotal}
use Rattle.units.proofs.Along.{length_less, less_at}
use Rattle.totals.proofs.Totals.{length_sums, sum_at}

module _ (head : Head) (book : List ℕ) where
  abbrev stands : Booking → Bool
  stands b = ltb head.clock.0 (until (held_by head book) b)

  -- those that stand of the places from i on
  abbrev standing_from : ℕ → List Booking
  standing_from i = select stands (bookings_from head book i)

  pub record Dropped (i : ℕ) (t : List ℕ) : Type 0 where
    pub sized : length t ≡ most_totals
    pub rest : (l : ℕ) → l < most_totals → get_or t l 0 + sold_by (standing_from i) l ≡ sold_by (still_standing head book) l + sold_by (bookings_from head book i) l

  -- the standing ones sell no more than all
  fewer : (i l : ℕ) → sold_by (standing_from i) l ≤ sold_by (bookings_from head book i) l
  fewer i l = sum_part (map_part (λ b. work b l) (select_part stands (bookings_from head book i)))

module _ {head : Head} {book : List ℕ} (can : CanTotal head book) where
  pub dropped_none : {t : List ℕ} → t ≡ totals_of (held_by head book).bookings → Dropped head book 0 t
  dropped_none {t} e =
      let all = all_from head book in
      record {
        sized = ap length e ∙ length_sums (held_by head book).bookings;
        rest = λ l h. rw (all, e, sum_at (held_by head book).bookings l h) (omega arith);
      }

  pub dropped_all : {t : List ℕ} → Dropped head book head.bookings t → t ≡ totals_of (still_standing head book)
  unfolding sum select
  dropped_all {t} d =
      ext_get_or 0 t (totals_of (still_standing head book)) (d.sized ∙ sym (length_sums (still_standing head book)))
      (λ l inside. let h : l < most_totals = omega (arith, d.sized) in at_end l h ∙ sym (sum_at (still_standing head book) l h))
    where
      at_end : (l : ℕ) → l < most_totals → get_or t l 0 ≡ sold_by (still_standing head book) l
      at_end l h = let r = rw none_from at (d.rest l h) in omega arith

  module _ (i : ℕ) (inside : i < head.bookings) {t : List ℕ} (d : Dropped head book i t) where
    abbrev b : Booking
    b = booking_at book i

    right : WorkRight (booking_in book i)
    right = can.places_right i inside

    -- the totals that one place more leaves, where its booking stands or not
    next : (s : Bool) → stands head book b ≡ s → Dropped head book (suc i) (cond s t (less_along (place_work (booking_in book i)) (place_path (booking_in book i)) t))
    unfolding sum select
    next true e = record {
      sized = d.sized;
      rest = λ l h. let r = rw (next_from head book i inside, e) at (d.rest l h) in omega arith;
    }
    next false e = record {
      sized = length_less (place_work (booking_in book i)) (place_path (booking_in book i)) t ∙ d.sized;
      rest = λ l h.
          let r = rw (next_from head book i inside, e) at (d.rest l h) in
          rw (less_at (place_work (booking_in book i)) (place_path (booking_in book i)) t right.links_differ (rw d.sized right.links_right) l) (omega (arith, r, fewer head book (suc i) l));
    }

    pub dropped_next : {after : List ℕ} → after ≡ without_ended head (booking_in book i) t → Dropped head book (i + 1) after
    dropped_next {after} e = rw (e, add-one) (next (stands head book b) refl)

-- The totals of a list of bookings: one booking more, the most that they can be, and those of the places of a book.
use mathlib.Core.Path.{◌≡◌, sym, ap, ◌∙◌}
use mathlib.Core.List.{List, [], ◌∷◌, append-nil}
use Prim.Native.Nat.{ℕ, suc, ◌+◌, ◌-◌, ◌*◌, ◌≤◌, ◌<◌}
use native.Mathlib.Decide.{dec_lt}
use native.Mathlib.Omega.{arith}
use lib.ListN.{length, get_or, replicate, length-map, get_or-eq_default}
use lib.Seq.{ext_get_or}
use Rattle.units.specs.declared.Head.{Head}
use Rattle.units.specs.Limits.{most_totals, most_bookings}
use Rattle.units.specs.Lists.{sum, count_from, All}
use Rattle.units.specs.Work.{most_work}
use Rattle.units.proofs.Parts.{counted_all}
use Rattle.units.proofs.Padded.{length_count, count_at}
use Rattle.book.specs.declared.Booking.{Booking as Place}
use Rattle.book.specs.Places.{booking_in, place_path}
use Rattle.rules.specs.Plain.{Booking, sold_by}
use Rattle.rules.specs.Tables.{booking_of, booking_at}
use Rattle.units.specs.Along.{more_along, less_along}
use Rattle.units.proofs.Along.{length_more, more_at, length_less, less_at}
use Rattle.totals.specs.Totals.{place_work, totals_of, AtMost, WorkRight, CanTotal}
use Rattle.rules.proofs.Totals.{WorkFits, sold_by_most}
use Rattle.rules.proofs.Standing.{bookings_from, length_from, none_from, next_from}

pub length_sums : (bs : List Booking) → length (totals_of bs) ≡ most_totals
length_sums bs = length-map (count_from 0 most_totals) (sold_by bs) ∙ length_count 0 most_totals

pub sum_at : (bs : List Booking) (l : ℕ) → l < most_totals → get_or (totals_of bs) l 0 ≡ sold_by bs l
sum_at bs l h =
    ap (λ (t : List ℕ). get_or t l 0) (sym (append-nil (totals_of bs))) ∙ count_at 0 (sold_by bs) [] 0 most_totals l h ∙ (let z : 0 + l ≡ l = omega arith in ap (sold_by bs) z)

-- ---- one booking more

pub more_totals : (b : Place) → WorkRight b → (bs : List Booking) → more_along (place_work b) (place_path b) (totals_of bs) ≡ totals_of (booking_of b ∷ bs)
unfolding sum
more_totals b r bs = ext_get_or 0 more (totals_of (booking_of b ∷ bs)) (length_of_more ∙ sym (length_sums (booking_of b ∷ bs))) (λ l inside. at (omega (arith, length_of_more)))
  where
    more : List ℕ
    more = more_along (place_work b) (place_path b) (totals_of bs)

    length_of_more : length more ≡ most_totals
    length_of_more = length_more (place_work b) (place_path b) (totals_of bs) ∙ length_sums bs

    at : {l : ℕ} → l < most_totals → get_or more l 0 ≡ get_or (totals_of (booking_of b ∷ bs)) l 0
    at {l} h =
        more_at (place_work b) (place_path b) (totals_of bs) r.links_differ (rw length_sums r.links_right) l
        ∙ rw (sum_at bs l h, sum_at (booking_of b ∷ bs) l h) (omega arith)

-- ---- one booking less

pub less_totals : (b : Place) → WorkRight b → (bs : List Booking) → less_along (place_work b) (place_path b) (totals_of (booking_of b ∷ bs)) ≡ totals_of bs
unfolding sum
less_totals b r bs = ext_get_or 0 fewer (totals_of bs) (length_of_fewer ∙ sym (length_sums bs)) (λ l inside. at (omega (arith, length_of_fewer)))
  where
    fewer : List ℕ
    fewer = less_along (place_work b) (place_path b) (totals_of (booking_of b ∷ bs))

    length_of_fewer : length fewer ≡ most_totals
    length_of_fewer = length_less (place_work b) (place_path b) (totals_of (booking_of b ∷ bs)) ∙ length_sums (booking_of b ∷ bs)

    at : {l : ℕ} → l < most_totals → get_or fewer l 0 ≡ get_or (totals_of bs) l 0
    at {l} h =
        less_at (place_work b) (place_path b) (totals_of (booking_of b ∷ bs)) r.links_differ (rw length_sums r.links_right) l
        ∙ rw (sum_at bs l h, sum_at (booking_of b ∷ bs) l h) (omega arith)

-- ---- the most that they can be

pub totals_most : (bs : List Booking) → All WorkFits bs → AtMost (length bs) (totals_of bs)
totals_most bs a l = elim (dec_lt l most_totals) [ yes h ↦ rw (sum_at bs l h) (sold_by_most bs a l) | no h ↦ past (omega arith) ]
  where
    past : most_totals ≤ l → get_or (totals_of bs) l 0 ≤ length bs * most_work
    past h = let none : get_or (totals_of bs) l 0 ≡ 0 = get_or-eq_default (totals_of bs) 0 (omega (arith, length_sums bs)) in omega arith

-- ---- the places from i on

module _ {head : Head} {book : List ℕ} (can : CanTotal head book) where
  all_fit : (i : ℕ) → All WorkFits (bookings_from head book i)
  all_fit i = counted_all (booking_at book) WorkFits i (head.bookings - i) (λ j a h. (can.places_right j (omega arith)).work_right)

  -- no booking
  pub no_totals : totals_of (bookings_from head book head.bookings) ≡ replicate most_totals 0
  unfolding count_from sum
  no_totals = ap totals_of (none_from head book)

  module _ (place : ℕ) (inside : place ≤ head.bookings) where
    pub few_totals : AtMost most_bookings (totals_of (bookings_from head book place))
    few_totals l =
        let most = totals_most (bookings_from head book place) (all_fit place) l in
        omega (arith, most, length_from head book place, can.few_bookings)

    -- the booking of the place before
    pub totals_before : 0 < place → let b = booking_in book (place - 1) in
        more_along (place_work b) (place_path b) (totals_of (bookings_from head book place)) ≡ totals_of (bookings_from head book (place - 1))
    totals_before some =
        let next : suc (place - 1) ≡ place = omega arith in
        more_totals (booking_in book (place - 1)) (can.places_right (place - 1) (omega arith)) (bookings_from head book place)
        ∙ ap (λ k. totals_of (booking_at book (place - 1) ∷ bookings_from head book k)) (sym next)
        ∙ ap totals_of (sym (next_from head book (place - 1) (omega arith)))

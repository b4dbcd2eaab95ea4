-- The checks of a booking are those of an offer with its number before and the book behind them: which one stops it.
use mathlib.Core.Path.{◌≡◌, refl, ◌∙◌}
use mathlib.Core.List.{List, [], ◌∷◌}
use mathlib.Core.Bool.{Bool, true, false, not, ◌&&◌}
use Prim.Native.Nat.{ℕ, ◌≤◌, ◌<◌}
use lib.Dec.{leb, eqb, ltb}
use borrow.Author.Tests.{lt-ltb, le-ltb}
use native.Mathlib.Omega.{arith}
use lib.ListN.{length}
use Rattle.units.specs.declared.Request.{Request}
use Rattle.units.specs.declared.Link.{Link}
use Rattle.units.specs.declared.Head.{Head}
use Rattle.units.specs.Limits.{most_bookings, list_size}
use Rattle.rules.specs.Calls.{Ask, Check, check, checked, first_refusal, stands, number_ok, request_ok, own_checks}
use Rattle.rules.specs.Plain.{Plain, low}
use Rattle.rules.specs.Tables.{held_by}
use Rattle.rules.proofs.Standing.{count_read}

-- a number in range: where an offer is not stopped, the book decides
pub left_to_book : (fields window : Bool) (behind : List Check) → first_refusal (check 4 fields ∷ check 5 window ∷ []) ≡ 0
    → first_refusal (check 4 (true && fields) ∷ check 5 window ∷ behind) ≡ first_refusal behind
unfolding checked
left_to_book true true behind h = refl
left_to_book true false behind h = absurd (let z : ◌≡◌ {A = ℕ} 5 0 = h in omega arith)
left_to_book false window behind h = absurd (let z : ◌≡◌ {A = ℕ} 4 0 = h in omega arith)

-- a listing whose list fits is checked as an offer
pub listed_as_offer : (links : List Link) (p : Plain) (n : ℕ) (r : Request) → eqb n list_size ≡ true → first_refusal (own_checks links p (Ask.list n r)) ≡ first_refusal (own_checks links p (Ask.offer r))
unfolding checked
listed_as_offer links p n r e = rw e

-- which check stops a booking whose number is in range
module _ (head : Head) (places : List ℕ) (number : ℕ) (request : Request) (in_range : number_ok number ≡ true) where
  -- the number that the offer's checks give, and the booking's
  abbrev pub as_offer : ℕ
  as_offer = first_refusal (own_checks [] (held_by head []) (Ask.offer request))

  abbrev pub as_booking : ℕ
  as_booking = first_refusal (own_checks [] (held_by head places) (Ask.book number request))

  abbrev in_window : Bool
  in_window = leb (low (held_by head []) request) request.latest.0

  -- what the book decides
  abbrev behind : List Check
  behind = check 6 (not (stands number (held_by head places).bookings)) ∷ check 7 (ltb (length (held_by head places).bookings) most_bookings) ∷ []

  module _ (passes : as_offer ≡ 0) where
    pub number_stands : stands number (held_by head places).bookings ≡ true → as_booking ≡ 6
    unfolding checked
    number_stands e = rw in_range (left_to_book (request_ok request) in_window behind passes ∙ rw e)

    pub book_full : stands number (held_by head places).bookings ≡ false → most_bookings ≤ head.bookings → as_booking ≡ 7
    unfolding checked
    book_full e h = rw in_range (left_to_book (request_ok request) in_window behind passes ∙ rw (e, count_read head places, le-ltb head.bookings most_bookings h))

    pub booking_passes : stands number (held_by head places).bookings ≡ false → head.bookings < most_bookings → as_booking ≡ 0
    unfolding checked
    booking_passes e h = rw in_range (left_to_book (request_ok request) in_window behind passes ∙ rw (e, count_read head places, lt-ltb head.bookings most_bookings h))

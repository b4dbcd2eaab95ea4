-- What the bookings of a set of places use: one place of the set after the other, added or taken off.
use mathlib.Core.Path.{◌≡◌, refl, sym, ap, ◌∙◌}
use mathlib.Core.List.{List}
use mathlib.Core.Bool.{Bool, true, false, ◌&&◌, not}
use Prim.Native.Nat.{ℕ, zero, suc, ◌+◌, ◌-◌, ◌^◌, ◌≤◌, ◌<◌}
use native.Mathlib.Omega.{arith}
use lib.Dec.{eqb}
use lib.ListN.{length, get_or}
use borrow.Author.Tests.{eq-eqb, ne_eqb}
use Rattle.std.specs.Int.{trailing_zeros}
use Rattle.std.specs.Int.Bits.{bit_and}
use mir.Syntax.{w64}
use Rattle.units.specs.declared.Head.{Head}
use Rattle.units.specs.Limits.{most_links, most_bookings}
use Rattle.units.specs.Lists.{if_so, All}
use Rattle.units.specs.Sets.{has}
use Rattle.units.specs.Along.{more_along, less_along}
use Rattle.units.proofs.Along.{length_more, length_less, more_at, less_at}
use Rattle.units.proofs.Sets.{has_none, has_rest, lowest_is, Lowest}
use Rattle.units.proofs.Parts.{all_in}
use Rattle.units.proofs.Tests.{member_tells}
use Rattle.book.specs.Places.{booking_in, place_path}
use Rattle.row_changes.specs.Changes.{PlaceFits, BookFits, use_of, sum_below, used_by, Counted}
use Rattle.row_changes.proofs.Sums.{sum_one}

-- the sum over a set is its lowest term and the sum over the rest
pub sum_rest : (set i : ℕ) (f : ℕ → ℕ) → Lowest set i → i < most_bookings
    → sum_below most_bookings (λ j. if_so (has set j) (f j)) ≡ sum_below most_bookings (λ j. if_so (has (bit_and set (set - 1)) j) (f j)) + f i
sum_rest set i f low inside =
    sum_one most_bookings (λ j. if_so (has set j) (f j)) (λ j. if_so (has (bit_and set (set - 1)) j) (f j)) i (f i) inside
    (rw (has_rest set i low i, low.in_set, eq-eqb i i refl) (omega arith))
    (λ j h d. rw (has_rest set i low j, ne_eqb j i d) (ap (λ b. if_so b (f j)) (sym (and_true (has set j)))))
  where
    and_true : (b : Bool) → (b && true) ≡ b
    and_true true = refl
    and_true false = refl

-- the place of the booking that is next, and what is left behind it
abbrev pub next_of : ℕ → ℕ
next_of left = trailing_zeros w64 left

abbrev pub next_path : List ℕ → ℕ → List ℕ
next_path book left = place_path (booking_in book (next_of left))

abbrev pub next_bandwidth : List ℕ → ℕ → ℕ
next_bandwidth book left = (booking_in book (next_of left)).bandwidth.0

abbrev pub rest_of : ℕ → ℕ
rest_of left = bit_and left (left - 1)

module _ {head : Head} {book : List ℕ} (fits : BookFits head book) {left : ℕ} (counted : Counted head left) (some : 0 < left) (word : left < 2 ^ 64) where
  lowest : Lowest left (next_of left)
  lowest = (lowest_is w64 left some word).1

  pub next_inside : next_of left < head.bookings
  next_inside = counted (next_of left) lowest.in_set

  pub next_fits : PlaceFits (booking_in book (next_of left))
  next_fits = fits.places_right (next_of left) next_inside

  rest_counted : Counted head (rest_of left)
  rest_counted i h = counted i (and_left (has left i) (not (eqb i (next_of left))) (sym (has_rest left (next_of left) lowest i) ∙ h))
    where
      and_left : (b c : Bool) → (b && c) ≡ true → b ≡ true
      and_left true c e = refl
      and_left false c e = e

  rest_uses : (l : ℕ) → used_by book left l ≡ used_by book (rest_of left) l + use_of book l (next_of left)
  rest_uses l = sum_rest left (next_of left) (use_of book l) lowest (omega (arith, next_inside, fits.few_bookings))

-- what is left of the set is still to add
pub record Adds (head : Head) (book : List ℕ) (places left : ℕ) (before t : List ℕ) : Type 0 where
  pub counted : Counted head left
  pub sized : length t ≡ most_links
  pub sum : (l : ℕ) → get_or t l 0 + used_by book left l ≡ get_or before l 0 + used_by book places l

-- and to take off
pub record Releases (head : Head) (book : List ℕ) (places left : ℕ) (before t : List ℕ) : Type 0 where
  pub counted : Counted head left
  pub sized : length t ≡ most_links
  pub sum : (l : ℕ) → get_or t l 0 + used_by book places l ≡ get_or before l 0 + used_by book left l

module _ {head : Head} {book : List ℕ} (fits : BookFits head book) {places left : ℕ} {before t : List ℕ} (some : 0 < left) (word : left < 2 ^ 64) where
  pub adds_next : Adds head book places left before t → Adds head book places (rest_of left) before (more_along (next_bandwidth book left) (next_path book left) t)
  adds_next a = let b = next_fits fits a.counted some word in record {
    counted = rest_counted fits a.counted some word;
    sized = length_more (next_bandwidth book left) (next_path book left) t ∙ a.sized;
    sum = λ l. omega (arith, more_at (next_bandwidth book left) (next_path book left) t b.links_differ (rw a.sized b.links_right) l, rest_uses fits a.counted some word l, a.sum l);
  }

  -- the links of the next have enough
  next_used : (r : Releases head book places left before t) → ((l : ℕ) → used_by book places l ≤ get_or before l 0) → (l : ℕ) → use_of book l (next_of left) ≤ get_or t l 0
  next_used r enough l = omega (arith, rest_uses fits r.counted some word l, r.sum l, enough l)

  pub next_enough : Releases head book places left before t → ((l : ℕ) → used_by book places l ≤ get_or before l 0) → All (λ l. next_bandwidth book left ≤ get_or t l 0) (next_path book left)
  next_enough r enough =
      all_in (λ l. next_bandwidth book left ≤ get_or t l 0) (next_path book left)
      (λ l m. omega (arith, next_used r enough l, ap (λ b. if_so b (next_bandwidth book left)) ((member_tells l (next_path book left)).1 m)))

  pub releases_next : Releases head book places left before t → ((l : ℕ) → used_by book places l ≤ get_or before l 0) → Releases head book places (rest_of left) before (less_along (next_bandwidth book left) (next_path book left) t)
  releases_next r enough = let b = next_fits fits r.counted some word in record {
    counted = rest_counted fits r.counted some word;
    sized = length_less (next_bandwidth book left) (next_path book left) t ∙ r.sized;
    sum = λ l. omega (arith, less_at (next_bandwidth book left) (next_path book left) t b.links_differ (rw r.sized b.links_right) l, rest_uses fits r.counted some word l, r.sum l, next_used r enough l);
  }

-- where no place is left, nothing is
sum_none : (n : ℕ) (f : ℕ → ℕ) → sum_below n (λ i. if_so (has 0 i) (f i)) ≡ 0
unfolding sum_below
sum_none zero f = refl
sum_none (suc n) f = rw (has_none n, sum_none n f) refl

nothing_left : (book : List ℕ) (left : ℕ) → left ≡ 0 → (l : ℕ) → used_by book left l ≡ 0
nothing_left book left none l = ap (λ set. used_by book set l) none ∙ sum_none most_bookings (use_of book l)

module _ {head : Head} {book : List ℕ} {places left : ℕ} {before t : List ℕ} (none : left ≡ 0) where
  pub all_added : Adds head book places left before t → (l : ℕ) → get_or t l 0 ≡ get_or before l 0 + used_by book places l
  all_added a l = omega (arith, a.sum l, nothing_left book left none l)

  pub all_released : Releases head book places left before t → (l : ℕ) → get_or t l 0 + used_by book places l ≡ get_or before l 0
  all_released r l = omega (arith, r.sum l, nothing_left book left none l)

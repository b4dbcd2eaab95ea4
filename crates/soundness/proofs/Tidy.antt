-- A place whose path is tidy has the figures of the booking that it holds; a book of right bookings in rising order whose
-- places are tidy and whose other figures are zero is the book table of the bookings that it holds.
use mathlib.Core.Path.{◌≡◌, refl, sym, ap, ap₂, ◌∙◌, subst}
use mathlib.Core.List.{List, [], ◌∷◌, ◌++◌, map, flatten}
use mathlib.Core.Bool.{Bool, true, ◌&&◌, and-eq-true_iff}
use Prim.Native.Nat.{ℕ, zero, suc, ◌+◌, ◌-◌, ◌*◌, ◌≤◌, ◌<◌}
use native.Mathlib.Numerals.{add-one}
use native.Mathlib.Omega.{arith}
use lib.Dec.{ltb, eqb}
use lib.ListN.{length, take, drop, replicate, length-take, length-drop, take-append-drop}
use lib.Seq.{take_at, drop_at, length-take-le}
use Rattle.units.specs.declared.Link.{Link}
use Rattle.units.specs.declared.Head.{Head}
use Rattle.units.specs.Limits.{most_hops, most_bookings, place_size}
use Rattle.units.specs.Lists.{count_from, padded, all, All}
use Rattle.units.proofs.Tests.{Tells, ◌&◌, at_most, less_than, equals, all_tells, equal_tells, Rising, rising_tells, Side, below, above, side, same_test}
use Rattle.units.proofs.Padded.{padded_append}
use Rattle.book.specs.declared.Booking.{Booking as Place}
use Rattle.book.specs.Places.{booking_in, figures}
use Rattle.book.proofs.Reading.{figures_same, place_split, figures_long}
use Rattle.rules.specs.Plain.{Booking, Plain}
use Rattle.rules.specs.Calls.{numbers}
use Rattle.rules.specs.Tables.{place_of, booking_of, place, booking_at, held_by, book_table, booking_ok}
use Rattle.rules.specs.Sound.{BookingRight}
use Rattle.soundness.specs.Checking.{all_zero, tidy, book_ok, BookFits}
use Rattle.rules.proofs.Book.{length_place, by_number_fixed}
use Rattle.rules.proofs.Tests.{booking_tells}

-- ---- zeros

all_zeros_tell : (l : List ℕ) → Tells (all (λ x. eqb x 0) l) (l ≡ replicate (length l) 0)
all_zeros_tell [] = ((λ e. refl), λ e. refl)
all_zeros_tell (x ∷ l) =
    let t = equals x 0 & all_zeros_tell l in (
      (λ e. let h = t.0 e in ap₂ ◌∷◌ h.0 h.1),
      λ e. t.1 ((cc), (cc)),
    )

pub zeros_tell : (i : ℕ) (l : List ℕ) → Tells (all_zero (drop i l)) (drop i l ≡ replicate (length l - i) 0)
zeros_tell i l = subst (λ n. Tells (all (λ x. eqb x 0) (drop i l)) (drop i l ≡ replicate n 0)) (length-drop i l) (all_zeros_tell (drop i l))

-- ---- a place

pub tidy_few : (b : Place) → tidy b ≡ true → b.count ≤ most_hops
unfolding tidy
tidy_few b e = ((at_most b.count most_hops & zeros_tell b.count b.links).0 e).0

module _ (b : Place) (sized : length b.links ≡ most_hops) where
  taken_path : b.count ≤ most_hops → length (take b.count b.links) ≡ b.count
  taken_path h = length-take-le b.count b.links (omega arith)

  written : b.count ≤ most_hops → drop b.count b.links ≡ replicate (length b.links - b.count) 0 → place_of (booking_of b) ≡ b
  written h e = λ j. record { number = b.number; start = b.start; duration = b.duration; bandwidth = b.bandwidth; count = taken_path h j; links = path j }
    where
      path : padded most_hops (take b.count b.links) ≡ b.links
      path =
          let n : most_hops - length (take b.count b.links) ≡ length b.links - b.count = omega (arith, taken_path h) in
          ap (λ k. take b.count b.links ++ replicate k 0) n ∙ ap (λ (l : List ℕ). take b.count b.links ++ l) (sym e) ∙ take-append-drop b.count b.links

  few : place_of (booking_of b) ≡ b → b.count ≤ most_hops
  few e = omega (arith, ap (λ d. d.count) e, length-take b.count b.links)

  rest_zero : place_of (booking_of b) ≡ b → drop b.count b.links ≡ replicate (length b.links - b.count) 0
  rest_zero e =
      let h = few e in
      let n : most_hops - length (take b.count b.links) ≡ length b.links - b.count = omega (arith, taken_path h) in
      ap (drop b.count) (sym (ap (λ d. d.links) e)) ∙ drop_at (take b.count b.links) (replicate (most_hops - length (take b.count b.links)) 0) b.count (taken_path h) ∙ ap (λ k. replicate k 0) n

  tidy_tells : Tells (tidy b) (place (booking_of b) ≡ figures b)
  unfolding tidy
  tidy_tells =
      let t = at_most b.count most_hops & zeros_tell b.count b.links in (
        (λ e. let h = t.0 e in ap figures (written h.0 h.1)),
        λ e. let same = figures_same e in t.1 (few same, rest_zero same),
      )

-- ---- the places of a book

module _ (links : List Link) (p : Plain) (book : List ℕ) where
  -- the n places from i on obey the rules, the first of them with a number above `last`, and the figures behind them are zero
  unfoldable pub right_from : ℕ → ℕ → ℕ → Bool
  right_from last i zero = all_zero (drop (i * place_size) book)
  right_from last i (suc n) = ltb last (booking_at book i).number && tidy (booking_in book i) && booking_ok links p (booking_at book i) && right_from (booking_at book i).number (suc i) n

  -- one place of the n
  pub right_here : (last i n : ℕ) → i < n
      → right_from last i (n - i) ≡ (ltb last (booking_at book i).number && tidy (booking_in book i) && booking_ok links p (booking_at book i) && right_from (booking_at book i).number (i + 1) (n - (i + 1)))
  unfolding right_from
  right_here last i n h = let e : n - i ≡ suc (n - (i + 1)) = omega arith in ap (right_from last i) e ∙ ap (λ j. ltb last (booking_at book i).number && tidy (booking_in book i) && booking_ok links p (booking_at book i) && right_from (booking_at book i).number j (n - (i + 1))) (sym (add-one i))

  pub right_past : (last i n : ℕ) → i ≡ n → right_from last i (n - i) ≡ all_zero (drop (n * place_size) book)
  unfolding right_from
  right_past last i n e = let z : n - i ≡ 0 = omega arith in ap₂ (right_from last) e z

  -- so each of them has a path of at most thirty-one links
  pub right_counts : (last i n : ℕ) → right_from last i n ≡ true → (j : ℕ) → i ≤ j → j < i + n → (booking_in book j).count ≤ most_hops
  unfolding right_from
  right_counts last i zero e j a b = absurd (omega arith)
  right_counts last i (suc n) e j a b = by (side i j) (λ h. right_counts (booking_at book i).number (suc i) n passed.1 j h (omega arith))
    where
      all_but_rest : Bool
      all_but_rest = ltb last (booking_at book i).number && tidy (booking_in book i) && booking_ok links p (booking_at book i)

      passed : (all_but_rest ≡ true) × (right_from (booking_at book i).number (suc i) n ≡ true)
      passed = (and-eq-true_iff all_but_rest (right_from (booking_at book i).number (suc i) n)).0 e

      tidy_here : tidy (booking_in book i) ≡ true
      tidy_here =
          let h = (and-eq-true_iff (ltb last (booking_at book i).number && tidy (booking_in book i)) (booking_ok links p (booking_at book i))).0 passed.0 in
          ((and-eq-true_iff (ltb last (booking_at book i).number) (tidy (booking_in book i))).0 h.0).1

      by : Side i j → (i < j → (booking_in book j).count ≤ most_hops) → (booking_in book j).count ≤ most_hops
      by (below h) behind = behind h
      by (above h) behind = let q : i ≡ j = omega arith in subst (λ k. (booking_in book k).count ≤ most_hops) q (tidy_few (booking_in book i) tidy_here)

  abbrev bookings_from : ℕ → ℕ → List Booking
  bookings_from i n = map (booking_at book) (count_from i n)

  pub record RightFrom (last i n : ℕ) : Type 0 where
    pub in_order : Rising last (numbers (bookings_from i n))
    pub bookings_right : All (BookingRight links p) (bookings_from i n)
    pub places_are : drop (i * place_size) book ≡ padded (length book - i * place_size) (flatten (map place (bookings_from i n)))

  -- a place, and those behind it
  module _ (i : ℕ) (h : i * place_size + place_size ≤ length book) (others : List ℕ) (long : length (place (booking_at book i)) ≡ place_size) where
    place_front : padded (length book - i * place_size) (place (booking_at book i) ++ others) ≡ place (booking_at book i) ++ padded (length book - suc i * place_size) others
    place_front =
        let here = place (booking_at book i) in
        let n : length book - i * place_size - (length here + length others) ≡ length book - suc i * place_size - length others = omega arith in
        padded_append 0 (length book - i * place_size) here others ∙ ap (λ k. here ++ (others ++ replicate k 0)) n

    place_put : place (booking_at book i) ≡ figures (booking_in book i) → drop (suc i * place_size) book ≡ padded (length book - suc i * place_size) others
        → drop (i * place_size) book ≡ padded (length book - i * place_size) (place (booking_at book i) ++ others)
    place_put e f = place_split book i h ∙ ap₂ ◌++◌ (sym e) f ∙ sym place_front

    module _ (e : drop (i * place_size) book ≡ padded (length book - i * place_size) (place (booking_at book i) ++ others)) where
      both : figures (booking_in book i) ++ drop (suc i * place_size) book ≡ place (booking_at book i) ++ padded (length book - suc i * place_size) others
      both = sym (place_split book i h) ∙ e ∙ place_front

      place_got : place (booking_at book i) ≡ figures (booking_in book i)
      place_got =
          sym (take_at (place (booking_at book i)) (padded (length book - suc i * place_size) others) place_size long)
          ∙ ap (take place_size) (sym both)
          ∙ take_at (figures (booking_in book i)) (drop (suc i * place_size) book) place_size (figures_long book i h)

      others_got : drop (suc i * place_size) book ≡ padded (length book - suc i * place_size) others
      others_got =
          sym (drop_at (figures (booking_in book i)) (drop (suc i * place_size) book) place_size (figures_long book i h))
          ∙ ap (drop place_size) both
          ∙ drop_at (place (booking_at book i)) (padded (length book - suc i * place_size) others) place_size long

  right_tells : (last i n : ℕ) → (i + n) * place_size ≤ length book → Tells (right_from last i n) (RightFrom last i n)
  unfolding right_from count_from flatten
  right_tells last i zero h =
      let t = zeros_tell (i * place_size) book in
      let z : length book - i * place_size - 0 ≡ length book - i * place_size = omega arith in (
        (λ e. record { in_order = tt; bookings_right = tt; places_are = t.0 e ∙ ap (λ k. replicate k 0) (sym z) }),
        λ r. t.1 (r.places_are ∙ ap (λ k. replicate k 0) z),
      )
  right_tells last i (suc n) h =
      let fits : i * place_size + place_size ≤ length book = omega arith in
      let fewer : (suc i + n) * place_size ≤ length book = omega arith in
      let others = flatten (map place (bookings_from (suc i) n)) in
      let t = less_than last (booking_at book i).number & tidy_tells (booking_in book i) (omega (arith, figures_long book i fits)) & booking_tells links p (booking_at book i)
      & right_tells (booking_at book i).number (suc i) n fewer in (
        (λ e. let k = t.0 e in record {
          in_order = (k.0.0.0, k.1.in_order);
          bookings_right = (k.0.1, k.1.bookings_right);
          places_are = place_put i fits others (long k.0.1) k.0.0.1 k.1.places_are;
        }),
        λ r. let b = r.bookings_right.0 in t.1 (
          ((r.in_order.0, place_got i fits others (long b) r.places_are), b),
          record { in_order = r.in_order.1; bookings_right = r.bookings_right.1; places_are = others_got i fits others (long b) r.places_are },
        ),
      )
    where
      long : BookingRight links p (booking_at book i) → length (place (booking_at book i)) ≡ place_size
      long b = length_place (booking_at book i) b.path_right.length_right.1

-- ---- a whole book

abbrev pub BookRight : List Link → List ℕ → Plain → Type 0
BookRight links book p = (Rising 0 (numbers p.bookings) × All (BookingRight links p) p.bookings) × (book ≡ book_table p)

pub book_tells : (links : List Link) (book : List ℕ) (p : Plain) → Tells (book_ok links book p) (BookRight links book p)
unfolding book_ok
book_tells links book p = rising_tells 0 (numbers p.bookings) & all_tells (booking_ok links p) (BookingRight links p) (booking_tells links p) p.bookings & equal_tells book (book_table p)

module _ (links : List Link) (head : Head) (book : List ℕ) (fits : BookFits book head.bookings) where
  -- the check of its places is the check of the whole
  pub book_right_is : right_from links (held_by head book) book 0 0 head.bookings ≡ book_ok links book (held_by head book)
  book_right_is =
      same_test (right_from links p book 0 0 head.bookings) (book_ok links book p)
      (λ e. let r = places.0 e in whole.1 ((r.in_order, r.bookings_right), r.places_are ∙ table r.in_order))
      (λ e. let r = whole.0 e in places.1 (record { in_order = r.0.0; bookings_right = r.0.1; places_are = r.1 ∙ sym (table r.0.0) }))
    where
      p : Plain
      p = held_by head book

      places : Tells (right_from links p book 0 0 head.bookings) (RightFrom links p book 0 0 head.bookings)
      places = right_tells links p book 0 0 head.bookings (omega (arith, fits.few, fits.sized))

      whole : Tells (book_ok links book p) (BookRight links book p)
      whole = book_tells links book p

      table : Rising 0 (numbers p.bookings) → padded (length book - 0) (flatten (map place p.bookings)) ≡ book_table p
      table r =
          let z : length book - 0 ≡ most_bookings * place_size = omega (arith, fits.sized) in
          ap₂ (λ k (bs : List Booking). padded k (flatten (map place bs))) z (sym (by_number_fixed 0 p.bookings r))

  pub book_counts : book_ok links book (held_by head book) ≡ true → (i : ℕ) → i < head.bookings → (booking_in book i).count ≤ most_hops
  book_counts e i h = right_counts links (held_by head book) book 0 0 head.bookings (book_right_is ∙ e) i (omega arith) (omega arith)

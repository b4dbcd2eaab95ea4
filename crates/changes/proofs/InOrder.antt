-- Sound tables are those of the book that they hold, which stands in order of its numbers: so a place that is put in, taken
-- out or dropped in the book table is so in the book.
use mathlib.Core.Path.{◌≡◌, refl, sym, ap, ap₂, subst, ◌∙◌}
use mathlib.Core.List.Permᴰ
use mathlib.Core.List.{List, [], ◌∷◌, ◌++◌, map, append-nil, Permᴰ}
use mathlib.Core.Bool.{Bool, true, false, not}
use Prim.Native.Nat.{ℕ, suc, ◌+◌, ◌-◌, ◌*◌, ◌≤◌, ◌<◌}
use native.Mathlib.Omega.{arith}
use lib.Dec.{leb, ltb, eqb}
use lib.ListN.{length, get_or, take, drop, length-append, length-drop, take-append-drop}
use lib.Seq.{get_or-append-add, length-take-le}
use Rattle.std.specs.Prelude.{Option, Some}
use Rattle.units.specs.declared.Link.{Link}
use Rattle.units.specs.declared.Head.{Head}
use Rattle.units.specs.Limits.{most_hops, most_bookings, place_size}
use Rattle.units.specs.Lists.{select, count_from, All, Distinct}
use Rattle.units.proofs.Permuted.{all_permuted}
use Rattle.units.proofs.Parts.{select_part, map_part, rising_part, counted_one}
use Rattle.units.proofs.Padded.{Rows, count_at}
use Rattle.places.specs.Places.{find, slot, slot_among, with_place, without_place, still_standing, only_places, further}
use Rattle.places.proofs.Found.{Place as Found, there, missing}
use Rattle.places.proofs.Filled.{number_of, filled, find_filled, drop_filled, count_filled, slot_filled, insert_filled, remove_filled}
use Rattle.book.specs.declared.Booking.{Booking as Place}
use Rattle.book.specs.Places.{figures, booking_in, with_booking}
use Rattle.plain_book.specs.Bookings as plain-book
use Rattle.rules.specs.Plain.{Booking, Plain, with_book, until}
use Rattle.rules.specs.Calls.{numbers, put_in, take_out, move_to}
use Rattle.rules.specs.Tables.{Tables, tables, held, held_by, head_of, place, booking_at, insert_by_number, by_number, book_table, Fine}
use Rattle.rules.specs.Sound.{Obeys}
use Rattle.rules.proofs.Book.{by_number_is, by_number_fixed, Short, place_rows, places_read, counts_short}
use Rattle.rules.proofs.Obeys.{sound_tables, held_count, held_ordered, all_short}
use Rattle.rules.proofs.Fine.{sizes, book_obeys, in_order}
use Rattle.changes.proofs.Updates.{book_split, book_without}
use Rattle.changes.specs.Updating.{with_clock}

-- ---- the place of a number

slot_most : (n : ℕ) (cs : List Booking) → slot_among n (numbers cs) ≤ length cs
unfolding slot_among
slot_most n [] = omega arith
slot_most n (c ∷ cs) = by (leb c.number n) (slot_most n cs)
  where
    by : (x : Bool) → slot_among n (numbers cs) ≤ length cs → further x (slot_among n (numbers cs)) ≤ suc (length cs)
    by true ih = omega arith
    by false ih = omega arith

-- a booking among others is as well put first
to_front : (xs : List Booking) (b : Booking) (ys : List Booking) → Permᴰ (xs ++ (b ∷ ys)) (b ∷ (xs ++ ys))
to_front [] b ys = Permᴰ.refl (b ∷ ys)
to_front (x ∷ xs) b ys = Permᴰ.trans (Permᴰ.cons refl (to_front xs b ys)) (Permᴰ.swap refl refl)

-- ---- sound tables

-- the book table of these bookings
abbrev book_of : List Booking → List ℕ
book_of = filled place_size most_bookings place

module _ {links : List Link} {t : Tables} (fine : Fine links t) where
  rows_right : Rows place place_size (held t).bookings
  rows_right = place_rows (held t).bookings (all_short links (held t) (book_obeys fine))

  book_filled : t.book ≡ book_of (held t).bookings
  unfolding tables
  book_filled = ap (λ x. x.book) (sound_tables links t fine.is_sound) ∙ ap book_of (by_number_fixed 0 (held t).bookings (in_order fine))

  -- some of the bookings are still in order
  part_filled : (test : Booking → Bool) → book_of (select test (held t).bookings) ≡ book_table (with_book (held t) (select test (held t).bookings))
  part_filled test = ap book_of (sym (by_number_fixed 0 (select test bookings) (rising_part 0 (map_part (λ b. b.number) (select_part test bookings)) (in_order fine))))
    where
      bookings : List Booking
      bookings = (held t).bookings

  -- the booking that is read at a place, whatever stands past the last
  booking_read : (i : ℕ) → i < t.head.bookings → (d : Booking) → get_or (held t).bookings i d ≡ booking_at t.book i
  booking_read i h d =
      let z : 0 + i ≡ i = omega arith in
      ap (λ (bs : List Booking). get_or bs i d) (sym (append-nil (held t).bookings)) ∙ count_at d (booking_at t.book) [] 0 t.head.bookings i h ∙ ap (booking_at t.book) z

  -- its path fits in its place
  pub counts_right : (i : ℕ) → i < t.head.bookings → (booking_in t.book i).count ≤ most_hops
  counts_right i h =
      counted_one (booking_in t.book) (λ b. b.count ≤ most_hops) 0 (length bookings)
      (subst (All (λ b. b.count ≤ most_hops)) (sym (ap (λ (book : List ℕ). map (booking_in book) (count_from 0 (length bookings))) book_filled ∙ places_read bookings short)) (counts_short bookings short))
      i (omega arith) (omega (arith, held_count t))
    where
      bookings : List Booking
      bookings = (held t).bookings

      short : All Short bookings
      short = all_short links (held t) (book_obeys fine)

  -- some of the bookings in the book table, with their count, are those
  pub held_part : (test : Booking → Bool) (p : Plain) {head : Head} {book : List ℕ} → p ≡ with_book p (select test (held t).bookings) → Obeys links p → head ≡ head_of links p → book ≡ book_table p → held_by head book ≡ p
  unfolding tables
  held_part test p same o is_head is_book =
      ap₂ held_by is_head is_book ∙ held_ordered links p o
      ∙ ap (with_book p) (ap (λ q. by_number q.bookings) same ∙ by_number_fixed 0 (select test (held t).bookings) (rising_part 0 (map_part (λ b. b.number) (select_part test (held t).bookings)) (in_order fine)))
      ∙ sym same

  -- ---- a place taken out, where its number was found

  -- the place is one of those that are counted, and the book without it is that of the others
  pub record Released (number i : ℕ) : Type 0 where
    pub inside : i < t.head.bookings
    pub book_is : without_place place_size i t.book ≡ book_table (take_out number (held t))
    pub count_is : t.head.bookings - 1 ≡ length (take_out number (held t)).bookings
    pub among : Permᴰ (held t).bookings (booking_at t.book i ∷ (take_out number (held t)).bookings)

  pub released : (number i : ℕ) → find place_size number t.book t.head.bookings ≡ Some i → Released number i
  released number i e =
      by (subst (Found (number_of place) number bookings) (ap₂ (λ (b : List ℕ) n. find place_size number b n) (sym book_filled) (held_count t) ∙ e) (find_filled place_size most_bookings place bookings rows_right (omega arith) number)) refl
    where
      bookings : List Booking
      bookings = (held t).bookings

      by : {s : Option ℕ} → Found (number_of place) number bookings s → s ≡ Some i → Released number i
      by (missing m) q = let z : ◌≡◌ {A = ℕ} 0 1 = cc in absurd (omega arith)
      by (there xs b ys split same other) q =
          let at : length xs ≡ i = cc in
          let all : t.head.bookings ≡ length xs + suc (length ys) = sym (held_count t) ∙ ap length split ∙ length-append xs (b ∷ ys) in
          let most = (book_obeys fine).not_too_many in
          let few : length xs + suc (length ys) ≤ most_bookings = omega (arith, held_count t) in
          let rest : select (λ c. not (eqb number c.number)) bookings ≡ xs ++ ys
          = ap (select (λ c. not (eqb number c.number))) split ∙ book_without number xs b ys same (subst (λ (bs : List Booking). Distinct (numbers bs)) split (book_obeys fine).numbers_differ) in
          record {
            inside = omega arith;
            book_is =
                ap₂ (without_place place_size) (sym at) (book_filled ∙ ap book_of split)
                ∙ remove_filled place_size most_bookings place xs b ys (subst (Rows place place_size) split rows_right) few
                ∙ ap book_of (sym rest)
                ∙ part_filled (λ c. not (eqb number c.number));
            count_is = omega (arith, ap length rest, length-append xs ys);
            among =
                let one : booking_at t.book i ≡ b =
                sym (booking_read i (omega arith) b)
                ∙ ap₂ (λ (bs : List Booking) j. get_or bs j b) split (omega (arith, at) ∙ refl)
                ∙ get_or-append-add xs (b ∷ ys) 0 b in
                subst (λ c. Permᴰ bookings (c ∷ (take_out number (held t)).bookings)) (sym one)
                (subst (λ (bs : List Booking). Permᴰ bs (b ∷ (take_out number (held t)).bookings)) (sym split)
                (subst (λ (bs : List Booking). Permᴰ (xs ++ (b ∷ ys)) (b ∷ bs)) (sym rest) (to_front xs b ys)));
          }

  -- ---- what has ended dropped

  pub book_moved : (m : ℕ) → only_places (length t.book) (still_standing place_size (with_clock t.head m) t.book t.head.bookings) ≡ book_table (move_to m (held t))
  book_moved m =
      ap (λ n. only_places n (still_standing place_size (with_clock t.head m) t.book t.head.bookings)) (sizes fine).book_right
      ∙ ap₂ (λ (b : List ℕ) n. only_places (most_bookings * place_size) (still_standing place_size (with_clock t.head m) b n)) book_filled (sym (held_count t))
      ∙ drop_filled place_size most_bookings place (held t).bookings rows_right (with_clock t.head m)
      ∙ part_filled (λ b. ltb m (until (held t) b))

  pub count_moved : (m : ℕ) → length (still_standing place_size (with_clock t.head m) t.book t.head.bookings) ≡ length (move_to m (held t)).bookings
  count_moved m = ap₂ (λ (b : List ℕ) n. length (still_standing place_size (with_clock t.head m) b n)) book_filled (sym (held_count t)) ∙ count_filled place_size most_bookings place (held t).bookings rows_right (with_clock t.head m)

  -- ---- a booking put in at the place of its number

  module _ (b : Booking) (short : Short b) (room : length (held t).bookings < most_bookings) where
    slot_is : slot place_size b.number t.book t.head.bookings ≡ slot_among b.number (numbers (held t).bookings)
    slot_is =
        ap₂ (λ (book : List ℕ) n. slot place_size b.number book n) book_filled (sym (held_count t))
        ∙ slot_filled place_size most_bookings place (held t).bookings rows_right (omega arith) b.number

    pub slot_inside : slot place_size b.number t.book t.head.bookings < most_bookings
    slot_inside = omega (arith, slot_is, slot_most b.number (held t).bookings)

    pub book_entered : (row : Place) → figures row ≡ place b → with_booking (slot place_size b.number t.book t.head.bookings) row t.book ≡ book_table (put_in b (held t))
    unfolding plain-book.by_number
    book_entered row e =
        ap₂ (λ i (book : List ℕ). with_booking i row book) (slot_is ∙ sym front) (book_filled ∙ ap book_of (sym (take-append-drop k bookings)))
        ∙ ap (λ (figures : List ℕ). with_place place_size (length (take k bookings)) figures (book_of (take k bookings ++ drop k bookings))) e
        ∙ insert_filled place_size most_bookings place (take k bookings) b (drop k bookings) rows few
        ∙ ap book_of (sym ordered)
      where
        bookings : List Booking
        bookings = (held t).bookings

        k : ℕ
        k = slot_among b.number (numbers bookings)

        ordered : by_number (b ∷ bookings) ≡ take k bookings ++ (b ∷ drop k bookings)
        ordered = ap (insert_by_number b) (by_number_fixed 0 bookings (in_order fine)) ∙ book_split b bookings

        front : length (take k bookings) ≡ k
        front = length-take-le k bookings (slot_most b.number bookings)

        few : length (take k bookings) + suc (length (drop k bookings)) ≤ most_bookings
        few = rw length-drop (omega (arith, front, slot_most b.number bookings))

        rows : Rows place place_size (take k bookings ++ (b ∷ drop k bookings))
        rows =
            subst (Rows place place_size) ordered
            (place_rows (by_number (b ∷ bookings)) (all_permuted Short (Permᴰ.symm (by_number_is (b ∷ bookings))) (short, all_short links (held t) (book_obeys fine))))

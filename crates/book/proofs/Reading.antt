-- Reading a place of the book: what was written there, and what its figures are.
use mathlib.Core.Path.{◌≡◌, refl, sym, ap, ap₂, ◌∙◌}
use mathlib.Core.List.{List, [], ◌∷◌, ◌++◌}
use Prim.Native.Nat.{ℕ, suc, ◌+◌, ◌*◌, ◌≤◌}
use native.Mathlib.Omega.{arith}
use lib.ListN.{length, get_or, take, drop, length-drop, take-append-drop}
use lib.Seq.{drop-drop, drop-append-add, take_at, length-take-le, get_or_at, get_or-append-add, get_or-drop}
use Rattle.units.specs.Limits.{most_hops, place_size}
use Rattle.places.specs.Places.{place_in}
use Rattle.places.proofs.Reading.{Reads}
use Rattle.book.specs.declared.Booking.{Booking}
use Rattle.book.specs.Places.{booking_in, figures}

-- ---- a place that was written

-- a figure and the rest, behind a front of known length
figure_behind : (before l : List ℕ) (n k : ℕ) → length before ≡ n → get_or (before ++ l) (n + k) 0 ≡ get_or l k 0
figure_behind before l n k e = rw (← e) (get_or-append-add before l k 0)

rest_behind : (before l : List ℕ) (n k : ℕ) → length before ≡ n → drop (n + k) (before ++ l) ≡ drop k l
rest_behind before l n k e = rw (← e) (drop-append-add before l k)

-- is read as it was written
pub reads_booking : (b : Booking) → length b.links ≡ most_hops → Reads place_size figures booking_in (λ b. b) b
reads_booking b long before behind i e = λ j. record {
  number = get_or_at before b.number (drop 1 here) 0 from e j;
  start = record { 0 = figure_behind before here from 1 e j };
  duration = record { 0 = figure_behind before here from 2 e j };
  bandwidth = record { 0 = figure_behind before here from 3 e j };
  count = figure_behind before here from 4 e j;
  links = (ap (take most_hops) (rest_behind before here from 5 e) ∙ take_at b.links behind most_hops long) j;
}
  where
    here : List ℕ
    here = figures b ++ behind

    from : ℕ
    from = i * place_size

-- so two bookings of the same figures are the same
pub figures_same : {a b : Booking} → figures a ≡ figures b → a ≡ b
figures_same e = λ j. record {
  number = get_or (e j) 0 0;
  start = record { 0 = get_or (e j) 1 0 };
  duration = record { 0 = get_or (e j) 2 0 };
  bandwidth = record { 0 = get_or (e j) 3 0 };
  count = get_or (e j) 4 0;
  links = drop 5 (e j);
}

-- ---- any place

five_and_rest : (l : List ℕ) → 5 ≤ length l → take place_size l ≡ get_or l 0 0 ∷ get_or l 1 0 ∷ get_or l 2 0 ∷ get_or l 3 0 ∷ get_or l 4 0 ∷ take most_hops (drop 5 l)
five_and_rest [] h = absurd (omega arith)
five_and_rest (a ∷ []) h = absurd (omega arith)
five_and_rest (a ∷ b ∷ []) h = absurd (omega arith)
five_and_rest (a ∷ b ∷ c ∷ []) h = absurd (omega arith)
five_and_rest (a ∷ b ∷ c ∷ d ∷ []) h = absurd (omega arith)
five_and_rest (a ∷ b ∷ c ∷ d ∷ e ∷ l) h = refl

-- the figures of the booking at a place are those of the place
pub figures_read : (book : List ℕ) (i : ℕ) → i * place_size + place_size ≤ length book → figures (booking_in book i) ≡ place_in place_size book i
figures_read book i h = sym (five_and_rest (drop from book) (rw length-drop (omega arith)) ∙ ap₂ ◌∷◌ first (ap₂ ◌∷◌ (figure 1) (ap₂ ◌∷◌ (figure 2) (ap₂ ◌∷◌ (figure 3) (ap₂ ◌∷◌ (figure 4) path)))))
  where
    from : ℕ
    from = i * place_size

    figure : (k : ℕ) → get_or (drop from book) k 0 ≡ get_or book (from + k) 0
    figure k = get_or-drop from book k 0

    path : take most_hops (drop 5 (drop from book)) ≡ take most_hops (drop (from + 5) book)
    path = ap (take most_hops) (drop-drop 5 from book)

    first : get_or (drop from book) 0 0 ≡ get_or book from 0
    first = figure 0 ∙ ap (λ n. get_or book n 0) (omega arith)

module _ (book : List ℕ) (i : ℕ) (h : i * place_size + place_size ≤ length book) where
  -- so they stand in front of the next place
  pub place_split : drop (i * place_size) book ≡ figures (booking_in book i) ++ drop (suc i * place_size) book
  place_split =
      let next : i * place_size + place_size ≡ suc i * place_size = omega arith in
      sym (take-append-drop place_size (drop (i * place_size) book))
      ∙ ap₂ ◌++◌ (sym (figures_read book i h)) (drop-drop place_size (i * place_size) book ∙ ap (λ n. drop n book) next)

  -- and there are thirty-six of them
  pub figures_long : length (figures (booking_in book i)) ≡ place_size
  figures_long = ap length (figures_read book i h) ∙ length-take-le place_size (drop (i * place_size) book) (rw length-drop (omega arith))

-- The bandwidth desk's place of a book table: thirty-six figures, a booking each. It knows nothing of what is free.
use Rattle.std.specs.Prelude.{List, ◌∷◌, ℕ, ◌+◌, ◌*◌, get_or, take, drop}
use Rattle.units.specs.Limits.{most_hops, place_size}
use Rattle.places.specs.Places.{start_figure, duration_figure, number_at, with_place}
use Rattle.book.specs.declared.Booking.{Booking}

-- document 01's place: the number, start, duration, bandwidth and count of links of a booking, and its path with the zeros behind
-- it. Their order is said here alone: as they are written,
abbrev pub figures : Booking → List ℕ
figures b = b.number ∷ b.start.0 ∷ b.duration.0 ∷ b.bandwidth.0 ∷ b.count ∷ b.links

-- and as they are read, at place i
abbrev pub booking_in : List ℕ → ℕ → Booking
booking_in book i = record {
  number = number_at place_size book i;
  start = record { 0 = get_or book (i * place_size + start_figure) 0 };
  duration = record { 0 = get_or book (i * place_size + duration_figure) 0 };
  bandwidth = record { 0 = get_or book (i * place_size + 3) 0 };
  count = get_or book (i * place_size + 4) 0;
  links = take most_hops (drop (i * place_size + 5) book);
}

-- the links of a place's path
abbrev pub place_path : Booking → List ℕ
place_path b = take b.count b.links

-- the book with a booking put in at place i: those behind it move up
abbrev pub with_booking : ℕ → Booking → List ℕ → List ℕ
with_booking i b book = with_place place_size i (figures b) book

-- The book by rising number, its table, and the bookings that the table holds.
use mathlib.Core.Path.{◌≡◌, refl, sym, ap, ap₂, ◌∙◌}
use mathlib.Core.List.Permᴰ
use mathlib.Core.List.{List, [], ◌∷◌, map, map-map, Permᴰ}
use Prim.Native.Nat.{ℕ, ◌-◌, ◌*◌, ◌≤◌, ◌<◌}
use native.Mathlib.Omega.{arith}
use lib.ListN.{length, replicate}
use lib.Seq.{take-append_seam}
use Rattle.units.specs.declared.Link.{Link}
use Rattle.units.specs.Limits.{most_hops, most_bookings, place_size}
use Rattle.units.specs.Lists.{count_from, All, Distinct}
use Rattle.units.proofs.Tests.{Rising}
use Rattle.units.proofs.Permuted.{length_permuted, all_permuted}
use Rattle.units.proofs.Padded.{length_padded, Rows}
use Rattle.units.proofs.Parts.{all_map}
use Rattle.places.specs.Places.{only_places}
use Rattle.places.proofs.Reading.{Reads, read_filled}
use Rattle.book.specs.Places.{booking_in}
use Rattle.book.proofs.Reading.{reads_booking}
use Rattle.plain_book.proofs.InOrder as order
use Rattle.rules.specs.Plain.{Booking, Plain, with_book}
use Rattle.rules.specs.Calls.{numbers}
use Rattle.rules.specs.Tables.{tables, held, place_of, booking_of, place, booking_at, insert_by_number, by_number, book_table}

-- ---- rising number

pub insert_before : (b c : Booking) (cs : List Booking) → b.number < c.number → insert_by_number b (c ∷ cs) ≡ b ∷ c ∷ cs
insert_before = order.insert_before (λ b. b.number)

pub insert_behind : (b c : Booking) (cs : List Booking) → c.number ≤ b.number → insert_by_number b (c ∷ cs) ≡ c ∷ insert_by_number b cs
insert_behind = order.insert_behind (λ b. b.number)

pub insert_first : (b : Booking) → insert_by_number b [] ≡ b ∷ []
insert_first = order.insert_first (λ b. b.number)

-- where no number is twice the order of the bookings doesn't count
pub by_number_permuted : {bs cs : List Booking} → Permᴰ bs cs → Distinct (numbers bs) → by_number bs ≡ by_number cs
by_number_permuted q = order.by_number_permuted (λ b. b.number) q

pub by_number_is : (bs : List Booking) → Permᴰ (by_number bs) bs
by_number_is = order.by_number_is (λ b. b.number)

pub by_number_rises : (bs : List Booking) → Distinct (numbers bs) → All (λ b. 1 ≤ b.number) bs → Rising 0 (numbers (by_number bs))
by_number_rises = order.by_number_rises (λ b. b.number)

-- a book in order stays as it is
pub by_number_fixed : (n : ℕ) (bs : List Booking) → Rising n (numbers bs) → by_number bs ≡ bs
by_number_fixed = order.by_number_fixed (λ b. b.number)

-- ---- the table

abbrev pub Short : Booking → Type 0
Short b = length b.grant.path ≤ most_hops

pub length_place : (b : Booking) → Short b → length (place b) ≡ place_size
length_place b h = omega (arith, length_padded 0 most_hops b.grant.path h)

pub place_rows : (bs : List Booking) → All Short bs → Rows place place_size bs
place_rows [] a = tt
place_rows (b ∷ bs) a = (length_place b a.0, place_rows bs a.1)

-- the place of a booking holds that booking
booking_again : (b : Booking) → Short b → booking_of (place_of b) ≡ b
booking_again b s = λ j. record {
  number = b.number;
  terms = b.terms;
  grant = record { start = b.grant.start; path = take-append_seam b.grant.path (replicate (most_hops - length b.grant.path) 0) j };
}

-- what is read from a table of places
pub places_read : (bs : List Booking) → All Short bs → map (booking_in (only_places (most_bookings * place_size) (map place bs))) (count_from 0 (length bs)) ≡ map place_of bs
places_read bs a =
    read_filled place_size place booking_in place_of (most_bookings * place_size) bs (place_rows bs a)
    (all_map Short (Reads place_size place booking_in place_of) (λ b s. reads_booking (place_of b) (length_padded 0 most_hops b.grant.path s)) bs a)

pub counts_short : (bs : List Booking) → All Short bs → All (λ b. b.count ≤ most_hops) (map place_of bs)
counts_short [] a = tt
counts_short (b ∷ bs) a = (a.0, counts_short bs a.1)

all_again : (bs : List Booking) → All Short bs → map booking_of (map place_of bs) ≡ bs
all_again [] a = refl
all_again (b ∷ bs) a = ap₂ ◌∷◌ (booking_again b a.0) (all_again bs a.1)

-- what the tables of a plain book hold is that book by rising number
pub held_tables : (links : List Link) (p : Plain) → All Short p.bookings → held (tables links p) ≡ with_book p (by_number p.bookings)
unfolding tables
held_tables links p a = λ j. record { clock = p.clock; guard = p.guard; bookings = read j }
  where
    cs : List Booking
    cs = by_number p.bookings

    t : List ℕ
    t = book_table p

    short : All Short cs
    short = all_permuted Short (Permᴰ.symm (by_number_is p.bookings)) a

    read : map (booking_at t) (count_from 0 (length p.bookings)) ≡ cs
    read =
        ap (λ n. map (booking_at t) (count_from 0 n)) (sym (length_permuted (by_number_is p.bookings)))
        ∙ sym (map-map booking_of (booking_in t) (count_from 0 (length cs)))
        ∙ ap (map booking_of) (places_read cs short)
        ∙ all_again cs short

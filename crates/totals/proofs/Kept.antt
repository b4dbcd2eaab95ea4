-- The totals of a plain book that obeys the rules: the table that its desk keeps is that of its bookings, and each of its places can be added.
use mathlib.Core.Path.{◌≡◌, refl, sym, ◌∙◌}
use mathlib.Core.List.{List, [], ◌∷◌}
use mathlib.Core.Bool.{false}
use Prim.Native.Nat.{ℕ, ◌*◌, ◌≤◌, ◌<◌}
use native.Mathlib.Decide.{dec_lt}
use native.Mathlib.Omega.{arith}
use lib.ListN.{length}
use lib.Seq.{ext_get_or}
use Rattle.units.specs.declared.Link.{Link}
use Rattle.units.specs.declared.Head.{Head}
use Rattle.units.specs.Limits.{most_links, most_totals, most_hops, most_bookings, place_size}
use Rattle.units.specs.Lists.{member, sum, All}
use Rattle.units.proofs.Tests.{absent_test}
use Rattle.units.proofs.Parts.{all_map, all_at, counted_one}
use Rattle.path_search.proofs.Paths.{path_inside, path_distinct}
use Rattle.book.specs.declared.Booking.{Booking as Place}
use Rattle.book.specs.Places.{booking_in, place_path}
use Rattle.rules.specs.Plain.{Booking, Plain, sold_by, graph}
use Rattle.rules.specs.Tables.{booking_of, booking_at, held_by, totals_table}
use Rattle.rules.specs.Sound.{BookingRight}
use Rattle.rules.proofs.Totals.{total_of, unused_total, length_totals, work_fits}
use Rattle.totals.specs.Totals.{totals_of, WorkRight, CanTotal}
use Rattle.totals.proofs.Totals.{length_sums, sum_at}

module _ (links : List Link) (p : Plain) (few : length links ≤ most_links) where
  -- a right booking sells nothing of a link that isn't on the list
  sold_past : (bs : List Booking) → All (BookingRight links p) bs → (l : ℕ) → length links ≤ l → sold_by bs l ≡ 0
  unfolding sum
  sold_past [] a l h = refl
  sold_past (b ∷ bs) a l h =
      let off : member l b.grant.path ≡ false = absent_test l b.grant.path (λ m. let inside = all_at (λ l. l < length links) (path_inside (graph links) b.grant.path a.0.path_right) m in omega arith) in
      rw (off, sold_past bs a.1 l h) refl

  pub table_is : All (BookingRight links p) p.bookings → totals_of p.bookings ≡ totals_table links p
  table_is a =
      ext_get_or 0 (totals_of p.bookings) (totals_table links p) (length_sums p.bookings ∙ sym (length_totals links p few))
      (λ l inside. sum_at p.bookings l (omega (arith, length_sums p.bookings)) ∙ elim (dec_lt l (length links)) [
        | yes h ↦ sym (total_of links p l h)
        | no h ↦ sold_past p.bookings a l (omega arith) ∙ sym (unused_total links p l (omega arith))
      ])

-- a place with a right booking
pub work_right : (links : List Link) (p : Plain) → length links ≤ most_links → (b : Place) → b.count ≤ most_hops → BookingRight links p (booking_of b) → WorkRight b
work_right links p few b count r = record {
  work_right = work_fits links p (booking_of b) r;
  count_right = count;
  links_right = all_map (λ l. l < length links) (λ l. l < most_totals) (λ l h. omega arith) (place_path b) (path_inside (graph links) (place_path b) r.path_right);
  links_differ = path_distinct (graph links) (place_path b) r.path_right;
}

-- a book with right bookings
pub can_total : (links : List Link) (head : Head) (book : List ℕ) → length links ≤ most_links → head.bookings ≤ most_bookings → length book ≡ most_bookings * place_size
    → ((i : ℕ) → i < head.bookings → (booking_in book i).count ≤ most_hops) → All (BookingRight links (held_by head book)) (held_by head book).bookings → CanTotal head book
can_total links head book few most sized counts a = record {
  few_bookings = most;
  book_sized = sized;
  places_right = λ i h. work_right links (held_by head book) few (booking_in book i) (counts i h) (counted_one (booking_at book) (BookingRight links (held_by head book)) 0 head.bookings a i (omega arith) (omega arith));
}

-- What the bookings sell together, and the table of totals: of each link of the list the sum over the plain book, and zeros past the last.
use mathlib.Core.Path.{◌≡◌, ap, ◌∙◌}
use mathlib.Core.List.{List, [], ◌∷◌, map}
use mathlib.Core.Bool.{Bool, true, false}
use Prim.Native.Nat.{ℕ, ◌+◌, ◌*◌, ◌≤◌, ◌<◌}
use native.Mathlib.Nat.{mul-le-mul}
use native.Mathlib.Omega.{arith}
use lib.ListN.{length, get_or, length-map}
use Rattle.units.specs.declared.Link.{Link}
use Rattle.units.specs.Limits.{most_links, most_totals, most_bookings}
use Rattle.units.proofs.Tests.{if_so_most}
use Rattle.units.specs.Lists.{if_so, member, sum, count_from, All}
use Rattle.units.specs.Work.{work_of, most_work}
use Rattle.units.proofs.Parts.{all_map}
use Rattle.units.proofs.Padded.{length_count, length_padded, count_at, padded_past}
use Rattle.rules.specs.Plain.{Booking, Plain, sold_by, sold_work}
use Rattle.rules.specs.Tables.{totals_table}
use Rattle.rules.specs.Sound.{BookingRight, Obeys}

module _ (links : List Link) (p : Plain) where
  used : List ℕ
  used = map (sold_work p) (count_from 0 (length links))

  length_used : length used ≡ length links
  unfolding used
  length_used = length-map (count_from 0 (length links)) (sold_work p) ∙ length_count 0 (length links)

  pub total_of : (l : ℕ) → l < length links → get_or (totals_table links p) l 0 ≡ sold_work p l
  total_of l h = count_at 0 (sold_work p) _ 0 (length links) l h ∙ (let z : 0 + l ≡ l = omega arith in ap (sold_work p) z)

  pub unused_total : (l : ℕ) → length links ≤ l → get_or (totals_table links p) l 0 ≡ 0
  unfolding used
  unused_total l h = padded_past 0 most_totals used l (omega (arith, length_used))

  pub length_totals : length links ≤ most_links → length (totals_table links p) ≡ most_totals
  unfolding used
  length_totals few = length_padded 0 most_totals used (omega (arith, length_used))

-- ---- the most that can be sold

-- b sells no more than a booking can
abbrev pub WorkFits : Booking → Type 0
WorkFits b = work_of b.terms.bandwidth b.terms.duration ≤ most_work

pub work_fits : (links : List Link) (p : Plain) (b : Booking) → BookingRight links p b → WorkFits b
work_fits links p b r = mul-le-mul r.bandwidth_right.1 r.duration_right.1

pub all_work_fits : (links : List Link) (p : Plain) (bs : List Booking) → All (BookingRight links p) bs → All WorkFits bs
all_work_fits links p = all_map (BookingRight links p) WorkFits (work_fits links p)

pub sold_by_most : (bs : List Booking) → All WorkFits bs → (l : ℕ) → sold_by bs l ≤ length bs * most_work
unfolding sum
sold_by_most [] a l = omega arith
sold_by_most (b ∷ bs) a l = omega (arith, if_so_most (member l b.grant.path) (work_of b.terms.bandwidth b.terms.duration), a.0, sold_by_most bs a.1 l)

pub sold_most : (links : List Link) (p : Plain) → Obeys links p → (l : ℕ) → sold_work p l ≤ most_bookings * most_work
sold_most links p o l = omega (arith, sold_by_most p.bookings (all_work_fits links p p.bookings o.bookings_right) l, o.not_too_many)

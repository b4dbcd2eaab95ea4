-- The longest line has room: the figures of a report fit their types, which its value in memory tells, and so have few digits.
use mathlib.Core.List.{List, [], ◌∷◌}
use Prim.Native.Nat.{ℕ, suc, ◌+◌, ◌*◌, ◌^◌, ◌≤◌, ◌<◌}
use native.Mathlib.Omega.{arith}
use lib.ListN.{length, get_or, length-append}
use mir.Val.{Val}
use denote.Laws.{Is}
use denote.Enum.Declared.{row}
use denote.Enum.Laws.{owed}
use Rattle.std.proofs.lemmas.Fmt.{length-decimal-le}
use Rattle.units.specs.Limits.{most_hops}
use Rattle.units.specs.declared.Minute.{Minute}
use Rattle.report.specs.declared.Report.{Report}
use Rattle.report.specs.declared.Report.TheVariants.{DeskLinks, DeskRefused, Booked, Offered, Cancelled, Clock, Refused, RefusedAt}
use Rattle.report.specs.Decimal.{decimal}
use Rattle.report.specs.Line.{numbers, route, answer, max_line}
use Rattle.report.proofs.Decimals.{as_printed}
use Rattle.report.specs.contracts.Report.{the_type}
use Rattle.report.proofs.Report.TheLaws.{the_laws}

-- a figure of 32 bits has at most 10 digits, and a place of 64 bits at most 20
ten : (n : ℕ) → n < 2 ^ 32 → length (decimal n) ≤ 10
ten n h = rw (← as_printed n (omega arith)) (length-decimal-le 10 n (omega arith) (omega arith) (omega arith))

twenty : (n : ℕ) → n < 2 ^ 64 → length (decimal n) ≤ 20
twenty n h = rw (← as_printed n h) (length-decimal-le 20 n (omega arith) (omega arith) h)

numbers_fit : (links : List ℕ) → ((i : ℕ) → get_or links i 0 < 2 ^ 32) → length (numbers links) ≤ length links * 11
unfolding numbers
numbers_fit [] h = omega arith
numbers_fit (link ∷ links) h = simp length-append (omega (arith, ten link (h 0), numbers_fit links (λ i. h (suc i))))

module _ (place : ℕ) (links : List ℕ) (p : place < 2 ^ 64) (f : (i : ℕ) → get_or links i 0 < 2 ^ 32) (few : length links ≤ most_hops) where
  route_fits : (start : Minute) → start.0 < 2 ^ 32 → length (route start links) ≤ 23 + most_hops * 11
  unfolding route
  route_fits start h = simp length-append (omega (arith, ten start.0 h, numbers_fit links f))

  -- the longest line has room
  pub answer_fits : (r : Report) (vs : List Val) → Is (row the_type) r vs → length (answer place r links) + 1 ≤ max_line
  unfolding answer
  answer_fits (DeskLinks count) vs g = omega (arith, ten count (owed the_type the_laws (DeskLinks count) vs g).0.1)
  answer_fits (DeskRefused refusal) vs g = omega (arith, ten refusal (owed the_type the_laws (DeskRefused refusal) vs g).0.1)
  answer_fits (Booked number start) vs g =
      let q = owed the_type the_laws (Booked number start) vs g in
      simp length-append (omega (arith, twenty place p, ten number q.0.1, route_fits start q.1.0.1.1.0.1))
  answer_fits (Offered start) vs g = simp length-append (omega (arith, twenty place p, route_fits start (owed the_type the_laws (Offered start) vs g).0.1.1.0.1))
  answer_fits (Cancelled number) vs g = simp length-append (omega (arith, twenty place p, ten number (owed the_type the_laws (Cancelled number) vs g).0.1))
  answer_fits (Clock minute) vs g = simp length-append (omega (arith, twenty place p, ten minute.0 (owed the_type the_laws (Clock minute) vs g).0.1.1.0.1))
  answer_fits (Refused refusal) vs g = simp length-append (omega (arith, twenty place p, ten refusal (owed the_type the_laws (Refused refusal) vs g).0.1))
  answer_fits (RefusedAt refusal minute) vs g =
      let q = owed the_type the_laws (RefusedAt refusal minute) vs g in
      simp length-append (omega (arith, twenty place p, ten refusal q.0.1, ten minute.0 q.1.0.1.1.0.1))

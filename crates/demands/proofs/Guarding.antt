-- The desk keeps bookings apart: where two held a link in one minute that it can't carry together, it would be oversold in that minute.
use mathlib.Core.Path.{◌≡◌, sym, ap, ◌∙◌}
use mathlib.Core.Logic.{◌≢◌, inl, inr}
use mathlib.Core.List.{List, [], ◌∷◌, Memᴰ}
use Prim.Native.Nat.{ℕ, ◌+◌, ◌≤◌, ◌<◌}
use native.Mathlib.Omega.{arith}
use Rattle.units.specs.declared.Link.{Link}
use Rattle.units.specs.Lists.{if_so, sum}
use Rattle.units.proofs.Tests.{member_tells, Side, below, above, side}
use Rattle.units.proofs.Parts.{all_at}
use lib.ListN.{length}
use Rattle.path_search.proofs.Paths.{path_inside}
use Rattle.rules.specs.Plain.{Booking, Plain, until, uses, taken, capacity, graph, with_book}
use Rattle.rules.specs.Sound.{BookingRight, Obeys}
use Rattle.rules.specs.Desk.{bandwidth_desk, outcome}
use Rattle.rules.proofs.Uses.{uses_within}
use Rattle.histories.specs.Demands as demands
use Rattle.histories.proofs.Demand3.{followed}
use Rattle.demands.specs.Guarding.{Separate, KeepsApart}
use Rattle.demands.proofs.Lawful.{lawful, obeyed}

module _ (p : Plain) (l m : ℕ) where
  -- one of the bookings uses no more than all
  one_taken : (bs : List Booking) (b : Booking) → Memᴰ b bs → uses p b l m ≤ taken (with_book p bs) l m
  unfolding sum
  one_taken [] b i = elim i [ ]
  one_taken (x ∷ xs) b (Memᴰ.head e) = let s = ap (λ c. uses p c l m) e in omega (arith, s)
  one_taken (x ∷ xs) b (Memᴰ.tail i) = let s = one_taken xs b i in omega (arith, s)

  -- nor do two
  two_taken : (bs : List Booking) (a b : Booking) → Memᴰ a bs → Memᴰ b bs → a.number ≢ b.number → uses p a l m + uses p b l m ≤ taken (with_book p bs) l m
  unfolding sum
  two_taken [] a b i j differ = elim i [ ]
  two_taken (x ∷ xs) a b (Memᴰ.head e) (Memᴰ.head f) differ = absurd (differ (ap (λ c. c.number) (e ∙ sym f)))
  two_taken (x ∷ xs) a b (Memᴰ.head e) (Memᴰ.tail j) differ = let s = ap (λ c. uses p c l m) e in let t = one_taken xs b j in omega (arith, s, t)
  two_taken (x ∷ xs) a b (Memᴰ.tail i) (Memᴰ.head f) differ = let s = ap (λ c. uses p c l m) f in let t = one_taken xs a i in omega (arith, s, t)
  two_taken (x ∷ xs) a b (Memᴰ.tail i) (Memᴰ.tail j) differ = let t = two_taken xs a b i j differ in omega (arith, t)

module _ (links : List Link) (p : Plain) (o : Obeys links p) (a b : Booking) (i : Memᴰ a p.bookings) (j : Memᴰ b p.bookings) (differ : a.number ≢ b.number) (l : ℕ) (on_a : Memᴰ l a.grant.path) (on_b : Memᴰ l b.grant.path) where
  -- a minute in which both hold the link
  both_hold : (m : ℕ) → a.grant.start ≤ m → m < until p a → b.grant.start ≤ m → m < until p b → a.terms.bandwidth + b.terms.bandwidth ≤ capacity links l
  both_hold m s e t f =
      let inside : l < length links = all_at (λ k. k < length links) (path_inside (graph links) a.grant.path (all_at (BookingRight links p) o.bookings_right i).path_right) on_a in
      let of_a : uses p a l m ≡ a.terms.bandwidth = uses_within p a l m s e ∙ ap (λ x. if_so x a.terms.bandwidth) ((member_tells l a.grant.path).1 on_a) in
      let of_b : uses p b l m ≡ b.terms.bandwidth = uses_within p b l m t f ∙ ap (λ x. if_so x b.terms.bandwidth) ((member_tells l b.grant.path).1 on_b) in
      let two = two_taken p l m p.bookings a b i j differ in
      let most = o.not_oversold l m inside in
      omega (arith, of_a, of_b, two, most)

  apart : capacity links l < a.terms.bandwidth + b.terms.bandwidth → Separate p.guard a b
  apart too_much = by (side b.grant.start (a.grant.start + a.terms.duration + p.guard)) (side a.grant.start (b.grant.start + b.terms.duration + p.guard)) (side a.grant.start b.grant.start)
    where
      lasts_a : 1 ≤ a.terms.duration
      lasts_a = (all_at (BookingRight links p) o.bookings_right i).duration_right.0

      lasts_b : 1 ≤ b.terms.duration
      lasts_b = (all_at (BookingRight links p) o.bookings_right j).duration_right.0

      by : Side b.grant.start (a.grant.start + a.terms.duration + p.guard) → Side a.grant.start (b.grant.start + b.terms.duration + p.guard) → Side a.grant.start b.grant.start → Separate p.guard a b
      by (above x) y z = inl (omega arith)
      by (below x) (above y) z = inr (omega arith)
      by (below x) (below y) (below z) = let h = both_hold b.grant.start (omega arith) (omega arith) (omega arith) (omega (arith, lasts_b)) in absurd (omega (arith, h))
      by (below x) (below y) (above z) = let h = both_hold a.grant.start (omega arith) (omega (arith, lasts_a)) (omega arith) (omega arith) in absurd (omega (arith, h))

pub keeps_apart : KeepsApart outcome
keeps_apart links h = let p = demands.plain bandwidth_desk outcome h in apart links p (obeyed links p (followed bandwidth_desk lawful links h).1)

-- What a booking uses of a link, what the bookings take together and what is free.
use mathlib.Core.Path.{◌≡◌, refl, ap}
use mathlib.Core.List.Permᴰ
use mathlib.Core.List.{List, [], ◌∷◌, map, flatten, Permᴰ, Sublistᴰ}
use mathlib.Core.Bool.{true}
use Prim.Native.Nat.{ℕ, ◌+◌, ◌-◌, ◌≤◌, ◌<◌}
use native.Mathlib.Omega.{arith}
use Rattle.units.specs.declared.Link.{Link}
use Rattle.units.specs.Lists.{if_so, member, sum, All}
use Rattle.units.proofs.Permuted.{sum_permuted}
use Rattle.units.proofs.Parts.{map_part, sum_part}
use Rattle.timeline.proofs.Steady.{ChangesAt, changes_sum}
use Rattle.plain_book.proofs.Holding.{holds_behind, holds_within, holds_elim, holds_changes}
use Rattle.rules.specs.Plain.{Booking, Plain, until, stretch, uses, times, taken, capacity, free, with_book}
use Rattle.rules.specs.Calls.{put_in}

-- the times of all bookings
abbrev pub all_times : Plain → List ℕ
all_times p = flatten (map (times p) p.bookings)

-- ---- one booking

pub uses_behind : (p : Plain) (b : Booking) (l m : ℕ) → until p b ≤ m → uses p b l m ≡ 0
uses_behind p b l m h = ap (λ x. if_so x b.terms.bandwidth) (holds_behind (stretch p b) l m h)

pub uses_within : (p : Plain) (b : Booking) (l m : ℕ) → b.grant.start ≤ m → m < until p b → uses p b l m ≡ if_so (member l b.grant.path) b.terms.bandwidth
uses_within p b l m h k = ap (λ x. if_so x b.terms.bandwidth) (holds_within (stretch p b) l m h k)

-- what it uses is at most w, if w is enough where it holds the link
pub uses_most : (p : Plain) (b : Booking) (l m w : ℕ) → (b.grant.start ≤ m → m < until p b → member l b.grant.path ≡ true → b.terms.bandwidth ≤ w) → uses p b l m ≤ w
uses_most p b l m w f = holds_elim (λ x. if_so x b.terms.bandwidth ≤ w) (stretch p b) l m f (omega arith)

-- what a standing booking uses before the clock it uses at the clock
pub uses_past : (p : Plain) (b : Booking) (l m c : ℕ) → m ≤ c → c < until p b → uses p b l m ≤ uses p b l c
uses_past p b l m c h k = uses_most p b l m (uses p b l c) (λ s e i. rw (uses_within p b l c (omega arith) k, i) (omega arith))

-- ---- all of them

pub taken_put_in : (p : Plain) (b : Booking) (l m : ℕ) → taken (put_in b p) l m ≡ uses p b l m + taken p l m
unfolding sum
taken_put_in p b l m = refl

-- what is free with one booking more
pub free_put_in : (links : List Link) (p : Plain) (b : Booking) (l m : ℕ) → free links (put_in b p) l m ≡ free links p l m - uses p b l m
free_put_in links p b l m = rw taken_put_in (omega arith)

pub taken_permuted : (p : Plain) {bs cs : List Booking} → Permᴰ bs cs → (l m : ℕ) → taken (with_book p bs) l m ≡ taken (with_book p cs) l m
taken_permuted p q l m = sum_permuted (Permᴰ.map (λ b. uses p b l m) q)

pub taken_part : (p : Plain) {bs cs : List Booking} → Sublistᴰ bs cs → (l m : ℕ) → taken (with_book p bs) l m ≤ taken (with_book p cs) l m
taken_part p q l m = sum_part (map_part (λ b. uses p b l m) q)

pub taken_past : (p : Plain) (c : ℕ) (bs : List Booking) → All (λ b. c < until p b) bs → (l m : ℕ) → m ≤ c → taken (with_book p bs) l m ≤ taken (with_book p bs) l c
unfolding sum
taken_past p c [] a l m h = omega arith
taken_past p c (b ∷ bs) a l m h = omega (arith, uses_past p b l m c h a.0, taken_past p c bs a.1 l m h)

-- from the last time on, and so in the last row, nothing is taken
pub taken_at_end : (p : Plain) (bs : List Booking) (l m : ℕ) → All (λ b. until p b ≤ m) bs → taken (with_book p bs) l m ≡ 0
unfolding sum
taken_at_end p [] l m a = refl
taken_at_end p (b ∷ bs) l m a = rw (uses_behind p b l m a.0, taken_at_end p bs l m a.1) refl

-- ---- they change only at the times of the bookings

pub uses_changes : (p : Plain) (l : ℕ) (b : Booking) → ChangesAt (times p b) (uses p b l)
uses_changes p l b = holds_changes (λ x. if_so x b.terms.bandwidth) (stretch p b) l

pub taken_changes : (p : Plain) (l : ℕ) → ChangesAt (all_times p) (taken p l)
taken_changes p l = changes_sum (times p) (λ b. uses p b l) (uses_changes p l) p.bookings

pub free_changes : (links : List Link) (p : Plain) (l : ℕ) → ChangesAt (all_times p) (free links p l)
free_changes links p l e m h q = ap (λ x. capacity links l - x) (taken_changes p l e m h q)

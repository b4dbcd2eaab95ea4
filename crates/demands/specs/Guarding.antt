-- Document 02's Job 5, 'switches need time between bookings', as a property of any desk. No search, no figure and no row occurs here.
use Rattle.std.specs.Prelude.{◌≢◌, ◌⊎◌, ℕ, ◌+◌, ◌≤◌, ◌<◌}
use mathlib.Core.List.{List, Memᴰ}
use Rattle.units.specs.declared.Link.{Link}
use Rattle.histories.specs.Demands as demands
use Rattle.rules.specs.Plain.{Booking, capacity}
use Rattle.rules.specs.Desk.{bandwidth_desk}
use Rattle.demands.specs.Demands.{Desk}

-- one of two bookings starts no earlier than when the other has ended and the guard is over
abbrev pub Separate : ℕ → Booking → Booking → Type 0
Separate guard a b = (a.grant.start + a.terms.duration + guard ≤ b.grant.start) ⊎ (b.grant.start + b.terms.duration + guard ≤ a.grant.start)

-- At every moment of a history two standing bookings that one link of theirs can't carry together are so far apart.
abbrev pub KeepsApart : Desk → Type 0
KeepsApart desk =
    (links : List Link) (h : demands.Moment bandwidth_desk desk links) → let p = demands.plain bandwidth_desk desk h in
    (a b : Booking) → Memᴰ a p.bookings → Memᴰ b p.bookings → a.number ≢ b.number
    → (l : ℕ) → Memᴰ l a.grant.path → Memᴰ l b.grant.path → capacity links l < a.terms.bandwidth + b.terms.bandwidth → Separate p.guard a b

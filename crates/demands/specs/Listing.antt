-- Document 02's Job 1, 'every start there is', as a property of any desk. No search and no row occurs here.
use Rattle.std.specs.Prelude.{◌≡◌, ◌⊎◌, ◌↔◌, ℕ, suc, ◌≤◌, length}
use mathlib.Core.List.{List, [], ◌∷◌, Memᴰ}
use Rattle.units.specs.declared.Link.{Link}
use Rattle.units.specs.declared.Request.{Request}
use Rattle.units.specs.Limits.{most_ranges}
use Rattle.units.specs.Lists.{All}
use Rattle.choice.specs.Choice.{Grant}
use Rattle.listing.specs.Ranges.{Range}
use Rattle.listing.specs.Right.{ranges_with, Apart}
use Rattle.rules.specs.Plain.{Plain, low}
use Rattle.rules.specs.Calls.{offer, list, ask, starts, lists, no_start_at}
use Rattle.rules.specs.Tables.{Tables, held, events_of}
use Rattle.rules.specs.Choosing.{PathAt, InWindow}
use Rattle.demands.specs.Demands.{Desk, Passes}

module _ (links : List Link) (p : Plain) (r : Request) where
  -- a start is possible in minute m of the window
  abbrev pub PossibleAt : ℕ → Type 0
  PossibleAt m = InWindow links p r m × ((path : List ℕ) × PathAt links p r m path)

  pub record RightListing (rs : List Range) : Type 0 where
    -- each possible minute is in exactly one range, and no other minute is in any
    pub once : (m : ℕ) → PossibleAt m → ranges_with m rs ≡ 1
    pub no_other : (m : ℕ) → ¬ PossibleAt m → ranges_with m rs ≡ 0
    -- they rise, and no two touch
    pub apart : Apart rs
    -- each is as long as it can be: neither the minute before its first nor the one after its last is possible
    pub longest : All (λ x. ((m : ℕ) → x.first ≡ suc m → ¬ PossibleAt m) × ¬ PossibleAt (suc x.last)) rs
    -- each begins at low or at an event
    pub begins : All (λ x. (x.first ≡ low p r) ⊎ Memᴰ x.first (events_of p)) rs
    -- so the places are enough
    pub fits : length rs ≤ most_ranges

-- A listing that passes its checks lists every start there is, and agrees with the offer of the same fields.
pub record EveryStart (desk : Desk) : Type 0 where
  pub listing : (links : List Link) (t : Tables) (n : ℕ) (r : Request) → Passes links t (ask (list n r))
      → (rs : List Range) × ((desk links t (ask (list n r))).answer ≡ lists rs) × RightListing links (held t) r rs
  -- it is empty if and only if the offer is refused 8
  pub empty_iff : (links : List Link) (t : Tables) (n : ℕ) (r : Request) → Passes links t (ask (list n r))
      → ((desk links t (ask (list n r))).answer ≡ lists []) ↔ ((m : ℕ) × ((desk links t (ask (offer r))).answer ≡ no_start_at m))
  -- its first minute is the offer's start
  pub first_is : (links : List Link) (t : Tables) (n : ℕ) (r : Request) → Passes links t (ask (list n r)) → (x : Range) (rs : List Range)
      → (desk links t (ask (list n r))).answer ≡ lists (x ∷ rs) → (g : Grant) → (desk links t (ask (offer r))).answer ≡ starts g → x.first ≡ g.start

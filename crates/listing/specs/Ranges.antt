-- Every start there is: the ranges of the possible minutes of a window, tried at every minute. It knows nothing of bookings.
use Rattle.std.specs.Prelude.{List, [], ◌∷◌, Bool, true, false, Option, Some, None, ℕ, zero, suc, ◌-◌, eqb}
use Rattle.units.specs.declared.Minute.{Minute}
use Rattle.units.specs.Limits.{list_size}
use Rattle.units.specs.Lists.{padded}
use Rattle.path_search.specs.Paths.{Graph}
use Rattle.choice.specs.declared.Granted.{Granted}
use Rattle.choice.specs.declared.asked.Asked.{Asked}
use Rattle.choice.specs.Choice.{Grant, Choice, granted, no_start, possible}
use Rattle.choice.specs.Answer.{Wanted, wanted, carried}

-- a range of minutes: its first and its last
pub record Range : Type 0 where
  pub first : ℕ
  pub last : ℕ

-- minute m and the ranges r ∷ rs of later minutes, by whether m touches r
abbrev pub beside : Bool → ℕ → Range → List Range → List Range
beside true m r rs = record { first = m; last = r.last } ∷ rs
beside false m r rs = record { first = m; last = m } ∷ r ∷ rs

-- minute m put before the ranges of later minutes: as long as they can be, so it joins the one that it touches
abbrev pub put_first : ℕ → List Range → List Range
put_first m [] = record { first = m; last = m } ∷ []
put_first m (r ∷ rs) = beside (eqb (suc m) r.first) m r rs

-- the ranges of those of the n minutes from i on that pass the test, rising
unfoldable pub ranges_from : ℕ → ℕ → (ℕ → Bool) → List Range
ranges_from i zero test = []
ranges_from i (suc n) test = elim (test i) [ true ↦ put_first i (ranges_from (suc i) n test) | false ↦ ranges_from (suc i) n test ]

-- the ranges of possible start minutes of low to latest
module _ (g : Graph) (carries : ℕ → ℕ → Bool) (from to : ℕ) where
  unfoldable pub ranges : ℕ → ℕ → List Range
  ranges low latest = ranges_from low (suc latest - low) (possible g carries from to)

-- those asked for on lent tables
abbrev pub ranges_for : Wanted → List ℕ → List ℕ → ℕ → ℕ → List Range
ranges_for w es t = ranges w.links (carried w es t) w.source w.destination

abbrev pub ranges_of : Asked → ℕ → ℕ → List Range
ranges_of a = ranges_for (wanted a.search.now) a.table.events.now a.table.figures.now

-- first and last of each
unfoldable pub figures : List Range → List ℕ
figures [] = []
figures (r ∷ rs) = r.first ∷ r.last ∷ figures rs

-- the lent list of 129 places, zero past the last range
abbrev pub list_table : List Range → List ℕ
list_table rs = padded list_size (figures rs)

-- the start of a choice, where there is one
abbrev pub start_of : Choice Grant → Option Minute
start_of (granted g) = Some (record { 0 = g.start })
start_of no_start = None

-- the same of the answer that tells it
abbrev pub start_granted : Option Granted → Option Minute
start_granted (Some given) = Some given.start
start_granted None = None

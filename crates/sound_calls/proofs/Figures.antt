-- On fine tables the figure that is kept for a link and a minute is what the plain book leaves free, and the total of a link its sold work.
use mathlib.Core.List.{List}
use mathlib.Core.Path.{◌≡◌}
use Prim.Native.Nat.{ℕ, ◌≤◌, ◌<◌}
use lib.ListN.{length, get_or}
use Rattle.units.specs.Limits.{most_events}
use Rattle.free_table.specs.Figures.{kept}
use Rattle.free_table.proofs.Figures.{kept_figure}
use Rattle.units.specs.declared.Link.{Link}
use Rattle.rules.specs.Plain.{free, sold_work}
use Rattle.rules.specs.Tables.{Tables, held, Fine}
use Rattle.rules.proofs.Totals.{total_of}
use Rattle.rules.proofs.Uses.{all_times, free_changes}
use Rattle.rules.proofs.Fine.{sizes, events_are, free_are, totals_are}

module _ (links : List Link) (t : Tables) (f : Fine links t) where
  -- the figure of a link of the list is what the plain book leaves free
  pub figure_is : (l m : ℕ) → l < length links → t.head.clock.0 ≤ m → kept t.events t.free l m ≡ free links (held t) l m
  figure_is l m h k =
      rw (events_are f, free_are f)
      (kept_figure (length links) (free links (held t)) (sizes f).links_right.1 most_events t.head.clock.0 (all_times (held t)) l m (free_changes links (held t) l) h k)

  -- and its total the sum over the plain book
  pub total_is : (l : ℕ) → l < length links → get_or t.totals l 0 ≡ sold_work (held t) l
  total_is l h = rw (totals_are f) (total_of links (held t) l h)

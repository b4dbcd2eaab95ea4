-- Document 02's Job 4, 'cancelling must not hurt', as a property of any desk. No search, no figure and no row occurs here.
use Rattle.std.specs.Prelude.{◌≡◌, List, [], ◌∷◌, ℕ, ◌≤◌}
use Rattle.units.specs.declared.Link.{Link}
use Rattle.units.specs.declared.Request.{Request}
use Rattle.choice.specs.Choice.{Grant}
use Rattle.rules.specs.Calls.{offer, cancel, ask, Answer, done, starts}
use Rattle.rules.specs.Tables.{Tables}
use Rattle.histories.specs.Histories.{answers}
use Rattle.demands.specs.Demands.{Desk}

-- the answer is a start, at minute m or earlier
abbrev pub StartsBy : ℕ → Answer → Type 0
StartsBy m a = (g : Grant) × (a ≡ starts g) × (g.start ≤ m)

-- If an offer is given a start and the very next call is an accepted cancellation, the same offer then gets that start or an
-- earlier one. The tables are any; each call is on the tables as they then are.
pub record CancellingHarmless (desk : Desk) : Type 0 where
  pub no_later : (links : List Link) (t : Tables) (r : Request) (n : ℕ) (g : Grant) (again : Answer)
      → answers desk links t (ask (offer r) ∷ ask (cancel n) ∷ ask (offer r) ∷ []) ≡ starts g ∷ done ∷ again ∷ []
      → StartsBy g.start again

-- Document 01's choice without a search: what a start and a path must be, and when there is none.
-- No row and no bound on the length of a path occurs here.
use Rattle.std.specs.Prelude.{◌≡◌, ◌⊎◌, ◌↔◌, List, ℕ, suc, ◌+◌, ◌≤◌, ◌<◌, length}
use Rattle.units.specs.declared.Link.{Link}
use Rattle.units.specs.declared.Request.{Request}
use Rattle.units.specs.Lists.{All, Lower}
use Rattle.path_search.specs.Paths.{Leads}
use Rattle.choice.specs.Choice.{Grant}
use Rattle.rules.specs.Plain.{Plain, span, terms, taken, graph, capacity, low}
use Rattle.rules.specs.Calls.{Answer, starts, no_start_at}

module _ (links : List Link) (p : Plain) (r : Request) where
  -- link l has the bandwidth free in every minute from m up to, and not including, e; a sum, so that nothing is cut off at 0
  abbrev pub FreeIn : ℕ → ℕ → ℕ → Type 0
  FreeIn m e l = (k : ℕ) → m ≤ k → k < e → taken p l k + r.bandwidth.0 ≤ capacity links l

  -- a chain of links, of any number, leads from source to destination, each free in all these minutes
  abbrev pub PathIn : ℕ → ℕ → List ℕ → Type 0
  PathIn m e path = Leads (graph links) r.from r.to path × All (FreeIn m e) path

  -- and in every minute of the span from m
  abbrev pub Carries : ℕ → ℕ → Type 0
  Carries m = FreeIn m (m + span p (terms r))

  -- such a chain for the span from m
  abbrev pub PathAt : ℕ → List ℕ → Type 0
  PathAt m path = PathIn m (m + span p (terms r)) path

  abbrev pub InWindow : ℕ → Type 0
  InWindow m = (low p r ≤ m) × (m ≤ r.latest.0)

  pub record IsChoice (g : Grant) : Type 0 where
    pub in_window : InWindow g.start
    pub works : PathAt g.start g.path
    pub earliest : (m : ℕ) (other : List ℕ) → InWindow m → PathAt m other → g.start ≤ m
    pub fewest : (other : List ℕ) → PathAt g.start other → length g.path ≤ length other
    pub lowest : (other : List ℕ) → PathAt g.start other → length other ≡ length g.path → (other ≡ g.path) ⊎ Lower g.path other

  abbrev pub NoStart : Type 0
  NoStart = (m : ℕ) (path : List ℕ) → InWindow m → PathAt m path → ⊥

  -- document 02's 'first minute m, from low on, such that no single path has the bandwidth free throughout low to m'
  pub record BreaksOff (m : ℕ) : Type 0 where
    pub from_low : low p r ≤ m
    pub none_lasts : (path : List ℕ) → ¬ PathIn (low p r) (suc m) path
    pub lasts_before : (k : ℕ) → low p r ≤ k → k < m → (path : List ℕ) × PathIn (low p r) (suc k) path

  pub record RightChoice (a : Answer) : Type 0 where
    pub start_iff : (g : Grant) → (a ≡ starts g) ↔ IsChoice g
    pub no_start_iff : ((m : ℕ) × (a ≡ no_start_at m)) ↔ NoStart
    pub breaks_off : (m : ℕ) → a ≡ no_start_at m → BreaksOff m
    pub either : ((g : Grant) × (a ≡ starts g)) ⊎ ((m : ℕ) × (a ≡ no_start_at m))

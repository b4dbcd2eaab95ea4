-- A choice depends on nothing but the links and the figures of the window: on the tables of any figure function that
-- changes only at the times it is the choice by that function. The desk's use of `choose` goes through these laws.
use mathlib.Core.Path.{◌≡◌, refl, ap}
use mathlib.Core.List.{List}
use mathlib.Core.Bool.{Bool}
use Prim.Native.Nat.{ℕ, ◌≤◌, ◌<◌}
use native.Mathlib.Omega.{arith}
use Rattle.units.specs.Limits.{most_links}
use Rattle.units.specs.Lists.{padded}
use Rattle.timeline.specs.Events.{events}
use Rattle.timeline.proofs.Steady.{ChangesAt}
use Rattle.free_table.specs.Figures.{table, kept}
use Rattle.free_table.proofs.Figures.{kept_figure}
use Rattle.units.proofs.Search.{all_from_agree}
use Rattle.path_search.specs.Paths.{Graph}
use Rattle.path_search.proofs.Agree.{Agree, route_agree}
use Rattle.choice.specs.Choice.{grant_at, try_at, choose}
use Rattle.choice.specs.Carrying.{suffices, carries}
use Rattle.choice.proofs.Starts.{earliest_agree}

-- links that agree, and are tested alike in each minute of the window, give the same choice
pub choose_agree : (g h : Graph) (p q : ℕ → ℕ → Bool) (from to low latest : ℕ) → ((m : ℕ) → low ≤ m → m ≤ latest → Agree g h (p m) (q m))
    → choose g p from to low latest ≡ choose h q from to low latest
choose_agree g h p q from to low latest same =
    earliest_agree (try_at g p from to) (try_at h q from to) low latest (λ m a b. ap (grant_at m) (route_agree g h (p m) (q m) (same m a b) to from))

module _ (places links : ℕ) (f : ℕ → ℕ → ℕ) (small : links ≤ most_links) (c : ℕ) (ts : List ℕ) (s : (l : ℕ) → l < links → ChangesAt ts (f l)) (bandwidth duration : ℕ) where
  -- the figures that the tables keep
  abbrev shown : ℕ → ℕ → ℕ
  shown = kept (padded places (events c ts)) (table places links f (events c ts))

  -- from the clock on, a link carries a span by the tables if and only if it does by the figures
  pub carries_shown : (m l : ℕ) → c ≤ m → l < links → carries shown bandwidth duration m l ≡ carries f bandwidth duration m l
  carries_shown m l h k =
      all_from_agree (λ j. suffices bandwidth (shown l j)) (λ j. suffices bandwidth (f l j)) m _
      (λ j a b. ap (suffices bandwidth) (kept_figure links f small places c ts l j (s l k) k (omega arith)))

  -- the choice by the tables is the choice by the figures
  pub choose_shown : (g : Graph) → g.count ≡ links → (from to low latest : ℕ) → c ≤ low
      → choose g (carries shown bandwidth duration) from to low latest ≡ choose g (carries f bandwidth duration) from to low latest
  choose_shown g e from to low latest early =
      choose_agree g g (carries shown bandwidth duration) (carries f bandwidth duration) from to low latest
      (λ m a b. record { count = refl; from = λ l h. refl; to = λ l h. refl; usable = λ l h. carries_shown m l (omega arith) (omega arith) })

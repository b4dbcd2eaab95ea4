-- When a start with a path is possible: where another is whose links all carry the span there too. The laws of `Starts`
-- take this as their premise.
use mathlib.Core.Path.{◌≡◌, refl, ap}
use mathlib.Core.List.{List}
use mathlib.Core.Bool.{Bool, true, false≢true}
use Prim.Native.Nat.{ℕ, ◌≤◌}
use native.Mathlib.Omega.{arith}
use Rattle.units.specs.Search.{Found, at, nothing}
use Rattle.timeline.proofs.Steady.{NoneBetween}
use Rattle.path_search.specs.Paths.{Graph, Route, along, none, fewest, route_of, route}
use Rattle.path_search.proofs.Routes.{fewest_more}
use Rattle.choice.specs.Earliest.{granted, is_granted, can_start}
use Rattle.choice.specs.Choice.{Grant, grant_at, possible}

-- what minute m grants starts at m
pub grant_starts : (m : ℕ) (r : Route) {c : Grant} → grant_at m r ≡ granted c → c.start ≡ m
grant_starts m (along path) e = cc
grant_starts m none e = let z : ◌≡◌ {A = ℕ} 0 1 = cc in absurd (omega arith)

-- a minute is possible if by another test another is, all of whose links carry the span there too
pub possible_more : (g : Graph) (some more : ℕ → ℕ → Bool) (from to k m : ℕ) → ((l : ℕ) → some m l ≡ true → more k l ≡ true) → possible g some from to m ≡ true → possible g more from to k ≡ true
unfolding can_start route
possible_more g some more from to k m f = by (fewest g (some m) to from) refl
  where
    by : (n : Found) → fewest g (some m) to from ≡ n → is_granted (grant_at m (route_of g (some m) to from n)) ≡ true → is_granted (grant_at k (route_of g (more k) to from (fewest g (more k) to from))) ≡ true
    by (at n) e p = let r = fewest_more g (some m) (more k) f to from e in ap (λ x. is_granted (grant_at k (route_of g (more k) to from x))) r.1
    by nothing e p = absurd (false≢true p)

-- so it is if a later one is, and what links carry from the later one they carry from it; ts are the times between which they do
pub possible_back : (g : Graph) (carries : ℕ → ℕ → Bool) (from to : ℕ) (ts : List ℕ) → ((k m l : ℕ) → k ≤ m → NoneBetween ts k m → carries m l ≡ true → carries k l ≡ true)
    → (k m : ℕ) → k ≤ m → NoneBetween ts k m → possible g carries from to m ≡ true → possible g carries from to k ≡ true
possible_back g carries from to ts back k m h q = possible_more g carries carries from to k m (λ l. back k m l h q)

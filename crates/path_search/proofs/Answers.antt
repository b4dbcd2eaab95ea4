-- A route and what C is answered: the count of links tells whether there is a route, whatever the links, the source and the
-- destination.
use mathlib.Core.Path.{◌≡◌, refl, sym, ap}
use mathlib.Core.Bool.{Bool}
use mathlib.Core.List.{List}
use Prim.Native.Nat.{ℕ, ◌-◌, ◌≤◌}
use native.Mathlib.Omega.{arith}
use lib.ListN.{length, take, replicate}
use lib.Seq.{take-append_seam}
use Rattle.units.specs.Limits.{most_hops}
use Rattle.units.specs.Lists.{Within}
use Rattle.units.specs.Search.{Found, at, nothing}
use Rattle.units.proofs.Search.{IsFirst, first_from_found}
use Rattle.path_search.specs.Paths.{Graph, Route, along, none, reaches, lowest, fewest, route_of, route}
use Rattle.path_search.specs.Answer.{answer}
use Rattle.path_search.proofs.Chains.{lowest_length}

-- a route has 1 to 31 links
pub data Sized : Route → Type 0 where
  sized : (path : List ℕ) → Within 1 most_hops (length path) → Sized (along path)
  no_route : Sized none

pub route_sized : (g : Graph) (usable : ℕ → Bool) (target v : ℕ) → Sized (route g usable target v)
unfolding route fewest
route_sized g usable target v = by (fewest g usable target v) refl
  where
    by : (f : Found) → fewest g usable target v ≡ f → Sized (route_of g usable target v f)
    by (at n) e =
        let r : IsFirst 1 most_hops (λ k. reaches g usable target k v) n = first_from_found (λ k. reaches g usable target k v) 1 most_hops e in
        let long = lowest_length g usable target n v r.passes in
        sized (lowest g usable target n v) (omega arith, omega arith)
    by nothing e = no_route

-- so an answer with no link says that there is none, and any other has the route
pub answer_none : (r : Route) → Sized r → (answer r).count ≡ 0 → r ≡ none
answer_none r (sized path h) e = absurd (omega arith)
answer_none r no_route e = refl

pub answer_along : (r : Route) → Sized r → 1 ≤ (answer r).count → r ≡ along (take (answer r).count (answer r).links)
answer_along r (sized path h) k = ap along (sym (take-append_seam path (replicate (most_hops - length path) 0)))
answer_along r no_route k = absurd (omega arith)

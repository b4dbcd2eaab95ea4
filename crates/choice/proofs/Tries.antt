-- What the tries of a call leave for those after them: without a link of a cut there is no path, and over the links of a path that
-- was found there is one.
use mathlib.Core.Path.{◌≡◌, refl, sym, ◌∙◌, ap}
use mathlib.Core.List.{List, [], ◌∷◌}
use mathlib.Core.Bool.{Bool, true}
use Prim.Native.Nat.{ℕ, zero, suc, ◌%◌, ◌<◌, zero-le, suc-le-suc}
use native.Mathlib.Omega.{arith}
use lib.ListN.{length, get_or, take}
use Rattle.std.proofs.Common.{Some}
use Rattle.units.specs.Limits.{most_links}
use Rattle.units.specs.Lists.{All}
use Rattle.units.specs.Sets.{has}
use Rattle.path_search.specs.declared.Path.{Path}
use Rattle.path_search.specs.Paths.{Route, along, none, route}
use Rattle.path_search.specs.Answer.{graph, found_path}
use Rattle.path_search.proofs.Agree.{Agree, route_agree}
use Rattle.path_search.proofs.Theorems.{found_stays}
use Rattle.choice.specs.declared.search.Search.{Search}
use Rattle.choice.specs.Earliest.{is_granted, can_start}
use Rattle.choice.specs.Choice.{grant_at, possible}
use Rattle.choice.specs.Known.{leads_over}

module _ (s : Search) where
  -- a set has those of the graph's links that pass the test
  pub same_links : (p q : ℕ → Bool) → ((l : ℕ) → l < most_links → p l ≡ q l) → Agree (graph s.ends) (graph s.ends) p q
  same_links p q same = record { count = refl; from = λ l h. refl; to = λ l h. refl; usable = λ l h. same l (omega (arith, s.ends.in_range.few)) }

  -- then there is a path over it if and only if there is one at the minute of the test
  pub leads_possible : (set : ℕ) (carries : ℕ → ℕ → Bool) (m : ℕ) → ((l : ℕ) → l < most_links → has set l ≡ carries m l)
      → leads_over s set ≡ possible (graph s.ends) carries s.source s.destination m
  unfolding can_start
  leads_possible set carries m same =
      granted_at 0 m (route (graph s.ends) (has set) s.destination s.source)
      ∙ ap (λ r. is_granted (grant_at m r)) (route_agree (graph s.ends) (graph s.ends) (has set) (carries m) (same_links (has set) (carries m) same) s.destination s.source)
    where
      granted_at : (k m : ℕ) (r : Route) → is_granted (grant_at k r) ≡ is_granted (grant_at m r)
      granted_at k m (along path) = refl
      granted_at k m none = refl

-- ---- the links of a path that was found

pub all_taken : (P : ℕ → Type 0) (n : ℕ) (links : List ℕ) → ((i : ℕ) → i < n → i < length links → P (get_or links i 0)) → All P (take n links)
all_taken P zero links f = tt
all_taken P (suc n) [] f = tt
all_taken P (suc n) (l ∷ links) f = (f 0 (suc-le-suc zero-le) (suc-le-suc zero-le), all_taken P n links (λ i a b. f (suc i) (omega arith) (omega arith)))

-- over them there is one
pub held_leads : (s : Search) (usable : ℕ → Bool) (path : Path) (set : ℕ) → Some path ≡ found_path (route (graph s.ends) usable s.destination s.source)
    → All (λ l. has set (l % most_links) ≡ true) (take path.count path.links) → leads_over s set ≡ true
unfolding can_start
held_leads s usable path set answered held =
    let g = graph s.ends in
    let those : ℕ → Bool = λ l. has set (l % most_links) in
    let other = found_stays g usable those s.source s.destination path (sym answered) held in
    leads_possible s set (λ m. those) 0 (λ l h. ap (has set) (omega arith)) ∙ ap (λ r. is_granted (grant_at 0 r)) other.1

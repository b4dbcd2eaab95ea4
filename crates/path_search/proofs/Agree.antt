-- A route depends on nothing but the count, the ends and the tests of the links below the count: upper crates replace
-- a graph or a test by another that agrees with it there.
use mathlib.Core.Path.{◌≡◌, refl, ◌∙◌, ap, ap₂}
use mathlib.Core.List.{List, [], ◌∷◌}
use mathlib.Core.Bool.{Bool, true, false, ◌&&◌}
use Prim.Native.Nat.{ℕ, zero, suc, ◌<◌}
use native.Mathlib.Nat.{le_refl}
use native.Mathlib.Omega.{arith}
use lib.Dec.{eqb}
use Rattle.units.specs.Limits.{most_hops}
use Rattle.units.specs.Search.{Found, at, nothing, first_from, any_below}
use Rattle.units.proofs.Search.{IsFirst, first_from_found, first_from_agree}
use Rattle.path_search.specs.Paths.{Graph, along, onward, reaches, lowest, fewest, route_of, route}

-- tests that agree below n find alike
pub any_below_agree : (p q : ℕ → Bool) (n : ℕ) → ((k : ℕ) → k < n → p k ≡ q k) → any_below n p ≡ any_below n q
unfolding any_below
any_below_agree p q zero h = refl
any_below_agree p q (suc n) h =
    ap₂ (λ t r. elim t as (λ x. Bool) [ true ↦ true | false ↦ r ]) (h n (le_refl _)) (any_below_agree p q n (λ k a. h k (omega arith)))

-- two graphs and tests agree on the links below the count
pub record Agree (g h : Graph) (p q : ℕ → Bool) : Type 0 where
  pub count : g.count ≡ h.count
  pub from : (l : ℕ) → l < g.count → g.from l ≡ h.from l
  pub to : (l : ℕ) → l < g.count → g.to l ≡ h.to l
  pub usable : (l : ℕ) → l < g.count → p l ≡ q l

module _ (g h : Graph) (p q : ℕ → Bool) (same : Agree g h p q) (target : ℕ) where
  onward_agree : (n v : ℕ) → ((w : ℕ) → reaches g p target n w ≡ reaches h q target n w) → (l : ℕ) → l < g.count
      → onward g p (reaches g p target n) v l ≡ onward h q (reaches h q target n) v l
  onward_agree n v e l k =
      ap₂ ◌&&◌ (ap₂ ◌&&◌ (ap (λ x. eqb x v) (same.from l k)) (same.usable l k)) (e (g.to l) ∙ ap (reaches h q target n) (same.to l k))

  pub reaches_agree : (n v : ℕ) → reaches g p target n v ≡ reaches h q target n v
  unfolding reaches
  reaches_agree zero v = refl
  reaches_agree (suc n) v =
      any_below_agree _ _ g.count (onward_agree n v (reaches_agree n)) ∙ ap (λ k. any_below k (onward h q (reaches h q target n) v)) same.count

  pub lowest_agree : (n v : ℕ) → lowest g p target n v ≡ lowest h q target n v
  unfolding lowest
  lowest_agree zero v = refl
  lowest_agree (suc n) v =
      by (lowest_agree n) (first_from 0 g.count test) refl
      ∙ ap (λ f. elim f as (λ x. List ℕ) [ at l ↦ l ∷ lowest h q target n (h.to l) | nothing ↦ [] ])
      (first_from_agree test other 0 g.count (λ l a k. onward_agree n v (reaches_agree n) l (omega arith)) ∙ ap (λ k. first_from 0 k other) same.count)
    where
      test : ℕ → Bool
      test = onward g p (reaches g p target n) v

      other : ℕ → Bool
      other = onward h q (reaches h q target n) v

      by : ((w : ℕ) → lowest g p target n w ≡ lowest h q target n w) → (f : Found) → first_from 0 g.count test ≡ f
          → ◌≡◌ {A = List ℕ} (elim f [ at l ↦ l ∷ lowest g p target n (g.to l) | nothing ↦ [] ]) (elim f [ at l ↦ l ∷ lowest h q target n (h.to l) | nothing ↦ [] ])
      by ih (at l) e =
          let r : IsFirst 0 g.count test l = first_from_found test 0 g.count e in
          ap (λ r. l ∷ r) (ih (g.to l) ∙ ap (lowest h q target n) (same.to l (omega arith)))
      by ih nothing e = refl

  -- the two have equal routes
  pub route_agree : (v : ℕ) → route g p target v ≡ route h q target v
  unfolding route fewest
  route_agree v = by (first_from 1 most_hops (λ n. reaches g p target n v)) ∙ ap (route_of h q target v) (first_from_agree _ _ 1 most_hops (λ n a b. reaches_agree n v))
    where
      by : (f : Found) → route_of g p target v f ≡ route_of h q target v f
      by (at n) = ap along (lowest_agree n v)
      by nothing = refl

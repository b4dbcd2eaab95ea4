-- Distances and rounds: a node from which n + 1 links lead, and no fewer, is the start of a link to one from which n do. Where there
-- is none of n links there is none of more.
use mathlib.Core.Path.{◌≡◌, refl, sym, ap, subst}
use mathlib.Core.Bool.{Bool, true, false}
use Prim.Native.Nat.{ℕ, zero, suc, ◌≤◌, zero-le}
use native.Mathlib.Decide.{ℕ_discrete}
use native.Mathlib.Omega.{arith}
use lib.Dec.{eqb}
use borrow.Author.Tests.{eqb-true, eq-eqb}
use Rattle.units.specs.Limits.{last_node}
use Rattle.units.specs.Search.{Found, at, nothing, first_from}
use Rattle.units.proofs.Search.{IsFirst, first_from_found, first_from_finds, first_from_none, first_from_first, first_from_nothing, clash, not_true}
use Rattle.units.proofs.Tests.{Tells}
use Rattle.path_search.specs.Paths.{Graph, reaches}
use Rattle.path_search.specs.Rounds.{far, figure_of, distance}
use Rattle.path_search.proofs.Chains.{Leaves, reaches_first, reaches_step}
use Rattle.path_search.proofs.Loops.{NodesBelow}
use Rattle.path_search.proofs.Needed.{Fewest}

module _ (g : Graph) (usable : ℕ → Bool) (target : ℕ) where
  abbrev reached : ℕ → ℕ → Bool
  reached n v = reaches g usable target n v

  abbrev Away : ℕ → ℕ → Type 0
  Away v n = Fewest g usable target v n

  -- link l leaves v and can be used
  abbrev Out : ℕ → ℕ → Type 0
  Out v l = Leaves g (λ k. usable k ≡ true) v l

  -- what the distance of up to n links says of node v
  pub data Says (n v : ℕ) : ℕ → Type 0 where
    fewest_are : (d : ℕ) → d ≤ n → Away v d → Says n v d
    none_yet : ((m : ℕ) → m ≤ n → reached m v ≡ false) → Says n v far

  pub distance_says : (n v : ℕ) → Says n v (distance g usable target n v)
  unfolding distance
  distance_says n v = by (first_from 0 (suc n) (λ k. reached k v)) refl
    where
      by : (f : Found) → first_from 0 (suc n) (λ k. reached k v) ≡ f → Says n v (figure_of f)
      by (at d) e =
          let r : IsFirst 0 (suc n) (λ k. reached k v) d = first_from_found (λ k. reached k v) 0 (suc n) e in
          fewest_are d (omega arith) (record { leads = r.passes; before = λ m a. r.before m zero-le a })
      by nothing e = none_yet (λ m a. first_from_none (λ k. reached k v) 0 (suc n) e m zero-le (omega arith))

  distance_is : (n v d : ℕ) → Says n v d → distance g usable target n v ≡ d
  unfolding distance
  distance_is n v d (fewest_are k h f) =
      ap figure_of (first_from_first (λ j. reached j v) 0 (suc n) k (record { low = zero-le; high = omega arith; passes = f.leads; before = λ j z a. f.before j a }))
  distance_is n v d (none_yet u) = ap figure_of (first_from_nothing (λ j. reached j v) 0 (suc n) (λ j z a. u j (omega arith)))

  -- the distance is n exactly where n are the fewest links
  pub distance_tells : (v n : ℕ) → n ≤ last_node → Tells (eqb (distance g usable target last_node v) n) (Away v n)
  distance_tells v n h = ((λ e. by (distance g usable target last_node v) (distance_says last_node v) (eqb-true _ _ e)), λ f. eq-eqb _ _ (distance_is last_node v n (fewest_are n h f)))
    where
      by : (d : ℕ) → Says last_node v d → d ≡ n → Away v n
      by d (fewest_are k a f) e = subst (Away v) e f
      by d (none_yet u) e = absurd (omega arith)

  -- where n links lead, the fewest are no more
  pub reached_fewest : (n v : ℕ) → reached n v ≡ true → (m : ℕ) × (m ≤ n) × Away v m
  reached_fewest n v t =
      let f = first_from_finds (λ k. reached k v) 0 (suc n) n zero-le (omega arith) t in
      let r : IsFirst 0 (suc n) (λ k. reached k v) f.0 = first_from_found (λ k. reached k v) 0 (suc n) f.1 in
      (f.0, f.2, record { leads = r.passes; before = λ m a. r.before m zero-le a })

  -- one link more: from the first link's end the rest are the fewest
  pub fewest_first : (n v : ℕ) → Away v (suc n) → (l : ℕ) × Out v l × Away (g.to l) n
  fewest_first n v f =
      let s = reaches_first g usable target n v f.leads in (
        s.0,
        s.1,
        record { leads = s.2; before = λ m a. not_true (reached m (g.to s.0)) (λ t. clash (reaches_step g usable target m v s.0 s.1 t) (f.before (suc m) (omega arith))) },
      )

  pub fewest_step : (n v l : ℕ) → Out v l → Away (g.to l) n → ((m : ℕ) → m ≤ n → reached m v ≡ false) → Away v (suc n)
  fewest_step n v l o f u = record { leads = reaches_step g usable target n v l o f.leads; before = λ m a. u m (omega arith) }

  -- where no node needs n links none needs more
  pub none_further : NodesBelow g (suc last_node) → (n : ℕ) → ((v : ℕ) → v ≤ last_node → ¬ Away v n) → (m v : ℕ) → n ≤ m → v ≤ last_node → ¬ Away v m
  none_further below n none zero v h k f = none v k (subst (Away v) (let e : 0 ≡ n = omega arith in e) f)
  none_further below n none (suc m) v h k f =
      elim (ℕ_discrete n (suc m)) [
        | yes e ↦ none v k (subst (Away v) (sym e) f)
        | no d ↦ let s = fewest_first m v f in none_further below n none m (g.to s.0) (omega arith) (let b = below.to_below s.0 s.1.known in omega arith) s.2
      ]

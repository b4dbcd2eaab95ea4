-- The links that a node needs and the most that any needs: what `needed` and `most_needed` compute is what chains of any length
-- give.
use mathlib.Core.Path.{◌≡◌, refl, sym, ◌∙◌, ap, subst}
use mathlib.Core.Logic.{◌⊎◌, inl, inr}
use mathlib.Core.Bool.{Bool, true, false}
use Prim.Native.Nat.{ℕ, zero, suc, ◌≤◌, ◌<◌, zero-le, suc-le-suc, max}
use native.Mathlib.Nat.{le_antisymm}
use native.Mathlib.Decide.{ℕ_discrete, dec_lt}
use native.Mathlib.Omega.{arith}
use lib.ListN.{length}
use borrow.Author.Tests.{eq-eqb}
use Rattle.units.specs.Limits.{last_node, most_hops}
use Rattle.units.specs.Search.{Found, at, nothing}
use Rattle.units.proofs.Search.{IsFirst, first_from_found, first_from_first, clash, not_true}
use Rattle.path_search.specs.Paths.{Graph, reaches}
use Rattle.path_search.specs.Needed.{counted, needed, most_below, most_needed, Needs, MostNeeded}
use Rattle.path_search.proofs.Chains.{reaches_first, reaches_iff, chain_reaches}
use Rattle.path_search.proofs.Loops.{NodesBelow}
use Rattle.path_search.proofs.Routes.{short_way}
use Rattle.path_search.proofs.Paths.{chain_leads}

module _ (g : Graph) (usable : ℕ → Bool) (destination : ℕ) where
  abbrev Usable : ℕ → Type 0
  Usable l = usable l ≡ true

  abbrev reached : ℕ → ℕ → Bool
  reached n v = reaches g usable destination n v

  -- a chain of n links leads from v to the destination, and none of fewer, told by `reaches`
  pub record Fewest (v n : ℕ) : Type 0 where
    pub leads : reached n v ≡ true
    pub before : (m : ℕ) → m < n → reached m v ≡ false

  -- then v needs n links
  pub fewest_needs : (v n : ℕ) → Fewest v n → Needs g usable destination v n
  fewest_needs v n f =
      let r = (reaches_iff g usable destination n v).0 f.leads in
      record {
        chain = r.0;
        joins = (chain_leads g Usable v destination r.0).0 r.2;
        long = r.1;
        fewest = λ other j.
            elim (dec_lt (length other) n) [
              | yes k ↦ clash (chain_reaches g usable destination v other ((chain_leads g Usable v destination other).1 j)) (f.before (length other) k)
              | no k ↦ omega arith
            ];
      }

  pub needs_fewest : (v n : ℕ) → Needs g usable destination v n → Fewest v n
  needs_fewest v n d =
      record {
        leads = (reaches_iff g usable destination n v).1 (d.chain, d.long, (chain_leads g Usable v destination d.chain).1 d.joins);
        before = λ m k.
            not_true (reached m v)
            (λ t.
            let r = (reaches_iff g usable destination m v).0 t in
            let z = d.fewest r.0 ((chain_leads g Usable v destination r.0).0 r.2) in
            omega (arith, r.1));
      }

  -- the destination needs none
  pub none_needed : Fewest destination 0
  unfolding reaches
  none_needed = record { leads = eq-eqb destination destination refl; before = λ m k. absurd (omega arith) }

  -- one number at most is the most that is needed
  pub most_only : (n k : ℕ) → MostNeeded g usable destination n → MostNeeded g usable destination k → n ≡ k
  most_only n k a b = le_antisymm (b.most a.node n a.needs) (a.most b.node k b.needs)

  needed_fewest : (v n : ℕ) → needed g usable destination v ≡ at n → Fewest v n
  unfolding needed
  needed_fewest v n e =
      let r : IsFirst 0 (suc most_hops) (λ k. reached k v) n = first_from_found (λ k. reached k v) 0 (suc most_hops) e in
      record { leads = r.passes; before = λ m k. r.before m zero-le k }

  abbrev most : ℕ → ℕ
  most n = most_below g usable destination n

  -- `most_below` is no less than what any of the nodes needs
  most_bound : (n v m : ℕ) → v < n → needed g usable destination v ≡ at m → m ≤ most n
  unfolding most_below
  most_bound zero v m h e = absurd (omega arith)
  most_bound (suc n) v m h e =
      elim (ℕ_discrete v n) [
        | yes q ↦ let z : counted (needed g usable destination n) ≡ m = ap (λ w. counted (needed g usable destination w)) (sym q) ∙ ap counted e in omega arith
        | no q ↦ let z = most_bound n v m (omega arith) e in omega arith
      ]

  -- and is none, or what one of them needs
  abbrev Met : ℕ → Type 0
  Met d = (d ≡ 0) ⊎ ((v : ℕ) × (needed g usable destination v ≡ at d))

  most_met : (n : ℕ) → Met (most n)
  unfolding most_below
  most_met zero = inl refl
  most_met (suc n) = by (most_met n) (needed g usable destination n) refl
    where
      by : Met (most n) → (f : Found) → needed g usable destination n ≡ f → Met (max (counted f) (most n))
      by ih (at m) e =
          elim (dec_lt m (most n)) [
            | yes k ↦ let z : most n ≡ max m (most n) = omega arith in subst Met z ih
            | no k ↦ let z : m ≡ max m (most n) = omega arith in inr (n, e ∙ ap at z)
          ]
      by ih nothing e = let z : most n ≡ max 0 (most n) = omega arith in subst Met z ih

  module _ (below : NodesBelow g (suc last_node)) where
    -- a node that needs a link is one of 0 to 31
    pub some_needed : (v n : ℕ) → Fewest v (suc n) → v ≤ last_node
    some_needed v n f = let l = reaches_first g usable destination n v f.leads in let b = below.from_below l.0 l.1.known in omega (arith, l.1.begins)

    -- no node needs more than 31 links
    pub needs_few : (v n : ℕ) → Fewest v n → n ≤ last_node
    needs_few v zero f = zero-le
    needs_few v (suc n) f =
        let r = (reaches_iff g usable destination (suc n) v).0 f.leads in
        let s = short_way g usable destination v below (some_needed v n f) r.0 r.2 in
        elim (dec_lt (length s.0) (suc n)) [ yes k ↦ clash (chain_reaches g usable destination v s.0 s.1) (f.before (length s.0) k) | no k ↦ omega (arith, s.2) ]

    fewest_bound : (v n : ℕ) → Fewest v n → n ≤ most_needed g usable destination
    unfolding needed
    fewest_bound v zero f = zero-le
    fewest_bound v (suc n) f =
        let few = needs_few v (suc n) f in
        most_bound (suc last_node) v (suc n) (suc-le-suc (some_needed v n f))
        (first_from_first (λ k. reached k v) 0 (suc most_hops) (suc n) (record { low = zero-le; high = omega arith; passes = f.leads; before = λ k z a. f.before k a }))

    -- `most_needed` is the most that is needed
    pub most_right : MostNeeded g usable destination (most_needed g usable destination)
    most_right = by (most_needed g usable destination) (most_met (suc last_node)) (λ v m d. fewest_bound v m (needs_fewest v m d))
      where
        by : (d : ℕ) → Met d → ((v m : ℕ) → Needs g usable destination v m → m ≤ d) → MostNeeded g usable destination d
        by d (inl e) bound = record { node = destination; needs = fewest_needs destination d (subst (Fewest destination) (sym e) none_needed); most = bound }
        by d (inr r) bound = record { node = r.0; needs = fewest_needs r.0 d (needed_fewest r.0 d r.1); most = bound }

-- By the distances, the first at which a usable link out of the source ends tells the fewest links of a path, and the links
-- picked are the lowest chain.
use mathlib.Core.Path.{◌≡◌, refl, sym, ◌∙◌, ap, ap₂, subst}
use mathlib.Core.List.{List, [], ◌∷◌}
use mathlib.Core.Bool.{Bool, true, false, ◌&&◌, and-eq-true_iff}
use Prim.Native.Nat.{ℕ, zero, suc, ◌≤◌, ◌<◌}
use native.Mathlib.Decide.{ℕ_discrete, dec_lt}
use native.Mathlib.Omega.{arith}
use lib.Dec.{eqb, ltb}
use lib.ListN.{length}
use borrow.Author.Tests.{eqb-true, eq-eqb, ne_eqb, ltb-true, lt-ltb}
use Rattle.std.specs.Int.Bits.{bit_and}
use Rattle.std.proofs.Common.{Some, None}
use Rattle.units.specs.Limits.{last_node, most_hops}
use Rattle.units.specs.Sets.{has}
use Rattle.units.proofs.Sets.{has_some, some_has}
use Rattle.path_search.proofs.Sets.{onward_in}
use Rattle.units.specs.Search.{Found, at, nothing, is_nothing, first_from}
use Rattle.units.proofs.Search.{IsFirst, first_from_found, first_from_first, first_from_nothing, first_from_agree, clash, not_true}
use Rattle.path_search.specs.Paths.{Graph, reaches, lowest, fewest, along, none, route_of, route, onward}
use Rattle.path_search.specs.Rounds.{far, distance, LinksAt}
use Rattle.path_search.specs.Picks.{nearer_link, picked, Walkable}
use Rattle.path_search.specs.Answer.{found_number}
use Rattle.path_search.proofs.Chains.{Leaves, reaches_first, reaches_step, lowest_length}
use Rattle.path_search.proofs.Needed.{Fewest}
use Rattle.path_search.proofs.DistanceLaws.{Says, fewest_are, none_yet, distance_says, distance_tells, reached_fewest}

-- what a search found, read as an option
pub found_at : (f : Found) (n : ℕ) → found_number f ≡ Some n → f ≡ at n
found_at (at m) n e = ap at (let z : m ≡ n = cc in z)
found_at nothing n e = let z : ◌≡◌ {A = ℕ} 0 1 = cc in absurd (omega arith)

pub found_nothing : (f : Found) → found_number f ≡ None → f ≡ nothing
found_nothing (at m) e = let z : ◌≡◌ {A = ℕ} 0 1 = cc in absurd (omega arith)
found_nothing nothing e = refl

module _ (g : Graph) (usable : ℕ → Bool) (figure : ℕ → ℕ) where
  -- the link is picked at v, and the rest from its end on
  pub record Picked (n v link : ℕ) : Type 0 where
    pub known : link < g.count
    pub next : picked g usable figure (suc n) v ≡ link ∷ picked g usable figure n (g.to link)

  -- the search finds the link that is picked next
  pub picked_next : (n v link : ℕ) → nearer_link g usable figure v n ≡ at link → Picked n v link
  unfolding picked
  picked_next n v link e =
      let r : IsFirst 0 g.count (onward g usable (λ w. eqb (figure w) n) v) link = first_from_found (onward g usable (λ w. eqb (figure w) n) v) 0 g.count e in
      record { known = omega arith; next = rw (e, picked) }

  -- where enough links can be picked there is one
  pub some_left : (n v : ℕ) → length (picked g usable figure (suc n) v) ≡ suc n → is_nothing (nearer_link g usable figure v n) ≡ false
  unfolding picked
  some_left n v long = by (nearer_link g usable figure v n) refl
    where
      by : (f : Found) → nearer_link g usable figure v n ≡ f → is_nothing f ≡ false
      by (at l) q = refl
      by nothing q = let z : 0 ≡ suc n = rw (q, picked) at long in absurd (omega arith)

  -- it is one of the graph and begins at v
  pub record Nearer (v near : ℕ) : Type 0 where
    pub link : ℕ
    pub found : nearer_link g usable figure v near ≡ at link
    pub known : link < g.count
    pub begins : g.from link ≡ v

  pub some_nearer : (v near : ℕ) → is_nothing (nearer_link g usable figure v near) ≡ false → Nearer v near
  some_nearer v near some = by (nearer_link g usable figure v near) refl some
    where
      by : (f : Found) → nearer_link g usable figure v near ≡ f → is_nothing f ≡ false → Nearer v near
      by (at l) e some =
          let r : IsFirst 0 g.count (onward g usable (λ w. eqb (figure w) near) v) l = first_from_found (onward g usable (λ w. eqb (figure w) near) v) 0 g.count e in
          let o = (and-eq-true_iff (eqb (g.from l) v && usable l) (eqb (figure (g.to l)) near)).0 r.passes in
          let p = (and-eq-true_iff (eqb (g.from l) v) (usable l)).0 o.0 in
          record { link = l; found = e; known = omega (arith, r.high); begins = eqb-true _ _ p.0 }
      by nothing e some = clash refl some

module _ (g : Graph) (usable : ℕ → Bool) (target : ℕ) where
  abbrev reached : ℕ → ℕ → Bool
  reached n v = reaches g usable target n v

  abbrev away : ℕ → ℕ
  away v = distance g usable target last_node v

  -- a usable link leads from v to a node from which n links lead to the target
  abbrev pub Ends : ℕ → ℕ → Type 0
  Ends v n = (l : ℕ) × Leaves g (λ k. usable k ≡ true) v l × Fewest g usable target (g.to l) n

  -- the set of the links out of v that lead to those nodes has one exactly where there is one
  module _ (v n out links : ℕ) (few : n ≤ last_node) (leaving : (l : ℕ) → has out l ≡ (ltb l g.count && eqb (g.from l) v)) (leading : LinksAt g usable away n links) where
    pub set_ends : 0 < bit_and out links → Ends v n
    set_ends some =
        let s = some_has (bit_and out links) some in
        let t = s.0 in
        let o = (and-eq-true_iff (ltb t g.count) (onward g usable (λ w. eqb (away w) n) v t)).0 (sym (onward_in g usable away n v out links leaving leading t) ∙ s.1) in
        let p = (and-eq-true_iff (eqb (g.from t) v && usable t) (eqb (away (g.to t)) n)).0 o.1 in
        let q = (and-eq-true_iff (eqb (g.from t) v) (usable t)).0 p.0 in
        (t, record { known = ltb-true t g.count o.0; begins = eqb-true _ _ q.0; usable = q.1 }, (distance_tells g usable target (g.to t) n few).0 p.1)

    pub ends_set : Ends v n → 0 < bit_and out links
    ends_set s =
        has_some (bit_and out links) s.0
        (onward_in g usable away n v out links leaving leading s.0
        ∙ (and-eq-true_iff (ltb s.0 g.count) (onward g usable (λ w. eqb (away w) n) v s.0)).1 (
          lt-ltb s.0 g.count s.1.known,
          ap₂ ◌&&◌ (ap₂ ◌&&◌ (eq-eqb _ _ s.1.begins) s.1.usable) ((distance_tells g usable target (g.to s.0) n few).1 s.2),
        ))

  none_before : (v n : ℕ) → ((k : ℕ) → k < n → ¬ Ends v k) → (j : ℕ) → 1 ≤ j → j ≤ n → reached j v ≡ false
  none_before v n no_end zero a b = absurd (omega arith)
  none_before v n no_end (suc i) a b =
      not_true (reached (suc i) v)
      (λ t.
      let s = reaches_first g usable target i v t in
      let f = reached_fewest g usable target i (g.to s.0) s.2 in
      no_end f.0 (omega (arith, f.1)) (s.0, s.1, f.2))

  -- the first number of links at whose end a link out of v ends
  pub fewest_is : (v n : ℕ) → n < most_hops → Ends v n → ((k : ℕ) → k < n → ¬ Ends v k) → fewest g usable target v ≡ at (suc n)
  unfolding fewest
  fewest_is v n few s no_end =
      first_from_first (λ k. reached k v) 1 most_hops (suc n)
      (record { low = omega arith; high = omega arith; passes = reaches_step g usable target n v s.0 s.1 s.2.leads; before = λ j a b. none_before v n no_end j a (omega arith) })

  pub fewest_none : (v : ℕ) → ((k : ℕ) → k < most_hops → ¬ Ends v k) → fewest g usable target v ≡ nothing
  unfolding fewest
  fewest_none v no_end = first_from_nothing (λ k. reached k v) 1 most_hops (λ j a b. none_before v most_hops no_end j a (omega arith))

  -- from v on, n are the fewest links, so an end is at n - 1 links exactly where its distance says so
  module _ (n v : ℕ) (few : suc n ≤ most_hops) (least : (j : ℕ) → 1 ≤ j → j < suc n → reached j v ≡ false) where
    figure_tells : (l : ℕ) → Leaves g (λ k. usable k ≡ true) v l → eqb (away (g.to l)) n ≡ reached n (g.to l)
    figure_tells l o = by (away (g.to l)) (distance_says g usable target last_node (g.to l))
      where
        by : (d : ℕ) → Says g usable target last_node (g.to l) d → eqb d n ≡ reached n (g.to l)
        by d (fewest_are m a f) =
            elim (ℕ_discrete m n) [
              | yes e ↦ eq-eqb m n e ∙ sym (subst (λ j. reached j (g.to l) ≡ true) e f.leads)
              | no e ↦ ne_eqb m n e
                  ∙ sym (elim (dec_lt n m) [
                    | yes c ↦ f.before n c
                    | no c ↦ clash (reaches_step g usable target m v l o f.leads) (least (suc m) (omega arith) (omega arith))
                  ])
            ]
        by d (none_yet u) = ne_eqb far n (λ e. omega arith) ∙ sym (u n (omega arith))

    tests_agree : (l : ℕ) → l < g.count → onward g usable (λ w. eqb (away w) n) v l ≡ onward g usable (reached n) v l
    tests_agree l k = by (eqb (g.from l) v && usable l) refl
      where
        by : (t : Bool) → (eqb (g.from l) v && usable l) ≡ t → (t && eqb (away (g.to l)) n) ≡ (t && reached n (g.to l))
        by true e = let o = (and-eq-true_iff (eqb (g.from l) v) (usable l)).0 e in figure_tells l (record { known = k; begins = eqb-true _ _ o.0; usable = o.1 })
        by false e = refl

  picked_is : (n v : ℕ) → n ≤ most_hops → reached n v ≡ true → ((j : ℕ) → 1 ≤ j → j < n → reached j v ≡ false) → picked g usable away n v ≡ lowest g usable target n v
  unfolding picked lowest
  picked_is zero v few r least = refl
  picked_is (suc n) v few r least =
      ap (λ f. elim f as (λ x. List ℕ) [ at l ↦ l ∷ picked g usable away n (g.to l) | nothing ↦ [] ]) (first_from_agree _ test 0 g.count (λ l a k. tests_agree n v few least l (omega arith)))
      ∙ by (λ w. picked_is n w (omega arith)) (first_from 0 g.count test) refl
    where
      test : ℕ → Bool
      test = onward g usable (reached n) v

      by : ((w : ℕ) → reached n w ≡ true → ((j : ℕ) → 1 ≤ j → j < n → reached j w ≡ false) → picked g usable away n w ≡ lowest g usable target n w) → (f : Found)
          → first_from 0 g.count test ≡ f
          → ◌≡◌ {A = List ℕ} (elim f [ at l ↦ l ∷ picked g usable away n (g.to l) | nothing ↦ [] ]) (elim f [ at l ↦ l ∷ lowest g usable target n (g.to l) | nothing ↦ [] ])
      by ih (at l) e =
          let s : IsFirst 0 g.count test l = first_from_found test 0 g.count e in
          let o = (and-eq-true_iff (eqb (g.from l) v && usable l) (reached n (g.to l))).0 s.passes in
          let p = (and-eq-true_iff (eqb (g.from l) v) (usable l)).0 o.0 in
          let out : Leaves g (λ k. usable k ≡ true) v l = record { known = omega arith; begins = eqb-true _ _ p.0; usable = p.1 } in
          ap (λ rest. l ∷ rest) (ih (g.to l) o.1 (λ j a b. not_true (reached j (g.to l)) (λ t. clash (reaches_step g usable target j v l out t) (least (suc j) (omega arith) (omega arith)))))
      by ih nothing e = refl

  -- the fewest links tell the route
  module _ (v n : ℕ) (e : fewest g usable target v ≡ at n) where
    first : IsFirst 1 most_hops (λ k. reached k v) n
    unfolding fewest
    first = first_from_found (λ k. reached k v) 1 most_hops e

    picked_lowest : picked g usable away n v ≡ lowest g usable target n v
    picked_lowest = picked_is n v (let r = first in omega (arith, r.high)) first.passes (λ j a b. first.before j a b)

    pub walkable : Walkable g usable away n v
    walkable = record { few = (let r = first in omega (arith, r.high)); all = ap length picked_lowest ∙ lowest_length g usable target n v first.passes }

    pub route_is : route g usable target v ≡ along (picked g usable away n v)
    unfolding route
    route_is = ap (route_of g usable target v) e ∙ ap along (sym picked_lowest)

  pub route_none : (v : ℕ) → fewest g usable target v ≡ nothing → route g usable target v ≡ none
  unfolding route
  route_none v e = ap (route_of g usable target v) e

-- Sets of nodes and links: which links the nodes of a set have, by the links of each node.
use mathlib.Core.Path.{◌≡◌, refl, sym, ◌∙◌, ap, ap₂}
use mathlib.Core.List.{List}
use mathlib.Core.Bool.{Bool, true, false, not, ◌&&◌, ◌||◌, and-eq-true_iff}
use Prim.Native.Nat.{ℕ, ◌+◌, ◌-◌, ◌*◌, ◌%◌, ◌^◌, ◌≤◌, ◌<◌, zero-le, suc-le-suc}
use native.Mathlib.Numerals.{add-one}
use native.Mathlib.Decide.{ℕ_discrete}
use native.Mathlib.Omega.{arith}
use lib.Dec.{eqb, ltb}
use lib.ListN.{length, get_or, set}
use lib.Seq.{get_or-set_same, get_or-set_other}
use borrow.Author.Tests.{eqb-true, eq-eqb, ne_eqb, ltb-true, lt-ltb}
use Rattle.std.specs.Int.{w32, w64, trailing_zeros}
use Rattle.std.specs.Int.Bits.{bit_and, bit_or}
use Rattle.units.specs.Limits.{last_node}
use Rattle.units.specs.Sets.{has}
use Rattle.units.specs.Search.{at, first_from, any_below}
use Rattle.units.proofs.Search.{IsFirst, any_below_some, some_anyBelow, first_from_found, first_from_first}
use Rattle.units.proofs.Sets.{Lowest, has_and, has_or, has_one, has_rest, has_some, lowest_left, has_next, has_same, lowest_is}
use Rattle.units.proofs.Tests.{Tells, same_test}
use Rattle.path_search.specs.Paths.{Graph, onward}
use Rattle.path_search.specs.Ends.{LinksOf}
use Rattle.path_search.specs.Rounds.{far, figures, marked, joined, sources, LinksAt}

or_assoc : (a b c : Bool) → ((a || b) || c) ≡ (a || (b || c))
or_assoc true b c = refl
or_assoc false b c = refl

and_true : (b : Bool) → (b && true) ≡ b
and_true true = refl
and_true false = refl

eqb_swap : (a b : ℕ) → eqb a b ≡ eqb b a
eqb_swap a b = same_test (eqb a b) (eqb b a) (λ e. eq-eqb b a (sym (eqb-true a b e))) (λ e. eq-eqb a b (sym (eqb-true b a e)))

-- two tests that tell one fact
pub same_tells : {a b : Bool} {A : Type 0} → Tells a A → Tells b A → a ≡ b
same_tells {a} {b} f g = same_test a b (λ e. g.1 (f.0 e)) (λ e. f.1 (g.0 e))

-- the links that the nodes of a set have are those whose end is in it
pub joined_is : (count : ℕ) (ends sets : List ℕ) → LinksOf count ends sets → ((l : ℕ) → l < count → get_or ends l 0 ≤ last_node) → (nodes l : ℕ)
    → joined sets nodes l ≡ (ltb l count && has nodes (get_or ends l 0))
joined_is count ends sets of node nodes l = same_test _ _ there back
  where
    test : ℕ → Bool
    test v = has nodes v && has (get_or sets v 0) l

    there : any_below far test ≡ true → (ltb l count && has nodes (get_or ends l 0)) ≡ true
    there e =
        let s = any_below_some test far e in
        let o = (and-eq-true_iff (has nodes s.0) (has (get_or sets s.0 0) l)).0 s.2 in
        let p = (and-eq-true_iff (ltb l count) (eqb (get_or ends l 0) s.0)).0 (sym (of s.0 (omega (arith, s.1)) l) ∙ o.1) in
        (and-eq-true_iff (ltb l count) (has nodes (get_or ends l 0))).1 (p.0, ap (has nodes) (eqb-true _ _ p.1) ∙ o.0)

    back : (ltb l count && has nodes (get_or ends l 0)) ≡ true → any_below far test ≡ true
    back e =
        let o = (and-eq-true_iff (ltb l count) (has nodes (get_or ends l 0))).0 e in
        let v = get_or ends l 0 in
        let low : v ≤ last_node = node l (ltb-true l count o.0) in
        some_anyBelow test far v (suc-le-suc low)
        ((and-eq-true_iff (has nodes v) (has (get_or sets v 0) l)).1 (o.1, of v low l ∙ (and-eq-true_iff (ltb l count) (eqb v v)).1 (o.0, eq-eqb v v refl)))

-- ---- the loops over a set

-- the links of the lowest node stand beside those of the rest
pub joined_lowest : (sets : List ℕ) (links left t l : ℕ) → Lowest left t → t ≤ last_node
    → (has (bit_or links (get_or sets t 0)) l || joined sets (bit_and left (left - 1)) l) ≡ (has links l || joined sets left l)
joined_lowest sets links left t l lowest h =
    ap (λ b. b || joined sets (bit_and left (left - 1)) l) (has_or links (get_or sets t 0) l)
    ∙ or_assoc (has links l) (has (get_or sets t 0) l) (joined sets (bit_and left (left - 1)) l)
    ∙ ap (λ b. has links l || b) (sym (lowest_left (λ v. has (get_or sets v 0) l) far left t lowest (suc-le-suc h)))

-- so it is with the node at which the lowest link begins
pub sources_lowest : (g : Graph) (nodes left t v : ℕ) → Lowest left t → t < g.count → g.from t ≤ last_node
    → (has (bit_or nodes (1 * 2 ^ g.from t % 2 ^ 32)) v || sources g (bit_and left (left - 1)) v) ≡ (has nodes v || sources g left v)
sources_lowest g nodes left t v lowest h node =
    ap (λ b. b || sources g (bit_and left (left - 1)) v) (has_or nodes (1 * 2 ^ g.from t % 2 ^ 32) v ∙ ap (λ b. has nodes v || b) (has_one w32 (g.from t) v (omega arith) ∙ eqb_swap v (g.from t)))
    ∙ or_assoc (has nodes v) (eqb (g.from t) v) (sources g (bit_and left (left - 1)) v)
    ∙ ap (λ b. has nodes v || b) (sym (lowest_left (λ l. eqb (g.from l) v) g.count left t lowest h))

-- and with a figure for each node of a set
pub marked_lowest : (table : List ℕ) (left t figure : ℕ) → Lowest left t → t < length table → (v : ℕ)
    → marked (bit_and left (left - 1)) figure (figures (set table t figure)) v ≡ marked left figure (figures table) v
marked_lowest table left t figure lowest h v =
    elim (ℕ_discrete v t) [
      | yes e ↦ by_has (has (bit_and left (left - 1)) v) (ap (figures (set table t figure)) e ∙ get_or-set_same table t figure 0 h)
          ∙ sym (ap (λ b. elim b as (λ x. ℕ) [ true ↦ figure | false ↦ figures table v ]) (ap (has left) e ∙ lowest.in_set))
      | no d ↦ ap₂ (λ b x. elim b as (λ x. ℕ) [ true ↦ figure | false ↦ x ])
          (has_rest left t lowest v ∙ ap (λ b. has left v && not b) (ne_eqb v t d) ∙ and_true (has left v)) (get_or-set_other table t v figure 0 d)
    ]
  where
    by_has : {x : ℕ} (b : Bool) → x ≡ figure → elim b as (λ x. ℕ) [ true ↦ figure | false ↦ x ] ≡ figure
    by_has true e = refl
    by_has false e = e

-- one link more in the column
pub links_more : (ends sets : List ℕ) (n : ℕ) → LinksOf n ends sets → n < 64 → get_or ends n 0 < length sets
    → LinksOf (n + 1) ends (set sets (get_or ends n 0) (bit_or (get_or sets (get_or ends n 0) 0) (1 * 2 ^ n % 2 ^ 64)))
links_more ends sets n of few room v h l =
    rw (add-one n)
    (elim (ℕ_discrete v node) [
      | yes e ↦ ap (λ s. has s l) (ap (λ w. get_or (set sets node more) w 0) e ∙ get_or-set_same sets node more 0 room)
          ∙ has_next test (get_or sets node 0) n (λ k. ap (λ w. has (get_or sets w 0) k) (sym e) ∙ of v h k) w64 few (eq-eqb node v (sym e)) l
      | no d ↦ ap (λ s. has s l) (get_or-set_other sets node v more 0 d) ∙ has_same test (get_or sets v 0) n (of v h) (ne_eqb node v (λ e. d (sym e))) l
    ])
  where
    node : ℕ
    node = get_or ends n 0

    more : ℕ
    more = bit_or (get_or sets node 0) (1 * 2 ^ n % 2 ^ 64)

    test : ℕ → Bool
    test k = eqb (get_or ends k 0) v

-- ---- the usable links out of a node to those of a figure

module _ (g : Graph) (usable : ℕ → Bool) (figure : ℕ → ℕ) (near v out links : ℕ)
    (leaving : (l : ℕ) → has out l ≡ (ltb l g.count && eqb (g.from l) v)) (leading : LinksAt g usable figure near links) where
  abbrev test : ℕ → Bool
  test = onward g usable (λ w. eqb (figure w) near) v

  pub onward_in : (l : ℕ) → has (bit_and out links) l ≡ (ltb l g.count && test l)
  onward_in l = has_and out links l ∙ ap₂ ◌&&◌ (leaving l) (leading l) ∙ by (ltb l g.count) (eqb (g.from l) v)
    where
      by : (c e : Bool) → ((c && e) && (c && usable l && eqb (figure (g.to l)) near)) ≡ (c && (e && usable l && eqb (figure (g.to l)) near))
      by true true = refl
      by true false = refl
      by false e = refl

  -- the lowest is the first that the search finds
  pub lowest_onward : (t : ℕ) → Lowest (bit_and out links) t → first_from 0 g.count test ≡ at t
  lowest_onward t lowest =
      let o = (and-eq-true_iff (ltb t g.count) (test t)).0 (sym (onward_in t) ∙ lowest.in_set) in
      first_from_first test 0 g.count t
      (record {
        low = zero-le;
        high = (let z = ltb-true t g.count o.0 in omega arith);
        passes = o.1;
        before = λ k a b.
            let below : ltb k g.count ≡ true = lt-ltb k g.count (let z = ltb-true t g.count o.0 in omega arith) in
            ap (λ c. c && test k) (sym below) ∙ sym (onward_in k) ∙ lowest.before k b;
      })

  -- where it finds one there is one
  pub onward_some : (l : ℕ) → first_from 0 g.count test ≡ at l → 0 < bit_and out links
  onward_some l e =
      let r : IsFirst 0 g.count test l = first_from_found test 0 g.count e in
      has_some (bit_and out links) l (onward_in l ∙ (and-eq-true_iff (ltb l g.count) (test l)).1 (lt-ltb l g.count (omega (arith, r.high)), r.passes))

-- the lowest of a set of nodes or links
pub lowest_node : (set : ℕ) → 0 < set → set < 2 ^ 32 → (trailing_zeros w32 set ≤ last_node) × Lowest set (trailing_zeros w32 set)
lowest_node set some fits = let r = lowest_is w32 set some fits in (omega (arith, r.0), r.1)

-- The check of a path, link by link: what each test of a link tells, and the set of the nodes met.
use mathlib.Core.Path.{◌≡◌, refl, sym, ap, ap₂, ◌∙◌}
use mathlib.Core.List.{List, [], ◌∷◌}
use Rattle.std.proofs.Math.Bool.{or-false, or_comm}
use Rattle.std.proofs.lemmas.Nat.{and_comm}
use Rattle.std.specs.Int.Bits.{bit_and, bit_or}
use mir.Syntax.{w32}
use mathlib.Core.Bool.{Bool, true, false, ◌||◌, and-eq-true_iff}
use Prim.Native.Nat.{ℕ, suc, ◌+◌, ◌*◌, ◌^◌, ◌%◌, ◌≤◌, ◌<◌}
use native.Mathlib.Numerals.{add-one}
use native.Mathlib.Omega.{arith}
use lib.Dec.{ltb, eqb}
use lib.ListN.{length, get_or, set, drop, replicate, get_or-replicate, length-set, drop_of_length-le}
use lib.Seq.{get_or-set_same, get_or-set_other, drop-cons}
use borrow.Author.Tests.{lt-ltb, le-ltb, le-leb, eq-eqb, eqb-true, ne_eqb}
use Rattle.units.specs.Limits.{last_node, most_hops}
use Rattle.units.specs.Lists.{member}
use Rattle.units.specs.Sets.{has}
use Rattle.units.proofs.Sets.{has_one, has_or, has_and, some_has, none_common}
use Rattle.units.proofs.Tests.{Order, less, same, more, order}
use Rattle.path_search.proofs.Loops.{NodesBelow}
use Rattle.path_search.specs.Paths.{Graph, goes_on, first_node, path_ok}
use Rattle.units.specs.declared.Link.{Link}
use Rattle.rules.specs.Plain.{link, graph}
use Rattle.rules.specs.Tables.{links_ok}
use Rattle.rules.proofs.Tests.{links_tell, nodes_below}

-- ---- the nodes met

-- `1 << v`
abbrev pub alone : ℕ → ℕ
alone v = 1 * 2 ^ v % 2 ^ 32

-- the set has the nodes of the list and no others
abbrev pub Marks : ℕ → List ℕ → Type 0
Marks marks met = (n : ℕ) → has marks n ≡ member n met

marks_one : (v : ℕ) → v ≤ last_node → Marks (alone v) (v ∷ [])
unfolding member
marks_one v h n = has_one w32 v n (omega arith) ∙ sym (or-false (eqb n v))

marks_more : (marks : ℕ) (met : List ℕ) (v : ℕ) → v ≤ last_node → Marks marks met → Marks (bit_or marks (alone v)) (v ∷ met)
unfolding member
marks_more marks met v h m n = has_or marks (alone v) n ∙ ap₂ ◌||◌ (m n) (has_one w32 v n (omega arith)) ∙ or_comm (member n met) (eqb n v)

-- whether a node is among them
was_marked : (marks v : ℕ) → v ≤ last_node → ¬ (bit_and marks (alone v) ≡ 0) → has marks v ≡ true
was_marked marks v h some =
    let one = some_has (bit_and marks (alone v)) (omega arith) in
    let both = (and-eq-true_iff (has marks one.0) (has (alone v) one.0)).0 (sym (has_and marks (alone v) one.0) ∙ one.1) in
    let is : one.0 ≡ v = eqb-true one.0 v (sym (has_one w32 v one.0 (omega arith)) ∙ both.1) in
    ap (has marks) (sym is) ∙ both.0

was_not : (marks v : ℕ) → v ≤ last_node → bit_and marks (alone v) ≡ 0 → has marks v ≡ false
was_not marks v h none = none_common (alone v) marks v (and_comm (alone v) marks ∙ none) (has_one w32 v v (omega arith) ∙ eq-eqb v v refl)

-- ---- the links of a path

module _ (g : Graph) (path : List ℕ) where
  pub path_some : 1 ≤ length path → length path ≤ most_hops → path_ok g path ≡ goes_on g (first_node g path) (first_node g path ∷ []) path
  path_some h k = simp (le-leb 1 (length path) h, le-leb (length path) most_hops k)

-- the link at place i, and those behind it
pub path_rest : (path : List ℕ) (i : ℕ) → i < length path → drop i path ≡ get_or path i 0 ∷ drop (i + 1) path
path_rest path i h = rw add-one (drop-cons path i 0 h)

module _ (links : List Link) (l : ℕ) where
  module _ (right : links_ok links ≡ true) (h : l < length links) where
    below : NodesBelow (graph links) (suc last_node)
    below = nodes_below links ((links_tell links).0 right)

    pub from_node : (link links l).from ≤ last_node
    from_node = omega (arith, below.from_below l h)

    pub to_node : (link links l).to ≤ last_node
    to_node = omega (arith, below.to_below l h)

  module _ (v : ℕ) (met ls : List ℕ) where
    pub going_past : length links ≤ l → goes_on (graph links) v met (l ∷ ls) ≡ false
    unfolding goes_on
    going_past h = simp (le-ltb l (length links) h)

    module _ (known : l < length links) where
      known_test : ltb l (length links) ≡ true
      known_test = lt-ltb l (length links) known

      pub going_elsewhere : ((link links l).from ≡ v → ⊥) → goes_on (graph links) v met (l ∷ ls) ≡ false
      unfolding goes_on
      going_elsewhere d = simp (known_test, ne_eqb (link links l).from v d)

      module _ (begins : (link links l).from ≡ v) where
        pub going_again : member (link links l).to met ≡ true → goes_on (graph links) v met (l ∷ ls) ≡ false
        unfolding goes_on
        going_again e = simp (known_test, eq-eqb (link links l).from v begins, e)

        pub going_on : member (link links l).to met ≡ false → goes_on (graph links) v met (l ∷ ls) ≡ goes_on (graph links) (link links l).to ((link links l).to ∷ met) ls
        unfolding goes_on
        going_on e = simp (known_test, eq-eqb (link links l).from v begins, e)

-- the whole path goes on if the rest does
abbrev pub Same : List Link → List ℕ → ℕ → List ℕ → ℕ → Type 0
Same links path node seen i =
    let g = graph links in goes_on g (first_node g path) (first_node g path ∷ []) path ≡ goes_on g node seen (drop i path)

-- the links before i go on from one to the next, `node` is where they end, and the marks are the nodes that they meet
pub record Going (links : List Link) (path : List ℕ) (node marks i : ℕ) : Type 0 where
  pub seen : List ℕ
  pub marked : Marks marks seen
  pub same : Same links path node seen i

module _ (links : List Link) (right : links_ok links ≡ true) (path : List ℕ) where
  module _ (some : 0 < length path) (few : length path ≤ most_hops) where
    pub stops_first : length links ≤ get_or path 0 0 → path_ok (graph links) path ≡ false
    stops_first h = path_some (graph links) path some few ∙ ap (goes_on (graph links) _ _) (path_rest path 0 some) ∙ going_past links _ _ _ _ h

  -- the first link
  module _ (some : 0 < length path) (start : Link) (known : get_or path 0 0 < length links) (is : start ≡ link links (get_or path 0 0)) where
    first : first_node (graph links) path ≡ start.from
    first = ap (first_node (graph links)) (path_rest path 0 some) ∙ ap (λ l. l.from) (sym is)

    pub going_first : Going links path start.from (alone start.from) 0
    going_first =
        let h : start.from ≤ last_node = omega (arith, from_node links (get_or path 0 0) right known, ap (λ l. l.from) is) in
        record {
          seen = start.from ∷ [];
          marked = marks_one start.from h;
          same = ap (λ v. goes_on (graph links) v (v ∷ []) path) first;
        }

  module _ (few : length path ≤ most_hops) (node marks i : ℕ) (g : Going links path node marks i) (here : i < length path) where
    abbrev pub number : ℕ
    number = get_or path i 0

    -- what is left to test in a turn
    turn : path_ok (graph links) path ≡ goes_on (graph links) node g.seen (number ∷ drop (i + 1) path)
    turn = path_some (graph links) path (omega arith) few ∙ g.same ∙ ap (goes_on (graph links) node g.seen) (path_rest path i here)

    pub stops_past : length links ≤ number → path_ok (graph links) path ≡ false
    stops_past h = turn ∙ going_past links number node g.seen (drop (i + 1) path) h

    -- the link of that number
    module _ (next : Link) (known : number < length links) (is : next ≡ link links number) where
      pub stops_elsewhere : (next.from ≡ node → ⊥) → path_ok (graph links) path ≡ false
      stops_elsewhere d = turn ∙ going_elsewhere links number node g.seen (drop (i + 1) path) known (λ e. d (ap (λ l. l.from) is ∙ e))

      end_is : next.to ≡ (link links number).to
      end_is = ap (λ l. l.to) is

      end_right : next.to ≤ last_node
      end_right = omega (arith, to_node links number right known, end_is)

      was_met : member (link links number).to g.seen ≡ has marks next.to
      was_met = ap (λ n. member n g.seen) (sym end_is) ∙ sym (g.marked next.to)

      module _ (begins : next.from ≡ node) where
        begins_here : (link links number).from ≡ node
        begins_here = ap (λ l. l.from) (sym is) ∙ begins

        pub stops_again : ¬ (bit_and marks (alone next.to) ≡ 0) → path_ok (graph links) path ≡ false
        stops_again e = turn ∙ going_again links number node g.seen (drop (i + 1) path) known begins_here (was_met ∙ was_marked marks next.to end_right e)

        pub goes_further : bit_and marks (alone next.to) ≡ 0 → Going links path next.to (bit_or marks (alone next.to)) (i + 1)
        goes_further e =
            record {
              seen = next.to ∷ g.seen;
              marked = marks_more marks g.seen next.to end_right g.marked;
              same =
                  g.same
                  ∙ ap (goes_on (graph links) node g.seen) (path_rest path i here)
                  ∙ going_on links number node g.seen (drop (i + 1) path) known begins_here (was_met ∙ was_not marks next.to end_right e)
                  ∙ ap (λ n. goes_on (graph links) n (n ∷ g.seen) (drop (i + 1) path)) (sym end_is);
            }

  pub goes_whole : 0 < length path → length path ≤ most_hops → (node marks i : ℕ) → Going links path node marks i → length path ≤ i → path_ok (graph links) path ≡ true
  unfolding goes_on
  goes_whole some few node marks i g past = path_some (graph links) path some few ∙ g.same ∙ ap (goes_on (graph links) node g.seen) (drop_of_length-le path past)

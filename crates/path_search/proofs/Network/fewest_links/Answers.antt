-- fewest_links meets its contract: the first layer to which a usable link out of the source leads tells the fewest links.
use mathlib.Core.Path.{◌≡◌, sym, ◌∙◌, ap}
use mathlib.Core.Bool.{Bool}
use Prim.Native.Nat.{ℕ, ◌+◌, ◌≤◌, ◌<◌, zero-le}
use native.Mathlib.Numerals.{add-one}
use native.Mathlib.Omega.{arith}
use lib.ListN.{get_or}
use Rattle.std.proofs.Common.{rules, Option, Some, None, MatchOption, option_map}
use Rattle.std.proofs.lemmas.Iterator.{first_from_Range}
use Rattle.std.specs.Int.Bits.{bit_and}
use Rattle.units.specs.Limits.{most_hops}
use Rattle.path_search.specs.Paths.{Graph, fewest}
use Rattle.path_search.specs.Answer.{graph_of, usable_in, found_number}
use Rattle.path_search.proofs.Picks.{Ends, set_ends, ends_set, fewest_is, fewest_none}
use Rattle.path_search.proofs.Network.fewest_links.Goals as goal

pub returns-then-source-gt-LAST_NODE : goal.returns-then-source-gt-LAST_NODE
returns-then-source-gt-LAST_NODE c =
    sym (ap found_number (fewest_none (graph_of c.args.self) (usable_in c.args.self) c.args.layers.now.destination c.args.source
    (λ k h s. omega (arith, c.args.self.net.now.ends.in_range.from_node s.0 s.1.known, s.1.begins, c.if-source-gt-LAST_NODE.true))))

-- the first set that is not empty is that of the fewest links less one
module _ (g : Graph) (usable : ℕ → Bool) (destination source : ℕ) (set : ℕ → ℕ) (some : (k : ℕ) → k < most_hops → 0 < set k → Ends g usable destination source k)
    (holds : (k : ℕ) → k < most_hops → Ends g usable destination source k → 0 < set k) where
  ends_not : (k : ℕ) → k < most_hops → set k ≡ 0 → ¬ Ends g usable destination source k
  ends_not k h e s = let z = holds k h s in omega arith

  found_is : (o : Option ℕ)
      → MatchOption o ((k : ℕ) → 0 ≤ k → k < most_hops → set k ≡ 0) (λ n. (0 ≤ n) × (n < most_hops) × (0 < set n) × ((k : ℕ) → 0 ≤ k → k < n → set k ≡ 0))
      → option_map (λ n. n + 1) o ≡ found_number (fewest g usable destination source)
  found_is None h = sym (ap found_number (fewest_none g usable destination source (λ k a. ends_not k a (h k zero-le a))))
  found_is (Some n) h =
      ap Some (add-one n)
      ∙ sym (ap found_number (fewest_is g usable destination source n h.1 (some n h.1 h.2) (λ k a. ends_not k (omega (arith, h.1)) (h.3 k zero-le a))))

pub returns : goal.returns
returns c =
    let net = c.args.self.net.now in
    let layers = c.args.layers.now in
    let g = graph_of c.args.self in
    let u = usable_in c.args.self in
    let source = c.args.source in
    let out = get_or net.out source 0 in
    let set : ℕ → ℕ = λ k. bit_and out (get_or layers.links k 0) in
    let leaving = net.leaving source (omega (arith, c.if-source-gt-LAST_NODE.false)) in
    let mapped : c.map.result ≡ option_map (λ n. n + 1) c.find.result = search rules in
    mapped
    ∙ found_is g u layers.destination source set
    (λ k h. set_ends g u layers.destination source k out (get_or layers.links k 0) (omega arith) leaving (c.requires.links k (omega arith)))
    (λ k h. ends_set g u layers.destination source k out (get_or layers.links k 0) (omega arith) leaving (c.requires.links k (omega arith)))
    c.find.result
    (first_from_Range _ _ _ _ (λ k. 0 < set k) (λ k. set k ≡ 0) c.find.ensures.ran (λ x q h. search rules) (λ x q h. search rules))

-- distances meets its contract. The nodes from which fewer than `near` links lead have their figure, the others `far`.
use mathlib.Core.Path.{◌≡◌, refl, sym, ◌∙◌, ap}
use mathlib.Core.Bool.{Bool, true, false}
use Prim.Native.Nat.{ℕ, zero-le, ◌≤◌}
use native.Mathlib.Omega.{arith}
use lib.Dec.{ltb}
use lib.ListN.{get_or-replicate}
use borrow.Author.Tests.{le-ltb, lt-ltb}
use Rattle.units.specs.Limits.{last_node}
use Rattle.path_search.specs.Paths.{Graph}
use Rattle.path_search.specs.Rounds.{far, distance}
use Rattle.path_search.specs.Answer.{graph_of, usable_in}
use Rattle.path_search.proofs.DistanceLaws.{Says, fewest_are, none_yet, distance_says}
use Rattle.path_search.proofs.Network.distances.Goals as goal

pub loop-near-init : goal.loop-near-init
loop-near-init c =
    λ v h. get_or-replicate far v far 0 (omega arith)
    ∙ sym (ap (λ b. elim b as (λ x. ℕ) [ true ↦ distance (graph_of c.args.self) (usable_in c.args.self) c.args.destination last_node v | false ↦ far ]) (le-ltb _ 0 zero-le))

-- with all of them the table is the distances
all_near : (g : Graph) (usable : ℕ → Bool) (target v n : ℕ) → far ≤ n
    → let d = distance g usable target last_node v in elim (ltb d n) as (λ x. ℕ) [ true ↦ d | false ↦ far ] ≡ d
all_near g usable target v n all = by (distance g usable target last_node v) (distance_says g usable target last_node v)
  where
    by : (d : ℕ) → Says g usable target last_node v d → elim (ltb d n) as (λ x. ℕ) [ true ↦ d | false ↦ far ] ≡ d
    by d (fewest_are k a f) = ap (λ b. elim b as (λ x. ℕ) [ true ↦ k | false ↦ far ]) (lt-ltb k n (omega arith))
    by d (none_yet u) = same (ltb far n)
      where
        same : (b : Bool) → elim b as (λ x. ℕ) [ true ↦ far | false ↦ far ] ≡ far
        same true = refl
        same false = refl

pub returns-clause-shows : goal.returns-clause-shows
returns-clause-shows c =
    λ v h. c.loop-near.invariant v h ∙ all_near (graph_of c.args.self) (usable_in c.args.self) c.args.destination v c.loop-near.near (omega (arith, c.loop-near-test.false))

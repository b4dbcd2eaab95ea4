-- `links_of` meets its contract: the links at the places before `place` are in the set.
use Rattle.std.proofs.Common.{◌≡◌, ◌*◌, ◌%◌, ◌^◌, Bool, true, false, ◌||◌, get_or, refl, ap, ◌∙◌, arith, w64}
use native.Mathlib.Decide.{ℕ_discrete}
use borrow.Author.Tests.{eq-eqb}
use Rattle.units.specs.Limits.{most_links}
use Rattle.units.specs.Sets.{has}
use Rattle.units.proofs.Sets.{has_or, has_one}
use Rattle.choice.proofs.Tries.{all_taken}
use Rattle.choice.proofs.asked.links_of.Goals as goal

or_right : (a b : Bool) → b ≡ true → (a || b) ≡ true
or_right true b e = refl
or_right false b e = e

pub loop-place-init : goal.loop-place-init
loop-place-init c = λ i h. absurd (omega arith)

pub loop-place-preserved : goal.loop-place-preserved
loop-place-preserved c = λ i h.
    let l = c.loop-place in
    let links = c.args.path.now.links in
    let link = get_or links l.place 0 % most_links in
    let one = 1 * 2 ^ link % 2 ^ 64 in
    has_or l.bits one (get_or links i 0 % most_links)
    ∙ elim (ℕ_discrete i l.place) [
      | yes e ↦ or_right (has l.bits (get_or links i 0 % most_links)) (has one (get_or links i 0 % most_links)) (has_one w64 link (get_or links i 0 % most_links) (omega arith) ∙ eq-eqb (get_or links i 0 % most_links) link (ap (λ k. get_or links k 0 % most_links) e))
      | no d ↦ ap (λ t. t || has one (get_or links i 0 % most_links)) (l.invariant i (omega arith))
    ]

pub returns : goal.returns
returns c =
    let bits = c.loop-place.bits in
    all_taken (λ l. has bits (l % most_links) ≡ true) c.args.path.now.count c.args.path.now.links (λ i h k. c.loop-place.invariant i (omega (arith, c.min-place-end.ensures)))

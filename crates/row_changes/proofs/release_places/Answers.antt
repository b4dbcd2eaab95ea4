-- `release_places` meets its contract: the lowest place that is left is taken off.
use Rattle.std.proofs.Common.{◌≤◌, rules, arith, ap₂, ◌∙◌, subst, subst₂, sym, get_or}
use Rattle.units.specs.Lists.{All}
use Rattle.units.specs.Along.{less_along}
use Rattle.row_changes.proofs.Used.{Releases, rest_of, next_fits, next_enough, releases_next, all_released}
use Rattle.row_changes.proofs.release_places.Goals as goal

pub loop-left-init : goal.loop-left-init
loop-left-init c = record { counted = c.requires.counted; sized = search rules; sum = λ l. omega arith }

pub path_at-requires-clause-short : goal.path_at-requires-clause-short
path_at-requires-clause-short c = (next_fits c.requires.fits c.loop-left.invariant.counted (omega arith) (omega arith)).count_right

pub release_path-requires-clause-path : goal.release_path-requires-clause-path
release_path-requires-clause-path c = rw c.path_at.ensures (next_fits c.requires.fits c.loop-left.invariant.counted (omega arith) (omega arith)).links_right

pub release_path-requires-clause-differ : goal.release_path-requires-clause-differ
release_path-requires-clause-differ c = rw c.path_at.ensures (next_fits c.requires.fits c.loop-left.invariant.counted (omega arith) (omega arith)).links_differ

pub release_path-requires-clause-enough : goal.release_path-requires-clause-enough
release_path-requires-clause-enough c =
    subst₂ (λ b path. All (λ l. b.bandwidth.0 ≤ get_or c.loop-left.taken l 0) path) (sym c.booking_at.ensures) (sym c.path_at.ensures)
    (next_enough c.requires.fits (omega arith) (omega arith) c.loop-left.invariant c.requires.enough)

pub loop-left-preserved : goal.loop-left-preserved
loop-left-preserved c =
    let a = c.args in
    subst (Releases a.head a.book.now a.places (rest_of c.loop-left.left) a.taken.now)
    (sym (c.release_path.ensures ∙ ap₂ (λ b path. less_along b.bandwidth.0 path c.loop-left.taken) c.booking_at.ensures c.path_at.ensures))
    (releases_next c.requires.fits (omega arith) (omega arith) c.loop-left.invariant c.requires.enough)

pub returns : goal.returns
returns c = all_released (omega arith) c.loop-left.invariant

-- `take_places` meets its contract: the lowest place that is left is added.
use Rattle.std.proofs.Common.{rules, arith, ap₂, ◌∙◌, subst, sym}
use Rattle.units.specs.Along.{more_along}
use Rattle.row_changes.proofs.Used.{Adds, rest_of, next_fits, adds_next, all_added}
use Rattle.row_changes.proofs.take_places.Goals as goal

pub loop-left-init : goal.loop-left-init
loop-left-init c = record { counted = c.requires.counted; sized = search rules; sum = λ l. omega arith }

pub path_at-requires-clause-short : goal.path_at-requires-clause-short
path_at-requires-clause-short c = (next_fits c.requires.fits c.loop-left.invariant.counted (omega arith) (omega arith)).count_right

pub take_path-requires-clause-path : goal.take_path-requires-clause-path
take_path-requires-clause-path c = rw c.path_at.ensures (next_fits c.requires.fits c.loop-left.invariant.counted (omega arith) (omega arith)).links_right

pub take_path-requires-clause-fits : goal.take_path-requires-clause-fits
take_path-requires-clause-fits c = rw c.booking_at.ensures (next_fits c.requires.fits c.loop-left.invariant.counted (omega arith) (omega arith)).bandwidth_right

pub loop-left-preserved : goal.loop-left-preserved
loop-left-preserved c =
    let a = c.args in
    subst (Adds a.head a.book.now a.places (rest_of c.loop-left.left) a.taken.now)
    (sym (c.take_path.ensures ∙ ap₂ (λ b path. more_along b.bandwidth.0 path c.loop-left.taken) c.booking_at.ensures c.path_at.ensures))
    (adds_next c.requires.fits (omega arith) (omega arith) c.loop-left.invariant)

pub returns : goal.returns
returns c = all_added (omega arith) c.loop-left.invariant

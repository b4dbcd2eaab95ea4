-- `remove_place` meets its contract: the places behind the one are moved down.
use mathlib.Core.Path.{◌∙◌}
use native.Mathlib.Omega.{arith}
use Rattle.places.proofs.Moving.{cleared, moved_down}
use Rattle.places.proofs.remove_place.Goals as goal

pub returns : goal.returns
returns c =
    let a = c.args in
    cleared _ _ _ (omega arith) (c.fill.ensures.after (λ y e. e)) ∙ moved_down a.size a.place a.book.now c.requires c.copy_within.ensures.after

-- `open_place` meets its contract: the places from the opened one on are moved up.
use mathlib.Core.Path.{◌∙◌}
use Rattle.places.proofs.Moving.{moved_up}
use Rattle.places.proofs.open_place.Goals as goal

pub returns : goal.returns
returns c = let a = c.args in c.copy_within.ensures.after ∙ moved_up a.size a.place a.book.now c.requires

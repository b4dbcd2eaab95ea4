-- The numbers that are handed out tell the answer.
use mathlib.Core.Path.{refl}
use Rattle.rules.specs.Calls.{done, starts, lists, shows, refused}
use Rattle.rules.specs.Numbers.{NumbersTell, ChecksBringNone}

pub numbers_tell : NumbersTell
numbers_tell done = refl
numbers_tell (starts g) = (refl, refl, refl, refl, refl)
numbers_tell (lists rs) = (refl, refl)
numbers_tell (shows x) = (refl, refl)
numbers_tell (refused r) = (refl, refl, refl, refl, refl, refl, refl)

-- no minute stands beside a refusal by a check
pub checks_bring_none : ChecksBringNone
checks_bring_none k = refl

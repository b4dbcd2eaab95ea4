-- The numbers of the refusals: none has the number of an accepted call.
use mathlib.Core.Logic.{◌≢◌}
use native.Mathlib.Omega.{arith}
use Rattle.units.specs.declared.Refusal.{Refusal}
use Rattle.units.specs.declared.Refusal.TheVariants.{BadSize, BadLink, Unsound, BadField, TooLate, NumberStands, BookFull, NoStart, NotStanding, ClockBack, BadBits, BadLength, BadList}
use Rattle.units.specs.Refusals.{number}

pub numbered : (refusal : Refusal) → number refusal ≢ 0
numbered BadSize z = omega arith
numbered BadLink z = omega arith
numbered Unsound z = omega arith
numbered BadField z = omega arith
numbered TooLate z = omega arith
numbered NumberStands z = omega arith
numbered BookFull z = omega arith
numbered NoStart z = omega arith
numbered NotStanding z = omega arith
numbered ClockBack z = omega arith
numbered BadBits z = omega arith
numbered BadLength z = omega arith
numbered BadList z = omega arith

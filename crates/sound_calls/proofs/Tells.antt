-- The record of a booking or an offer tells its answer, and so does the one of a total.
use Rattle.rules.proofs.Numbers.{numbers_tell}
use Rattle.sound_calls.specs.Lent.{ChoiceTells, SoldTells}

pub choice_tells : ChoiceTells
choice_tells a = numbers_tell a

pub sold_tells : SoldTells
sold_tells a = numbers_tell a

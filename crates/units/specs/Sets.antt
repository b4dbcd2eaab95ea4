-- Sets of numbers, as the bits of a figure.
use Rattle.std.specs.Prelude.{Bool, ℕ, eqb}
use Rattle.std.specs.Int.{bit_at}

-- number i is in the set
abbrev pub has : ℕ → ℕ → Bool
has set i = eqb (bit_at set i) 1

-- What a link carries, by any figure for each link and minute.
use Rattle.std.specs.Prelude.{Bool, ℕ, leb}
use Rattle.units.specs.Search.{all_from}

-- document 01's 'at least the bandwidth'
abbrev pub suffices : ℕ → ℕ → Bool
suffices bandwidth free = leb bandwidth free

-- document 01's 'at least the bandwidth free in every minute', of link l and the n minutes from m on
abbrev pub carries : (ℕ → ℕ → ℕ) → ℕ → ℕ → ℕ → ℕ → Bool
carries figure bandwidth n m l = all_from m n (λ k. suffices bandwidth (figure l k))

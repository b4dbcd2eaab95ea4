-- Where every path from a minute on breaks off. It knows nothing of bookings.
use Rattle.std.specs.Prelude.{Bool, not, ℕ, suc, ◌+◌, ◌-◌}
use Rattle.units.specs.Search.{found_or, first_from}
use Rattle.path_search.specs.Paths.{Graph}
use Rattle.choice.specs.Choice.{possible}

-- `carries n m l`: link l has what is asked for in each of the n minutes from m on
module _ (g : Graph) (carries : ℕ → ℕ → ℕ → Bool) (from to : ℕ) where
  -- some single path has it throughout low to m
  abbrev pub lasts : ℕ → ℕ → Bool
  lasts low m = possible g (carries (suc m - low)) from to low

  -- document 02's 'first minute m, from low on, such that no single path has the bandwidth free throughout low to m', of the n
  -- minutes from low on; the minute behind them, where one has
  unfoldable pub break_off : ℕ → ℕ → ℕ
  break_off n low = found_or (low + n) (first_from low n (λ m. not (lasts low m)))

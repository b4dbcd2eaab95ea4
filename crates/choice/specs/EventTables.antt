-- What the lent events are, read off their table.
use Rattle.std.specs.Prelude.{◌≡◌, List, ℕ, length, get_or, drop}
use Rattle.units.specs.Lists.{padded}
use Rattle.timeline.specs.Events.{events}

-- the clock, which stands first
abbrev pub clock_of : List ℕ → ℕ
clock_of es = get_or es 0 0

-- document 01's events: the clock and the later ones behind it, each once, rising; zeros behind them
abbrev pub AreEvents : List ℕ → Type 0
AreEvents es = es ≡ padded (length es) (events (clock_of es) (drop 1 es))

-- The earliest minute of a window at which a try succeeds, tried at every minute. What is granted may be anything.
use Rattle.std.specs.Prelude.{Bool, true, false, ℕ, suc, ◌-◌}
use Rattle.units.specs.Search.{Found, at, nothing, first_from}

-- document 01's 'choice of start': what is granted, or no start
pub data Choice (A : Type 0) : Type 0 where
  granted : A → Choice A
  no_start : Choice A

abbrev pub is_granted : {A : Type 0} → Choice A → Bool
is_granted (granted a) = true
is_granted no_start = false

-- `try m`: what is granted to a span that starts at m
module _ {A : Type 0} (try : ℕ → Choice A) where
  -- document 01's 'a start is possible'
  unfoldable pub can_start : ℕ → Bool
  can_start m = is_granted (try m)

  -- the choice by the first possible minute that was found
  abbrev pub choice_at : Found → Choice A
  choice_at (at m) = try m
  choice_at nothing = no_start

  -- document 01's choice 'by earliest minute': that of the first possible minute of low to latest
  unfoldable pub earliest : ℕ → ℕ → Choice A
  earliest low latest = choice_at (first_from low (suc latest - low) can_start)

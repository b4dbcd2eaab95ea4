-- Links held from a minute up to, and not including, another: what a booking of any kind of desk does to the events and rows.
use Rattle.std.specs.Prelude.{List, [], ◌∷◌, Bool, ◌&&◌, ℕ, leb, ltb}
use Rattle.units.specs.Lists.{member}

pub record Stretch : Type 0 where
  pub from : ℕ
  pub until : ℕ
  pub links : List ℕ

-- document 01's 'holds its links in minutes start to end − 1'
abbrev pub holds : Stretch → ℕ → ℕ → Bool
holds s l m = leb s.from m && ltb m s.until && member l s.links

-- the minutes at which that may change
abbrev pub times : Stretch → List ℕ
times s = s.from ∷ s.until ∷ []

-- A list of bookings of any kind of desk: their numbers, their order in the book, and which still stand. It knows nothing of
-- bandwidth: a booking is what its kind says that its number is, and when it is released.
use Rattle.std.specs.Prelude.{List, [], ◌∷◌, map, Bool, true, false, not, ℕ, ltb, eqb}
use Rattle.units.specs.Lists.{member, select}

module _ {B : Type 0} (number : B → ℕ) where
  abbrev pub numbers : List B → List ℕ
  numbers bs = map number bs

  -- a booking of that number stands
  abbrev pub stands : ℕ → List B → Bool
  stands n bs = member n (numbers bs)

  -- without the booking of that number
  abbrev pub without : ℕ → List B → List B
  without n bs = select (λ b. not (eqb n (number b))) bs

  -- b and the list c ∷ cs, by whether b has the lower number; `behind` is b in its place in cs
  abbrev pub beside : Bool → B → B → List B → List B → List B
  beside true b c cs behind = b ∷ c ∷ cs
  beside false b c cs behind = c ∷ behind

  unfoldable pub insert_by_number : B → List B → List B
  insert_by_number b [] = b ∷ []
  insert_by_number b (c ∷ cs) = beside (ltb (number b) (number c)) b c cs (insert_by_number b cs)

  -- the bookings by rising number
  unfoldable pub by_number : List B → List B
  by_number [] = []
  by_number (b ∷ bs) = insert_by_number b (by_number bs)

-- those that still stand at that clock: what they hold is released later
abbrev pub standing_at : {B : Type 0} → (B → ℕ) → ℕ → List B → List B
standing_at until clock bs = select (λ b. ltb clock (until b)) bs

-- A figure added to, or taken from, each of some places of a list, one after the other.
use Rattle.std.specs.Prelude.{List, [], ◌∷◌, ℕ, ◌+◌, ◌-◌, get_or, set}

unfoldable pub more_along : ℕ → List ℕ → List ℕ → List ℕ
more_along x [] t = t
more_along x (l ∷ ls) t = more_along x ls (set t l (get_or t l 0 + x))

unfoldable pub less_along : ℕ → List ℕ → List ℕ → List ℕ
less_along x [] t = t
less_along x (l ∷ ls) t = less_along x ls (set t l (get_or t l 0 - x))

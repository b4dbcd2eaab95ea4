-- When a stretch holds a link, and that this changes only at its times: once for every kind of booking. Whatever a kind makes of it,
-- a sum of bandwidths or a set of wavelengths, changes only there too.
use mathlib.Core.Path.{◌≡◌, refl}
use mathlib.Core.Bool.{Bool, true, false, ◌&&◌}
use Prim.Native.Nat.{ℕ, ◌≤◌, ◌<◌}
use lib.Dec.{leb, ltb}
use borrow.Author.Tests.{le-ltb, le-leb, lt-ltb, leb-true, ltb-true}
use Rattle.units.specs.Lists.{member}
use Rattle.timeline.proofs.Steady.{ChangesAt, changes_from, changes_until, changes_join}
use Rattle.plain_book.specs.Stretches.{Stretch, holds, times}

-- from its end on it holds nothing
pub holds_behind : (s : Stretch) (l m : ℕ) → s.until ≤ m → holds s l m ≡ false
holds_behind s l m h = by (leb s.from m)
  where
    by : (t : Bool) → (t && ltb m s.until && member l s.links) ≡ false
    by true = rw (le-ltb m s.until h)
    by false = refl

-- from its start up to its end it holds its links
pub holds_within : (s : Stretch) (l m : ℕ) → s.from ≤ m → m < s.until → holds s l m ≡ member l s.links
holds_within s l m h k = rw (le-leb s.from m h, lt-ltb m s.until k)

-- what is true where it holds the link, and where it doesn't, is true
pub holds_elim : (P : Bool → Type 0) (s : Stretch) (l m : ℕ) → (s.from ≤ m → m < s.until → member l s.links ≡ true → P true) → P false → P (holds s l m)
holds_elim P s l m f g = by (leb s.from m) (ltb m s.until) (member l s.links) refl refl refl
  where
    by : (x y z : Bool) → leb s.from m ≡ x → ltb m s.until ≡ y → member l s.links ≡ z → P (x && y && z)
    by true true true d e h = f (leb-true s.from m d) (ltb-true m s.until e) h
    by true true false d e h = g
    by true false z d e h = g
    by false y z d e h = g

pub holds_changes : {C : Type 0} (f : Bool → C) (s : Stretch) (l : ℕ) → ChangesAt (times s) (λ m. f (holds s l m))
holds_changes {C} f s l = changes_join {C = C} (λ started going. f (started && going && member l s.links)) (changes_from s.from) (changes_until s.until)

-- Reading the places of a book table one after the other: each gives what its figures say, whatever stands around it.
use mathlib.Core.Path.{◌≡◌, refl, sym, ap, ap₂, ◌∙◌}
use mathlib.Core.List.{List, [], ◌∷◌, ◌++◌, map, flatten, append_assoc}
use Prim.Native.Nat.{ℕ, suc, ◌-◌, ◌*◌}
use native.Mathlib.Omega.{arith}
use lib.ListN.{length, replicate, length-append}
use Rattle.units.specs.Lists.{count_from, All}
use Rattle.units.proofs.Padded.{Rows}
use Rattle.places.specs.Places.{only_places}

module _ (size : ℕ) {A B : Type 0} (f : A → List ℕ) (read : List ℕ → ℕ → B) (is : A → B) where
  -- from a place with the figures of x, whatever stands before and behind it, the reader reads this
  abbrev pub Reads : A → Type 0
  Reads x = (before behind : List ℕ) (i : ℕ) → length before ≡ i * size → read (before ++ (f x ++ behind)) i ≡ is x

  read_from : (xs : List A) (t before z : List ℕ) (i : ℕ) → t ≡ before ++ (flatten (map f xs) ++ z) → length before ≡ i * size → Rows f size xs → All Reads xs
      → map (read t) (count_from i (length xs)) ≡ map is xs
  unfolding flatten count_from
  read_from [] t before z i e l r a = refl
  read_from (x ∷ xs) t before z i e l r a =
      ap₂ ◌∷◌ (ap (λ (u : List ℕ). read u i) split ∙ a.0 before behind i l) (read_from xs t (before ++ f x) z (suc i) (split ∙ sym (append_assoc before (f x) behind)) longer r.1 a.1)
    where
      behind : List ℕ
      behind = flatten (map f xs) ++ z

      split : t ≡ before ++ (f x ++ behind)
      split = e ∙ ap (λ (u : List ℕ). before ++ u) (append_assoc (f x) (flatten (map f xs)) z)

      longer : length (before ++ f x) ≡ suc i * size
      longer = rw length-append (omega (arith, l, r.0))

  -- the places of a table of n figures, read one after the other
  pub read_filled : (n : ℕ) (xs : List A) → Rows f size xs → All Reads xs → map (read (only_places n (map f xs))) (count_from 0 (length xs)) ≡ map is xs
  read_filled n xs r a = read_from xs (only_places n (map f xs)) [] (replicate (n - length (flatten (map f xs))) 0) 0 refl (omega arith) r a

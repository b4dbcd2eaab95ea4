-- A column while it is filled: link by link, and from the first 64 links or from all of them.
use mathlib.Core.Path.{◌≡◌, refl, sym, ◌∙◌, ap}
use mathlib.Core.Bool.{Bool, true, false}
use mathlib.Core.List.{List, [], ◌∷◌, ◌++◌, map}
use Prim.Native.Nat.{ℕ, zero, suc, ◌≤◌, ◌<◌}
use native.Mathlib.Nat.{not-suc-le-zero, le_of_suc-le-suc, min-eq_right}
use Rattle.std.specs.Prelude.{min}
use native.Mathlib.Omega.{arith}
use borrow.Author.Tests.{ltb-true, ltb-false}
use lib.Dec.{ltb}
use lib.ListN.{length, get_or, set, take, replicate, length-append, length-replicate}
use lib.Seq.{take-length, length-take-le}
use Rattle.units.specs.declared.Link.{Link}
use Rattle.units.specs.Limits.{most_links}
use Rattle.units.specs.Columns.{column}

-- m zeros cut to n
zeros : (n m : ℕ) → n ≤ m → take {A = ℕ} n (replicate m 0) ≡ replicate n 0
zeros zero m h = refl
zeros (suc n) zero h = absurd (not-suc-le-zero h)
zeros (suc n) (suc m) h = ap (λ (l : List ℕ). 0 ∷ l) (zeros n m (le_of_suc-le-suc h))

module _ (f : Link → ℕ) where
  step : (n m k : ℕ) (xs : List Link) (d : Link) → n ≤ m → k < n → k < length xs → set (take n (map f (take k xs) ++ replicate m 0)) k (f (get_or xs k d)) ≡ take n (map f (take (suc k) xs) ++ replicate m 0)
  step zero m k xs d h l g = absurd (not-suc-le-zero l)
  step (suc n) m k [] d h l g = absurd (not-suc-le-zero g)
  step (suc n) zero k (x ∷ xs) d h l g = absurd (not-suc-le-zero h)
  step (suc n) (suc m) zero (x ∷ xs) d h l g = ap (λ (z : List ℕ). f x ∷ z) (zeros n m (le_of_suc-le-suc h) ∙ sym (zeros n (suc m) (omega arith)))
  step (suc n) (suc m) (suc k) (x ∷ xs) d h l g = ap (λ (z : List ℕ). f x ∷ z) (step n (suc m) k xs d (omega arith) (le_of_suc-le-suc l) (le_of_suc-le-suc g))

  -- what lies past the cut does not matter
  cut : (n : ℕ) (xs : List Link) (z : List ℕ) → n ≤ length xs → take n (map f (take n xs) ++ z) ≡ take n (map f xs ++ z)
  cut zero xs z h = refl
  cut (suc n) [] z h = absurd (not-suc-le-zero h)
  cut (suc n) (x ∷ xs) z h = ap (λ (l : List ℕ). f x ∷ l) (cut n xs z (le_of_suc-le-suc h))

  at : (n m : ℕ) (xs : List Link) (i : ℕ) (d : Link) → i < n → i < length xs → get_or (take n (map f xs ++ replicate m 0)) i 0 ≡ f (get_or xs i d)
  at n m [] i d l g = absurd (not-suc-le-zero g)
  at zero m (x ∷ xs) i d l g = absurd (not-suc-le-zero l)
  at (suc n) m (x ∷ xs) zero d l g = refl
  at (suc n) m (x ∷ xs) (suc i) d l g = at n m xs i d (le_of_suc-le-suc l) (le_of_suc-le-suc g)

  pub column_at : (xs : List Link) (i : ℕ) → (d : Link) → i < most_links → i < length xs → get_or (column f xs) i 0 ≡ f (get_or xs i d)
  unfolding column
  column_at xs i d l g = at most_links most_links xs i d l g

  zero_at : (n m i : ℕ) → get_or (take {A = ℕ} n (replicate m 0)) i 0 ≡ 0
  zero_at zero m i = refl
  zero_at (suc n) zero i = refl
  zero_at (suc n) (suc m) zero = refl
  zero_at (suc n) (suc m) (suc i) = zero_at n m i

  at_any : (n m : ℕ) (xs : List Link) (i : ℕ) (d : Link) → f d ≡ 0 → i < n → get_or (take n (map f xs ++ replicate m 0)) i 0 ≡ f (get_or xs i d)
  at_any n m [] i d z l = zero_at n m i ∙ sym z
  at_any zero m (x ∷ xs) i d z l = absurd (not-suc-le-zero l)
  at_any (suc n) m (x ∷ xs) zero d z l = refl
  at_any (suc n) m (x ∷ xs) (suc i) d z l = at_any n m xs i d z (le_of_suc-le-suc l)

  -- also past the last link, where what stands there has a zero
  pub column_any : (xs : List Link) (i : ℕ) (d : Link) → f d ≡ 0 → i < most_links → get_or (column f xs) i 0 ≡ f (get_or xs i d)
  unfolding column
  column_any xs i d z l = at_any most_links most_links xs i d z l

  pub column_step : (xs : List Link) (k : ℕ) (d : Link) → k < most_links → k < length xs → set (column f (take k xs)) k (f (get_or xs k d)) ≡ column f (take (suc k) xs)
  unfolding column
  column_step xs k d l g = step most_links most_links k xs d (omega arith) l g

  column_end_at : (xs : List Link) (t : Bool) → ltb (length xs) most_links ≡ t → column f (take (min (length xs) most_links) xs) ≡ column f xs
  unfolding column
  column_end_at xs true e =
      let whole : min (length xs) most_links ≡ length xs = omega (arith, ltb-true (length xs) most_links e) in
      ap (λ n. column f (take n xs)) whole ∙ ap (column f) (take-length xs)
  column_end_at xs false e = let h = ltb-false (length xs) most_links e in ap (λ n. column f (take n xs)) (min-eq_right h) ∙ cut most_links xs (replicate most_links 0) h

  pub column_end : (xs : List Link) → column f (take (min (length xs) most_links) xs) ≡ column f xs
  column_end xs = column_end_at xs (ltb (length xs) most_links) refl

  pub length_column : (xs : List Link) → length (column f xs) ≡ most_links
  unfolding column
  length_column xs = length-take-le _ _ (omega (arith, length-append (map f xs) (replicate most_links 0), length-replicate {A = ℕ} most_links 0))

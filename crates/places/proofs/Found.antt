-- What the search for a number finds in a list: the first that has it, behind those that have others.
use mathlib.Core.Path.{◌≡◌, refl, sym, ap, ap₂, subst}
use mathlib.Core.List.{List, [], ◌∷◌, ◌++◌, map}
use mathlib.Core.Bool.{Bool, true, false, cond, ◌||◌}
use Prim.Native.Nat.{ℕ, ◌+◌}
use native.Mathlib.Omega.{arith}
use lib.Dec.{eqb}
use lib.ListN.{length}
use borrow.Author.Tests.{eqb-true, eqb-false, ne_eqb}
use Rattle.std.specs.Prelude.{Option, Some, None}
use Rattle.std.specs.List.{position, position_from}
use Rattle.std.proofs.lemmas.Iterator.Adapters.{position_from-zero}
use Rattle.units.specs.Lists.{member}

-- where a number stands in a list: behind those of other numbers, or nowhere
pub data Place {A : Type 0} (number_of : A → ℕ) (number : ℕ) (xs : List A) : Option ℕ → Type 0 where
  there : (before : List A) (x : A) (behind : List A) → xs ≡ before ++ (x ∷ behind) → number_of x ≡ number → member number (map number_of before) ≡ false → Place number_of number xs (Some (length before))
  missing : member number (map number_of xs) ≡ false → Place number_of number xs None

module _ {A : Type 0} (number_of : A → ℕ) (number : ℕ) where
  -- the same of what a search finds that counts from i
  data Search (i : ℕ) (xs : List A) : Option ℕ → Type 0 where
    hit : (before : List A) (x : A) (behind : List A) (k : ℕ) → k ≡ i + length before → xs ≡ before ++ (x ∷ behind) → number_of x ≡ number → member number (map number_of before) ≡ false → Search i xs (Some k)
    miss : member number (map number_of xs) ≡ false → Search i xs None

  passed : (x : A) (xs : List A) → eqb (number_of x) number ≡ false → member number (map number_of xs) ≡ false → member number (map number_of (x ∷ xs)) ≡ false
  unfolding member
  passed x xs e m = ap₂ ◌||◌ (ne_eqb number (number_of x) (λ q. eqb-false (number_of x) number e (sym q))) m

  none : member number [] ≡ false
  unfolding member
  none = refl

  searched : (i : ℕ) (xs : List A) → Search i xs (position_from (λ m. eqb m number) i (map number_of xs))
  searched i [] = miss none
  searched i (x ∷ xs) = by (eqb (number_of x) number) refl (searched (i + 1) xs)
    where
      further : {f : Option ℕ} → eqb (number_of x) number ≡ false → Search (i + 1) xs f → Search i (x ∷ xs) f
      further e (hit before y behind k n s q m) = hit (x ∷ before) y behind k (omega arith) (ap (λ (l : List A). x ∷ l) s) q (passed x before e m)
      further e (miss m) = miss (passed x xs e m)

      by : (t : Bool) → eqb (number_of x) number ≡ t → {f : Option ℕ} → Search (i + 1) xs f → Search i (x ∷ xs) (cond t (Some i) f)
      by true e s = hit [] x xs i (omega arith) refl (eqb-true (number_of x) number e) none
      by false e s = further e s

  placed : {xs : List A} {f : Option ℕ} → Search 0 xs f → Place number_of number xs f
  placed {xs} (hit before x behind k n s q m) =
      let e : length before ≡ k = omega arith in
      subst (λ i. Place number_of number xs (Some i)) e (there before x behind s q m)
  placed (miss m) = missing m

  pub place_found : (xs : List A) → Place number_of number xs (position (λ m. eqb m number) (map number_of xs))
  place_found xs = subst (Place number_of number xs) (sym (position_from-zero (λ m. eqb m number) (map number_of xs))) (placed (searched 0 xs))

-- Sums over the numbers below one: where their terms agree, and where one of them differs.
use mathlib.Core.Path.{◌≡◌, refl, sym, ap, ap₂, ◌∙◌}
use mathlib.Core.Logic.{◌≢◌}
use Prim.Native.Nat.{ℕ, zero, suc, ◌+◌, ◌*◌, ◌≤◌, ◌<◌}
use native.Mathlib.Decide.{ℕ_discrete}
use native.Mathlib.Omega.{arith}
use Rattle.row_changes.specs.Changes.{sum_below}

pub sum_same : (n : ℕ) (f g : ℕ → ℕ) → ((i : ℕ) → i < n → f i ≡ g i) → sum_below n f ≡ sum_below n g
unfolding sum_below
sum_same zero f g h = refl
sum_same (suc n) f g h = ap₂ ◌+◌ (h n (omega arith)) (sum_same n f g (λ i k. h i (omega arith)))

pub sum_add : (n : ℕ) (f g : ℕ → ℕ) → sum_below n (λ i. f i + g i) ≡ sum_below n f + sum_below n g
unfolding sum_below
sum_add zero f g = refl
sum_add (suc n) f g = let rest = sum_add n f g in omega arith

pub sum_less : (n : ℕ) (f g : ℕ → ℕ) → ((i : ℕ) → i < n → f i ≤ g i) → sum_below n f ≤ sum_below n g
unfolding sum_below
sum_less zero f g h = omega arith
sum_less (suc n) f g h = let rest = sum_less n f g (λ i k. h i (omega arith)) in omega (arith, h n (omega arith))

pub sum_most : (n w : ℕ) (f : ℕ → ℕ) → ((i : ℕ) → i < n → f i ≤ w) → sum_below n f ≤ n * w
unfolding sum_below
sum_most zero w f h = omega arith
sum_most (suc n) w f h = let rest = sum_most n w f (λ i k. h i (omega arith)) in omega (arith, h n (omega arith))

-- one of the terms is x more
pub sum_one : (n : ℕ) (f g : ℕ → ℕ) (i x : ℕ) → i < n → f i ≡ g i + x → ((j : ℕ) → j < n → j ≢ i → f j ≡ g j) → sum_below n f ≡ sum_below n g + x
unfolding sum_below
sum_one zero f g i x h e o = absurd (omega arith)
sum_one (suc n) f g i x h e o = elim (ℕ_discrete n i) [
  | yes q ↦ (let same = sum_same n f g (λ j k. o j (omega arith) (λ z. omega arith)) in let last : f n ≡ g n + x = ap f q ∙ e ∙ ap (λ k. g k + x) (sym q) in omega arith)
  | no d ↦ (let rest = sum_one n f g i x (let k : n ≡ i → ⊥ = d in omega arith) e (λ j k. o j (omega arith)) in omega (arith, o n (omega arith) d))
]

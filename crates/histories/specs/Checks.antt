-- Refusals in document 01's order, for answers of any kind.
use Rattle.std.specs.Prelude.{List, [], ◌∷◌, Bool, true, false, ℕ}

-- a refusal number, and whether the call passes it
pub data Check : Type 0 where
  check : ℕ → Bool → Check

-- the refusal by the first check that is not passed, else the answer
module _ {A : Type 0} (refuse : ℕ → A) where
  unfoldable pub checked : List Check → A → A
  checked [] answer = answer
  checked (check k true ∷ cs) answer = checked cs answer
  checked (check k false ∷ cs) answer = refuse k

-- the number of the first check that is not passed; 0 if all are
abbrev pub first_refusal : List Check → ℕ
first_refusal cs = checked (λ k. k) cs 0

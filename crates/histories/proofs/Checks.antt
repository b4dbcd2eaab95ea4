-- Laws of the checks of a call, which hold of every list of checks and of answers of any kind.
use mathlib.Core.Path.{◌≡◌, refl, sym, ◌∙◌, ap}
use mathlib.Core.List.{List, [], ◌∷◌, ◌++◌}
use mathlib.Core.Bool.{true, false}
use Prim.Native.Nat.{ℕ, ◌≤◌}
use native.Mathlib.Omega.{arith}
use Rattle.histories.specs.Checks.{Check, check, checked, first_refusal}

-- all checks are passed
abbrev pub Passed : List Check → Type 0
Passed [] = Unit {0}
Passed (check k ok ∷ cs) = (ok ≡ true) × Passed cs

-- no check has number 0
abbrev pub Numbered : List Check → Type 0
Numbered [] = Unit {0}
Numbered (check k ok ∷ cs) = (1 ≤ k) × Numbered cs

-- where no number is found, all are passed
pub passed_number : (cs : List Check) → Numbered cs → first_refusal cs ≡ 0 → Passed cs
unfolding checked
passed_number [] n e = tt
passed_number (check k true ∷ cs) n e = (refl, passed_number cs n.1 e)
passed_number (check k false ∷ cs) n e = absurd (let h = n.0 in omega arith)

module _ {A : Type 0} (refuse : ℕ → A) where
  -- what holds of every refusal, and of the answer where all checks are passed, holds of the checked answer
  pub checked_elim : (P : A → Type 0) (cs : List Check) (a : A) → (Passed cs → P a) → ((k : ℕ) → P (refuse k)) → P (checked refuse cs a)
  unfolding checked
  checked_elim P [] a f g = f tt
  checked_elim P (check k true ∷ cs) a f g = checked_elim P cs a (λ h. f (refl, h)) g
  checked_elim P (check k false ∷ cs) a f g = g k

  pub passed_answer : (cs : List Check) (a : A) → Passed cs → checked refuse cs a ≡ a
  unfolding checked
  passed_answer [] a h = refl
  passed_answer (check k ok ∷ cs) a h = ap (λ x. checked refuse (check k x ∷ cs) a) h.0 ∙ passed_answer cs a h.1

  -- an answer that is no refusal has passed all checks
  pub passed_all : (cs : List Check) (a : A) → ((k : ℕ) → checked refuse cs a ≡ refuse k → ⊥) → Passed cs
  unfolding checked
  passed_all [] a h = tt
  passed_all (check k true ∷ cs) a h = (refl, passed_all cs a h)
  passed_all (check k false ∷ cs) a h = absurd (h k refl)

  -- an answer is let through, or refused with a number that is not 0
  pub data Verdict (a : A) (cs : List Check) : Type 0 where
    lets : checked refuse cs a ≡ a → Verdict a cs
    stops : (k : ℕ) → 1 ≤ k → checked refuse cs a ≡ refuse k → Verdict a cs

  pub verdict : (a : A) (cs : List Check) → Numbered cs → Verdict a cs
  unfolding checked
  verdict a [] n = lets refl
  verdict a (check k true ∷ cs) n = by (verdict a cs n.1)
    where
      by : Verdict a cs → Verdict a (check k true ∷ cs)
      by (lets e) = lets e
      by (stops j h e) = stops j h e
  verdict a (check k false ∷ cs) n = stops k n.0 refl

  -- the number that is found says the refusal
  pub stopped_number : (cs : List Check) (a : A) (k : ℕ) → first_refusal cs ≡ k → (k ≡ 0 → ⊥) → checked refuse cs a ≡ refuse k
  unfolding checked
  stopped_number [] a k e ne = absurd (ne (sym e))
  stopped_number (check j true ∷ cs) a k e ne = stopped_number cs a k e ne
  stopped_number (check j false ∷ cs) a k e ne = ap refuse e

  pub checked_append : (cs ds : List Check) (a : A) → checked refuse (cs ++ ds) a ≡ checked refuse cs (checked refuse ds a)
  unfolding checked
  checked_append [] ds a = refl
  checked_append (check k true ∷ cs) ds a = checked_append cs ds a
  checked_append (check k false ∷ cs) ds a = refl

  -- an answer that is no refusal
  module _ (done : A) (differs : (k : ℕ) → done ≡ refuse k → ⊥) where
    pub passed_done : (cs : List Check) → checked refuse cs done ≡ done → Passed cs
    passed_done cs e = passed_all cs done (λ k f. differs k (sym e ∙ f))

    -- a list of checks that stops it stops every answer
    pub stopped_answer : (cs : List Check) (k : ℕ) (a : A) → checked refuse cs done ≡ refuse k → checked refuse cs a ≡ refuse k
    unfolding checked
    stopped_answer [] k a e = absurd (differs k e)
    stopped_answer (check j true ∷ cs) k a e = stopped_answer cs k a e
    stopped_answer (check j false ∷ cs) k a e = e

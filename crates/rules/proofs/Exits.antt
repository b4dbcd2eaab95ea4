-- The ways out of a call: what its outcome is where a check is not passed, and where all are.
use mathlib.Core.Path.{◌≡◌, ◌∙◌, ap}
use mathlib.Core.List.{List, [], ◌∷◌}
use mathlib.Core.Bool.{true, false}
use Prim.Native.Nat.{ℕ, ◌≤◌}
use native.Mathlib.Omega.{arith}
use Rattle.units.specs.declared.Link.{Link}
use Rattle.histories.specs.Kinds as kinds
use Rattle.histories.proofs.Checks.{Passed, Numbered, passed_number, stopped_number, passed_answer}
use Rattle.histories.proofs.Exits.{outcome_of, left_refused}
use Rattle.rules.specs.Plain.{Plain}
use Rattle.rules.specs.Calls.{Ask, book, offer, list, cancel, move_clock, show, sold, Call, set_up, set_up_with, ask, Answer, done, refuse, checked, first_refusal, own_checks, result, list_fits}
use Rattle.rules.specs.Tables.{Tables, sized, sound, held, guard_check, table_checks}
use Rattle.rules.specs.Desk.{Outcome, bandwidth_desk, answer_with, answer_on, left_by, outcome}

-- a refusal, with the tables as they came
abbrev pub refused_with : ℕ → Tables → Outcome
refused_with k t = record { answer = refuse k; tables = t }

-- every check has a number of its own
pub own_numbered : (links : List Link) (p : Plain) (a : Ask) → Numbered (own_checks links p a)
own_numbered links p (book n r) = (omega arith, (omega arith, (omega arith, (omega arith, tt))))
own_numbered links p (offer r) = (omega arith, (omega arith, tt))
own_numbered links p (list n r) = (omega arith, (omega arith, (omega arith, tt)))
own_numbered links p (cancel n) = (omega arith, (omega arith, tt))
own_numbered links p (move_clock m) = (omega arith, (omega arith, tt))
own_numbered links p (show l m) = (omega arith, tt)
own_numbered links p (sold l) = (omega arith, tt)

module _ (links : List Link) (t : Tables) where
  refused_outcome : (c : Call) (k : ℕ) → 1 ≤ k → answer_on links t c ≡ refuse k → outcome links t c ≡ refused_with k t
  refused_outcome c k n e = outcome_of bandwidth_desk links t c (refuse k) e ∙ ap (λ x. record { answer = refuse k; tables = x }) (left_refused bandwidth_desk links t c (refuse k) n)

  pub unsized : (c : Call) → sized links t ≡ false → outcome links t c ≡ refused_with 1 t
  unfolding kinds.answer_on checked
  unsized (set_up_with guard) e = refused_outcome (set_up guard) 1 (omega arith) (rw e)
  unsized (ask a) e = refused_outcome (ask a) 1 (omega arith) (rw e)

  -- a set-up, by the number that the code computes
  module _ (guard : ℕ) where
    pub set_up_stopped : (k : ℕ) → first_refusal (table_checks links t (set_up guard)) ≡ k → (k ≡ 0 → ⊥) → outcome links t (set_up guard) ≡ refused_with k t
    unfolding kinds.answer_on
    set_up_stopped k q ne = refused_outcome (set_up guard) k (omega (arith, ne)) (stopped_number refuse (table_checks links t (set_up guard)) (answer_with links (held t) (set_up guard)) k q ne)

    pub set_up_passed : first_refusal (table_checks links t (set_up guard)) ≡ 0 → Passed (table_checks links t (set_up guard))
    set_up_passed = passed_number (table_checks links t (set_up guard)) (omega arith, (omega arith, (omega arith, tt)))

    -- the guard is checked among the tables, and once more so that links and plain book alone give the answer
    pub set_up_answer : Passed (table_checks links t (set_up guard)) → answer_on links t (set_up guard) ≡ done
    unfolding kinds.answer_on
    set_up_answer ok = passed_answer refuse (table_checks links t (set_up guard)) (answer_with links (held t) (set_up guard)) ok ∙ passed_answer refuse (guard_check guard ∷ []) done (ok.1.0, tt)

    pub set_up_done : first_refusal (table_checks links t (set_up guard)) ≡ 0 → outcome links t (set_up guard) ≡ record { answer = done; tables = left_by links t (set_up guard) done }
    set_up_done q = outcome_of bandwidth_desk links t (set_up guard) done (set_up_answer (set_up_passed q))

  pub list_unfit : (a : Ask) → sized links t ≡ true → list_fits a ≡ false → outcome links t (ask a) ≡ refused_with 13 t
  unfolding kinds.answer_on checked
  list_unfit a s f = refused_outcome (ask a) 13 (omega arith) (rw (s, f))

  pub unsound : (a : Ask) → sized links t ≡ true → list_fits a ≡ true → sound links t ≡ false → outcome links t (ask a) ≡ refused_with 3 t
  unfolding kinds.answer_on checked
  unsound a s f e = refused_outcome (ask a) 3 (omega arith) (rw (s, f, e))

  module _ (a : Ask) (s : sized links t ≡ true) (f : list_fits a ≡ true) (e : sound links t ≡ true) where
    answered : answer_on links t (ask a) ≡ checked refuse (own_checks links (held t) a) (result links (held t) a)
    unfolding kinds.answer_on kinds.answer checked
    answered = rw (s, f, e)

    -- the call's own checks, by the number that the code computes
    pub stopped : (k : ℕ) → first_refusal (own_checks links (held t) a) ≡ k → (k ≡ 0 → ⊥) → outcome links t (ask a) ≡ refused_with k t
    stopped k q ne = refused_outcome (ask a) k (omega (arith, ne)) (answered ∙ stopped_number refuse (own_checks links (held t) a) (result links (held t) a) k q ne)

    pub all_passed : first_refusal (own_checks links (held t) a) ≡ 0 → Passed (own_checks links (held t) a)
    all_passed = passed_number (own_checks links (held t) a) (own_numbered links (held t) a)

    pub accepted : first_refusal (own_checks links (held t) a) ≡ 0 → (r : Answer) → result links (held t) a ≡ r → outcome links t (ask a) ≡ record { answer = r; tables = left_by links t (ask a) r }
    accepted q r c = outcome_of bandwidth_desk links t (ask a) r (answered ∙ passed_answer refuse (own_checks links (held t) a) (result links (held t) a) (all_passed q) ∙ c)

-- The ways out of a call on sound tables: its own checks refuse it, or it goes on.
use mathlib.Core.Path.{◌≡◌, sym, ◌∙◌, ap₂, subst}
use mathlib.Core.List.{List}
use mathlib.Core.Bool.{true}
use Prim.Native.Nat.{ℕ}
use Rattle.units.specs.declared.Link.{Link}
use Rattle.units.specs.declared.Refusal.{Refusal}
use Rattle.units.specs.Refusals.{number}
use Rattle.units.proofs.Refusals.{numbered}
use Rattle.rules.specs.Calls.{Ask, Answer, ask, list_fits, first_refusal, own_checks, result}
use Rattle.rules.specs.Tables.{Tables, held, Fine}
use Rattle.rules.specs.Desk.{left_by, outcome}
use Rattle.rules.proofs.Checks.{Passed}
use Rattle.rules.proofs.Exits.{refused_with, stopped, all_passed, accepted}

-- what is found of a desk's tables as they are read holds of the desk
pub found : {l links : List Link} {s t : Tables} {k : ℕ} → l ≡ links → s ≡ t → (check : List Link → Tables → ℕ) → k ≡ check l s → k ≡ check links t
found a b check e = e ∙ ap₂ check a b

-- and what is asked of the desk is asked of them
pub moved : {l links : List Link} {s t : Tables} → l ≡ links → s ≡ t → (P : List Link → Tables → Type 0) → P links t → P l s
moved {l} {links} {s} {t} a b P h = subst (λ x. P x s) (sym a) (subst (λ x. P links x) (sym b) h)

-- the number of the call's own checks
abbrev pub by_call : Ask → List Link → Tables → ℕ
by_call a links t = first_refusal (own_checks links (held t) a)

module _ (links : List Link) (t : Tables) (f : Fine links t) (a : Ask) (fits : list_fits a ≡ true) where
  pub call_stops : (r : Refusal) → number r ≡ by_call a links t → outcome links t (ask a) ≡ refused_with (number r) t
  call_stops r e = stopped links t a f.is_sized fits f.is_sound (number r) (sym e) (numbered r)

  module _ (passes : 0 ≡ by_call a links t) where
    pub passed : Passed (own_checks links (held t) a)
    passed = all_passed links t a f.is_sized fits f.is_sound (sym passes)

    pub goes_on : (r : Answer) → result links (held t) a ≡ r → outcome links t (ask a) ≡ record { answer = r; tables = left_by links t (ask a) r }
    goes_on = accepted links t a f.is_sized fits f.is_sound (sym passes)

-- The tables' checks of a call, as they are found on the tables that were read: they refuse the call, or the tables are fine.
use mathlib.Core.Path.{◌≡◌, refl, sym, ◌∙◌, ap₂}
use mathlib.Core.List.{List}
use mathlib.Core.Bool.{true}
use Prim.Native.Nat.{ℕ}
use Rattle.units.specs.declared.Link.{Link}
use Rattle.units.specs.declared.Refusal.{Refusal}
use Rattle.units.specs.Refusals.{number}
use Rattle.units.proofs.Refusals.{numbered}
use Rattle.rules.specs.Calls.{Ask, ask, refuse, list_fits, first_refusal}
use Rattle.rules.specs.Tables.{Tables, lent_checks, Fine}
use Rattle.rules.specs.Desk.{outcome}
use Rattle.rules.proofs.Exits.{refused_with}
use Rattle.refusals.proofs.TableChecks.{fine, list_fine, tables_refused}
use Rattle.sound_calls.specs.Lent.{choice_shown, shown, sold_shown, listed, choice_answer, shown_answer, sold_answer, listed_answer, list_after, refusal_answer, tables_after}
use Rattle.sound_calls.proofs.Handed.{handed_number, handed_grant, handed_shown, handed_sold, handed_listing, handed_tables}

-- the number of the tables' checks
abbrev pub by_tables : Ask → List Link → Tables → ℕ
by_tables a links t = first_refusal (lent_checks links t (list_fits a))

-- passed: a lent list fits
pub list_right : (a : Ask) (links : List Link) (t : Tables) → 0 ≡ by_tables a links t → list_fits a ≡ true
list_right a links t passes = list_fine links t (list_fits a) (sym passes)

module _ (a : Ask) {l links : List Link} {s t : Tables} (same_links : l ≡ links) (same_tables : s ≡ t) where
  -- passed: the tables are fine
  pub are_fine : 0 ≡ by_tables a l s → Fine links t
  are_fine passes = fine links t (list_fits a) (sym (passes ∙ ap₂ (by_tables a) same_links same_tables))

  -- not passed: the refusal is handed out, and everything is left as it came
  module _ (r : Refusal) (stops : number r ≡ by_tables a l s) where
    refused_outcome : outcome links t (ask a) ≡ refused_with (number r) t
    refused_outcome = tables_refused links t a (number r) (stops ∙ ap₂ (by_tables a) same_links same_tables) (numbered r)

    pub refused_number : number r ≡ refusal_answer links t (ask a)
    refused_number = handed_number links t (ask a) _ refused_outcome

    pub refused_grant : choice_shown (refuse (number r)) ≡ choice_answer links t (ask a)
    refused_grant = handed_grant links t (ask a) _ refused_outcome

    pub refused_shown : shown (refuse (number r)) ≡ shown_answer links t (ask a)
    refused_shown = handed_shown links t (ask a) _ refused_outcome

    pub refused_sold : sold_shown (refuse (number r)) ≡ sold_answer links t (ask a)
    refused_sold = handed_sold links t (ask a) _ refused_outcome

    pub refused_listing : (old : List ℕ) → (listed (refuse (number r)) ≡ listed_answer links t (ask a)) × (old ≡ list_after links t (ask a) old)
    refused_listing old = handed_listing links t (ask a) _ refused_outcome old refl refl

    pub refused_tables : t ≡ tables_after links t (ask a)
    refused_tables = handed_tables links t (ask a) _ refused_outcome refl

-- An outcome as the contracts of the calls put it: the answer and the tables that are handed back.
use mathlib.Core.Path.{◌≡◌, sym, ◌∙◌, ap}
use mathlib.Core.List.{List}
use Prim.Native.Nat.{ℕ}
use Rattle.units.specs.declared.Link.{Link}
use Rattle.sound_calls.specs.declared.Listed.{Listed}
use Rattle.rules.specs.Calls.{Call, values}
use Rattle.rules.specs.Tables.{Tables}
use Rattle.rules.specs.Desk.{Outcome, outcome}
use Rattle.sound_calls.specs.Lent.{choice_shown, listed, list_left, shown, sold_shown, choice_answer, listed_answer, list_after, shown_answer, sold_answer, refusal_answer, tables_after}

module _ (links : List Link) (t : Tables) (c : Call) (o : Outcome) (e : outcome links t c ≡ o) where
  -- the tables that are handed back
  pub handed_tables : {after : Tables} → after ≡ o.tables → after ≡ tables_after links t c
  unfolding tables_after
  handed_tables q = q ∙ sym (ap (λ x. x.tables) e)

  pub handed_number : (values o.answer).number ≡ refusal_answer links t c
  unfolding refusal_answer
  handed_number = sym (ap (λ x. (values x.answer).number) e)

  pub handed_grant : choice_shown o.answer ≡ choice_answer links t c
  unfolding choice_answer
  handed_grant = sym (ap (λ x. choice_shown x.answer) e)

  pub handed_shown : shown o.answer ≡ shown_answer links t c
  unfolding shown_answer
  handed_shown = sym (ap (λ x. shown x.answer) e)

  pub handed_sold : sold_shown o.answer ≡ sold_answer links t c
  unfolding sold_answer
  handed_sold = sym (ap (λ x. sold_shown x.answer) e)

  -- a listing, with the list as it was lent and as it is left
  pub handed_listing : (old : List ℕ) {a : Listed} {new : List ℕ} → a ≡ listed o.answer → new ≡ list_left o.answer old → (a ≡ listed_answer links t c) × (new ≡ list_after links t c old)
  unfolding listed_answer list_after
  handed_listing old a q = (a ∙ sym (ap (λ x. listed x.answer) e), q ∙ sym (ap (λ x. list_left x.answer old) e))

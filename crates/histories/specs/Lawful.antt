-- What a kind of desk has to show: facts of one answer, of one call and of one plain book. Demands 1 and 3, over every list of
-- calls, follow from them.
use Rattle.std.specs.Prelude.{◌≡◌, List, true, ℕ, ◌≤◌, ◌<◌, length}
use Rattle.histories.specs.Kinds.{Call, set_up_with, Kind, answer, answer_with, outcome}

pub record Lawful (K : Kind) : Type 1 where
  -- an accepted call is not refused, and what a call that passes its checks answers has its own form
  pub done_differs : (k : ℕ) → K.done ≡ K.refuse k → ⊥
  pub in_form : (links : List K.Link) (p : K.Plain) (a : K.Ask) → K.InForm a (K.result links p a)
  -- document 01's rules for links that may be set up, and for a plain book
  pub Started : List K.Link → Type 0
  pub Obeys : List K.Link → K.Plain → Type 0
  pub set_up_starts : (links : List K.Link) (t : K.Tables) (s : K.Start) → (outcome K links t (set_up_with s)).answer ≡ K.done
      → Started links × Obeys links (K.empty s) × ((outcome K links t (set_up_with s)).tables ≡ K.tables links (K.empty s))
  -- a call on the tables of a plain book is answered from it, and leaves the tables of its next state, which obeys the rules
  pub answers_plain : (links : List K.Link) (p : K.Plain) (c : Call K.Start K.Ask) → Started links → Obeys links p → (outcome K links (K.tables links p) c).answer ≡ answer_with K links p c
  pub leaves_plain : (links : List K.Link) (p : K.Plain) (c : Call K.Start K.Ask) → Started links → Obeys links p
      → (outcome K links (K.tables links p) c).tables ≡ K.tables links (K.next links p c (answer_with K links p c))
  pub stays_obeyed : (links : List K.Link) (p : K.Plain) (c : Call K.Start K.Ask) → Started links → Obeys links p → Obeys links (K.next links p c (answer_with K links p c))
  -- and of a plain book that obeys the rules
  pub are_sound : (links : List K.Link) (p : K.Plain) → Started links → Obeys links p → K.sound links (K.tables links p) ≡ true
  pub not_oversold : (links : List K.Link) (p : K.Plain) → Obeys links p → K.NotOversold links p
  pub kept_free : (links : List K.Link) (p : K.Plain) → Started links → Obeys links p → (l m : ℕ) → l < length links → K.clock p ≤ m → (x : ℕ) × K.Keeps (K.tables links p) l m x × K.IsFree links p l m x
  pub shown_free : (links : List K.Link) (p : K.Plain) → Started links → Obeys links p → (l m : ℕ) → l < length links → K.clock p ≤ m → m ≤ K.last_shown
      → (x : ℕ) × (answer K links p (K.show l m) ≡ K.shows x) × K.IsFree links p l m x
  pub same_tables : (links : List K.Link) (p q : K.Plain) → Obeys links p → K.Agree p q → K.tables links p ≡ K.tables links q

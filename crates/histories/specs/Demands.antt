-- Demands 1 and 3, as properties of any desk of any kind. Which figures are free is the kind's; how calls follow on each other,
-- what is counted from them and what is compared is said here, once.
use Rattle.std.specs.Prelude.{◌≡◌, List, true, ℕ, ◌≤◌, ◌<◌, length}
use Rattle.histories.specs.Checks.{checked}
use Rattle.histories.specs.Kinds.{Call, set_up_with, ask, Kind, Desk, answer, all_checks}
use Rattle.histories.specs.Histories.{answers, left, counted}

module _ (K : Kind) where
  -- the call passes every check
  abbrev pub Passes : List K.Link → K.Tables → Call K.Start K.Ask → Type 0
  Passes links t c = checked K.refuse (all_checks K links t c) K.done ≡ K.done

  -- the first check that it does not pass has number k
  abbrev pub Stopped : List K.Link → K.Tables → Call K.Start K.Ask → ℕ → Type 0
  Stopped links t c k = checked K.refuse (all_checks K links t c) K.done ≡ K.refuse k

  -- the answer has the form in which such a call is answered if it passes
  abbrev pub Fits : Call K.Start K.Ask → K.Answer → Type 0
  Fits (set_up_with s) a = a ≡ K.done
  Fits (ask q) a = K.InForm q a

  module _ (desk : Desk K) where
    -- 1. A call is refused with the first number that applies; one that passes is answered in its own form, and so not refused but
    -- with 'no start'; a refusal leaves every table as it came.
    pub record Demand1 : Type 0 where
      pub stopped : (links : List K.Link) (t : K.Tables) (c : Call K.Start K.Ask) (k : ℕ) → Stopped links t c k → (desk links t c).answer ≡ K.refuse k
      pub in_form : (links : List K.Link) (t : K.Tables) (c : Call K.Start K.Ask) → Passes links t c → Fits c (desk links t c).answer
      pub refusal_keeps : (links : List K.Link) (t : K.Tables) (c : Call K.Start K.Ask) → 0 < K.number (desk links t c).answer → (desk links t c).tables ≡ t

    -- a moment of a history: tables, of whatever content, on which a set-up is accepted, and the calls since
    pub record Moment (links : List K.Link) : Type 0 where
      pub before : K.Tables
      pub start : K.Start
      pub accepted : (desk links before (set_up_with start)).answer ≡ K.done
      pub calls : List (Call K.Start K.Ask)

    module _ {links : List K.Link} (h : Moment links) where
      unfoldable pub now : K.Tables
      now = left desk links (desk links h.before (set_up_with h.start)).tables h.calls

      unfoldable pub plain : K.Plain
      plain = counted desk K.next links (desk links h.before (set_up_with h.start)).tables (K.empty h.start) h.calls

    pub record Counts (links : List K.Link) (h : Moment links) : Type 0 where
      -- the tables are the ones that the links and the plain book give, and sound
      pub tables_are : now h ≡ K.tables links (plain h)
      pub still_sound : K.sound links (now h) ≡ true
      pub not_oversold : K.NotOversold links (plain h)
      -- a link's free figure from the clock on, as kept and as shown, is what the plain book leaves free
      pub as_kept : (l m : ℕ) → l < length links → K.clock (plain h) ≤ m → (x : ℕ) × K.Keeps (now h) l m x × K.IsFree links (plain h) l m x
      pub as_shown : (l m : ℕ) → l < length links → K.clock (plain h) ≤ m → m ≤ K.last_shown
          → (x : ℕ) × ((desk links (now h) (ask (K.show l m))).answer ≡ K.shows x) × K.IsFree links (plain h) l m x
      -- each further call is answered from the links and the plain book
      pub as_answered : (a : K.Ask) → (desk links (now h) (ask a)).answer ≡ answer K links (plain h) a

    pub record Alike (links : List K.Link) (h k : Moment links) : Type 0 where
      pub same_tables : now h ≡ now k
      pub same_answers : (calls : List (Call K.Start K.Ask)) → answers desk links (now h) calls ≡ answers desk links (now k) calls

    -- 3. One claim over every list of calls from an accepted set-up on, and over every two of them.
    pub record Demand3 : Type 0 where
      pub counts : (links : List K.Link) (h : Moment links) → Counts links h
      pub agrees : (links : List K.Link) (h k : Moment links) → K.Agree (plain h) (plain k) → Alike links h k

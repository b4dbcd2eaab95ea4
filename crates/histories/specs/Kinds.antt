-- A kind of desk: what is asked and answered, the plain book that is fed with it, and the tables of a plain book. What each
-- call makes of any tables is one definition for every kind.
use Rattle.std.specs.Prelude.{List, ◌++◌, Bool, true, false, ◌&&◌, ℕ, eqb}
use Rattle.histories.specs.Checks.{Check, checked}

-- a set-up, with what it is asked with, and the calls on a desk that is set up
pub data Call (Start Ask : Type 0) : Type 0 where
  set_up_with : Start → Call Start Ask
  ask : Ask → Call Start Ask

-- what a call answers, and the tables afterwards
pub record Outcome (Answer Tables : Type 0) : Type 0 where
  pub answer : Answer
  pub tables : Tables

pub record Kind : Type 1 where
  -- what the link list holds
  pub Link : Type 0
  -- what a set-up is asked with beside the links
  pub Start : Type 0
  -- the other calls, as asked
  pub Ask : Type 0
  -- all that a call returns
  pub Answer : Type 0
  -- the plain book: what an outside observer keeps from calls and answers alone
  pub Plain : Type 0
  -- the tables that a desk is lent
  pub Tables : Type 0
  -- an accepted call that hands nothing back
  pub done : Answer
  -- the refusal with a number
  pub refuse : ℕ → Answer
  -- the refusal number of an answer, 0 if the call is accepted
  pub number : Answer → ℕ
  -- the checks of what is lent, which come first
  pub table_checks : List Link → Tables → Call Start Ask → List Check
  -- those among them that look at nothing but what a set-up is asked with
  pub start_checks : Start → List Check
  -- the checks of a call on sound tables, in document 01's order
  pub own_checks : List Link → Plain → Ask → List Check
  -- what a call that passes its checks answers
  pub result : List Link → Plain → Ask → Answer
  -- the form in which it is answered: a start or 8 where it asks for a start, else what its sentence in document 01 says
  pub InForm : Ask → Answer → Type 0
  -- whether the call may write a table; calls that only ask may not
  pub writes : Ask → Bool
  -- the plain book as an accepted set-up makes it
  pub empty : Start → Plain
  -- the plain book after a call, from the call as asked and answered, and nothing else
  pub next : List Link → Plain → Call Start Ask → Answer → Plain
  -- its clock
  pub clock : Plain → ℕ
  -- the clock, the standing bookings and what the set-up was asked with agree
  pub Agree : Plain → Plain → Type 0
  -- the only tables that are right for these links and this plain book
  pub tables : List Link → Plain → Tables
  -- the plain book that tables hold
  pub held : Tables → Plain
  -- document 01's 'sound'
  pub sound : List Link → Tables → Bool
  -- no link is oversold, in any minute
  pub NotOversold : List Link → Plain → Type 0
  -- a link's free figure in a minute, as the plain book leaves it
  pub IsFree : List Link → Plain → ℕ → ℕ → ℕ → Type 0
  -- as the tables keep it
  pub Keeps : Tables → ℕ → ℕ → ℕ → Type 0
  -- the call that shows it, of a link and a minute
  pub show : ℕ → ℕ → Ask
  -- what that answers
  pub shows : ℕ → Answer
  -- the last minute that it takes
  pub last_shown : ℕ

-- what a desk of this kind does with a call
abbrev pub Desk : Kind → Type 0
Desk K = List K.Link → K.Tables → Call K.Start K.Ask → Outcome K.Answer K.Tables

module _ (K : Kind) where
  -- what a call answers on a desk whose tables are sound
  unfoldable pub answer : List K.Link → K.Plain → K.Ask → K.Answer
  answer links p a = checked K.refuse (K.own_checks links p a) (K.result links p a)

  -- what a call answers where the tables pass
  abbrev pub answer_with : List K.Link → K.Plain → Call K.Start K.Ask → K.Answer
  answer_with links p (set_up_with s) = checked K.refuse (K.start_checks s) K.done
  answer_with links p (ask a) = answer links p a

  -- what a call answers on any tables
  unfoldable pub answer_on : List K.Link → K.Tables → Call K.Start K.Ask → K.Answer
  answer_on links t c = checked K.refuse (K.table_checks links t c) (answer_with links (K.held t) c)

  abbrev pub call_writes : Call K.Start K.Ask → Bool
  call_writes (set_up_with s) = true
  call_writes (ask a) = K.writes a

  -- what it leaves: the tables of the plain book's next state; a call that writes no table and a refused one leave them as they came
  abbrev pub left_by : List K.Link → K.Tables → Call K.Start K.Ask → K.Answer → K.Tables
  left_by links t c a = elim (call_writes c && eqb (K.number a) 0) [ true ↦ K.tables links (K.next links (K.held t) c a) | false ↦ t ]

  -- the answer of a call on any tables, and each table figure afterwards: what every contract of the desk says
  unfoldable pub outcome : Desk K
  outcome links t c = record { answer = answer_on links t c; tables = left_by links t c (answer_on links t c) }

  -- every check of a call, in document 01's order
  abbrev pub all_checks : List K.Link → K.Tables → Call K.Start K.Ask → List Check
  all_checks links t (set_up_with s) = K.table_checks links t (set_up_with s) ++ K.start_checks s
  all_checks links t (ask a) = K.table_checks links t (ask a) ++ K.own_checks links (K.held t) a

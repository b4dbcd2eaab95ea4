-- What the contracts of the eight calls say: the answer and the tables as they are handed back, from the one outcome.
use Rattle.std.specs.Prelude.{List, ℕ, Result, Ok, Err}
use Rattle.units.specs.declared.Link.{Link}
use Rattle.units.specs.declared.Bandwidth.{Bandwidth}
use Rattle.units.specs.declared.Work.{Work}
use Rattle.units.specs.declared.Refusal.{Refusal}
use Rattle.units.specs.Refusals.{number}
use Rattle.choice.specs.declared.ChoiceRecord.{ChoiceRecord}
use Rattle.listing.specs.Ranges.{list_table}
use Rattle.sound_calls.specs.declared.Shown.{Shown}
use Rattle.sound_calls.specs.declared.Sold.{Sold}
use Rattle.sound_calls.specs.declared.Listed.{Listed}
use Rattle.rules.specs.Calls.{Call, Answer, done, starts, lists, shows, refused, values}
use Rattle.rules.specs.Numbers.{Told}
use Rattle.rules.specs.Tables.{Tables}
use Rattle.rules.specs.Desk.{outcome}

-- an answer's number and values, for a booking or an offer, for a listing, for a showing, and for a question for a total
abbrev pub choice_shown : Answer → ChoiceRecord
choice_shown a = record { refusal = (values a).number; start = record { 0 = (values a).start }; path = record { count = (values a).count; links = (values a).path }; at = record { 0 = (values a).at } }

-- what the record hands out tells the answer, and its minute stands beside a refusal alone
abbrev pub ChoiceTells : Type 0
ChoiceTells =
    (a : Answer) → let r = choice_shown a in
    Told a (record { number = r.refusal; start = r.start.0; count = r.path.count; path = r.path.links; ranges = (values a).ranges; figure = (values a).figure; at = r.at.0 })

abbrev pub listed : Answer → Listed
listed a = record { refusal = (values a).number; count = (values a).ranges }

-- what a lent list holds after an answer: the ranges, or what it held
abbrev pub list_left : Answer → List ℕ → List ℕ
list_left done old = old
list_left (starts g) old = old
list_left (lists rs) old = list_table rs
list_left (shows x) old = old
list_left (refused r) old = old

abbrev pub shown : Answer → Shown
shown a = record { refusal = (values a).number; free = record { 0 = (values a).figure } }

abbrev pub sold_shown : Answer → Sold
sold_shown a = record { refusal = (values a).number; work = record { 0 = (values a).figure } }

-- the record of a total tells the answer too, and the total is zero beside a refusal
abbrev pub SoldTells : Type 0
SoldTells =
    (a : Answer) → let r = sold_shown a in
    Told a (record { number = r.refusal; start = (values a).start; count = (values a).count; path = (values a).path; ranges = (values a).ranges; figure = r.work.0; at = (values a).at })

-- a listing that is answered, a showing, and a total, as they are handed out
abbrev pub listed_values : Result ℕ Refusal → Listed
listed_values (Ok count) = record { refusal = 0; count = count }
listed_values (Err refusal) = record { refusal = number refusal; count = 0 }

abbrev pub shown_values : Result Bandwidth Refusal → Shown
shown_values (Ok free) = record { refusal = 0; free = free }
shown_values (Err refusal) = record { refusal = number refusal; free = record { 0 = 0 } }

abbrev pub sold_values : Result Work Refusal → Sold
sold_values (Ok work) = record { refusal = 0; work = work }
sold_values (Err refusal) = record { refusal = number refusal; work = record { 0 = 0 } }

module _ (links : List Link) (t : Tables) (c : Call) where
  unfoldable pub choice_answer : ChoiceRecord
  choice_answer = choice_shown (outcome links t c).answer

  unfoldable pub listed_answer : Listed
  listed_answer = listed (outcome links t c).answer

  unfoldable pub list_after : List ℕ → List ℕ
  list_after = list_left (outcome links t c).answer

  unfoldable pub shown_answer : Shown
  shown_answer = shown (outcome links t c).answer

  unfoldable pub sold_answer : Sold
  sold_answer = sold_shown (outcome links t c).answer

  -- the refusal number of a call that hands nothing else back; 0 if it is accepted
  unfoldable pub refusal_answer : ℕ
  refusal_answer = (values (outcome links t c).answer).number

  -- the tables that are handed back
  unfoldable pub tables_after : Tables
  tables_after = (outcome links t c).tables

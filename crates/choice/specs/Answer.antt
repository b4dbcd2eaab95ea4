-- What the chooser is given and what it answers: the lent tables read as figures, and this paper's values of a choice.
use Rattle.std.specs.Prelude.{List, [], Bool, Option, Some, None, Result, Ok, Err, ℕ, ◌≤◌}
use Rattle.units.specs.declared.Refused.{Refused}
use Rattle.units.specs.declared.Refusal.TheVariants.{NoStart}
use Rattle.units.specs.Limits.{last_shown}
use Rattle.units.specs.Refusals.{number}
use Rattle.units.specs.Spans.{release}
use Rattle.free_table.specs.Figures.{kept}
use Rattle.path_search.specs.Paths.{Graph, Route}
use Rattle.path_search.specs.declared.Path.{Path}
use Rattle.path_search.specs.Answer.{graph, path_of}
use Rattle.choice.specs.Carrying.{carries}
use Rattle.choice.specs.EventTables.{clock_of}
use Rattle.choice.specs.declared.Granted.{Granted}
use Rattle.choice.specs.declared.ChoiceRecord.{ChoiceRecord}
use Rattle.choice.specs.declared.search.Search.{Search}
use Rattle.choice.specs.declared.asked.Asked.{Asked}
use Rattle.choice.specs.Choice.{Grant, Choice, granted, no_start, route_at, possible, choose}
use Rattle.choice.specs.BreakOff.{break_off}

-- what is asked of any start: the links as a graph, where from and to, how much, and for how many minutes
pub record Wanted : Type 0 where
  pub links : Graph
  pub source : ℕ
  pub destination : ℕ
  pub bandwidth : ℕ
  pub span : ℕ

abbrev pub wanted : Search → Wanted
wanted s = record { links = graph s.ends; source = s.source; destination = s.destination; bandwidth = s.bandwidth.0; span = s.span.0 }

-- asked on lent tables: what links carry, the route of a start, whether it is possible, the choice of low to latest, and the minute at
-- which every path from low on breaks off
module _ (w : Wanted) (es t : List ℕ) where
  abbrev pub carried : ℕ → ℕ → Bool
  carried = carries (kept es t) w.bandwidth w.span

  abbrev pub route_for : ℕ → Route
  route_for = route_at w.links carried w.source w.destination

  abbrev pub possible_for : ℕ → Bool
  possible_for = possible w.links carried w.source w.destination

  abbrev pub choice_for : ℕ → ℕ → Choice Grant
  choice_for = choose w.links carried w.source w.destination

  abbrev pub break_off_for : ℕ → ℕ
  break_off_for = break_off w.links (carries (kept es t) w.bandwidth) w.source w.destination w.span

-- the same of a search beside its tables
abbrev pub route_of : Asked → ℕ → Route
route_of a = route_for (wanted a.search.now) a.table.events.now a.table.figures.now

abbrev pub possible_of : Asked → ℕ → Bool
possible_of a = possible_for (wanted a.search.now) a.table.events.now a.table.figures.now

abbrev pub choice_of : Asked → ℕ → ℕ → Choice Grant
choice_of a = choice_for (wanted a.search.now) a.table.events.now a.table.figures.now

abbrev pub break_off_of : Asked → ℕ → ℕ
break_off_of a = break_off_for (wanted a.search.now) a.table.events.now a.table.figures.now

-- of which windows it may be asked: the clock is not after low, and the last span ends in time
pub record Askable (es : List ℕ) (span low latest : ℕ) : Type 0 where
  pub not_past : clock_of es ≤ low
  pub in_time : release latest span ≤ last_shown

abbrev pub AskableOf : Asked → ℕ → ℕ → Type 0
AskableOf a = Askable a.table.events.now a.search.now.span.0

-- document 01's 'start with its path', as it is handed out
abbrev pub given_start : ℕ → Path → Granted
given_start start path = record { start = record { 0 = start }; path = path }

-- a choice as the search finds it
abbrev pub found_start : Choice Grant → Option Granted
found_start (granted g) = Some (given_start g.start (path_of g.path))
found_start no_start = None

-- document 01's 'one refusal number', with document 02's minute beside it
abbrev pub refusal : ℕ → Result Granted Refused
refusal m = Err (record { refusal = NoStart; at = record { 0 = m } })

-- a choice as it is answered, by the minute at which every path from low on breaks off
abbrev pub chosen : ℕ → Choice Grant → Result Granted Refused
chosen m (granted g) = Ok (given_start g.start (path_of g.path))
chosen m no_start = refusal m

-- document 01's number and values for each case; 0 is the number of a start, and 'on refusal start and path are zero'; document 02's
-- minute stands beside 8 alone
abbrev pub values : Result Granted Refused → ChoiceRecord
values (Ok given) = record { refusal = 0; start = given.start; path = given.path; at = record { 0 = 0 } }
values (Err refused) = record { refusal = number refused.refusal; start = record { 0 = 0 }; path = path_of []; at = refused.at }

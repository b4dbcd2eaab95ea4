-- The bandwidth desk as a kind of desk, and what each call makes of any tables.
use Rattle.std.specs.Prelude.{◌≡◌, ℕ, ◌+◌, ◌≤◌, ◌<◌, length}
use mathlib.Core.List.{List, [], ◌∷◌, Perm}
use Rattle.units.specs.declared.Link.{Link}
use Rattle.units.specs.Limits.{last_shown}
use Rattle.free_table.specs.Figures.{kept}
use Rattle.histories.specs.Kinds.{Kind}
use Rattle.histories.specs.Kinds as kinds
use Rattle.rules.specs.Plain.{Plain, empty, taken, capacity}
use Rattle.rules.specs.Calls.{Ask, Call, Answer, show, done, shows, refuse, values, own_checks, result, InForm, writes, next}
use Rattle.rules.specs.Tables.{Tables, tables, held, sound, guard_check, table_checks}

-- the clock, the guard and the standing bookings agree
abbrev pub Agree : Plain → Plain → Type 0
Agree p q = (p.clock ≡ q.clock) × (p.guard ≡ q.guard) × Perm p.bookings q.bookings

-- document 01's 'no link is oversold', in any minute
abbrev pub NotOversold : List Link → Plain → Type 0
NotOversold links p = (l m : ℕ) → l < length links → taken p l m ≤ capacity links l

-- x and what the plain book takes of link l in minute m are its capacity; a sum, so that nothing is cut off at 0
abbrev pub IsFree : List Link → Plain → ℕ → ℕ → ℕ → Type 0
IsFree links p l m x = x + taken p l m ≡ capacity links l

-- the figure of link l in the row that holds minute m
abbrev pub Keeps : Tables → ℕ → ℕ → ℕ → Type 0
Keeps t l m x = kept t.events t.free l m ≡ x

abbrev pub bandwidth_desk : Kind
bandwidth_desk = record {
  Link = Link;
  Start = ℕ;
  Ask = Ask;
  Answer = Answer;
  Plain = Plain;
  Tables = Tables;
  done = done;
  refuse = refuse;
  number = λ a. (values a).number;
  table_checks = table_checks;
  start_checks = λ guard. guard_check guard ∷ [];
  own_checks = own_checks;
  result = result;
  InForm = InForm;
  writes = writes;
  empty = empty;
  next = λ links. next;
  clock = λ p. p.clock;
  Agree = Agree;
  tables = tables;
  held = held;
  sound = sound;
  NotOversold = NotOversold;
  IsFree = IsFree;
  Keeps = Keeps;
  show = show;
  shows = shows;
  last_shown = last_shown;
}

abbrev pub Outcome : Type 0
Outcome = kinds.Outcome Answer Tables

-- what a call answers on a desk whose tables are sound
abbrev pub answer : List Link → Plain → Ask → Answer
answer = kinds.answer bandwidth_desk

-- what a call answers where the tables pass
abbrev pub answer_with : List Link → Plain → Call → Answer
answer_with = kinds.answer_with bandwidth_desk

-- what a call answers on any tables
abbrev pub answer_on : List Link → Tables → Call → Answer
answer_on = kinds.answer_on bandwidth_desk

-- what it leaves
abbrev pub left_by : List Link → Tables → Call → Answer → Tables
left_by = kinds.left_by bandwidth_desk

-- the answer of a call on any tables, and each table figure afterwards: what every contract of the desk says
abbrev pub outcome : List Link → Tables → Call → Outcome
outcome = kinds.outcome bandwidth_desk

-- Document 01's 'one line for each order': what any bytes are answered as an order, and each table afterwards.
use Rattle.std.specs.Prelude.{List, [], ℕ, eqb, take, Result, Ok, Err}
use Rattle.units.specs.declared.Link.{Link}
use Rattle.units.specs.declared.Refusal.{Refusal}
use Rattle.units.specs.declared.Refused.{Refused}
use Rattle.units.specs.Refusals.{number, no_start, without_minute}
use Rattle.path_search.specs.declared.Path.{Path}
use Rattle.path_search.specs.Answer.{path_of}
use Rattle.layout.specs.declared.Order.{Order}
use Rattle.layout.specs.declared.Order.TheVariants as orders
use Rattle.layout.specs.Records.{if_passed, order_read}
use Rattle.layout.specs.Values.{request_of}
use Rattle.report.specs.declared.Report.{Report}
use Rattle.report.specs.declared.Report.TheVariants as reports
use Rattle.report.specs.Line.{line}
use Rattle.histories.specs.Kinds as kinds
use Rattle.rules.specs.Calls.{Ask, Call, ask, Values, values}
use Rattle.rules.specs.Tables.{Tables}
use Rattle.rules.specs.Desk.{Outcome, outcome}
use Rattle.orders.specs.declared.Answered.{Answered}

-- what an order is answered, and the tables that it leaves
abbrev pub Ordered : Type 0
Ordered = kinds.Outcome Answered Tables

-- the call that an order asks for; an open latest start is the last minute
abbrev pub call_of : Order → Call
call_of (orders.Book number w) = ask (Ask.book number (request_of w))
call_of (orders.Cancel number) = ask (Ask.cancel number)
call_of (orders.Clock minute) = ask (Ask.move_clock minute.0)
call_of (orders.Offer w) = ask (Ask.offer (request_of w))

-- document 01's 'outcome, with booking number, start minute'; a clock line has the new minute
abbrev pub accepted : Order → Values → Report
accepted (orders.Book number w) v = reports.Booked number (record { 0 = v.start })
accepted (orders.Cancel number) v = reports.Cancelled number
accepted (orders.Clock minute) v = reports.Clock minute
accepted (orders.Offer w) v = reports.Offered (record { 0 = v.start })

-- 'a refused order prints `refused N`', and 8 its minute; 'other refusals .. print no `at`'
abbrev pub refused : ℕ → ℕ → Report
refused k m = if_passed (eqb k no_start) (reports.RefusedAt k (record { 0 = m })) (reports.Refused k)

-- 0 is the number of an accepted call
abbrev pub reported : Order → Values → Report
reported order v = if_passed (eqb v.number 0) (accepted order v) (refused v.number v.at)

-- the path of a booking or an offer; no other line shows one
abbrev pub path_shown : Order → Values → Path
path_shown (orders.Book number w) v = record { count = v.count; links = v.path }
path_shown (orders.Cancel number) v = path_of []
path_shown (orders.Clock minute) v = path_of []
path_shown (orders.Offer w) v = record { count = v.count; links = v.path }

-- an order that was read, by the outcome of its call
abbrev pub answered_by : Order → Outcome → Ordered
answered_by order o = record { answer = record { report = reported order (values o.answer); path = path_shown order (values o.answer) }; tables = o.tables }

unfoldable pub answered : List Link → Tables → Order → Ordered
answered links t order = answered_by order (outcome links t (call_of order))

-- the answer of an order, refused or not
abbrev pub told : Result Answered Refused → Answered
told (Ok answer) = answer
told (Err why) = record { report = refused (number why.refusal) why.at.0; path = path_of [] }

-- 'reading a record': an order that cannot be read is refused and changes nothing
abbrev pub by_reading : List Link → Tables → Result Order Refusal → Ordered
by_reading links t (Ok order) = answered links t order
by_reading links t (Err refusal) = record { answer = told (Err (without_minute refusal)); tables = t }

-- what any bytes are answered as an order
unfoldable pub ordered : List Link → Tables → List ℕ → Ordered
ordered links t bytes = by_reading links t (order_read bytes)

-- document 01's line of an order at its place: the path's links in travel order
abbrev pub line_of : ℕ → Ordered → List ℕ
line_of place o = line place o.answer.report (take o.answer.path.count o.answer.path.links)

-- Document 01's program: the bytes of a session to its whole output, with the desk threaded through.
use Rattle.std.specs.Prelude.{List, [], ◌∷◌, ◌++◌, ℕ, ◌+◌, ◌*◌, ◌/◌, eqb, length, drop, replicate}
use Rattle.std.specs.Simd.{first_chunks}
use Rattle.units.specs.declared.Link.{Link}
use Rattle.units.specs.Limits.{most_links, most_bookings, most_events, most_totals, place_size}
use Rattle.layout.specs.Layout.{order_bytes}
use Rattle.layout.specs.Records.{if_passed}
use Rattle.report.specs.declared.Report.TheVariants.{DeskLinks, DeskRefused}
use Rattle.report.specs.Line.{line}
use Rattle.rules.specs.Tables.{Tables, lent}
use Rattle.opening.specs.Opened.{first_size, Opened, opened}
use Rattle.streams.specs.Reading.{cut_short}
use Rattle.orders.specs.Ordered.{Ordered, ordered, line_of}

-- a session under way: its links, its tables, and the place of the next order
pub record Running : Type 0 where
  pub links : List Link
  pub tables : Tables
  pub place : ℕ

-- what the next order is answered
abbrev pub answered : Running → List ℕ → Ordered
answered r order = ordered r.links r.tables order

-- the session behind it
abbrev pub behind : Running → List ℕ → Running
behind r order = record { links = r.links; tables = (answered r order).tables; place = r.place + 1 }

-- 'one line for each order': the lines of some orders, and the session behind them
unfoldable pub lines : Running → List (List ℕ) → List ℕ
lines r [] = []
lines r (order ∷ orders) = line_of r.place (answered r order) ++ lines (behind r order) orders

unfoldable pub after : Running → List (List ℕ) → Running
after r [] = r
after r (order ∷ orders) = after (behind r order) orders

-- 'orders to the end': each sixteen bytes, and 'a last piece of 1 to 15'
abbrev pub whole_orders : List ℕ → List (List ℕ)
whole_orders bytes = first_chunks order_bytes (length bytes / order_bytes) bytes

abbrev pub last_piece : List ℕ → List (List ℕ)
last_piece [] = []
last_piece (b ∷ bs) = (b ∷ bs) ∷ []

unfoldable pub orders : List ℕ → List (List ℕ)
orders bytes = whole_orders bytes ++ last_piece (cut_short bytes)

-- the tables that the program holds before the set-up; an accepted one leaves nothing of them
unfoldable pub blank : Tables
blank =
    lent (record { clock = record { 0 = 0 }; links = 0; bookings = 0; guard = record { 0 = 0 } }) (replicate most_events 0) (replicate (most_events * most_links) 0) (replicate (most_bookings * place_size) 0) (replicate most_totals 0)

-- the session at its first order
abbrev pub started : Opened → Running
started o = record { links = o.answer.links; tables = o.tables; place = 1 }

-- `desk links N`, then one line for each order
abbrev pub opened_lines : Running → List ℕ → List ℕ
opened_lines r bytes = line 0 (DeskLinks (length r.links)) [] ++ lines r (orders bytes)

-- 'On refusal it writes `desk refused N` and stops', otherwise those lines
abbrev pub output : Opened → List ℕ → List ℕ
output o bytes = if_passed (eqb o.answer.refusal 0) (opened_lines (started o) bytes) (line 0 (DeskRefused o.answer.refusal) [])

-- the whole output
unfoldable pub session : List ℕ → List ℕ
session bytes = output (opened blank bytes) (drop (first_size bytes) bytes)

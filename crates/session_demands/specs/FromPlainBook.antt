-- A session as the plain book answers it: its whole output from its bytes, with no table in sight.
use Rattle.std.specs.Prelude.{◌≡◌, List, [], ◌∷◌, ◌++◌, ℕ, ◌+◌, eqb, length, take, drop, Result, Ok, Err}
use Rattle.units.specs.declared.Link.{Link}
use Rattle.units.specs.declared.Refusal.{Refusal}
use Rattle.units.specs.Limits.{most_links}
use Rattle.units.specs.Refusals.{without_minute}
use Rattle.units.specs.Lists.{Within}
use Rattle.layout.specs.declared.Order.{Order}
use Rattle.layout.specs.Records.{if_passed, order_read}
use Rattle.report.specs.declared.Report.TheVariants.{DeskLinks, DeskRefused}
use Rattle.report.specs.Line.{line}
use Rattle.rules.specs.Plain.{Plain, empty}
use Rattle.rules.specs.Calls.{Answer, first_refusal, values, next}
use Rattle.rules.specs.Tables.{set_up_checks, tables}
use Rattle.rules.specs.Desk.{answer_with}
use Rattle.rules.specs.Sound.{Obeys}
use Rattle.opening.specs.Opened.{first_byte, guard_byte, first_size, links_in, bytes_refusal, Told}
use Rattle.orders.specs.declared.Answered.{Answered}
use Rattle.orders.specs.Ordered.{call_of, reported, path_shown, told}
use Rattle.session.specs.Session.{lines, orders}

-- what an order's call is answered from the links and the plain book
abbrev pub plain_answer : List Link → Plain → Order → Answer
plain_answer links p order = answer_with links p (call_of order)

-- what its line shows
abbrev pub shown : Order → Answer → Answered
shown order a = record { report = reported order (values a); path = path_shown order (values a) }

-- 'reading a record': an order that cannot be read is refused and changes nothing
abbrev pub plain_told : List Link → Plain → Result Order Refusal → Answered
plain_told links p (Ok order) = shown order (plain_answer links p order)
plain_told links p (Err refusal) = told (Err (without_minute refusal))

-- the plain book behind it
abbrev pub plain_next : List Link → Plain → Result Order Refusal → Plain
plain_next links p (Ok order) = next p (call_of order) (plain_answer links p order)
plain_next links p (Err refusal) = p

abbrev pub line_at : ℕ → Answered → List ℕ
line_at place a = line place a.report (take a.path.count a.path.links)

-- one line for each order
unfoldable pub plain_lines : List Link → Plain → ℕ → List (List ℕ) → List ℕ
plain_lines links p place [] = []
plain_lines links p place (order ∷ orders) = line_at place (plain_told links p (order_read order)) ++ plain_lines links (plain_next links p (order_read order)) (place + 1) orders

-- what a set-up is refused with, 0 if it is accepted
abbrev pub start_refusal : List Link → ℕ → ℕ
start_refusal links guard = first_refusal (set_up_checks links guard)

-- the start: the bytes are checked, then the guard, then the links
abbrev pub plain_start : List ℕ → Told
plain_start bytes =
    if_passed (eqb (bytes_refusal bytes) 0) (record { refusal = start_refusal (links_in bytes (first_byte bytes)) (guard_byte bytes); links = links_in bytes (first_byte bytes) })
    (record { refusal = bytes_refusal bytes; links = [] })

-- 'On refusal it writes `desk refused N` and stops. Otherwise `desk links N`, then one line for each order'
abbrev pub plain_output : Told → ℕ → List ℕ → List ℕ
plain_output start guard bytes = if_passed (eqb start.refusal 0) (line 0 (DeskLinks (length start.links)) [] ++ plain_lines start.links (empty guard) 1 (orders bytes)) (line 0 (DeskRefused start.refusal) [])

-- the whole output
unfoldable pub plain_session : List ℕ → List ℕ
plain_session bytes = plain_output (plain_start bytes) (guard_byte bytes) (drop (first_size bytes) bytes)

-- a program writes that, whatever it is fed
abbrev pub FromPlainBook : (List ℕ → List ℕ) → Type 0
FromPlainBook program = (bytes : List ℕ) → program bytes ≡ plain_session bytes

-- and so it goes on, wherever the tables are those of a plain book that obeys the rules
abbrev pub LinesFromPlainBook : Type 0
LinesFromPlainBook =
    (links : List Link) (p : Plain) (place : ℕ) (orders : List (List ℕ)) → Within 1 most_links (length links) → Obeys links p
    → lines (record { links = links; tables = tables links p; place = place }) orders ≡ plain_lines links p place orders

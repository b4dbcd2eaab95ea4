-- What each call answers from the links and the plain book, and what the plain book is after it.
use Rattle.std.specs.Prelude.{◌≡◌, ◌⊎◌, List, [], ◌∷◌, Bool, true, false, ◌&&◌, not, ℕ, leb, ltb, eqb, length}
use Rattle.units.specs.declared.Link.{Link}
use Rattle.units.specs.declared.Request.{Request}
use Rattle.units.specs.Limits.{last_node, most_hops, most_bookings, last_number, most_bandwidth, longest, last_minute, last_shown, list_size}
use Rattle.units.specs.Refusals as refusals
use Rattle.units.specs.Lists.{within, padded}
use Rattle.choice.specs.Choice.{Grant, Choice, granted, no_start, choose}
use Rattle.choice.specs.BreakOff.{break_off}
use Rattle.listing.specs.Ranges.{Range, ranges}
use Rattle.plain_book.specs.Bookings as bookings
use Rattle.plain_book.specs.Bookings.{without, standing_at}
pub use Rattle.histories.specs.Checks.{Check, check, first_refusal}
unfoldable pub use Rattle.histories.specs.Checks.{checked}
use Rattle.histories.specs.Kinds as kinds
pub use Rattle.histories.specs.Kinds.{set_up_with, ask}
use Rattle.rules.specs.Plain.{Booking, Plain, empty, with_book, terms, span, until, sold_work, graph, free, carries_in, carries, low}

-- the calls on a desk that is set up; a listing is asked with the size of the list that it is lent
pub data Ask : Type 0 where
  book : ℕ → Request → Ask
  offer : Request → Ask
  list : ℕ → Request → Ask
  cancel : ℕ → Ask
  move_clock : ℕ → Ask
  show : ℕ → ℕ → Ask
  sold : ℕ → Ask

-- a set-up is asked with the guard
abbrev pub Call : Type 0
Call = kinds.Call ℕ Ask

abbrev pub set_up : ℕ → Call
set_up guard = set_up_with guard

-- a refusal number, with document 02's minute beside it
pub record Refusal : Type 0 where
  pub number : ℕ
  pub at : ℕ

pub data Answer : Type 0 where
  done : Answer
  starts : Grant → Answer
  lists : List Range → Answer
  shows : ℕ → Answer
  refused : Refusal → Answer

-- 'other refusals bring 0'
abbrev pub refuse : ℕ → Answer
refuse k = refused (record { number = k; at = 0 })

-- 'refusal 8 then brings a minute'
abbrev pub no_start_at : ℕ → Answer
no_start_at m = refused (record { number = refusals.no_start; at = m })

-- document 01's number and values for each case of an answer, and document 02's minute; 0 is the number of an accepted call
pub record Values : Type 0 where
  pub number : ℕ
  pub start : ℕ
  pub count : ℕ
  pub path : List ℕ
  pub ranges : ℕ
  pub figure : ℕ
  pub at : ℕ

abbrev pub values : Answer → Values
values done = record { number = 0; start = 0; count = 0; path = padded most_hops []; ranges = 0; figure = 0; at = 0 }
values (starts g) = record { number = 0; start = g.start; count = length g.path; path = padded most_hops g.path; ranges = 0; figure = 0; at = 0 }
values (lists rs) = record { number = 0; start = 0; count = 0; path = padded most_hops []; ranges = length rs; figure = 0; at = 0 }
values (shows x) = record { number = 0; start = 0; count = 0; path = padded most_hops []; ranges = 0; figure = x; at = 0 }
values (refused r) = record { number = r.number; start = 0; count = 0; path = padded most_hops []; ranges = 0; figure = 0; at = r.at }

abbrev pub numbers : List Booking → List ℕ
numbers = bookings.numbers (λ b. b.number)

-- a booking of that number stands
abbrev pub stands : ℕ → List Booking → Bool
stands = bookings.stands (λ b. b.number)

abbrev pub number_ok : ℕ → Bool
number_ok n = within 1 last_number n

-- two nodes in range that differ
abbrev pub ends_ok : ℕ → ℕ → Bool
ends_ok from to = leb from last_node && leb to last_node && not (eqb from to)

abbrev pub request_ok : Request → Bool
request_ok r =
    ends_ok r.from r.to && within 1 most_bandwidth r.bandwidth.0 && within 1 longest r.duration.0
    && leb r.earliest.0 last_minute && leb r.latest.0 last_minute

-- what an offer and a listing are checked for on sound tables
abbrev pub request_checks : Plain → Request → List Check
request_checks p r = check refusals.bad_field (request_ok r) ∷ check refusals.too_late (leb (low p r) r.latest.0) ∷ []

-- whether a list that the call is lent has document 02's length; only a listing is lent one
abbrev pub list_fits : Ask → Bool
list_fits (book n r) = true
list_fits (offer r) = true
list_fits (list n r) = eqb n list_size
list_fits (cancel n) = true
list_fits (move_clock m) = true
list_fits (show l m) = true
list_fits (sold l) = true

-- the checks of a call on sound tables, in document 01's order; 8 is not among them: the choice says it. A listing's list is
-- checked before the tables' soundness, and is among them so that the plain book alone gives the answer
abbrev pub own_checks : List Link → Plain → Ask → List Check
own_checks links p (book n r) =
    check refusals.bad_field (number_ok n && request_ok r)
    ∷ check refusals.too_late (leb (low p r) r.latest.0)
    ∷ check refusals.number_stands (not (stands n p.bookings))
    ∷ check refusals.book_full (ltb (length p.bookings) most_bookings)
    ∷ []
own_checks links p (offer r) = request_checks p r
own_checks links p (list n r) = check refusals.bad_list (list_fits (list n r)) ∷ request_checks p r
own_checks links p (cancel n) = check refusals.bad_field (number_ok n) ∷ check refusals.not_standing (stands n p.bookings) ∷ []
own_checks links p (move_clock m) = check refusals.bad_field (leb m last_minute) ∷ check refusals.clock_back (leb p.clock m) ∷ []
own_checks links p (show l m) = check refusals.bad_field (ltb l (length links) && within p.clock last_shown m) ∷ []
own_checks links p (sold l) = check refusals.bad_field (ltb l (length links)) ∷ []

-- document 02's 'first minute m, from low on, such that no single path has the bandwidth free throughout low to m'
unfoldable pub breaks_off : List Link → Plain → Request → ℕ
breaks_off links p r = break_off (graph links) (carries_in links p r) r.from r.to (span p (terms r)) (low p r)

-- a choice as it is answered, by the minute at which every path from low on breaks off
abbrev pub chosen : ℕ → Choice Grant → Answer
chosen m (granted g) = starts g
chosen m no_start = no_start_at m

-- the earliest start of the request's window, with its path
unfoldable pub best : List Link → Plain → Request → Answer
best links p r = chosen (breaks_off links p r) (choose (graph links) (carries links p r) r.from r.to (low p r) r.latest.0)

-- every start of the request's window, as ranges
unfoldable pub every : List Link → Plain → Request → List Range
every links p r = ranges (graph links) (carries links p r) r.from r.to (low p r) r.latest.0

-- what a call that passes its checks answers
abbrev pub result : List Link → Plain → Ask → Answer
result links p (book n r) = best links p r
result links p (offer r) = best links p r
result links p (list n r) = lists (every links p r)
result links p (cancel n) = done
result links p (move_clock m) = done
result links p (show l m) = shows (free links p l m)
result links p (sold l) = shows (sold_work p l)

-- a start, or 'no start' with its minute
abbrev pub StartOr8 : Answer → Type 0
StartOr8 a = ((g : Grant) × (a ≡ starts g)) ⊎ ((m : ℕ) × (a ≡ no_start_at m))

-- the form in which a call that passes its checks is answered; only one that asks for a start may be refused then, with 8
abbrev pub InForm : Ask → Answer → Type 0
InForm (book n r) a = StartOr8 a
InForm (offer r) a = StartOr8 a
InForm (list n r) a = (rs : List Range) × (a ≡ lists rs)
InForm (cancel n) a = a ≡ done
InForm (move_clock m) a = a ≡ done
InForm (show l m) a = (x : ℕ) × (a ≡ shows x)
InForm (sold l) a = (x : ℕ) × (a ≡ shows x)

-- offers, listings, showings and questions for a total write no table
abbrev pub writes : Ask → Bool
writes (book n r) = true
writes (offer r) = false
writes (list n r) = false
writes (cancel n) = true
writes (move_clock m) = true
writes (show l m) = false
writes (sold l) = false

abbrev pub put_in : Booking → Plain → Plain
put_in b p = with_book p (b ∷ p.bookings)

-- without the booking of that number
abbrev pub take_out : ℕ → Plain → Plain
take_out n p = with_book p (without (λ b. b.number) n p.bookings)

-- at clock m, with the bookings that still stand then
abbrev pub move_to : ℕ → Plain → Plain
move_to m p = record { clock = m; guard = p.guard; bookings = standing_at (until p) m p.bookings }

-- x where the answer is `done`, else y
abbrev pub on_done : {A : Type 0} → Answer → A → A → A
on_done done x y = x
on_done (starts g) x y = y
on_done (lists rs) x y = y
on_done (shows n) x y = y
on_done (refused r) x y = y

-- f of the grant where the answer is a start, else y
abbrev pub on_start : {A : Type 0} → Answer → (Grant → A) → A → A
on_start done f y = y
on_start (starts g) f y = f g
on_start (lists rs) f y = y
on_start (shows n) f y = y
on_start (refused r) f y = y

-- the plain book after a call, from the call as asked and answered and nothing else
abbrev pub next : Plain → Call → Answer → Plain
next p (set_up_with guard) a = on_done a (empty guard) p
next p (ask (book n r)) a = on_start a (λ g. put_in (record { number = n; terms = terms r; grant = g }) p) p
next p (ask (offer r)) a = p
next p (ask (list n r)) a = p
next p (ask (cancel n)) a = on_done a (take_out n p) p
next p (ask (move_clock m)) a = on_done a (move_to m p) p
next p (ask (show l m)) a = p
next p (ask (sold l)) a = p

-- The three demands, as properties of any desk of this kind: ours is shown to have them, and a sham desk not to.
-- No search, no row and no bound on the length of a path occurs here but in what the demands speak of.
use Rattle.std.specs.Prelude.{◌≡◌, ◌≢◌, ◌⊎◌, ℕ, ◌≤◌, ◌<◌, length}
use mathlib.Core.List.{List, Memᴰ}
use Rattle.units.specs.declared.Link.{Link}
use Rattle.units.specs.declared.Request.{Request}
use Rattle.units.specs.Lists.{All}
use Rattle.units.specs.Refusals as refusals
use Rattle.histories.specs.Kinds as kinds
use Rattle.histories.specs.Demands as demands
use Rattle.rules.specs.Plain.{Plain, until, capacity, low}
use Rattle.rules.specs.Calls.{Ask, book, offer, list, cancel, move_clock, show, sold, Call, set_up_with, ask, Refusal, done, refused}
use Rattle.rules.specs.Choosing.{PathAt, RightChoice}
use Rattle.rules.specs.Tables.{Tables, Fine, held, events_of}
use Rattle.rules.specs.Desk.{bandwidth_desk, Keeps}

-- what a desk does with a call
abbrev pub Desk : Type 0
Desk = kinds.Desk bandwidth_desk

-- the call passes every check
abbrev pub Passes : List Link → Tables → Call → Type 0
Passes = demands.Passes bandwidth_desk

-- 1 and 3, which stand in `histories` for every kind of desk, of a desk of this kind
abbrev pub Demand1 : Desk → Type 0
Demand1 = demands.Demand1 bandwidth_desk

abbrev pub Demand3 : Desk → Type 0
Demand3 = demands.Demand3 bandwidth_desk

abbrev pub asks_start : Ask → Type 0
asks_start (book n r) = Unit {0}
asks_start (offer r) = Unit {0}
asks_start (list n r) = ⊥
asks_start (cancel n) = ⊥
asks_start (move_clock m) = ⊥
asks_start (show l m) = ⊥
asks_start (sold l) = ⊥

abbrev pub AsksStart : Call → Type 0
AsksStart (set_up_with s) = ⊥
AsksStart (ask a) = asks_start a

-- Demand 1 in its other words: a call that passes is refused only with 8, and only if it asks for a start.
abbrev pub NotOtherwise : Desk → Type 0
NotOtherwise desk = (links : List Link) (t : Tables) (c : Call) (f : Refusal) → Passes links t c → (desk links t c).answer ≡ refused f → AsksStart c × (f.number ≡ refusals.no_start)

-- And whatever its number and its minute, a refusal leaves every table as it came.
abbrev pub RefusalKeeps : Desk → Type 0
RefusalKeeps desk = (links : List Link) (t : Tables) (c : Call) (f : Refusal) → (desk links t c).answer ≡ refused f → (desk links t c).tables ≡ t

-- Document 02's 'other refusals bring 0': beside a refusal that is not 8 stands no minute.
abbrev pub OthersBringNone : Desk → Type 0
OthersBringNone desk = (links : List Link) (t : Tables) (c : Call) (f : Refusal) → (desk links t c).answer ≡ refused f → f.number ≢ refusals.no_start → f.at ≡ 0

-- 'The same minute is accepted and changes nothing.'
abbrev pub SameMinute : Desk → Type 0
SameMinute desk = (links : List Link) (t : Tables) → Fine links t
    → ((desk links t (ask (move_clock (held t).clock))).answer ≡ done) × ((desk links t (ask (move_clock (held t).clock))).tables ≡ t)

-- 'The last row holds without end and shows full capacity': at every moment of a history, from when the last booking is released on.
abbrev pub LastRowFull : Desk → Type 0
LastRowFull desk =
    (links : List Link) (h : demands.Moment bandwidth_desk desk links) (l m : ℕ) → l < length links → (demands.plain bandwidth_desk desk h).clock ≤ m
    → All (λ b. until (demands.plain bandwidth_desk desk h) b ≤ m) (demands.plain bandwidth_desk desk h).bookings
    → Keeps (demands.now bandwidth_desk desk h) l m (capacity links l)

-- Low and event times lose nothing: a path that can start at m can start no later at low or at an event.
abbrev pub EventsSuffice : Type 0
EventsSuffice =
    (links : List Link) (p : Plain) (r : Request) (m : ℕ) (path : List ℕ) → low p r ≤ m → PathAt links p r m path
    → (e : ℕ) × (low p r ≤ e) × (e ≤ m) × ((e ≡ low p r) ⊎ Memᴰ e (events_of p)) × PathAt links p r e path

-- 2. A request that passes the other checks gets the earliest minute, fewest links, lower numbers; 'no start' if and only if there is none, with the
-- minute at which every path from low on breaks off.
pub record Demand2 (desk : Desk) : Type 0 where
  pub booking : (links : List Link) (t : Tables) (n : ℕ) (r : Request) → Passes links t (ask (book n r)) → RightChoice links (held t) r (desk links t (ask (book n r))).answer
  pub offering : (links : List Link) (t : Tables) (r : Request) → Passes links t (ask (offer r)) → RightChoice links (held t) r (desk links t (ask (offer r))).answer

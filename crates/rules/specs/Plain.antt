-- Document 01's plain book: a clock, a guard and a list of bookings, with no table in sight, and what they leave free.
use Rattle.std.specs.Prelude.{List, [], map, Bool, ℕ, ◌-◌, length, get_or}
use Rattle.units.specs.declared.Link.{Link}
use Rattle.units.specs.declared.Request.{Request}
use Rattle.units.specs.Lists.{if_so, member, sum}
use Rattle.units.specs.Spans.{low_at, held_for, release}
use Rattle.units.specs.Work.{work_of}
use Rattle.path_search.specs.Paths.{Graph}
use Rattle.choice.specs.Choice.{Grant}
use Rattle.choice.specs.Carrying.{carries as throughout}
use Rattle.plain_book.specs.Stretches as stretches
use Rattle.plain_book.specs.Stretches.{Stretch, holds}

-- what a booking keeps of its request
pub record Terms : Type 0 where
  pub duration : ℕ
  pub bandwidth : ℕ

abbrev pub terms : Request → Terms
terms r = record { duration = r.duration.0; bandwidth = r.bandwidth.0 }

pub record Booking : Type 0 where
  pub number : ℕ
  pub terms : Terms
  pub grant : Grant

-- document 01's plain book; the order of its bookings doesn't count
pub record Plain : Type 0 where
  pub clock : ℕ
  pub guard : ℕ
  pub bookings : List Booking

-- as a set-up with that guard makes it
abbrev pub empty : ℕ → Plain
empty guard = record { clock = 0; guard = guard; bookings = [] }

-- the same plain book with other bookings
abbrev pub with_book : Plain → List Booking → Plain
with_book p bs = record { clock = p.clock; guard = p.guard; bookings = bs }

-- the minutes for which links are held
abbrev pub span : Plain → Terms → ℕ
span p t = held_for t.duration p.guard

-- the minute from which on b holds nothing and no longer stands
abbrev pub until : Plain → Booking → ℕ
until p b = release b.grant.start (span p b.terms)

-- what b holds: its links from its start on
abbrev pub stretch : Plain → Booking → Stretch
stretch p b = record { from = b.grant.start; until = until p b; links = b.grant.path }

-- what b takes of link l in minute m
abbrev pub uses : Plain → Booking → ℕ → ℕ → ℕ
uses p b l m = if_so (holds (stretch p b) l m) b.terms.bandwidth

-- the minutes at which that may change
abbrev pub times : Plain → Booking → List ℕ
times p b = stretches.times (stretch p b)

-- what the bookings take together of link l in minute m
abbrev pub taken : Plain → ℕ → ℕ → ℕ
taken p l m = sum (map (λ b. uses p b l m) p.bookings)

-- document 02's sold work of b on link l: 'bandwidth times duration, guard not counted'
abbrev pub work : Booking → ℕ → ℕ
work b l = if_so (member l b.grant.path) (work_of b.terms.bandwidth b.terms.duration)

-- that of a list of bookings together
abbrev pub sold_by : List Booking → ℕ → ℕ
sold_by bs l = sum (map (λ b. work b l) bs)

-- 'the sum, over standing bookings that use it'
abbrev pub sold_work : Plain → ℕ → ℕ
sold_work p = sold_by p.bookings

-- what stands past the end of the link list
abbrev pub no_link : Link
no_link = record { from = 0; to = 0; capacity = record { 0 = 0 } }

abbrev pub link : List Link → ℕ → Link
link links l = get_or links l no_link

abbrev pub capacity : List Link → ℕ → ℕ
capacity links l = (link links l).capacity.0

abbrev pub graph : List Link → Graph
graph links = record { count = length links; from = λ l. (link links l).from; to = λ l. (link links l).to }

-- the bandwidth that link l has free in minute m
abbrev pub free : List Link → Plain → ℕ → ℕ → ℕ
free links p l m = capacity links l - taken p l m

-- what of it the request may have
abbrev pub free_for : List Link → Plain → Request → ℕ → ℕ → ℕ
free_for links p r l m = free links p l m

-- link l has the bandwidth free in each of the n minutes from m on
abbrev pub carries_in : List Link → Plain → Request → ℕ → ℕ → ℕ → Bool
carries_in links p r n m l = throughout (free_for links p r) r.bandwidth.0 n m l

-- and in every minute of the span that starts at m
abbrev pub carries : List Link → Plain → Request → ℕ → ℕ → Bool
carries links p r = carries_in links p r (span p (terms r))

-- document 01's low: the start of the request's window
abbrev pub low : Plain → Request → ℕ
low p r = low_at r.earliest.0 p.clock

-- What sound tables are, read without a test: document 01's rules for links, clock, guard and book, and the tables that they give.
use Rattle.std.specs.Prelude.{◌≡◌, ◌↔◌, ◌≢◌, List, true, ◌≤◌, ◌<◌, length}
use Rattle.units.specs.declared.Link.{Link}
use Rattle.units.specs.Limits.{last_node, most_bookings, last_number, most_bandwidth, longest, last_minute, most_guard}
use Rattle.units.specs.Lists.{Within, All, Distinct}
use Rattle.path_search.specs.Paths.{PathRight}
use Rattle.rules.specs.Plain.{Booking, Plain, until, graph}
use Rattle.rules.specs.Calls.{numbers}
use Rattle.rules.specs.Tables.{Tables, tables, sound}
use Rattle.rules.specs.Desk.{NotOversold}

pub record LinkRight (l : Link) : Type 0 where
  pub from_right : l.from ≤ last_node
  pub to_right : l.to ≤ last_node
  pub ends_differ : l.from ≢ l.to
  pub capacity_right : Within 1 most_bandwidth l.capacity.0

pub record BookingRight (links : List Link) (p : Plain) (b : Booking) : Type 0 where
  pub number_right : Within 1 last_number b.number
  pub start_right : b.grant.start ≤ last_minute
  pub duration_right : Within 1 longest b.terms.duration
  pub bandwidth_right : Within 1 most_bandwidth b.terms.bandwidth
  pub path_right : PathRight (graph links) b.grant.path
  pub still_stands : p.clock < until p b

pub record Obeys (links : List Link) (p : Plain) : Type 0 where
  pub links_right : All LinkRight links
  pub clock_right : p.clock ≤ last_minute
  pub guard_right : p.guard ≤ most_guard
  pub not_too_many : length p.bookings ≤ most_bookings
  pub numbers_differ : Distinct (numbers p.bookings)
  pub bookings_right : All (BookingRight links p) p.bookings
  pub not_oversold : NotOversold links p

abbrev pub SoundMeans : Type 0
SoundMeans = (links : List Link) (t : Tables) → (sound links t ≡ true) ↔ ((p : Plain) × Obeys links p × (t ≡ tables links p))

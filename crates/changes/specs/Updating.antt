-- What the updates of an accepted call rest on: tables that are sized and sound, and a booking that is granted.
use Rattle.std.specs.Prelude.{◌≡◌, List, ℕ, ◌<◌, length, take}
use Rattle.units.specs.declared.Link.{Link}
use Rattle.units.specs.declared.Head.{Head}
use Rattle.units.specs.declared.Minute.{Minute}
use Rattle.units.specs.declared.Request.{Request}
use Rattle.units.specs.Limits.{most_bookings}
use Rattle.path_search.specs.declared.Path.{Path}
use Rattle.path_search.specs.Answer.{path_of}
use Rattle.rules.specs.Plain.{Booking, Plain, terms}
use Rattle.rules.specs.Calls.{put_in}
use Rattle.rules.specs.Sound.{BookingRight}

-- a head with another clock, and with another number of bookings
abbrev pub with_clock : Head → ℕ → Head
with_clock head m = record { clock = record { 0 = m }; links = head.links; bookings = head.bookings; guard = head.guard }

abbrev pub with_count : Head → ℕ → Head
with_count head n = record { clock = head.clock; links = head.links; bookings = n; guard = head.guard }

-- the booking of a request at a start, on a path
abbrev pub booked : ℕ → Request → Minute → Path → Booking
booked number r start path = record { number = number; terms = terms r; grant = record { start = start.0; path = take path.count path.links } }

-- it is right, its path has zeros past its last link, and there is room for it
pub record Grantable (links : List Link) (p : Plain) (number : ℕ) (r : Request) (start : Minute) (path : Path) : Type 0 where
  pub booking_right : BookingRight links (put_in (booked number r start path) p) (booked number r start path)
  pub path_is : path ≡ path_of (take path.count path.links)
  pub room : length p.bookings < most_bookings

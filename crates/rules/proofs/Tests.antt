-- What the tests of links, requests, bookings and tables tell.
use mathlib.Core.Path.{◌≡◌, ap}
use mathlib.Core.Logic.{◌≢◌}
use mathlib.Core.List.{List, [], ◌∷◌}
use mathlib.Core.Bool.{true}
use Prim.Native.Nat.{ℕ, zero, suc, ◌*◌, ◌≤◌, ◌<◌, suc-le-suc}
use native.Mathlib.Omega.{arith}
use lib.Dec.{leb}
use lib.ListN.{length, get_or}
use Rattle.units.specs.declared.Link.{Link}
use Rattle.units.specs.declared.Request.{Request}
use Rattle.units.specs.Limits.{last_node, most_bandwidth, longest, last_minute, last_number, most_links, most_events, most_bookings, most_totals, place_size}
use Rattle.units.specs.Lists.{Within, All}
use Rattle.units.proofs.Tests.{Tells, ◌&◌, at_most, less_than, equals, differs, in_range, all_tells, equal_tells}
use Rattle.units.proofs.Search.{all_from_all, all_allFrom}
use Rattle.path_search.proofs.Loops.{NodesBelow}
use Rattle.path_search.proofs.Paths.{path_tells}
use Rattle.rules.specs.Plain.{Booking, Plain, no_link, graph, until, taken, capacity}
use Rattle.rules.specs.Calls.{request_ok}
use Rattle.rules.specs.Tables.{Tables, link_ok, links_ok, booking_ok, none_oversold, same, sized}
use Rattle.rules.specs.Sound.{LinkRight, BookingRight}

pub link_tells : (l : Link) → Tells (link_ok l) (LinkRight l)
link_tells l =
    let t = at_most l.from last_node & at_most l.to last_node & differs l.from l.to & in_range 1 most_bandwidth l.capacity.0 in (
      (λ e. let h = t.0 e in record { from_right = h.0.0.0; to_right = h.0.0.1; ends_differ = h.0.1; capacity_right = h.1 }),
      λ r. t.1 (((r.from_right, r.to_right), r.ends_differ), r.capacity_right),
    )

pub links_tell : (links : List Link) → Tells (links_ok links) (All LinkRight links)
links_tell = all_tells link_ok LinkRight link_tells

pub link_right : (ls : List Link) → All LinkRight ls → (l : ℕ) → l < length ls → LinkRight (get_or ls l no_link)
link_right [] a l h = absurd (omega arith)
link_right (x ∷ ls) a zero h = a.0
link_right (x ∷ ls) a (suc l) h = link_right ls a.1 l (omega arith)

pub nodes_below : (links : List Link) → All LinkRight links → NodesBelow (graph links) (suc last_node)
nodes_below links a = record { from_below = λ l h. suc-le-suc (link_right links a l h).from_right; to_below = λ l h. suc-le-suc (link_right links a l h).to_right }

pub record RequestRight (r : Request) : Type 0 where
  pub from_right : r.from ≤ last_node
  pub to_right : r.to ≤ last_node
  pub ends_differ : r.from ≢ r.to
  pub bandwidth_right : Within 1 most_bandwidth r.bandwidth.0
  pub duration_right : Within 1 longest r.duration.0
  pub earliest_right : r.earliest.0 ≤ last_minute
  pub latest_right : r.latest.0 ≤ last_minute

pub request_right : (r : Request) → request_ok r ≡ true → RequestRight r
request_right r e =
    let t = at_most r.from last_node & at_most r.to last_node & differs r.from r.to & in_range 1 most_bandwidth r.bandwidth.0 & in_range 1 longest r.duration.0
    & at_most r.earliest.0 last_minute & at_most r.latest.0 last_minute in
    let h = t.0 e in
    record {
      from_right = h.0.0.0.0.0.0;
      to_right = h.0.0.0.0.0.1;
      ends_differ = h.0.0.0.0.1;
      bandwidth_right = h.0.0.0.1;
      duration_right = h.0.0.1;
      earliest_right = h.0.1;
      latest_right = h.1;
    }

pub booking_tells : (links : List Link) (p : Plain) (b : Booking) → Tells (booking_ok links p b) (BookingRight links p b)
booking_tells links p b =
    let t = in_range 1 last_number b.number & at_most b.grant.start last_minute & in_range 1 longest b.terms.duration & in_range 1 most_bandwidth b.terms.bandwidth
    & path_tells (graph links) b.grant.path & less_than p.clock (until p b) in (
      (λ e. let h = t.0 e in record {
        number_right = h.0.0.0.0.0;
        start_right = h.0.0.0.0.1;
        duration_right = h.0.0.0.1;
        bandwidth_right = h.0.0.1;
        path_right = h.0.1;
        still_stands = h.1;
      }),
      λ r. t.1 (((((r.number_right, r.start_right), r.duration_right), r.bandwidth_right), r.path_right), r.still_stands),
    )

pub none_oversold_tells : (links : List Link) (p : Plain) (m : ℕ) → Tells (none_oversold links p m) ((l : ℕ) → l < length links → taken p l m ≤ capacity links l)
none_oversold_tells links p m = (
  (λ e l h. (at_most (taken p l m) (capacity links l)).0 (all_from_all (λ l. leb (taken p l m) (capacity links l)) 0 (length links) e l (omega arith) (omega arith))),
  λ f. all_allFrom (λ l. leb (taken p l m) (capacity links l)) 0 (length links) (λ l a b. (at_most (taken p l m) (capacity links l)).1 (f l (omega arith))),
)

pub same_tells : (s t : Tables) → Tells (same s t) (s ≡ t)
same_tells s t =
    let b = equals s.head.clock.0 t.head.clock.0 & equals s.head.links t.head.links & equals s.head.bookings t.head.bookings
    & equals s.head.guard.0 t.head.guard.0 & equal_tells s.events t.events & equal_tells s.free t.free & equal_tells s.book t.book & equal_tells s.totals t.totals in (
      (λ e. let h = b.0 e in λ i. record
          { head = record { clock = record { 0 = h.0.0.0.0.0.0.0 i }; links = h.0.0.0.0.0.0.1 i; bookings = h.0.0.0.0.0.1 i; guard = record { 0 = h.0.0.0.0.1 i } }; events = h.0.0.0.1 i; free = h.0.0.1 i; book = h.0.1 i; totals = h.1 i }),
      λ e. b.1 (((((((ap (λ x. x.head.clock.0) e, ap (λ x. x.head.links) e), ap (λ x. x.head.bookings) e), ap (λ x. x.head.guard.0) e), ap (λ x. x.events) e), ap (λ x. x.free) e), ap (λ x. x.book) e), ap (λ x. x.totals) e),
    )

pub record Sized (links : List Link) (t : Tables) : Type 0 where
  pub links_right : Within 1 most_links (length links)
  pub events_right : length t.events ≡ most_events
  pub free_right : length t.free ≡ most_events * most_links
  pub book_right : length t.book ≡ most_bookings * place_size
  pub totals_right : length t.totals ≡ most_totals

pub sized_tells : (links : List Link) (t : Tables) → Tells (sized links t) (Sized links t)
sized_tells links t =
    let b = in_range 1 most_links (length links) & equals (length t.events) most_events & equals (length t.free) (most_events * most_links) & equals (length t.book) (most_bookings * place_size)
    & equals (length t.totals) most_totals in (
      (λ e. let h = b.0 e in record { links_right = h.0.0.0.0; events_right = h.0.0.0.1; free_right = h.0.0.1; book_right = h.0.1; totals_right = h.1 }),
      λ s. b.1 ((((s.links_right, s.events_right), s.free_right), s.book_right), s.totals_right),
    )

-- Tables of the right sizes that are sound: each is that of the book that they hold, which obeys document 01's rules.
use mathlib.Core.Path.{◌≡◌, ap}
use mathlib.Core.List.{List}
use Prim.Native.Nat.{◌*◌, ◌≤◌}
use native.Mathlib.Nat.{mul-le-mul_right}
use lib.ListN.{length}
use Rattle.units.specs.declared.Link.{Link}
use Rattle.units.specs.Limits.{most_bookings, place_size}
use Rattle.units.proofs.Tests.{Rising}
use Rattle.rules.specs.Calls.{numbers}
use Rattle.rules.specs.Tables.{Tables, tables, held, event_table, free_table, totals_table, Fine}
use Rattle.rules.specs.Sound.{Obeys}
use Rattle.rules.proofs.Tests.{Sized, sized_tells}
use Rattle.rules.proofs.Obeys.{sound_facts, sound_obeys, sound_tables}

module _ {links : List Link} {t : Tables} (fine : Fine links t) where
  pub sizes : Sized links t
  sizes = (sized_tells links t).0 fine.is_sized

  pub book_obeys : Obeys links (held t)
  book_obeys = sound_obeys links t fine.is_sound

  pub few_bookings : t.head.bookings ≤ most_bookings
  few_bookings = (sound_facts links t fine.is_sound).count_right

  pub in_order : Rising 0 (numbers (held t).bookings)
  in_order = (sound_facts links t fine.is_sound).in_order

  -- the places that the head counts are in the book
  pub places_fit : t.head.bookings * place_size ≤ length t.book
  places_fit = rw sizes.book_right (mul-le-mul_right place_size few_bookings)

  -- each table is that of the book
  pub links_are : t.head.links ≡ length links
  unfolding tables
  links_are = ap (λ x. x.head.links) (sound_tables links t fine.is_sound)

  pub events_are : t.events ≡ event_table (held t)
  unfolding tables
  events_are = ap (λ x. x.events) (sound_tables links t fine.is_sound)

  pub free_are : t.free ≡ free_table links (held t)
  unfolding tables
  free_are = ap (λ x. x.free) (sound_tables links t fine.is_sound)

  pub totals_are : t.totals ≡ totals_table links (held t)
  unfolding tables
  totals_are = ap (λ x. x.totals) (sound_tables links t fine.is_sound)

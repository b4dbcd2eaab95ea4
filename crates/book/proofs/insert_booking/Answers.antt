-- `insert_booking` meets its contract: the place is opened and written over.
use mathlib.Core.Path.{◌≡◌}
use native.Mathlib.Omega.{arith}
use borrow.Author.Rules.{rules}
use lib.ListN.{length}
use Rattle.units.specs.Limits.{most_hops, place_size}
use Rattle.places.proofs.Opening.{place_put}
use Rattle.book.specs.Places.{figures}
use Rattle.book.proofs.insert_booking.Goals as goal

pub returns : goal.returns
returns c =
    let a = c.args in
    let opened = c.open_place in
    let written = c.write_place in
    let path : length a.booking.links ≡ most_hops = search rules in
    place_put place_size a.place a.book.now (omega arith) (figures a.booking) (omega arith) opened.ensures written.ensures

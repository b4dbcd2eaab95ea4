-- `booking_at` meets its contract: field by field what the place holds.
use mathlib.Core.Path.{ap, ◌∙◌}
use Prim.Native.Nat.{◌+◌, ◌*◌}
use lib.ListN.{get_or, take}
use Rattle.units.specs.Limits.{most_hops, place_size}
use Rattle.units.proofs.Pieces.{rest_whole}
use Rattle.book.proofs.booking_at.Goals as goal

pub returns : goal.returns
returns c =
    let book = c.args.book.now in
    let at = c.args.place * place_size in
    let path = (rw c.unwrap.ensures at c.first_chunk.ensures.cases).same ∙ ap (take most_hops) (rest_whole (at + 5) book) in
    λ j. record {
      number = get_or book at 0;
      start = record { 0 = get_or book (at + 1) 0 };
      duration = record { 0 = get_or book (at + 2) 0 };
      bandwidth = record { 0 = get_or book (at + 3) 0 };
      count = get_or book (at + 4) 0;
      links = path j;
    }

-- Document 01's output: the bytes of the line that answers an order, and of the desk's own first line.
use Rattle.std.specs.Prelude.{List, [], ◌++◌, Bool, true, false, ◌&&◌, ℕ, ◌+◌, ◌*◌, leb, codes}
use Rattle.std.specs.List.{flat_map}
use Rattle.units.specs.Limits.{most_hops}
use Rattle.units.specs.declared.Minute.{Minute}
use Rattle.report.specs.declared.Report.{Report}
use Rattle.report.specs.declared.Report.TheVariants.{DeskLinks, DeskRefused, Booked, Offered, Cancelled, Clock, Refused, RefusedAt}
use Rattle.report.specs.Decimal.{decimal}

-- link numbers in travel order, a space before each
unfoldable pub numbers : List ℕ → List ℕ
numbers links = flat_map (λ link. codes " " ++ decimal link) links

-- when and where: the start minute and the link numbers
unfoldable pub route : Minute → List ℕ → List ℕ
route start links = codes " start " ++ (decimal start.0 ++ (codes " links" ++ numbers links))

-- a line without its end: an order's place and its outcome, or the desk's own answer, which has no place
unfoldable pub answer : ℕ → Report → List ℕ → List ℕ
answer place (DeskLinks count) links = codes "desk links " ++ decimal count
answer place (DeskRefused refusal) links = codes "desk refused " ++ decimal refusal
answer place (Booked number start) links = decimal place ++ (codes " booked " ++ (decimal number ++ route start links))
answer place (Offered start) links = decimal place ++ (codes " offer" ++ route start links)
answer place (Cancelled number) links = decimal place ++ (codes " cancelled " ++ decimal number)
answer place (Clock minute) links = decimal place ++ (codes " clock " ++ decimal minute.0)
answer place (Refused refusal) links = decimal place ++ (codes " refused " ++ decimal refusal)
answer place (RefusedAt refusal minute) links = decimal place ++ (codes " refused " ++ (decimal refusal ++ (codes " at " ++ decimal minute.0)))

-- document 01's line
unfoldable pub line : ℕ → Report → List ℕ → List ℕ
line place report links = answer place report links ++ codes "\n"

-- room for any line: a place of 20 digits, two figures and 31 links of 10, and the words of a booking
abbrev pub max_line : ℕ
max_line = 20 + 10 + 10 + most_hops * 11 + 22

-- whether a buffer of this size has room for any line from index `at` on, and a path is no longer than a path can be
abbrev pub has_room : ℕ → ℕ → ℕ → Bool
has_room size at links = leb (at + max_line) size && leb links most_hops

-- the bytes where there is room, else none
abbrev pub if_room : Bool → List ℕ → List ℕ
if_room true bytes = bytes
if_room false bytes = []

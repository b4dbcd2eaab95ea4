-- A book table as its owner lends it: places of `size` figures, a booking each. Every kind of desk begins a place with number,
-- start and duration; this crate knows nothing of the figures behind them.
use mathlib.Core.List.{List, [], ◌∷◌, ◌++◌, map, flatten}
use Rattle.std.specs.Prelude.{Bool, true, false, Option, ℕ, suc, ◌+◌, ◌*◌, leb, ltb, eqb, get_or, take, drop, replicate}
use Rattle.std.specs.List.{position}
use Rattle.units.specs.Lists.{padded, count_from, select, put_piece}
use Rattle.units.specs.Spans.{span_of, release}
use Rattle.units.specs.declared.Head.{Head}

-- where the start and the duration stand in a place; its number stands first
abbrev pub start_figure : ℕ
start_figure = 1

abbrev pub duration_figure : ℕ
duration_figure = 2

-- one place further if the test passes
abbrev pub further : Bool → ℕ → ℕ
further true place = suc place
further false place = 0

-- how many of these rising numbers come before a new one
unfoldable pub slot_among : ℕ → List ℕ → ℕ
slot_among number [] = 0
slot_among number (first ∷ others) = further (leb first number) (slot_among number others)

-- document 01's 'stands': the booking of these figures releases its links later than the clock
abbrev pub stands_at : Head → List ℕ → Bool
stands_at head place = ltb head.clock.0 (release (get_or place start_figure 0) (span_of head (get_or place duration_figure 0)))

-- the table of n figures that begins with these places: zeros behind them
abbrev pub only_places : ℕ → List (List ℕ) → List ℕ
only_places n places = padded n (flatten places)

module _ (size : ℕ) where
  -- the booking number at place i
  abbrev pub number_at : List ℕ → ℕ → ℕ
  number_at book i = get_or book (i * size) 0

  -- the booking numbers of the first n places
  abbrev pub numbers_in : List ℕ → ℕ → List ℕ
  numbers_in book n = map (number_at book) (count_from 0 n)

  -- where a number stands among the first n places: the first that has it
  unfoldable pub find : ℕ → List ℕ → ℕ → Option ℕ
  find number book n = position (λ m. eqb m number) (numbers_in book n)

  -- the place of a new number among the first n places
  abbrev pub slot : ℕ → List ℕ → ℕ → ℕ
  slot number book n = slot_among number (numbers_in book n)

  -- the book with a place of these figures put in at place i: those behind it move up
  unfoldable pub with_place : ℕ → List ℕ → List ℕ → List ℕ
  with_place i figures book = put_piece (i * size) figures book

  -- the book without place i: those behind it move down, and the last place is zero
  unfoldable pub without_place : ℕ → List ℕ → List ℕ
  without_place i book = take (i * size) book ++ (drop (i * size + size) book ++ replicate size 0)

  -- the figures of place i
  abbrev pub place_in : List ℕ → ℕ → List ℕ
  place_in book i = take size (drop (i * size) book)

  -- the figures of each of the first n places
  abbrev pub places_in : List ℕ → ℕ → List (List ℕ)
  places_in book n = map (place_in book) (count_from 0 n)

  -- those of the first n places that still stand at the clock
  unfoldable pub still_standing : Head → List ℕ → ℕ → List (List ℕ)
  still_standing head book n = select (stands_at head) (places_in book n)

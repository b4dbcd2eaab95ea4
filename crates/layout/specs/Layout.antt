-- The bits of document 01's records: fields packed with no gaps, most significant bit first.
use Rattle.std.specs.Prelude.{List, [], ◌∷◌, Bool, true, ◌&&◌, ℕ, ◌+◌, ◌*◌, ◌/◌, ◌%◌, ◌^◌, ltb, length, replicate}
use Rattle.units.specs.Lists.{sum}

-- the number that bytes make, the first one most significant
unfoldable pub big_endian : List ℕ → ℕ
big_endian [] = 0
big_endian (b ∷ bs) = b * 256 ^ length bs + big_endian bs

-- the fields of these widths, cut out of a record's number
unfoldable pub cut : List ℕ → ℕ → List ℕ
cut [] n = []
cut (w ∷ ws) n = n / 2 ^ sum ws % 2 ^ w ∷ cut ws n

-- the way back: the number of a record with these fields
unfoldable pub pack : List ℕ → List ℕ → ℕ
pack [] fields = 0
pack (w ∷ ws) [] = 0
pack (w ∷ ws) (field ∷ fields) = field * 2 ^ sum ws + pack ws fields

-- no field is too large for its width
unfoldable pub fits : List ℕ → List ℕ → Bool
fits [] fields = true
fits (w ∷ ws) [] = true
fits (w ∷ ws) (field ∷ fields) = ltb field (2 ^ w) && fits ws fields

-- a number as so many bytes, which are fields of 8 bits
abbrev pub spelled : ℕ → ℕ → List ℕ
spelled count n = cut (replicate count 8) n

-- document 01's order of 128 bits: kind, number, from, to, bandwidth, duration, earliest, latest
abbrev pub order_widths : List ℕ
order_widths = 4 ∷ 14 ∷ 5 ∷ 5 ∷ 20 ∷ 20 ∷ 30 ∷ 30 ∷ []

-- document 01's link of 64 bits: from, to, capacity, zero
abbrev pub link_widths : List ℕ
link_widths = 5 ∷ 5 ∷ 20 ∷ 34 ∷ []

-- the bytes of each
abbrev pub order_bytes : ℕ
order_bytes = 16

abbrev pub link_bytes : ℕ
link_bytes = 8

-- the bytes of a session's count of links, of its guard, and of both, which stand before the links
abbrev pub count_bytes : ℕ
count_bytes = 1

abbrev pub guard_bytes : ℕ
guard_bytes = 1

abbrev pub lead_bytes : ℕ
lead_bytes = count_bytes + guard_bytes

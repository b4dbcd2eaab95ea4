-- What bandwidth over a span does on each link of a path, on an event table and a free table as lists, and on figures.
use Rattle.std.specs.Prelude.{◌≡◌, List, [], ◌∷◌, ◌++◌, Bool, true, false, ◌&&◌, ℕ, zero, suc, ◌+◌, ◌-◌, ◌*◌, ◌%◌, ◌<◌, ◌^◌, leb, ltb, length, get_or, set, take, drop}
use Rattle.units.specs.Limits.{most_links}
use Rattle.units.specs.Lists.{member}
use Rattle.timeline.specs.Events.{row_at}

-- a figure with the bandwidth given back; a capacity is far from 2 ^ 32
abbrev pub given : ℕ → ℕ → ℕ
given bandwidth x = (x + bandwidth) % 2 ^ 32

-- and taken; what is too small becomes zero
abbrev pub taken : ℕ → ℕ → ℕ
taken bandwidth x = x - bandwidth

-- g of link l's figure in each of the first n rows
unfoldable pub change_rows : (ℕ → ℕ) → ℕ → ℕ → List ℕ → List ℕ
change_rows g zero l t = t
change_rows g (suc n) l t = set (change_rows g n l t) (n * most_links + l) (g (get_or (change_rows g n l t) (n * most_links + l) 0))

-- of each link of a path
unfoldable pub change_path : (ℕ → ℕ) → ℕ → List ℕ → List ℕ → List ℕ
change_path g n [] t = t
change_path g n (l ∷ ls) t = change_path g n ls (change_rows g n l t)

-- over a span: from the start's row on, up to but without the row that begins at the end
unfoldable pub change_span : (ℕ → ℕ) → List ℕ → ℕ → ℕ → List ℕ → List ℕ → List ℕ
change_span g es start end path t = take (row_at es start * most_links) t ++ change_path g (row_at es end - row_at es start) path (drop (row_at es start * most_links) t)

-- g of x where the test passes, else x
abbrev pub where_so : Bool → (ℕ → ℕ) → ℕ → ℕ
where_so true g x = g x
where_so false g x = x

-- the same on figures: g of them in minutes start to end − 1, on the links of the path
abbrev pub changed : (ℕ → ℕ) → ℕ → ℕ → List ℕ → (ℕ → ℕ → ℕ) → ℕ → ℕ → ℕ
changed g start end path figure l m = where_so (leb start m && ltb m end && member l path) g (figure l m)

-- each link has a figure in a row
abbrev pub Columns : List ℕ → Type 0
Columns path = (i : ℕ) → i < length path → get_or path i 0 < most_links

-- the event table has a place, there is a row for each of its places, and each link has a figure in it
pub record SpanSized (es t path : List ℕ) : Type 0 where
  pub some : 0 < length es
  pub free_sized : length t ≡ length es * most_links
  pub columns : Columns path

-- The rows of a span, one by one: which of the table's they are, and each link's figure in them.
use Rattle.std.proofs.Common.{◌≡◌, ℕ, zero, suc, ◌+◌, ◌-◌, ◌*◌, ◌≤◌, ◌<◌, Bool, true, false, cond, ltb, Option, Some, None, List, [], ◌∷◌, length, get_or, take, drop, refl, ap, ap₂, ◌∙◌, add-one, zero-add, zero-mul, arith}
use Rattle.std.proofs.Math.Seq.{get_or-take, get_or-drop, drop-drop}
use Rattle.std.specs.Simd.{first_chunks}
use Rattle.std.specs.List.{position_from, position_or_len}
use Rattle.std.proofs.lemmas.Iterator.Adapters.{position_from-zero}
use Rattle.units.specs.Limits.{most_links}
use Rattle.units.specs.Search.{Found, at, nothing, first_from}
use Rattle.units.proofs.Search.{first_from_agree}
use Rattle.timeline.specs.Events.{row_at}
use Rattle.free_table.specs.Looking.{span_rows, lacking_row}

chunks_from : (size i k : ℕ) (t : List ℕ) → drop i (first_chunks size (i + k) t) ≡ first_chunks size k (drop (i * size) t)
chunks_from size zero k t = rw (zero-add, zero-mul) refl
chunks_from size (suc i) k t =
    let e : suc i + k ≡ suc (i + k) = omega arith in
    rw e (chunks_from size i k (drop size t) ∙ ap (first_chunks size k) (drop-drop (i * size) size t ∙ ap (λ n. drop n t) (omega arith)))

chunks_first : (size n k : ℕ) (t : List ℕ) → n ≤ k → take n (first_chunks size k t) ≡ first_chunks size n t
chunks_first size zero k t h = refl
chunks_first size (suc n) zero t h = absurd (omega arith)
chunks_first size (suc n) (suc k) t h = ap (λ rows. take size t ∷ rows) (chunks_first size n k (drop size t) (omega arith))

-- the rows from the row of the start to that of the last minute
pub rows_are : (es : List ℕ) (start end : ℕ) (t : List ℕ) (rows : ℕ) → row_at es start ≤ row_at es (end - 1) → row_at es (end - 1) < rows
    → take (row_at es (end - 1) + 1 - row_at es start) (drop (row_at es start) (first_chunks most_links rows t)) ≡ span_rows es start end t
unfolding span_rows
rows_are es start end t rows order inside =
    ap₂ (λ n k. take n (drop first (first_chunks most_links k t))) count all
    ∙ ap (take (suc (last - first))) (chunks_from most_links first (rows - first) t)
    ∙ chunks_first most_links (suc (last - first)) (rows - first) (drop (first * most_links) t) (omega arith)
  where
    first : ℕ
    first = row_at es start

    last : ℕ
    last = row_at es (end - 1)

    count : last + 1 - first ≡ suc (last - first)
    count = omega arith

    all : rows ≡ first + (rows - first)
    all = omega arith

length_chunks : (size n : ℕ) (t : List ℕ) → length (first_chunks size n t) ≡ n
length_chunks size zero t = refl
length_chunks size (suc n) t = ap suc (length_chunks size n (drop size t))

-- the number of rows that a span has
pub span_rows_length : (es : List ℕ) (start end : ℕ) (t : List ℕ) → length (span_rows es start end t) ≡ suc (row_at es (end - 1) - row_at es start)
unfolding span_rows
span_rows_length es start end t = length_chunks most_links (suc (row_at es (end - 1) - row_at es start)) (drop (row_at es start * most_links) t)

-- a row among so many
pub chunk_at : (size n i : ℕ) (t : List ℕ) → i < n → get_or (first_chunks size n t) i [] ≡ take size (drop (i * size) t)
chunk_at size zero i t h = absurd (omega arith)
chunk_at size (suc n) zero t h = rw zero-mul refl
chunk_at size (suc n) (suc i) t h = chunk_at size n i (drop size t) (omega arith) ∙ ap (take size) (drop-drop (i * size) size t ∙ ap (λ k. drop k t) (omega arith))

module _ (es : List ℕ) (start end : ℕ) (t : List ℕ) where
  -- link l's figure in a row of the span
  pub span_figure : (row l : ℕ) → row < length (span_rows es start end t) → l < most_links
      → get_or (get_or (span_rows es start end t) row []) l 0 ≡ get_or (drop (row_at es start * most_links) t) (row * most_links + l) 0
  unfolding span_rows
  span_figure row l h k =
      let inside : row < suc (row_at es (end - 1) - row_at es start) = omega (arith, span_rows_length es start end t) in
      ap (λ (r : List ℕ). get_or r l 0) (chunk_at most_links (suc (row_at es (end - 1) - row_at es start)) row (drop (row_at es start * most_links) t) inside)
      ∙ get_or-take most_links (drop (row * most_links) (drop (row_at es start * most_links) t)) l 0 k
      ∙ get_or-drop (row * most_links) (drop (row_at es start * most_links) t) l 0

-- ---- the first row that passes a test, as `position` finds it

abbrev pub found_at : Option ℕ → Found
found_at (Some i) = at i
found_at None = nothing

found_cond : (b : Bool) (i : ℕ) (r : Option ℕ) → found_at (cond b (Some i) r) ≡ elim b as (λ x. Found) [ true ↦ at i | false ↦ found_at r ]
found_cond true i r = refl
found_cond false i r = refl

position_first : (test : List ℕ → Bool) (rows : List (List ℕ)) (i : ℕ) → found_at (position_from test i rows) ≡ first_from i (length rows) (λ k. test (get_or rows (k - i) []))
unfolding first_from
position_first test [] i = refl
position_first test (r ∷ rows) i =
    found_cond (test r) i (position_from test (i + 1) rows)
    ∙ ap₂ (λ b f. elim b as (λ x. Found) [ true ↦ at i | false ↦ f ]) (ap (λ k. test (get_or (r ∷ rows) k [])) here)
    (rw add-one (position_first test rows (suc i))
    ∙ first_from_agree (λ k. test (get_or rows (k - suc i) [])) (λ k. test (get_or (r ∷ rows) (k - i) [])) (suc i) (length rows) (λ k a b. ap (λ j. test (get_or (r ∷ rows) j [])) (behind k a)))
  where
    here : 0 ≡ i - i
    here = omega arith

    behind : (k : ℕ) → suc i ≤ k → suc (k - suc i) ≡ k - i
    behind k a = omega arith

module _ (es : List ℕ) (start end : ℕ) (t : List ℕ) (l bandwidth : ℕ) (column : l < most_links) where
  abbrev rows : List (List ℕ)
  rows = span_rows es start end t

  abbrev pub lacks_in : List ℕ → Bool
  lacks_in row = ltb (get_or row l 0) bandwidth

  -- of the rows of a span, the first in which the link has less than the bandwidth
  pub lacking_rows : first_from 0 (length rows) (λ k. lacks_in (get_or rows k [])) ≡ lacking_row (suc (row_at es (end - 1) - row_at es start)) l bandwidth (drop (row_at es start * most_links) t)
  unfolding lacking_row
  lacking_rows =
      ap (λ n. first_from 0 n (λ k. lacks_in (get_or rows k []))) (span_rows_length es start end t)
      ∙ first_from_agree _ _ 0 (suc (row_at es (end - 1) - row_at es start)) (λ k a b. ap (λ x. ltb x bandwidth) (span_figure es start end t k l (omega (arith, span_rows_length es start end t)) column))

  -- as `position` finds it
  pub lacking_is : (r : Option ℕ) → r ≡ cond (ltb (position_or_len lacks_in rows) (length rows)) (Some (position_or_len lacks_in rows)) None
      → found_at r ≡ lacking_row (suc (row_at es (end - 1) - row_at es start)) l bandwidth (drop (row_at es start * most_links) t)
  lacking_is r e =
      ap found_at (e ∙ position_from-zero lacks_in rows)
      ∙ position_first lacks_in rows 0
      ∙ first_from_agree (λ k. lacks_in (get_or rows (k - 0) [])) (λ k. lacks_in (get_or rows k [])) 0 (length rows) (λ k a b. let same : k - 0 ≡ k = omega arith in ap (λ j. lacks_in (get_or rows j [])) same)
      ∙ lacking_rows

-- Masks put together: what the links that are in each of them are, and that those of a span's rows have enough throughout it.
use mathlib.Core.Path.{◌≡◌, refl, sym, ◌∙◌, ap, ap₂}
use mathlib.Core.List.{List, []}
use mathlib.Core.Bool.{Bool, true, false, ◌&&◌}
use Prim.Native.Nat.{ℕ, zero, suc, ◌+◌, ◌-◌, ◌*◌, ◌/◌, ◌^◌, ◌≤◌, ◌<◌}
use native.Mathlib.Omega.{arith}
use lib.Dec.{leb, ltb, eqb}
use lib.ListN.{length, get_or, drop}
use Rattle.std.proofs.Math.Seq.{get_or-take, get_or-drop}
use Rattle.std.specs.Simd.{first_chunks}
use Rattle.std.specs.Int.Bits.{bit_and}
use Rattle.std.proofs.lemmas.Nat.Bits.{bit_at_ones}
use Rattle.units.specs.Limits.{most_links}
use Rattle.units.specs.Search.{is_nothing, all_from}
use Rattle.units.specs.Sets.{has}
use Rattle.units.proofs.Search.{all_from_agree, none_fails}
use Rattle.units.proofs.Sets.{has_and}
use Rattle.units.proofs.Tests.{less_not}
use Rattle.timeline.specs.Events.{row_at}
use Rattle.timeline.proofs.Rows.{row_later}
use Rattle.free_table.specs.Looking.{lacking_row, first_missing, enough_span, span_rows}
use Rattle.free_table.specs.Masks.{enough_in}
use Rattle.free_table.proofs.SpanCheck.{found_nothing}
use Rattle.free_table.proofs.SpanRows.{chunk_at, span_rows_length, span_figure, lacking_rows}

-- ---- the links that are in each mask

all_last : (test : ℕ → Bool) (i n : ℕ) → all_from i (suc n) test ≡ (all_from i n test && test (i + n))
unfolding all_from
all_last test i zero = same (test i) ∙ ap test (omega arith)
  where
    same : (b : Bool) → (elim b as (λ x. Bool) [ true ↦ true | false ↦ false ]) ≡ b
    same true = refl
    same false = refl
all_last test i (suc n) =
    ap (λ r. elim (test i) as (λ x. Bool) [ true ↦ r | false ↦ false ]) (all_last test (suc i) n ∙ ap (λ k. all_from (suc i) n test && test k) (omega arith))
    ∙ out (test i) (all_from (suc i) n test) (test (i + suc n))
  where
    out : (b r s : Bool) → (elim b as (λ x. Bool) [ true ↦ r && s | false ↦ false ]) ≡ ((elim b as (λ x. Bool) [ true ↦ r | false ↦ false ]) && s)
    out true r s = refl
    out false r s = refl

-- every link is in none of them, and in one more if it is in that one too
pub in_none : (test : ℕ → Bool) (l : ℕ) → l < most_links → has (2 ^ 64 - 1) l ≡ all_from 0 0 test
unfolding all_from
in_none test l h = ap (λ x. eqb x 1) (bit_at_ones 64 l h)

pub in_next : (test : ℕ → Bool) (all mask l n : ℕ) → has all l ≡ all_from 0 n test → has mask l ≡ test n → has (bit_and all mask) l ≡ all_from 0 (n + 1) test
in_next test all mask l n e h =
    let next : n + 1 ≡ suc n = omega arith in
    let behind : 0 + n ≡ n = omega arith in
    has_and all mask l ∙ ap₂ ◌&&◌ e (h ∙ ap test (sym behind)) ∙ sym (rw next (all_last test 0 n))

-- ---- rows

-- link l's figure in a row of a table
pub row_figure : (t : List ℕ) (row l : ℕ) → row < length t / most_links → l < most_links
    → get_or (get_or (first_chunks most_links (length t / most_links) t) row []) l 0 ≡ get_or t (row * most_links + l) 0
row_figure t row l h k =
    ap (λ (r : List ℕ). get_or r l 0) (chunk_at most_links (length t / most_links) row t h)
    ∙ get_or-take most_links (drop (row * most_links) t) l 0 k
    ∙ get_or-drop (row * most_links) t l 0

module _ (es : List ℕ) (start end : ℕ) (t : List ℕ) (l bandwidth : ℕ) (column : l < most_links) where
  -- a link has enough throughout a span if and only if it has it in each of the span's rows
  pub enough_rows : all_from 0 (length (span_rows es start end t)) (λ i. leb bandwidth (get_or (get_or (span_rows es start end t) i []) l 0)) ≡ enough_span es start end l bandwidth t
  unfolding first_missing
  enough_rows =
      sym (none_fails (λ i. leb bandwidth (get_or (get_or (span_rows es start end t) i []) l 0)) (λ i. ltb (get_or (get_or (span_rows es start end t) i []) l 0) bandwidth)
      (λ i. less_not (get_or (get_or (span_rows es start end t) i []) l 0) bandwidth) 0 (length (span_rows es start end t)))
      ∙ ap is_nothing (lacking_rows es start end t l bandwidth column)
      ∙ sym (found_nothing es start (lacking_row (suc (row_at es (end - 1) - row_at es start)) l bandwidth (drop (row_at es start * most_links) t)))

  -- the figure of a row of the span is that of the table's row
  pub enough_row : (i : ℕ) → i < length (span_rows es start end t) → enough_in t bandwidth (row_at es start + i) l ≡ leb bandwidth (get_or (get_or (span_rows es start end t) i []) l 0)
  enough_row i h =
      let place : row_at es start * most_links + (i * most_links + l) ≡ (row_at es start + i) * most_links + l = omega arith in
      ap (leb bandwidth) (sym (span_figure es start end t i l h column ∙ get_or-drop (row_at es start * most_links) t (i * most_links + l) 0 ∙ ap (λ k. get_or t k 0) place))

module _ (es : List ℕ) (start end : ℕ) (t : List ℕ) (l bandwidth : ℕ) (column : l < most_links) where
  -- those up to the row that holds in a minute of the span say whether it has it up to that minute
  pub enough_up_to : (i m : ℕ) → start ≤ m → m < end → row_at es m ≡ row_at es start + i
      → all_from 0 (i + 1) (λ j. leb bandwidth (get_or (get_or (span_rows es start end t) j []) l 0)) ≡ enough_span es start (suc m) l bandwidth t
  enough_up_to i m a b e =
      let last : suc m - 1 ≡ m = omega arith in
      let count : suc (row_at es (suc m - 1) - row_at es start) ≡ i + 1 = rw last (omega arith) in
      let long : length (span_rows es start (suc m) t) ≡ i + 1 = span_rows_length es start (suc m) t ∙ count in
      let inside = row_later m (end - 1) es (omega arith) in
      all_from_agree (λ j. leb bandwidth (get_or (get_or (span_rows es start end t) j []) l 0)) (λ j. leb bandwidth (get_or (get_or (span_rows es start (suc m) t) j []) l 0)) 0 (i + 1)
      (λ j x y. ap (leb bandwidth) (span_figure es start end t j l (omega (arith, span_rows_length es start end t)) column ∙ sym (span_figure es start (suc m) t j l (omega arith) column)))
      ∙ ap (λ n. all_from 0 n (λ j. leb bandwidth (get_or (get_or (span_rows es start (suc m) t) j []) l 0))) (sym long)
      ∙ enough_rows es start (suc m) t l bandwidth column

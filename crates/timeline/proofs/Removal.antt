-- Events taken out, as the code does it on lists, and as laws of the events of a clock and its times: one that is no time any more,
-- and all up to a minute.
use mathlib.Core.Path.{◌≡◌, refl, sym, ap, ◌∙◌}
use mathlib.Core.List.{List, ◌++◌}
use Prim.Native.Nat.{ℕ, zero, suc, ◌*◌, ◌<◌}
use native.Mathlib.Omega.{arith}
use lib.ListN.{set, take, drop, replicate}
use lib.Seq.{drop-drop}
use Rattle.timeline.specs.Events.{row_at}
use Rattle.timeline.specs.Removal.{drop_front, cut, unless_first, without_event, without_row, events_from, rows_from}

-- ---- as the code does it

-- what is taken out of a part is taken out of the whole
cut_in_part : (at n : ℕ) (l : List ℕ) → take at l ++ drop_front n (drop at l) ≡ cut at n l
cut_in_part at n l = ap (λ (r : List ℕ). take at l ++ (r ++ replicate n 0)) (drop-drop n at l)

pub later_row : (i : ℕ) → 0 < i → (new old : List ℕ) → unless_first i new old ≡ new
later_row zero h new old = absurd (omega arith)
later_row (suc i) h new old = refl

-- by the row that holds in the minute
module _ (m : ℕ) (es : List ℕ) (i : ℕ) (found : i ≡ row_at es m) where
  pub event_stays : i ≡ 0 → without_event m es ≡ es
  unfolding without_event
  event_stays h = rw (← found, h) refl

  pub row_stays : (width : ℕ) (rows : List ℕ) → i ≡ 0 → without_row width es m rows ≡ rows
  unfolding without_row
  row_stays width rows h = rw (← found, h) refl

  pub event_out : 0 < i → take i es ++ drop_front 1 (drop i es) ≡ without_event m es
  unfolding without_event
  event_out h = cut_in_part i 1 es ∙ sym (rw (← found) (later_row i h (cut i 1 es) es))

  pub row_out : (width : ℕ) (rows : List ℕ) → 0 < i → take (i * width) rows ++ drop_front width (drop (i * width) rows) ≡ without_row width es m rows
  unfolding without_row
  row_out width rows h = cut_in_part (i * width) width rows ∙ sym (rw (← found) (later_row i h (cut (i * width) width rows) rows))

  pub events_moved : set (drop_front i es) 0 m ≡ events_from m es
  unfolding events_from
  events_moved = rw found refl

  pub rows_moved : (width : ℕ) (rows : List ℕ) → drop_front (i * width) rows ≡ rows_from width es m rows
  unfolding rows_from
  rows_moved width rows = rw found refl

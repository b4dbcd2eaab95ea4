-- An event put in, as the code does it on lists: what stays, what moves, and how much room it takes.
use mathlib.Core.Path.{◌≡◌, refl, sym, ap, ap₂, ◌∙◌}
use mathlib.Core.List.{List, [], ◌∷◌, ◌++◌, append-nil}
use mathlib.Core.Bool.{Bool, true, false}
use Prim.Native.Nat.{ℕ, zero, suc, ◌+◌, ◌-◌, ◌*◌, ◌≤◌, ◌<◌}
use native.Mathlib.Nat.{sub-zero}
use native.Mathlib.Numerals.{add-one}
use native.Mathlib.Omega.{arith}
use lib.Dec.{leb}
use lib.ListN.{length, get_or, set, take, drop, length-append, length-take, length-drop, drop_of_length-le}
use lib.Seq.{take-add, length-take-le}
use Rattle.std.specs.List.{copy_within}
use borrow.Author.Tests.{lt-ltb, le-ltb, ltb-true}
use Rattle.timeline.specs.Events.{further, passed, row_at}
use Rattle.timeline.specs.EventTable.{filled, count_events}
use Rattle.units.specs.Limits.{most_links}
use Rattle.units.specs.Lists.{put_piece}
use Rattle.units.proofs.Pieces.{put_in_part}
use Rattle.timeline.specs.Insertion.{missing, if_missing, with_event, with_row, Room}

-- ---- the row that holds is one of the events

passed_filled : (m : ℕ) (es : List ℕ) → passed m es ≤ filled es
unfolding passed filled
passed_filled m [] = omega arith
passed_filled m (zero ∷ es) = omega arith
passed_filled m (suc e ∷ es) = by (leb (suc e) m) (passed_filled m es)
  where
    by : (t : Bool) → passed m es ≤ filled es → further t (passed m es) ≤ suc (filled es)
    by true h = omega arith
    by false h = omega arith

pub row_below : (m : ℕ) (es : List ℕ) → 0 < length es → row_at es m < count_events es
unfolding row_at count_events
row_below m [] h = absurd (omega arith)
row_below m (c ∷ es) h = omega (arith, passed_filled m es)

-- so with room for one more event there is a row behind it
pub row_fits : (m : ℕ) {es rows : List ℕ} {more : ℕ} → Room es rows more → row_at es m + more < length es
row_fits m {es} r = omega (arith, row_below m es (omega arith))

-- ---- by whether the event of the row that holds, row i, is before m

module _ (m : ℕ) (es : List ℕ) where
  pub with_event_there : m ≤ get_or es (row_at es m) 0 → with_event m es ≡ es
  unfolding with_event
  with_event_there h = rw (le-ltb (get_or es (row_at es m) 0) m h)

  pub with_row_there : (width : ℕ) (rows : List ℕ) → m ≤ get_or es (row_at es m) 0 → with_row width es m rows ≡ rows
  unfolding with_row
  with_row_there width rows h = rw (le-ltb (get_or es (row_at es m) 0) m h)

  pub with_event_new : get_or es (row_at es m) 0 < m → with_event m es ≡ put_piece (suc (row_at es m)) (m ∷ []) es
  unfolding with_event
  with_event_new h = rw (lt-ltb (get_or es (row_at es m) 0) m h)

  pub with_row_new : (width : ℕ) (rows : List ℕ) → get_or es (row_at es m) 0 < m
      → with_row width es m rows ≡ put_piece (suc (row_at es m) * width) (take width (drop (row_at es m * width) rows)) rows
  unfolding with_row
  with_row_new width rows h = rw (lt-ltb (get_or es (row_at es m) 0) m h)

-- moving a part up by a piece puts the piece in behind itself
pub put_behind : (width : ℕ) (l : List ℕ) → width + width ≤ length l → copy_within l 0 (length l - width) width ≡ put_piece width (take width l) l
put_behind width l h =
    rw (sub-zero, drop_of_length-le l {i = width + (length l - width)} (omega arith), append-nil)
    (ap (λ (r : List ℕ). take width l ++ r) (ap (λ n. take n l) split ∙ take-add width rest l ∙ ap (λ n. take width l ++ take n (drop width l)) fits))
  where
    rest : ℕ
    rest = length l - (width + width)

    split : length l - width ≡ width + rest
    split = omega arith

    fits : rest ≡ length l - (width + length (take width l))
    fits = rw (length-take-le width l (omega arith)) refl

-- a piece of one figure is then written over
written_over : (m : ℕ) (front piece rest : List ℕ) → length piece ≡ 1 → set (front ++ (piece ++ rest)) (length front) m ≡ front ++ ((m ∷ []) ++ rest)
written_over m [] [] rest h = absurd (omega arith)
written_over m [] (x ∷ []) rest h = refl
written_over m [] (x ∷ y ∷ piece) rest h = absurd (omega arith)
written_over m (a ∷ front) piece rest h = ap (λ (l : List ℕ). a ∷ l) (written_over m front piece rest h)

-- what the code does to the two tables behind row i, where that is the row that holds
module _ (m : ℕ) (es : List ℕ) (i : ℕ) (found : i ≡ row_at es m) (h : get_or es i 0 < m) where
  pub event_put : i + 1 < length es → set (take i es ++ put_piece 1 (take 1 (drop i es)) (drop i es)) (i + 1) m ≡ with_event m es
  event_put fits =
      ap (λ (l : List ℕ). set l (i + 1) m) (put_in_part i 1 (take 1 (drop i es)) es)
      ∙ ap (λ n. set (put_piece (i + 1) (take 1 (drop i es)) es) n m) (sym (length-take-le (i + 1) es (omega arith)))
      ∙ written_over m (take (i + 1) es) (take 1 (drop i es)) (take (length es - (i + 1 + length (take 1 (drop i es)))) (drop (i + 1) es)) one
      ∙ ap₂ (λ j n. take j es ++ ((m ∷ []) ++ take (length es - (j + n)) (drop j es))) (add-one i ∙ ap suc found) one
      ∙ sym (with_event_new m es (rw found at h))
    where
      one : length (take 1 (drop i es)) ≡ 1
      one = length-take-le 1 (drop i es) (rw length-drop (omega arith))

  pub row_put : (width : ℕ) (rows : List ℕ) → take (i * width) rows ++ put_piece width (take width (drop (i * width) rows)) (drop (i * width) rows) ≡ with_row width es m rows
  row_put width rows =
      let e : i * width + width ≡ suc i * width = omega arith in
      put_in_part (i * width) width (take width (drop (i * width) rows)) rows
      ∙ rw e (ap (λ j. put_piece (suc j * width) (take width (drop (j * width) rows)) rows) found ∙ sym (with_row_new m es width rows (rw found at h)))

-- ---- sizes

pub length_put_in : (at : ℕ) (piece l : List ℕ) → at + length piece ≤ length l → length (put_piece at piece l) ≡ length l
length_put_in at piece l h = simp (length-append, length-take, length-drop) (omega arith)

pub length_with_event : (m : ℕ) {es rows : List ℕ} {more : ℕ} → Room es rows (suc more) → length (with_event m es) ≡ length es
unfolding with_event
length_with_event m {es} {rows} {more} r = by (missing es m)
  where
    by : (t : Bool) → length (if_missing t (put_piece (suc (row_at es m)) (m ∷ []) es) es) ≡ length es
    by true = length_put_in (suc (row_at es m)) (m ∷ []) es (omega (arith, row_fits m r))
    by false = refl

filled_take : (n : ℕ) (es : List ℕ) → filled (take n es) ≤ filled es
unfolding filled
filled_take zero es = omega arith
filled_take (suc n) [] = omega arith
filled_take (suc n) (zero ∷ es) = omega arith
filled_take (suc n) (suc e ∷ es) = omega (arith, filled_take n es)

filled_first : (m n : ℕ) (es : List ℕ) → 0 < m → filled (m ∷ take n es) ≤ suc (filled es)
unfolding filled
filled_first zero n es h = absurd (omega arith)
filled_first (suc m) n es h = omega (arith, filled_take n es)

-- one event more behind the clock
filled_put : (m n : ℕ) (es : List ℕ) → 0 < m → filled (take (passed m es) es ++ (m ∷ take n (drop (passed m es) es))) ≤ suc (filled es)
unfolding passed filled
filled_put m n [] h = filled_first m n [] h
filled_put m n (zero ∷ es) h = filled_first m n (zero ∷ es) h
filled_put m n (suc e ∷ es) h = by (leb (suc e) m) (filled_put m n es h)
  where
    p : ℕ
    p = passed m es

    by : (t : Bool) → filled (take p es ++ (m ∷ take n (drop p es))) ≤ suc (filled es)
        → filled (take (further t p) (suc e ∷ es) ++ (m ∷ take n (drop (further t p) (suc e ∷ es)))) ≤ suc (suc (filled es))
    by true ih = omega arith
    by false ih = filled_first m n (suc e ∷ es) h

pub count_with_event : (m : ℕ) (es : List ℕ) → 0 < length es → count_events (with_event m es) ≤ suc (count_events es)
unfolding with_event row_at count_events
count_with_event m [] h = absurd (omega arith)
count_with_event m (c ∷ es) h = by (missing (c ∷ es) m) refl
  where
    by : (t : Bool) → missing (c ∷ es) m ≡ t → count_events (if_missing t (put_piece (suc (passed m es)) (m ∷ []) (c ∷ es)) (c ∷ es)) ≤ suc (suc (filled es))
    by true e = omega (arith, filled_put m (length (c ∷ es) - (suc (passed m es) + 1)) es (omega (arith, ltb-true (get_or (c ∷ es) (passed m es) 0) m e)))
    by false e = omega arith

-- an event takes one place of the room
pub room_after : (m : ℕ) {es rows : List ℕ} {more : ℕ} (after : List ℕ) → Room es rows (suc more) → length after ≡ length rows → Room (with_event m es) after more
room_after m {es} {rows} {more} after r e =
    let same = length_with_event m r in
    record {
      some = rw same r.some;
      rows_sized = e ∙ r.rows_sized ∙ ap (λ n. n * most_links) (sym same);
      room = rw same (omega (arith, count_with_event m es r.some, r.room));
    }

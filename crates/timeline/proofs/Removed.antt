-- Taking an event out makes the event table of one time less, and moving the clock on that of the times that are left; the rows of any
-- function of the minute become its rows over the smaller event list.
use mathlib.Core.Path.{◌≡◌, refl, sym, ap, ap₂, ◌∙◌}
use mathlib.Core.List.{List, [], ◌∷◌, ◌++◌, map, flatten}
use mathlib.Core.Bool.{Bool, true, false, cond}
use Prim.Native.Nat.{ℕ, zero, suc, ◌+◌, ◌-◌, ◌*◌, ◌≤◌, ◌<◌}
use native.Mathlib.Nat.{le_refl, mul-le-mul_right}
use native.Mathlib.Omega.{arith}
use lib.Dec.{leb}
use lib.ListN.{length, get_or, set, take, drop, replicate, take-append-drop, length-append}
use lib.Seq.{get_or-append-add, length-take-le}
use borrow.Author.Tests.{leb-true, leb-false, ne_eqb}
use Rattle.units.specs.Lists.{padded, member}
use Rattle.units.proofs.Tests.{Rising, Side, below, above, side}
use Rattle.units.proofs.Padded.{padded_remove, rows, length_rows, all_rows, rows_append, rows_remove}
use Rattle.timeline.specs.Events.{later, events, further, passed, row_at}
use Rattle.timeline.specs.Removal.{drop_front, cut, unless_first, without_event, without_row, events_from, rows_from}
use Rattle.timeline.proofs.Events.{later_skips, later_again, later_rises, later_only, member_later}
use Rattle.timeline.proofs.Steady.{ChangesAt, pick, last_before, last_event, steady}
use Rattle.timeline.proofs.Rows.{passed_padded, passed_length}
use Rattle.timeline.proofs.Places.{event_row, row_early}
use Rattle.timeline.proofs.Inserted.{front, back, joined, around, length_front}
use Rattle.timeline.proofs.Removal.{later_row}

-- ---- an event that is no time any more

module _ (n c m : ℕ) (ts : List ℕ) (few : length (events c (m ∷ ts)) ≤ n) where
  abbrev table : List ℕ
  table = padded n (events c (m ∷ ts))

  -- it is in the row behind those of the events before it
  row_is : c < m → member m (later c ts) ≡ false → row_at table m ≡ length (front c m ts)
  row_is h a =
      let whole = around c m ts h a in
      let inside : length (front c m ts) < length (events c (m ∷ ts)) = omega (arith, simp length-append at (ap length whole)) in
      let there : get_or (events c (m ∷ ts)) (length (front c m ts)) 0 ≡ m =
      let end : length (front c m ts) ≡ length (front c m ts) + 0 = omega arith in
      ap₂ (λ (l : List ℕ) i. get_or l i 0) (sym whole) end ∙ get_or-append-add (front c m ts) (m ∷ back c m ts) 0 0 in
      ap (row_at table) (sym there) ∙ event_row n c (m ∷ ts) (length (front c m ts)) inside

  enough : c < m → member m (later c ts) ≡ false → length (front c m ts) + suc (length (back c m ts)) ≤ n
  enough h a = omega (arith, simp length-append at (ap length (around c m ts h a)))

  first : m ≤ c → row_at table m ≡ 0
  first h = row_early n c (m ∷ ts) m h

  -- the event table without m among the times
  pub without_event_events : member m ts ≡ false → without_event m (padded n (events c (m ∷ ts))) ≡ padded n (events c ts)
  unfolding without_event
  without_event_events e = by (side c m)
    where
      by : Side c m → unless_first (row_at table m) (cut (row_at table m) 1 table) table ≡ padded n (events c ts)
      by (above h) = rw (first h) (ap (λ (l : List ℕ). padded n (c ∷ l)) (later_skips c m ts h))
      by (below h) =
          let a = member_later m c ts h ∙ e in
          ap (λ i. unless_first i (cut i 1 table) table) (row_is h a)
          ∙ later_row (length (front c m ts)) (omega (arith, length_front c m ts)) (cut (length (front c m ts)) 1 table) table
          ∙ ap (λ (l : List ℕ). cut (length (front c m ts)) 1 (padded n l)) (sym (around c m ts h a))
          ∙ sym (padded_remove 0 n (front c m ts) (m ∷ []) (back c m ts) (omega (arith, enough h a)))
          ∙ ap (padded n) (joined c m ts)

  -- and the rows beside it
  pub without_row_rows : (f : ℕ → List ℕ) (k : ℕ) → ((e : ℕ) → length (f e) ≡ k) → member m ts ≡ false
      → without_row k (padded n (events c (m ∷ ts))) m (all_rows 0 f k n (events c (m ∷ ts))) ≡ all_rows 0 f k n (events c ts)
  unfolding without_row
  without_row_rows f k sized e = by (side c m)
    where
      all : List ℕ
      all = all_rows 0 f k n (events c (m ∷ ts))

      by : Side c m → unless_first (row_at table m) (cut (row_at table m * k) k all) all ≡ all_rows 0 f k n (events c ts)
      by (above h) = rw (first h) (ap (λ (l : List ℕ). all_rows 0 f k n (c ∷ l)) (later_skips c m ts h))
      by (below h) =
          let a = member_later m c ts h ∙ e in
          ap (λ i. unless_first i (cut (i * k) k all) all) (row_is h a)
          ∙ later_row (length (front c m ts)) (omega (arith, length_front c m ts)) (cut (length (front c m ts) * k) k all) all
          ∙ ap (λ (l : List ℕ). cut (length (front c m ts) * k) k (all_rows 0 f k n l)) (sym (around c m ts h a))
          ∙ sym (rows_remove 0 f k n (front c m ts) m (back c m ts) (rows f k sized (front c m ts ++ (m ∷ back c m ts))) (enough h a))
          ∙ ap (all_rows 0 f k n) (joined c m ts)

-- ---- the event of a time that is one of the others, or no time any more

module _ (n c m : ℕ) (ts : List ℕ) (few : length (events c (m ∷ ts)) ≤ n) (needed : Bool) (is : needed ≡ member m ts) where
  -- a time that is among the others, or not later than the clock, is no event more
  again : member m ts ≡ true → later c (m ∷ ts) ≡ later c ts
  again e = by (side c m)
    where
      by : Side c m → later c (m ∷ ts) ≡ later c ts
      by (above h) = later_skips c m ts h
      by (below h) = later_again c m ts h e

  pub event_dropped : cond needed (padded n (events c (m ∷ ts))) (without_event m (padded n (events c (m ∷ ts)))) ≡ padded n (events c ts)
  event_dropped = by needed is
    where
      by : (t : Bool) → t ≡ member m ts → cond t (padded n (events c (m ∷ ts))) (without_event m (padded n (events c (m ∷ ts)))) ≡ padded n (events c ts)
      by true e = ap (λ (l : List ℕ). padded n (c ∷ l)) (again (sym e))
      by false e = without_event_events n c m ts few (sym e)

  pub row_dropped : (f : ℕ → List ℕ) (k : ℕ) → ((e : ℕ) → length (f e) ≡ k)
      → cond needed (all_rows 0 f k n (events c (m ∷ ts))) (without_row k (padded n (events c (m ∷ ts))) m (all_rows 0 f k n (events c (m ∷ ts)))) ≡ all_rows 0 f k n (events c ts)
  row_dropped f k sized = by needed is
    where
      by : (t : Bool) → t ≡ member m ts → cond t (all_rows 0 f k n (events c (m ∷ ts))) (without_row k (padded n (events c (m ∷ ts))) m (all_rows 0 f k n (events c (m ∷ ts)))) ≡ all_rows 0 f k n (events c ts)
      by true e = ap (λ (l : List ℕ). all_rows 0 f k n (c ∷ l)) (again (sym e))
      by false e = without_row_rows n c m ts few f k sized (sym e)

-- ---- the events from a minute on

-- the row that holds at m and those behind it begin with the last event up to m
from_last : (m e : ℕ) (es : List ℕ) → Rising e es → drop (passed m es) (e ∷ es) ≡ last_before m e es ∷ drop (passed m es) es
unfolding passed last_before
from_last m e [] a = refl
from_last m e (zero ∷ es) a = absurd (omega arith)
from_last m e (suc x ∷ es) a = by (leb (suc x) m) (from_last m (suc x) es a.1)
  where
    by : (t : Bool) → drop (passed m es) (suc x ∷ es) ≡ last_before m (suc x) es ∷ drop (passed m es) es
        → drop (further t (passed m es)) (e ∷ suc x ∷ es) ≡ pick t (last_before m (suc x) es) e ∷ drop (further t (passed m es)) (suc x ∷ es)
    by true ih = ih
    by false ih = refl

rest_rises : (m e : ℕ) (es : List ℕ) → Rising e es → Rising m (drop (passed m es) es)
unfolding passed
rest_rises m e [] a = tt
rest_rises m e (zero ∷ es) a = absurd (omega arith)
rest_rises m e (suc x ∷ es) a = by (leb (suc x) m) refl (rest_rises m (suc x) es a.1)
  where
    by : (t : Bool) → leb (suc x) m ≡ t → Rising m (drop (passed m es) es) → Rising m (drop (further t (passed m es)) (suc x ∷ es))
    by true q ih = ih
    by false q ih = (leb-false (suc x) m q, a.1)

rest_member : (m : ℕ) (es : List ℕ) (x : ℕ) → m < x → member x (drop (passed m es) es) ≡ member x es
unfolding passed member
rest_member m [] x h = refl
rest_member m (zero ∷ es) x h = refl
rest_member m (suc e ∷ es) x h = by (leb (suc e) m) refl (rest_member m es x h)
  where
    by : (t : Bool) → leb (suc e) m ≡ t → member x (drop (passed m es) es) ≡ member x es → member x (drop (further t (passed m es)) (suc e ∷ es)) ≡ member x (suc e ∷ es)
    by true q ih = let other : (x ≡ suc e → ⊥) = (λ s. let k = leb-true (suc e) m q in omega arith) in rw (ne_eqb x (suc e) other) ih
    by false q ih = refl

-- the first figures of a padded list dropped
front_dropped : (n : ℕ) (r b : List ℕ) → length r + length b ≤ n → drop_front (length r) (padded n (r ++ b)) ≡ padded n b
front_dropped n r b h =
    let none : length r ≡ 0 + length r = omega arith in
    ap (λ i. drop i (padded n (r ++ b)) ++ replicate (length r) 0) none ∙ sym (padded_remove 0 n [] r b (omega arith))

-- functions that agree from m on make the same rows of later events
rows_agree : (f g : ℕ → List ℕ) (m : ℕ) → ((x : ℕ) → m ≤ x → f x ≡ g x) → (es : List ℕ) → Rising m es → map f es ≡ map g es
rows_agree f g m agree [] a = refl
rows_agree f g m agree (e ∷ es) a = ap₂ ◌∷◌ (agree e (omega arith)) (rows_agree f g e (λ x h. agree x (omega arith)) es a.1)

-- the times that are left are those after m
module _ (n c m : ℕ) (ts left : List ℕ) (few : length (events c ts) ≤ n) (onward : c ≤ m) (same : (x : ℕ) → m < x → member x ts ≡ member x left) where
  -- how many of the later events are gone
  gone : ℕ
  gone = passed m (later c ts)

  row_gone : row_at (padded n (events c ts)) m ≡ gone
  unfolding row_at gone
  row_gone = passed_padded m (later c ts) (n - length (events c ts))

  rest : drop gone (events c ts) ≡ last_event m c ts ∷ later m left
  unfolding gone
  rest =
      from_last m c (later c ts) (later_rises c ts)
      ∙ ap (λ (l : List ℕ). last_event m c ts ∷ l)
      (later_only m (drop (passed m (later c ts)) (later c ts)) left (rest_rises m c (later c ts) (later_rises c ts))
      (λ x h. rest_member m (later c ts) x h ∙ member_later x c ts (omega arith) ∙ same x h))

  split : take gone (events c ts) ++ drop gone (events c ts) ≡ events c ts
  split = take-append-drop gone (events c ts)

  length_gone : length (take gone (events c ts)) ≡ gone
  unfolding gone
  length_gone = length-take-le (passed m (later c ts)) (events c ts) (omega (arith, passed_length m (later c ts)))

  enough_left : length (take gone (events c ts)) + length (drop gone (events c ts)) ≤ n
  enough_left = omega (arith, simp length-append at (ap length split))

  pub events_from_events : events_from m (padded n (events c ts)) ≡ padded n (events m left)
  unfolding events_from
  events_from_events =
      ap (λ (l : List ℕ). set l 0 m)
      (ap₂ (λ i (l : List ℕ). drop_front i (padded n l)) (row_gone ∙ sym length_gone) (sym split)
      ∙ front_dropped n (take gone (events c ts)) (drop gone (events c ts)) enough_left
      ∙ ap (padded n) rest)

  pub rows_from_rows : (f g : ℕ → List ℕ) (k : ℕ) → ((e : ℕ) → length (f e) ≡ k) → ChangesAt ts f → ((x : ℕ) → m ≤ x → f x ≡ g x)
      → rows_from k (padded n (events c ts)) m (all_rows 0 f k n (events c ts)) ≡ all_rows 0 g k n (events m left)
  unfolding rows_from
  rows_from_rows f g k sized s agree =
      ap₂ (λ i (l : List ℕ). drop_front i (padded (n * k) (flatten (map f l)))) (ap (λ i. i * k) (row_gone ∙ sym length_gone) ∙ sym (count before)) (sym split)
      ∙ ap (λ (l : List ℕ). drop_front (length (flatten (map f before))) (padded (n * k) l)) (rows_append f before (drop gone (events c ts)))
      ∙ front_dropped (n * k) (flatten (map f before)) (flatten (map f (drop gone (events c ts)))) (omega (arith, count before, count (drop gone (events c ts)), mul-le-mul_right k enough_left))
      ∙ ap (λ (l : List ℕ). padded (n * k) (flatten (map f l))) rest
      ∙ ap (λ (l : List (List ℕ)). padded (n * k) (flatten l)) (ap₂ ◌∷◌ (steady f c m ts s onward ∙ agree m (le_refl m)) (rows_agree f g m agree (later m left) (later_rises m left)))
    where
      before : List ℕ
      before = take gone (events c ts)

      count : (xs : List ℕ) → length (flatten (map f xs)) ≡ length xs * k
      count xs = length_rows f k xs (rows f k sized xs)

-- Putting an event in makes the event table of one time more, and the rows of any function of the minute that is steady
-- between the events become its rows over the larger event list.
use mathlib.Core.Path.{◌≡◌, refl, sym, ap, ap₂, ◌∙◌}
use mathlib.Core.Logic.{⊎_elim}
use mathlib.Core.List.Memᴰ
use mathlib.Core.List.{List, [], ◌∷◌, ◌++◌, map, flatten, append_assoc}
use mathlib.Core.Bool.{Bool, true, false}
use Prim.Native.Nat.{ℕ, zero, suc, ◌+◌, ◌-◌, ◌*◌, ◌≤◌, ◌<◌}
use native.Mathlib.Nat.{le_refl, mul-le-mul_right}
use native.Mathlib.Omega.{arith}
use lib.Dec.{ltb}
use lib.ListN.{length, get_or, take, drop, replicate, take-append-drop, length-append}
use lib.Seq.{take_at, drop-append-add, length-take-le}
use Rattle.units.specs.Limits.{most_links}
use Rattle.units.specs.Lists.{padded, member, put_piece}
use Rattle.units.proofs.Tests.{member_tells, absent, Rising, Side, below, above, side}
use Rattle.units.proofs.Padded.{length_padded, padded_at, padded_insert, rows, length_rows, all_rows, rows_insert}
use Rattle.timeline.specs.Events.{later, events, further, row_at}
use Rattle.timeline.specs.EventTable.{count_events, filled, only_clock}
use Rattle.timeline.specs.Insertion.{with_event, with_row, with_span, with_span_rows, Room}
use Rattle.timeline.proofs.Events.{later_skips, later_inserts, later_rises, later_again, member_later, slot, insert_split}
use Rattle.timeline.proofs.Steady.{ChangesAt, last_event, none_between, steady, last_event_is, last_event_le, last_event_ge, event_found}
use Rattle.timeline.proofs.Rows.{passed_slot, passed_padded}
use Rattle.timeline.proofs.Insertion.{with_event_there, with_row_there, with_event_new, with_row_new}

-- ---- what a time is to the events of a clock and other times

data Arrival (c m : ℕ) (ts : List ℕ) : Type 0 where
  known : m ≤ last_event m c ts → later c (m ∷ ts) ≡ later c ts → Arrival c m ts
  new : c < m → last_event m c ts < m → member m (later c ts) ≡ false → Arrival c m ts

arrival : (c m : ℕ) (ts : List ℕ) → Arrival c m ts
arrival c m ts = by (side c m) (member m ts) refl
  where
    before : c < m → member m (later c ts) ≡ false → last_event m c ts < m
    before h a =
        let le = last_event_le m c ts (omega arith) in
        let other : (last_event m c ts ≡ m → ⊥) =
        λ e. ⊎_elim (λ (q : last_event m c ts ≡ c). omega arith) (λ i. absent m (later c ts) a (Memᴰ.cast (sym e) i)) (Memᴰ.cases_cons (last_event_is m c ts)) in
        omega arith

    by : Side c m → (t : Bool) → member m ts ≡ t → Arrival c m ts
    by (above h) t e = known (omega (arith, last_event_ge m c ts)) (later_skips c m ts h)
    by (below h) true e = known (none_between c m ts m ((member_tells m ts).0 e) (le_refl m)) (later_again c m ts h e)
    by (below h) false e = let a = member_later m c ts h ∙ e in new h (before h a) a

-- ---- the place of a new event

slot_le : (x : ℕ) (es : List ℕ) → slot x es ≤ length es
unfolding slot
slot_le x [] = omega arith
slot_le x (e ∷ es) = by (ltb e x) (slot_le x es)
  where
    by : (t : Bool) → slot x es ≤ length es → further t (slot x es) ≤ suc (length es)
    by true h = omega arith
    by false h = omega arith

row_slot : (n c m : ℕ) (ts : List ℕ) → member m (later c ts) ≡ false → row_at (padded n (events c ts)) m ≡ slot m (later c ts)
unfolding row_at
row_slot n c m ts a = passed_padded m (later c ts) (n - length (events c ts)) ∙ passed_slot c m (later c ts) (later_rises c ts) a

-- ---- row i of a table of rows

module _ (f : ℕ → List ℕ) (k : ℕ) (sized : (e : ℕ) → length (f e) ≡ k) where
  row_piece : (i : ℕ) (xs z : List ℕ) → i < length xs → take k (drop (i * k) (flatten (map f xs) ++ z)) ≡ f (get_or xs i 0)
  unfolding flatten
  row_piece i [] z h = absurd (omega arith)
  row_piece zero (x ∷ xs) z h =
      let q : 0 * k ≡ 0 = omega arith in
      rw (q, append_assoc) (take_at (f x) (flatten (map f xs) ++ z) k (sized x))
  row_piece (suc i) (x ∷ xs) z h =
      let q : suc i * k ≡ length (f x) + i * k = omega (arith, sized x) in
      rw (q, append_assoc) (ap (take k) (drop-append-add (f x) (flatten (map f xs) ++ z) (i * k)) ∙ row_piece i xs z (omega arith))

-- ---- one event more

module _ (c m : ℕ) (ts : List ℕ) where
  -- how many of the later events stand before a new one
  abbrev pub place : ℕ
  place = slot m (later c ts)

  -- the events before it, and those behind it
  pub front : List ℕ
  front = c ∷ take place (later c ts)

  pub back : List ℕ
  back = drop place (later c ts)

  pub joined : front ++ back ≡ events c ts
  unfolding front back
  joined = ap (λ (l : List ℕ). c ∷ l) (take-append-drop place (later c ts))

  pub length_front : length front ≡ suc place
  unfolding front
  length_front = ap suc (length-take-le place (later c ts) (slot_le m (later c ts)))

  pub around : c < m → member m (later c ts) ≡ false → front ++ (m ∷ back) ≡ events c (m ∷ ts)
  unfolding front back
  around h a = ap (λ (l : List ℕ). c ∷ l) (sym (later_inserts c m ts h ∙ insert_split m (later c ts) a))

  module _ (n : ℕ) where
    abbrev table : List ℕ
    table = padded n (events c ts)

    -- the event of the row that holds at m
    held : get_or table (row_at table m) 0 ≡ last_event m c ts
    held = event_found m c ts (n - length (events c ts))

    there : m ≤ last_event m c ts → m ≤ get_or table (row_at table m) 0
    there h = rw held h

    missed : last_event m c ts < m → get_or table (row_at table m) 0 < m
    missed h = rw held h

    module _ (few : length (events c (m ∷ ts)) ≤ n) where
      enough : c < m → member m (later c ts) ≡ false → length front + suc (length back) ≤ n
      enough h a = omega (arith, simp length-append at (ap length (around h a)))

      some : c < m → member m (later c ts) ≡ false → length (events c ts) ≤ n
      some h a = omega (arith, enough h a, simp length-append at (ap length joined))

      event_new : c < m → member m (later c ts) ≡ false → put_piece (suc place) (m ∷ []) table ≡ padded n (events c (m ∷ ts))
      event_new h a =
          sym
          (ap (padded n) (sym (around h a))
          ∙ padded_insert 0 n front (m ∷ []) back (omega (arith, enough h a))
          ∙ ap₂ (λ i (t : List ℕ). take i t ++ ((m ∷ []) ++ take (n - (i + 1)) (drop i t))) length_front (ap (padded n) joined)
          ∙ ap (λ k. take (suc place) table ++ ((m ∷ []) ++ take (k - (suc place + 1)) (drop (suc place) table))) (sym (length_padded 0 n (events c ts) (some h a))))

      -- the event table with m among the times
      pub with_event_events : with_event m (padded n (events c ts)) ≡ padded n (events c (m ∷ ts))
      with_event_events = by (arrival c m ts)
        where
          by : Arrival c m ts → with_event m table ≡ padded n (events c (m ∷ ts))
          by (known h e) = with_event_there m table (there h) ∙ ap (λ (l : List ℕ). padded n (c ∷ l)) (sym e)
          by (new h b a) = with_event_new m table (missed b) ∙ ap (λ i. put_piece (suc i) (m ∷ []) table) (row_slot n c m ts a) ∙ event_new h a

      module _ (f : ℕ → List ℕ) (k : ℕ) (sized : (e : ℕ) → length (f e) ≡ k) (s : ChangesAt ts f) where
        abbrev all : List ℕ → List ℕ
        all es = all_rows 0 f k n es

        -- a copy of the row that stands at i put in behind it
        abbrev copy_in : ℕ → List ℕ → List ℕ
        copy_in i t = put_piece (suc i * k) (take k (drop (i * k) t)) t

        row_new : c < m → member m (later c ts) ≡ false → copy_in place (all (events c ts)) ≡ all (events c (m ∷ ts))
        row_new h a =
            sym
            (ap all (sym (around h a))
            ∙ rows_insert 0 f k n front m back (rows f k sized (front ++ (m ∷ back))) (enough h a)
            ∙ ap₂ (λ i (t : List ℕ). take (i * k) t ++ (f m ++ take (n * k - (i * k + k)) (drop (i * k) t))) length_front (ap all joined)
            ∙ ap₂ (λ (p : List ℕ) j. take (suc place * k) t ++ (p ++ take j (drop (suc place * k) t))) (sym copied) count)
          where
            t : List ℕ
            t = all (events c ts)

            inside : place < length (events c ts)
            inside = omega (arith, slot_le m (later c ts))

            copied : take k (drop (place * k) t) ≡ f m
            copied =
                row_piece f k sized place (events c ts) _ inside
                ∙ ap f (sym (padded_at 0 n (events c ts) place inside) ∙ ap (λ i. get_or table i 0) (sym (row_slot n c m ts a)) ∙ held)
                ∙ steady f c m ts s (omega arith)

            size : length t ≡ n * k
            size =
                let l : length (flatten (map f (events c ts))) ≡ length (events c ts) * k = length_rows f k (events c ts) (rows f k sized (events c ts)) in
                length_padded 0 (n * k) (flatten (map f (events c ts))) (rw l (mul-le-mul_right k (some h a)))

            count : n * k - (suc place * k + k) ≡ length t - (suc place * k + length (take k (drop (place * k) t)))
            count = omega (arith, size, ap length copied ∙ sized m)

        -- the rows beside it
        pub with_row_rows : with_row k (padded n (events c ts)) m (all_rows 0 f k n (events c ts)) ≡ all_rows 0 f k n (events c (m ∷ ts))
        with_row_rows = by (arrival c m ts)
          where
            by : Arrival c m ts → with_row k table m (all (events c ts)) ≡ all (events c (m ∷ ts))
            by (known h e) = with_row_there m table k (all (events c ts)) (there h) ∙ ap (λ (l : List ℕ). all (c ∷ l)) (sym e)
            by (new h b a) = with_row_new m table k (all (events c ts)) (missed b) ∙ ap (λ i. copy_in i (all (events c ts))) (row_slot n c m ts a) ∙ row_new h a

-- ---- the two events of a span

pub changes_more : {A : Type 0} {ts : List ℕ} {f : ℕ → A} (x : ℕ) → ChangesAt ts f → ChangesAt (x ∷ ts) f
changes_more x s e m h q = s e m h (λ y i. q y (Memᴰ.tail i))

-- one time more makes no fewer events
pub fewer : (c m : ℕ) (ts : List ℕ) → length (events c ts) ≤ length (events c (m ∷ ts))
fewer c m ts = by (arrival c m ts)
  where
    by : Arrival c m ts → length (events c ts) ≤ length (events c (m ∷ ts))
    by (known h e) = omega (arith, ap length e)
    by (new h b a) = omega (arith, simp length-append at (ap length (joined c m ts)), simp length-append at (ap length (around c m ts h a)))

module _ (c start end : ℕ) (ts : List ℕ) (n : ℕ) (few : length (events c (start ∷ end ∷ ts)) ≤ n) where
  first : length (events c (end ∷ ts)) ≤ n
  first = omega (arith, fewer c start (end ∷ ts))

  pub with_span_events : with_span start end (padded n (events c ts)) ≡ padded n (events c (start ∷ end ∷ ts))
  unfolding with_span
  with_span_events = ap (with_event start) (with_event_events c end ts n first) ∙ with_event_events c start (end ∷ ts) n few

  pub with_span_rows_rows : (f : ℕ → List ℕ) (k : ℕ) → ((e : ℕ) → length (f e) ≡ k) → ChangesAt ts f
      → with_span_rows k (padded n (events c ts)) start end (all_rows 0 f k n (events c ts)) ≡ all_rows 0 f k n (events c (start ∷ end ∷ ts))
  unfolding with_span_rows
  with_span_rows_rows f k sized s =
      ap₂ (λ (es rows : List ℕ). with_row k es start rows) (with_event_events c end ts n first) (with_row_rows c end ts n first f k sized s)
      ∙ with_row_rows c start (end ∷ ts) n few f k sized (changes_more end s)

-- ---- what the code asks of the tables, where they are those of a clock and times

filled_padded : (c : ℕ) (es : List ℕ) (n : ℕ) → Rising c es → filled (es ++ replicate n 0) ≡ length es
unfolding filled
filled_padded c [] zero r = refl
filled_padded c [] (suc n) r = refl
filled_padded c (zero ∷ es) n r = absurd (omega arith)
filled_padded c (suc e ∷ es) n r = ap suc (filled_padded (suc e) es n r.1)

-- the count of events
pub count_of_events : (n c : ℕ) (ts : List ℕ) → count_events (padded n (events c ts)) ≡ length (events c ts)
unfolding count_events
count_of_events n c ts = ap suc (filled_padded c (later c ts) (n - length (events c ts)) (later_rises c ts))

-- there is room for more events, where those of the times and the further ones are at most the places
pub room_of_events : (places c : ℕ) (ts rows : List ℕ) (more : ℕ) → length rows ≡ places * most_links → length (events c ts) + more ≤ places → Room (padded places (events c ts)) rows more
room_of_events places c ts rows more e h =
    let n = length_padded 0 places (events c ts) (omega arith) in
    record { some = omega arith; rows_sized = e ∙ ap (λ k. k * most_links) (sym n); room = rw count_of_events (omega arith) }

pub only_clock_events : (places c : ℕ) → only_clock places c ≡ padded places (events c [])
unfolding only_clock later
only_clock_events places c = refl

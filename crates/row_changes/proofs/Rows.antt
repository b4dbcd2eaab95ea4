-- Events at which every start and end is found, with a change at each but the first, are those of the plain book; and what began
-- before a row and did not end is what is taken at its event.
use mathlib.Core.Path.{◌≡◌, refl, sym, ap, ap₂, ◌∙◌, subst}
use mathlib.Core.Logic.{◌⊎◌, ◌↔◌, ◌≢◌, inl, inr, ⊎_elim}
use mathlib.Core.List.{List, ◌∷◌, Memᴰ}
use mathlib.Core.Bool.{Bool, true, false, ◌&&◌, false≢true}
use Prim.Native.Nat.{ℕ, zero, suc, ◌+◌, ◌-◌, ◌*◌, ◌≤◌, ◌<◌}
use native.Mathlib.Nat.{le_antisymm}
use native.Mathlib.Decide.{ℕ_discrete, dec_lt}
use native.Mathlib.Omega.{arith}
use lib.Dec.{leb, ltb, eqb}
use lib.ListN.{length, get_or, drop, length-drop}
use lib.Seq.{get_or-drop}
use borrow.Author.Tests.{lt-ltb, le-ltb, ltb-true, le-leb, lt-leb, eq-eqb, ne_eqb}
use Rattle.units.specs.declared.Link.{Link}
use Rattle.units.specs.declared.Head.{Head}
use Rattle.units.specs.Limits.{most_links, most_bookings}
use Rattle.units.specs.Lists.{if_so, member}
use Rattle.units.specs.Sets.{has}
use Rattle.units.proofs.Sets.{has_none, none_empty}
use Rattle.units.proofs.Parts.{member_at, place_of}
use Rattle.units.proofs.Tests.{Side, below, above, side, member_tells, same_test}
use Rattle.timeline.specs.Events.{row_at, later}
use Rattle.timeline.specs.EventTable.{Used}
use Rattle.timeline.proofs.Events.{later_only, later_rises, member_later}
use Rattle.timeline.proofs.Rows.{row_later}
use Rattle.timeline.proofs.Halving.{inside, row_of_event, not_later, order_of}
use Rattle.book.specs.Places.{booking_in, place_path}
use Rattle.rules.specs.Plain.{Plain, uses, taken, capacity}
use Rattle.rules.specs.Tables.{booking_at, held_by, events_of}
use Rattle.rules.proofs.Uses.{all_times}
use Rattle.row_changes.specs.Changes.{start_row, end_of, end_row, Found, BothFound, Marks, use_of, begun, ended, StepRight, RowsRight}
use Rattle.row_changes.proofs.Sums.{sum_same, sum_add}
use Rattle.row_changes.proofs.Counted.{taken_counted, TimeOf, time_of, time_in}

-- what is held from s to e and what ended at e is what began at s
held_split : (s e m w : ℕ) (c : Bool) → s ≤ e → if_so (leb s m && ltb m e && c) w + if_so (leb e m) (if_so c w) ≡ if_so (leb s m) (if_so c w)
held_split s e m w c order = by (side m e)
  where
    during : (b : Bool) → if_so (b && true && c) w + if_so false (if_so c w) ≡ if_so b (if_so c w)
    during true = omega arith
    during false = omega arith

    by : Side m e → if_so (leb s m && ltb m e && c) w + if_so (leb e m) (if_so c w) ≡ if_so (leb s m) (if_so c w)
    by (below h) = rw (lt-ltb m e h, lt-leb e m h) (during (leb s m))
    by (above h) = rw (le-leb s m (omega arith), le-ltb m e h, le-leb e m h) (omega arith)

-- a place whose row it is, or none
some_place : (row : ℕ → ℕ) (n r : ℕ) → ((i : ℕ) × (i < n) × (row i ≡ r)) ⊎ ((i : ℕ) → i < n → row i ≢ r)
some_place row zero r = inr (λ i h. absurd (omega arith))
some_place row (suc n) r = elim (ℕ_discrete (row n) r) [
  | yes e ↦ inl (n, omega arith, e)
  | no d ↦ ⊎_elim (λ q. inl (q.0, omega (arith, q.1), q.2)) (λ none. inr (λ i h. elim (ℕ_discrete i n) [ yes e ↦ (λ z. d (ap row (sym e) ∙ z)) | no k ↦ none i (omega arith) ])) (some_place row n r)
]

module _ (es : List ℕ) (u : Used es) where
  -- a minute that is found is in row r or before it if and only if r's event is not before it
  found_row : (m r : ℕ) → Found es m → r < length es → ltb (row_at es m) (suc r) ≡ leb m (get_or es r 0)
  found_row m r f h = by (side r (row_at es m))
    where
      by : Side r (row_at es m) → ltb (row_at es m) (suc r) ≡ leb m (get_or es r 0)
      by (below k) = rw (le-ltb (row_at es m) (suc r) (omega arith)) (sym (lt-leb m (get_or es r 0) later_event))
        where
          later_event : get_or es r 0 < m
          later_event = elim (dec_lt (get_or es r 0) m) [
            | yes e ↦ e
            | no e ↦ absurd (let order = row_later m (get_or es r 0) es (omega arith) in omega (arith, order, row_of_event es u r h))
          ]
      by (above k) = rw (lt-ltb (row_at es m) (suc r) (omega arith)) (sym (le-leb m (get_or es r 0) in_time))
        where
          in_time : m ≤ get_or es r 0
          in_time = elim (ℕ_discrete (row_at es m) r) [
            | yes e ↦ omega (arith, f, ap (λ k. get_or es k 0) e)
            | no d ↦ omega (arith, f, order_of es u (row_at es m) r (omega arith) h)
          ]

  module _ (head : Head) (book : List ℕ) (few : head.bookings ≤ most_bookings) where
    p : Plain
    p = held_by head book

    -- one booking, at row r
    holds_at : (i r l : ℕ) → BothFound head es book i → r < length es
        → uses p (booking_at book i) l (get_or es r 0) + if_so (ltb (end_row head es book i) (suc r)) (use_of book l i) ≡ if_so (ltb (start_row es book i) (suc r)) (use_of book l i)
    unfolding p
    holds_at i r l f h =
        ap (λ b. uses p (booking_at book i) l (get_or es r 0) + if_so b (use_of book l i)) (found_row (end_of head book i) r f.1 h)
        ∙ held_split (booking_in book i).start.0 (end_of head book i) (get_or es r 0) (booking_in book i).bandwidth.0 (member l (place_path (booking_in book i))) (omega arith)
        ∙ ap (λ b. if_so b (use_of book l i)) (sym (found_row (booking_in book i).start.0 r f.0 h))

    module _ (found : (i : ℕ) → i < head.bookings → BothFound head es book i) where
      -- all of them
      pub taken_at : (r l : ℕ) → r < length es → taken (held_by head book) l (get_or es r 0) + ended head es book (suc r) l ≡ begun head es book (suc r) l
      unfolding p
      taken_at r l h =
          ap (λ x. x + ended head es book (suc r) l) (taken_counted head book most_bookings l (get_or es r 0) few)
          ∙ sym (sum_add most_bookings (λ i. if_so (ltb i head.bookings) (uses (held_by head book) (booking_at book i) l (get_or es r 0))) (λ i. if_so (ltb i head.bookings && ltb (end_row head es book i) (suc r)) (use_of book l i)))
          ∙ sum_same most_bookings _ _ (λ i k. one i (ltb i head.bookings) refl)
        where
          one : (i : ℕ) (b : Bool) → ltb i head.bookings ≡ b
              → if_so b (uses (held_by head book) (booking_at book i) l (get_or es r 0)) + if_so (b && ltb (end_row head es book i) (suc r)) (use_of book l i) ≡ if_so (b && ltb (start_row es book i) (suc r)) (use_of book l i)
          one i true e = holds_at i r l (found i (ltb-true i head.bookings e)) h
          one i false e = omega arith

    -- a minute that is found is its row's event where that is not the first
    found_is : (m r : ℕ) → Found es m → row_at es m ≡ r → 0 < r → get_or es r 0 ≡ m
    found_is m r f e some = le_antisymm
        (elim (dec_lt m (get_or es 0 0)) [
          | yes h ↦ absurd (let first = row_later m (get_or es 0 0) es (omega arith) in omega (arith, first, row_of_event es u 0 (omega (arith, inside es u m))))
          | no h ↦ omega (arith, not_later es u m (omega arith), ap (λ k. get_or es k 0) e)
        ])
        (omega (arith, f, ap (λ k. get_or es k 0) e))

    -- a row in none of whose sets a place is
    none_there : (row : ℕ → ℕ) (sets : List ℕ) → Marks row head.bookings sets → (r : ℕ) → ((i : ℕ) → i < head.bookings → row i ≢ r) → get_or sets r 0 ≡ 0
    none_there row sets marks r none = none_empty (get_or sets r 0) (λ i. marks r i ∙ by i (ltb i head.bookings) refl)
      where
        by : (i : ℕ) (b : Bool) → ltb i head.bookings ≡ b → (b && eqb (row i) r) ≡ false
        by i true e = ne_eqb (row i) r (none i (ltb-true i head.bookings e))
        by i false e = refl

    module _ (found : (i : ℕ) → i < head.bookings → BothFound head es book i) (clock : get_or es 0 0 ≡ head.clock.0) where
      found_event : (m : ℕ) → Found es m → head.clock.0 < m → Memᴰ m (drop 1 es)
      found_event m f h =
          let r = row_at es m in
          let some : 0 < r = elim (ℕ_discrete r 0) [ yes e ↦ absurd (omega (arith, f, clock, ap (λ k. get_or es k 0) e)) | no d ↦ omega arith ] in
          let back : 1 + (r - 1) ≡ r = omega arith in
          subst (λ x. Memᴰ x (drop 1 es)) (get_or-drop 1 es (r - 1) 0 ∙ ap (λ k. get_or es k 0) back ∙ found_is m r f refl some)
          (member_at (drop 1 es) (r - 1) (omega (arith, length-drop 1 es, inside es u m)))

      module _ (starts ends : List ℕ) (begin : Marks (start_row es book) head.bookings starts) (stop : Marks (end_row head es book) head.bookings ends) where
        -- a row other than the first at which something changes begins at a time of the book
        row_time : (r : ℕ) → 0 < r → ((get_or starts r 0 ≡ 0) → (get_or ends r 0 ≡ 0) → r ≡ 0) → Memᴰ (get_or es r 0) (all_times (held_by head book))
        row_time r some changed = time_in head book (get_or es r 0) (⊎_elim by_start (λ no_start. ⊎_elim by_end (λ no_end. absurd (neither no_start no_end)) (some_place (end_row head es book) head.bookings r)) (some_place (start_row es book) head.bookings r))
          where
            by_start : ((i : ℕ) × (i < head.bookings) × (start_row es book i ≡ r)) → TimeOf (held_by head book) book 0 head.bookings (get_or es r 0)
            by_start q = record { place = q.0; from = omega arith; before = omega (arith, q.1); is = inl (found_is (booking_in book q.0).start.0 r (found q.0 q.1).0 q.2 some) }

            by_end : ((i : ℕ) × (i < head.bookings) × (end_row head es book i ≡ r)) → TimeOf (held_by head book) book 0 head.bookings (get_or es r 0)
            by_end q = record { place = q.0; from = omega arith; before = omega (arith, q.1); is = inr (found_is (end_of head book q.0) r (found q.0 q.1).1 q.2 some) }

            neither : ((i : ℕ) → i < head.bookings → start_row es book i ≢ r) → ((i : ℕ) → i < head.bookings → end_row head es book i ≢ r) → ⊥
            neither s e = omega (arith, changed (none_there (start_row es book) starts begin r s) (none_there (end_row head es book) ends stop r e))

        pub events_right : ((r : ℕ) → r < length es → (get_or starts r 0 ≡ 0) → (get_or ends r 0 ≡ 0) → r ≡ 0) → es ≡ events_of (held_by head book)
        events_right changed =
            u
            ∙ ap (λ c. c ∷ later c (drop 1 es)) clock
            ∙ ap (λ l. head.clock.0 ∷ l) (later_only head.clock.0 (later head.clock.0 (drop 1 es)) (all_times (held_by head book)) (later_rises head.clock.0 (drop 1 es)) (λ x h. member_later x head.clock.0 (drop 1 es) h ∙ same_test _ _ (λ t. there x t) (λ t. here x h t)))
          where
            there : (x : ℕ) → member x (drop 1 es) ≡ true → member x (all_times (held_by head book)) ≡ true
            there x t =
                let q = place_of (drop 1 es) x ((member_tells x (drop 1 es)).0 t) in
                let below : suc q.0 < length es = omega (arith, q.1, length-drop 1 es) in
                (member_tells x (all_times (held_by head book))).1 (subst (λ y. Memᴰ y (all_times (held_by head book))) (sym (get_or-drop 1 es q.0 0 ∙ (let e : 1 + q.0 ≡ suc q.0 = omega arith in ap (λ k. get_or es k 0) e)) ∙ q.2) (row_time (suc q.0) (omega arith) (changed (suc q.0) below)))

            here : (x : ℕ) → head.clock.0 < x → member x (all_times (held_by head book)) ≡ true → member x (drop 1 es) ≡ true
            here x h t = (member_tells x (drop 1 es)).1 (by (time_of head book x ((member_tells x (all_times (held_by head book))).0 t)))
              where
                by : TimeOf (held_by head book) book 0 head.bookings x → Memᴰ x (drop 1 es)
                by q =
                    let both = found q.place (omega (arith, q.before)) in
                    ⊎_elim
                    (λ e. subst (λ m. Memᴰ m (drop 1 es)) (sym e) (found_event (booking_in book q.place).start.0 both.0 (omega (arith, e))))
                    (λ e. subst (λ m. Memᴰ m (drop 1 es)) (sym e) (found_event (end_of head book q.place) both.1 (omega (arith, e))))
                    q.is

-- ---- and back: among the events of a book every start and end is found, and each but the first is one of them
module _ (head : Head) (book es : List ℕ) (u : Used es) (same : es ≡ events_of (held_by head book)) where
  clock_first : get_or es 0 0 ≡ head.clock.0
  clock_first = ap (λ l. get_or l 0 0) same

  behind : drop 1 es ≡ later head.clock.0 (all_times (held_by head book))
  behind = ap (drop 1) same

  early_found : (m : ℕ) → m ≤ head.clock.0 → Found es m
  early_found m h = elim (ℕ_discrete (row_at es m) 0) [
    | yes e ↦ omega (arith, clock_first, ap (λ k. get_or es k 0) e)
    | no d ↦ omega (arith, clock_first, order_of es u 0 (row_at es m) (omega arith) (inside es u m))
  ]

  time_is_found : (m : ℕ) → Memᴰ m (all_times (held_by head book)) → Found es m
  time_is_found m t = elim (dec_lt head.clock.0 m) [ no h ↦ early_found m (omega arith) | yes h ↦ late h ]
    where
      late : head.clock.0 < m → Found es m
      late h =
          let in_events = ap (member m) behind ∙ member_later m head.clock.0 (all_times (held_by head book)) h ∙ (member_tells m (all_times (held_by head book))).1 t in
          let q = place_of (drop 1 es) m ((member_tells m (drop 1 es)).0 in_events) in
          let event : get_or es (suc q.0) 0 ≡ m = sym (get_or-drop 1 es q.0 0 ∙ (let e : 1 + q.0 ≡ suc q.0 = omega arith in ap (λ k. get_or es k 0) e)) ∙ q.2 in
          let row : row_at es m ≡ suc q.0 = ap (row_at es) (sym event) ∙ row_of_event es u (suc q.0) (omega (arith, q.1, length-drop 1 es)) in
          omega (arith, event, ap (λ k. get_or es k 0) row)

  pub all_found : (i : ℕ) → i < head.bookings → BothFound head es book i
  all_found i h = (
    time_is_found (booking_in book i).start.0 (time_in head book (booking_in book i).start.0 (record { place = i; from = omega arith; before = omega arith; is = inl refl })),
    time_is_found (end_of head book i) (time_in head book (end_of head book i) (record { place = i; from = omega arith; before = omega arith; is = inr refl })),
  )

  pub all_changed : (starts ends : List ℕ) → Marks (start_row es book) head.bookings starts → Marks (end_row head es book) head.bookings ends
      → (r : ℕ) → r < length es → (get_or starts r 0 ≡ 0) → (get_or ends r 0 ≡ 0) → r ≡ 0
  all_changed starts ends begin stop r h no_starts no_ends = elim (ℕ_discrete r 0) [ yes e ↦ e | no d ↦ absurd (some (omega arith)) ]
    where
      is_time : 0 < r → Memᴰ (get_or es r 0) (all_times (held_by head book))
      is_time k =
          let after : head.clock.0 < get_or es r 0 = omega (arith, clock_first, order_of es u 0 r k h) in
          let back : 1 + (r - 1) ≡ r = omega arith in
          let there : Memᴰ (get_or es r 0) (drop 1 es) = subst (λ x. Memᴰ x (drop 1 es)) (get_or-drop 1 es (r - 1) 0 ∙ ap (λ k. get_or es k 0) back) (member_at (drop 1 es) (r - 1) (omega (arith, length-drop 1 es))) in
          (member_tells (get_or es r 0) (all_times (held_by head book))).0
          (sym (member_later (get_or es r 0) head.clock.0 (all_times (held_by head book)) after) ∙ sym (ap (member (get_or es r 0)) behind) ∙ (member_tells (get_or es r 0) (drop 1 es)).1 there)

      -- a place whose row r is stands in its set
      stands : (row : ℕ → ℕ) (sets : List ℕ) → Marks row head.bookings sets → get_or sets r 0 ≡ 0 → (i : ℕ) → i < head.bookings → row i ≡ r → ⊥
      stands row sets marks none i k e =
          false≢true (sym (ap (λ s. has s i) none ∙ has_none i) ∙ marks r i ∙ ap₂ ◌&&◌ (lt-ltb i head.bookings k) (eq-eqb (row i) r e))

      some : 0 < r → ⊥
      some k =
          let q = time_of head book (get_or es r 0) (is_time k) in
          ⊎_elim
          (λ e. stands (start_row es book) starts begin no_starts q.place (omega (arith, q.before)) (ap (row_at es) (sym e) ∙ row_of_event es u r h))
          (λ e. stands (end_row head es book) ends stop no_ends q.place (omega (arith, q.before)) (ap (row_at es) (sym e) ∙ row_of_event es u r h))
          q.is

-- ---- the whole check

pub not_found : (links : List Link) (head : Head) (book es free : List ℕ) → Used es → ¬ ((i : ℕ) → i < head.bookings → BothFound head es book i) → ¬ RowsRight links (held_by head book) es free
not_found links head book es free u h r = h (all_found head book es u r.events_are)

module _ (links : List Link) (head : Head) (book es free capacities : List ℕ) (u : Used es) (clock : get_or es 0 0 ≡ head.clock.0) (few : head.bookings ≤ most_bookings)
    (columns : (l : ℕ) → l < most_links → get_or capacities l 0 ≡ capacity links l) where
  module _ (found : (i : ℕ) → i < head.bookings → BothFound head es book i) (starts ends : List ℕ)
      (begin : Marks (start_row es book) head.bookings starts) (stop : Marks (end_row head es book) head.bookings ends) where
    pub rows_tell : ((r : ℕ) → r < length es → StepRight head es capacities free book starts ends r) ↔ RowsRight links (held_by head book) es free
    rows_tell = ((λ steps. record { events_are = events_right es u head book few found clock starts ends begin stop (λ r h. (steps r h).changed); figures_are = so steps }), back)
      where
        so : ((r : ℕ) → r < length es → StepRight head es capacities free book starts ends r)
            → (r l : ℕ) → r < length es → l < most_links → get_or free (r * most_links + l) 0 + taken (held_by head book) l (get_or es r 0) ≡ capacity links l
        so steps r l h k = omega (arith, (steps r h).figures_right l k, taken_at es u head book few found r l h, columns l k)

        back : RowsRight links (held_by head book) es free → (r : ℕ) → r < length es → StepRight head es capacities free book starts ends r
        back right r h = record {
          changed = all_changed head book es u right.events_are starts ends begin stop r h;
          figures_right = λ l k. omega (arith, right.figures_are r l h k, taken_at es u head book few found r l h, columns l k);
        }

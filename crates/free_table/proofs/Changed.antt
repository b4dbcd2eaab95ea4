-- Changing figures over a span makes the table of the changed figures, on the links of the path and in exactly the span's minutes.
use mathlib.Core.Path.{◌≡◌, refl, sym, ap, ap₂, ◌∙◌}
use mathlib.Core.List.{List, [], ◌∷◌, Memᴰ}
use mathlib.Core.Bool.{Bool, true, false, ◌&&◌, ◌||◌, true≢false}
use Prim.Native.Nat.{ℕ, zero, suc, ◌+◌, ◌-◌, ◌*◌, ◌≤◌, ◌<◌, zero-le}
use native.Mathlib.Numerals.{add-one}
use native.Mathlib.Decide.{ℕ_discrete, dec_lt}
use native.Mathlib.Omega.{arith}
use lib.Dec.{leb, ltb, eqb}
use lib.ListN.{length, get_or, set, take, drop, length-set, length-append, length-drop, get_or-append, drop_of_length-le}
use lib.Seq.{drop-cons, get_or-append-add, get_or-take, get_or-drop, get_or-set_same, get_or-set_other, length-take-le}
use borrow.Author.Tests.{lt-ltb, le-ltb, ltb-true, ltb-false, le-leb, lt-leb, eq-eqb, eqb-true, ne_eqb}
use Rattle.units.specs.Limits.{most_links}
use Rattle.units.specs.Lists.{padded, member, All, Distinct}
use Rattle.units.proofs.Tests.{Side, below, above, side, absent_test}
use Rattle.units.proofs.Parts.{all_map, all_at}
use Rattle.units.proofs.Padded.{length_padded}
use Rattle.timeline.specs.Events.{events, row_at}
use Rattle.timeline.proofs.Rows.{row_later, row_inside}
use Rattle.timeline.proofs.Places.{event, event_late, row_below, time_before}
use Rattle.free_table.specs.Figures.{table}
use Rattle.free_table.specs.Spans.{change_rows, change_path, change_span, where_so, changed}
use Rattle.free_table.proofs.Figures.{same_figures, length_table, table_figure, table_column, table_past}

module _ (g : ℕ → ℕ) where
  -- ---- as the loops do it

  module _ (l : ℕ) (t : List ℕ) where
    pub change_rows_none : change_rows g 0 l t ≡ t
    unfolding change_rows
    change_rows_none = refl

    pub change_rows_next : (n : ℕ) → change_rows g (n + 1) l t ≡ set (change_rows g n l t) (n * most_links + l) (g (get_or (change_rows g n l t) (n * most_links + l) 0))
    unfolding change_rows
    change_rows_next n = rw add-one

    pub length_change_rows : (n : ℕ) → length (change_rows g n l t) ≡ length t
    unfolding change_rows
    length_change_rows zero = refl
    length_change_rows (suc n) = simp length-set (length_change_rows n)

  module _ (n : ℕ) (path : List ℕ) (i : ℕ) (t : List ℕ) where
    pub path_next : i < length path → change_path g n (drop i path) t ≡ change_path g n (drop (i + 1) path) (change_rows g n (get_or path i 0) t)
    unfolding change_path
    path_next h = rw (add-one, drop-cons path i 0 h)

    pub path_done : length path ≤ i → change_path g n (drop i path) t ≡ t
    unfolding change_path
    path_done h = rw (drop_of_length-le path h)

  -- ---- figure j of row i, after changing the first n rows

  module _ (l : ℕ) (t : List ℕ) (column : l < most_links) where
    change_rows_at : (n i j : ℕ) → n * most_links ≤ length t → j < most_links
        → get_or (change_rows g n l t) (i * most_links + j) 0 ≡ where_so (ltb i n && eqb j l) g (get_or t (i * most_links + j) 0)
    unfolding change_rows
    change_rows_at zero i j h k = rw (le-ltb i 0 zero-le) refl
    change_rows_at (suc n) i j h k = by (ℕ_discrete i n) (ℕ_discrete j l) (change_rows_at n i j (omega arith) k)
      where
        before : List ℕ
        before = change_rows g n l t

        there : n * most_links + l < length before
        there = omega (arith, length_change_rows l t n)

        other : (i * most_links + j ≡ n * most_links + l → ⊥) → get_or (set before (n * most_links + l) (g (get_or before (n * most_links + l) 0))) (i * most_links + j) 0 ≡ get_or before (i * most_links + j) 0
        other d = get_or-set_other before (n * most_links + l) (i * most_links + j) _ 0 d

        later_row : (i ≡ n → ⊥) → ltb i n ≡ ltb i (suc n)
        later_row d = elim (dec_lt i n) [ yes q ↦ lt-ltb i n q ∙ sym (lt-ltb i (suc n) (omega arith)) | no q ↦ le-ltb i n (omega arith) ∙ sym (le-ltb i (suc n) (omega arith)) ]

        off : (b : Bool) → (b && false) ≡ false
        off true = refl
        off false = refl

        by : Dec (i ≡ n) → Dec (j ≡ l) → get_or before (i * most_links + j) 0 ≡ where_so (ltb i n && eqb j l) g (get_or t (i * most_links + j) 0)
            → get_or (set before (n * most_links + l) (g (get_or before (n * most_links + l) 0))) (i * most_links + j) 0 ≡ where_so (ltb i (suc n) && eqb j l) g (get_or t (i * most_links + j) 0)
        by (yes e) (yes q) ih =
            let at : i * most_links + j ≡ n * most_links + l = omega arith in
            ap (λ k. get_or (set before (n * most_links + l) (g (get_or before (n * most_links + l) 0))) k 0) at
            ∙ get_or-set_same before (n * most_links + l) _ 0 there
            ∙ ap (λ k. g (get_or before k 0)) (sym at)
            ∙ ap g (ih ∙ ap (λ x. where_so (x && eqb j l) g (get_or t (i * most_links + j) 0)) (le-ltb i n (omega arith)))
            ∙ rw (lt-ltb i (suc n) (omega arith), eq-eqb j l q) refl
        by (no d) q ih = other (λ e. d (omega arith)) ∙ ih ∙ ap (λ x. where_so (x && eqb j l) g (get_or t (i * most_links + j) 0)) (later_row d)
        by (yes e) (no d) ih =
            other (λ e. d (omega arith)) ∙ ih
            ∙ ap (λ x. where_so x g (get_or t (i * most_links + j) 0)) (ap (λ x. ltb i n && x) (ne_eqb j l d) ∙ off (ltb i n) ∙ sym (ap (λ x. ltb i (suc n) && x) (ne_eqb j l d) ∙ off (ltb i (suc n))))

  -- a link is changed once
  once : (x u v : Bool) (a : ℕ) → (u ≡ true → v ≡ false) → where_so (x && v) g (where_so (x && u) g a) ≡ where_so (x && (u || v)) g a
  once true true true a h = absurd (true≢false (h refl))
  once true true false a h = refl
  once true false v a h = refl
  once false u v a h = refl

  none : (x : Bool) (a : ℕ) → a ≡ where_so (x && false) g a
  none true a = refl
  none false a = refl

  -- after changing them on a path that meets no link twice
  change_path_at : (n : ℕ) (path t : List ℕ) → Distinct path → All (λ l. l < most_links) path → n * most_links ≤ length t → (i j : ℕ) → j < most_links
      → get_or (change_path g n path t) (i * most_links + j) 0 ≡ where_so (ltb i n && member j path) g (get_or t (i * most_links + j) 0)
  unfolding change_path member
  change_path_at n [] t d a h i j k = none (ltb i n) (get_or t (i * most_links + j) 0)
  change_path_at n (l ∷ ls) t d a h i j k =
      change_path_at n ls (change_rows g n l t) d.1 a.1 (omega (arith, length_change_rows l t n)) i j k
      ∙ ap (where_so (ltb i n && member j ls) g) (change_rows_at l t a.0 n i j h k)
      ∙ once (ltb i n) (eqb j l) (member j ls) (get_or t (i * most_links + j) 0) (λ e. rw (eqb-true j l e) (absent_test l ls d.0))

  pub length_change_path : (n : ℕ) (path t : List ℕ) → length (change_path g n path t) ≡ length t
  unfolding change_path
  length_change_path n [] t = refl
  length_change_path n (l ∷ ls) t = length_change_path n ls (change_rows g n l t) ∙ length_change_rows l t n

-- ---- figure j of row r, after changing them over a span

module _ (g : ℕ → ℕ) (es : List ℕ) (start end : ℕ) (path t : List ℕ) (some : 0 < length es) (free_sized : length t ≡ length es * most_links) (in_order : start ≤ end)
    (differ : Distinct path) (columns : All (λ l. l < most_links) path) where
  first : ℕ
  first = row_at es start

  past : ℕ
  past = row_at es end

  bounds : (first ≤ past) × (past < length es)
  unfolding first past
  bounds = (row_later start end es in_order, omega (arith, row_inside end es some))

  length_change_span : length (change_span g es start end path t) ≡ length es * most_links
  unfolding change_span first past
  length_change_span = simp (length-append, length_change_path, length-drop) (omega (arith, bounds, free_sized, length-take-le (first * most_links) t (omega (arith, bounds, free_sized))))

  change_span_at : (r j : ℕ) → j < most_links
      → get_or (change_span g es start end path t) (r * most_links + j) 0 ≡ where_so (leb (row_at es start) r && ltb r (row_at es end) && member j path) g (get_or t (r * most_links + j) 0)
  unfolding change_span first past
  change_span_at r j k = by (side r first)
    where
      long : length (take (first * most_links) t) ≡ first * most_links
      long = length-take-le (first * most_links) t (omega (arith, bounds, free_sized))

      same_row : first ≤ r → ltb (r - first) (past - first) ≡ ltb r past
      same_row h =
          elim (dec_lt r past) [
            | yes q ↦ lt-ltb (r - first) (past - first) (omega arith) ∙ sym (lt-ltb r past q)
            | no q ↦ le-ltb (r - first) (past - first) (omega arith) ∙ sym (le-ltb r past (omega arith))
          ]

      by : Side r first → get_or (change_span g es start end path t) (r * most_links + j) 0 ≡ where_so (leb (row_at es start) r && ltb r (row_at es end) && member j path) g (get_or t (r * most_links + j) 0)
      by (below h) =
          get_or-append (take (first * most_links) t) _ 0 (r * most_links + j) (omega (arith, long))
          ∙ get_or-take (first * most_links) t (r * most_links + j) 0 (omega arith)
          ∙ rw (lt-leb first r h) refl
      by (above h) =
          let at : r * most_links + j ≡ length (take (first * most_links) t) + ((r - first) * most_links + j) = omega (arith, long) in
          let back : first * most_links + ((r - first) * most_links + j) ≡ r * most_links + j = omega arith in
          ap (λ i. get_or (change_span g es start end path t) i 0) at
          ∙ get_or-append-add (take (first * most_links) t) _ ((r - first) * most_links + j) 0
          ∙ change_path_at g (past - first) path (drop (first * most_links) t) differ columns (rw length-drop (omega (arith, bounds, free_sized))) (r - first) j k
          ∙ ap (where_so (ltb (r - first) (past - first) && member j path) g) (get_or-drop (first * most_links) t ((r - first) * most_links + j) 0 ∙ ap (λ i. get_or t i 0) back)
          ∙ rw (le-leb first r h, same_row h) refl

-- ---- on the table of a figure function, of the events of a clock and times among which are the start and the end

-- what is not before begins at or behind
turned : (r p x s : ℕ) → ltb r p ≡ ltb x s → leb p r ≡ leb s x
turned r p x s e =
    elim (dec_lt r p) [
      | yes q ↦ lt-leb p r q ∙ sym (lt-leb s x (ltb-true x s (sym e ∙ lt-ltb r p q)))
      | no q ↦ le-leb p r (omega arith) ∙ sym (le-leb s x (ltb-false x s (sym e ∙ le-ltb r p (omega arith))))
    ]

module _ (g : ℕ → ℕ) (places links : ℕ) (f h : ℕ → ℕ → ℕ) (small : links ≤ most_links) (c : ℕ) (ts : List ℕ) (few : length (events c ts) ≤ places)
    (start end : ℕ) (path : List ℕ) (in_order : start ≤ end) (from : Memᴰ start ts) (to : Memᴰ end ts) (differ : Distinct path) (inside : All (λ l. l < links) path)
    (are : (j m : ℕ) → j < links → c ≤ m → changed g start end path f j m ≡ h j m) where
  abbrev es : List ℕ
  es = padded places (events c ts)

  abbrev before : List ℕ
  before = table places links f (events c ts)

  abbrev after : List ℕ
  after = table places links h (events c ts)

  columns : All (λ l. l < most_links) path
  columns = all_map (λ l. l < links) (λ l. l < most_links) (λ l a. omega arith) path inside

  rows : length es ≡ places
  rows = length_padded 0 places (events c ts) few

  sized : length before ≡ length es * most_links
  sized = length_table links f small places (events c ts) few ∙ ap (λ k. k * most_links) (sym rows)

  off : (x y : Bool) (a : ℕ) → where_so (x && y && false) g a ≡ a
  off true true a = refl
  off true false a = refl
  off false y a = refl

  late : (x z : Bool) (a : ℕ) → where_so (x && false && z) g a ≡ a
  late true z a = refl
  late false z a = refl

  figure : (r j : ℕ) → j < most_links → Side r (length (events c ts)) → Side j links
      → where_so (leb (row_at es start) r && ltb r (row_at es end) && member j path) g (get_or before (r * most_links + j) 0) ≡ get_or after (r * most_links + j) 0
  figure r j k (below a) (below b) =
      ap₂ (λ x y. where_so (x && y && member j path) g (get_or before (r * most_links + j) 0))
      (turned r (row_at es start) (event c ts r) start (time_before places c ts start r from a))
      (time_before places c ts end r to a)
      ∙ ap (where_so (leb start (event c ts r) && ltb (event c ts r) end && member j path) g) (table_figure links f small places (events c ts) r j a b)
      ∙ are j (event c ts r) b (event_late places c ts r a)
      ∙ sym (table_figure links h small places (events c ts) r j a b)
  figure r j k (below a) (above b) =
      ap (λ z. where_so (leb (row_at es start) r && ltb r (row_at es end) && z) g (get_or before (r * most_links + j) 0)) (absent_test j path (λ m. let i = all_at (λ l. l < links) inside m in omega arith))
      ∙ off (leb (row_at es start) r) (ltb r (row_at es end)) (get_or before (r * most_links + j) 0)
      ∙ table_column links f small places (events c ts) r j a b k
      ∙ sym (table_column links h small places (events c ts) r j a b k)
  figure r j k (above a) s =
      ap (λ y. where_so (leb (row_at es start) r && y && member j path) g (get_or before (r * most_links + j) 0)) (le-ltb r (row_at es end) (omega (arith, row_below places c ts end)))
      ∙ late (leb (row_at es start) r) (member j path) (get_or before (r * most_links + j) 0)
      ∙ table_past links f small places (events c ts) r j a
      ∙ sym (table_past links h small places (events c ts) r j a)

  pub change_span_table : change_span g (padded places (events c ts)) start end path (table places links f (events c ts)) ≡ table places links h (events c ts)
  change_span_table =
      let some : 0 < length es = omega (arith, rows) in
      same_figures places (change_span g es start end path before) after
      (length_change_span g es start end path before some sized in_order differ columns ∙ ap (λ k. k * most_links) rows)
      (length_table links h small places (events c ts) few)
      (λ r j a k. change_span_at g es start end path before some sized in_order differ columns r j k ∙ figure r j k (side r (length (events c ts))) (side j links))

-- What is taken, row by row: what the bookings use together that began before a row, less what those use that ended.
use mathlib.Core.Path.{◌≡◌, refl, sym, ap, ap₂, ◌∙◌, subst}
use mathlib.Core.List.{List}
use Rattle.std.proofs.Math.Bool.{or-true}
use mathlib.Core.Bool.{Bool, true, false, ◌&&◌, ◌||◌, not, false≢true, and-eq-true_iff}
use mathlib.Core.Logic.{◌↔◌}
use Prim.Native.Nat.{ℕ, suc, ◌+◌, ◌*◌, ◌≤◌, ◌<◌}
use native.Mathlib.Decide.{ℕ_discrete}
use native.Mathlib.Omega.{arith}
use lib.Dec.{eqb, ltb}
use lib.ListN.{get_or, replicate}
use borrow.Author.Tests.{eq-eqb, ne_eqb, lt-ltb, le-ltb, ltb-true}
use Rattle.units.specs.declared.Head.{Head}
use Rattle.units.specs.Limits.{most_links, most_bookings, most_bandwidth}
use Rattle.units.specs.Lists.{if_so, member}
use Rattle.units.specs.Sets.{has}
use Rattle.units.proofs.Padded.{fill_at}
use Rattle.units.proofs.Tests.{Order, less, same, more, order, Side, below, above, side, if_so_most}
use Rattle.timeline.proofs.Rows.{row_later}
use Rattle.book.specs.Places.{booking_in, place_path}
use Rattle.row_changes.specs.Changes.{BookFits, start_row, end_row, end_of, begun, ended, Marks, use_of, used_by, used_before, Counted, StepRight, RowRight}
use Rattle.row_changes.proofs.Sums.{sum_same, sum_add, sum_less, sum_most}

-- a term counts at a row or before it
term_next : (b : Bool) (k r x : ℕ) → if_so (b && ltb k (suc r)) x ≡ if_so (b && ltb k r) x + if_so (b && eqb k r) x
term_next false k r x = refl
term_next true k r x = by (order k r)
  where
    by : Order k r → if_so (ltb k (suc r)) x ≡ if_so (ltb k r) x + if_so (eqb k r) x
    by (less h) = rw (lt-ltb k (suc r) (omega arith), lt-ltb k r h, ne_eqb k r (λ e. omega arith)) (omega arith)
    by (same e) = rw (e, lt-ltb r (suc r) (omega arith), le-ltb r r (omega arith), eq-eqb r r refl) (omega arith)
    by (more h) = rw (le-ltb k (suc r) (omega arith), le-ltb k r (omega arith), ne_eqb k r (λ e. omega arith)) refl

module _ (head : Head) (book : List ℕ) (fits : BookFits head book) (row : ℕ → ℕ) where
  used_most : (r l : ℕ) → used_before book row head.bookings r l ≤ most_bookings * most_bandwidth
  used_most r l = sum_most most_bookings most_bandwidth (λ i. if_so (ltb i head.bookings && ltb (row i) r) (use_of book l i)) (λ i h. by i (ltb i head.bookings) refl)
    where
      by : (i : ℕ) (b : Bool) → ltb i head.bookings ≡ b → if_so (b && ltb (row i) r) (use_of book l i) ≤ most_bandwidth
      by i true e =
          let fit = (fits.places_right i (ltb-true i head.bookings e)).bandwidth_right in
          omega (arith, if_so_most (ltb (row i) r) (use_of book l i), if_so_most (member l (place_path (booking_in book i))) (booking_in book i).bandwidth.0)
      by i false e = omega arith

  -- nothing is used before the first row
  used_none : (l : ℕ) → used_before book row head.bookings 0 l ≡ 0
  used_none l = let z = sum_most most_bookings 0 (λ i. if_so (ltb i head.bookings && ltb (row i) 0) (use_of book l i)) (λ i h. by i (ltb i head.bookings)) in omega arith
    where
      by : (i : ℕ) (b : Bool) → if_so (b && ltb (row i) 0) (use_of book l i) ≤ 0
      by i true = rw (le-ltb (row i) 0 (omega arith)) (omega arith)
      by i false = omega arith

  module _ (sets : List ℕ) (marks : Marks row head.bookings sets) (r : ℕ) where
    used_next : (l : ℕ) → used_before book row head.bookings (suc r) l ≡ used_before book row head.bookings r l + used_by book (get_or sets r 0) l
    used_next l =
        sum_same most_bookings _ (λ i. if_so (ltb i head.bookings && ltb (row i) r) (use_of book l i) + if_so (has (get_or sets r 0) i) (use_of book l i))
        (λ i h. term_next (ltb i head.bookings) (row i) r (use_of book l i) ∙ ap (λ b. if_so (ltb i head.bookings && ltb (row i) r) (use_of book l i) + if_so b (use_of book l i)) (sym (marks r i)))
        ∙ sum_add most_bookings (λ i. if_so (ltb i head.bookings && ltb (row i) r) (use_of book l i)) (λ i. if_so (has (get_or sets r 0) i) (use_of book l i))

    pub row_counted : Counted head (get_or sets r 0)
    row_counted i h = by (ltb i head.bookings) refl (sym (marks r i) ∙ h)
      where
        by : (b : Bool) → ltb i head.bookings ≡ b → (b && eqb (row i) r) ≡ true → i < head.bookings
        by true e t = ltb-true i head.bookings e
        by false e t = absurd (false≢true t)

-- what ended had begun
ended_begun : (head : Head) (es book : List ℕ) (r l : ℕ) → ended head es book r l ≤ begun head es book r l
ended_begun head es book r l =
    sum_less most_bookings (λ i. if_so (ltb i head.bookings && ltb (end_row head es book i) r) (use_of book l i)) (λ i. if_so (ltb i head.bookings && ltb (start_row es book i) r) (use_of book l i))
    (λ i h. by i (ltb i head.bookings) (side (end_row head es book i) r))
  where
    by : (i : ℕ) (b : Bool) → Side (end_row head es book i) r → if_so (b && ltb (end_row head es book i) r) (use_of book l i) ≤ if_so (b && ltb (start_row es book i) r) (use_of book l i)
    by i true (below h) =
        let order = row_later (booking_in book i).start.0 (end_of head book i) es (omega arith) in
        rw (lt-ltb (start_row es book i) r (omega arith)) (if_so_most (ltb (end_row head es book i) r) (use_of book l i))
    by i true (above h) = rw (le-ltb (end_row head es book i) r (omega arith)) (omega arith)
    by i false q = omega arith

-- what is taken before row r: what the bookings use that began, less what those use that ended
pub record Taken (head : Head) (es book : List ℕ) (r : ℕ) (taken : List ℕ) : Type 0 where
  pub sum : (l : ℕ) → get_or taken l 0 + ended head es book r l ≡ begun head es book r l

pub none_taken : {head : Head} {es book : List ℕ} → BookFits head book → (n : ℕ) → Taken head es book 0 (replicate n 0)
none_taken {head} {es} {book} fits n = record {
  sum = λ l. omega (arith, fill_at {E = ℕ} 0 n l, used_none head book fits (end_row head es book) l, used_none head book fits (start_row es book) l);
}

module _ {head : Head} {es book taken : List ℕ} {r : ℕ} (starts ends : List ℕ) (fits : BookFits head book)
    (begin : Marks (start_row es book) head.bookings starts) (stop : Marks (end_row head es book) head.bookings ends) (before : Taken head es book r taken) where
  pub room_for : (l : ℕ) → get_or taken l 0 + used_by book (get_or starts r 0) l ≤ most_bookings * most_bandwidth
  room_for l = omega (arith, before.sum l, used_next head book fits (start_row es book) starts begin r l, used_most head book fits (start_row es book) (suc r) l)

  pub enough_for : (l : ℕ) → used_by book (get_or ends r 0) l ≤ get_or taken l 0 + used_by book (get_or starts r 0) l
  enough_for l =
      omega (arith, before.sum l, used_next head book fits (start_row es book) starts begin r l, used_next head book fits (end_row head es book) ends stop r l, ended_begun head es book (suc r) l)

  module _ (after : List ℕ) (passed : (l : ℕ) → get_or after l 0 + used_by book (get_or ends r 0) l ≡ get_or taken l 0 + used_by book (get_or starts r 0) l) where
    pub taken_next : Taken head es book (r + 1) after
    taken_next =
        let next : r + 1 ≡ suc r = omega arith in
        rw next (record {
          sum = λ l. omega (arith, before.sum l, passed l, used_next head book fits (start_row es book) starts begin r l, used_next head book fits (end_row head es book) ends stop r l);
        })

    -- the row is right if its figures and what is taken after it are the capacities
    pub step_tells : (capacities free figures : List ℕ) → ((l : ℕ) → l < most_links → get_or figures l 0 ≡ get_or free (r * most_links + l) 0)
        → (changed equal : Bool) → ((changed ≡ true) ↔ ((get_or starts r 0 ≡ 0) → (get_or ends r 0 ≡ 0) → r ≡ 0)) → ((equal ≡ true) ↔ RowRight capacities after figures)
        → ((changed && equal) ≡ true) ↔ StepRight head es capacities free book starts ends r
    step_tells capacities free figures read changed equal c s = ((λ t. so ((and-eq-true_iff changed equal).0 t)), λ step. (and-eq-true_iff changed equal).1 (c.1 step.changed, s.1 (λ l h. back step l h)))
      where
        held : (l : ℕ) → get_or after l 0 + ended head es book (suc r) l ≡ begun head es book (suc r) l
        held l = let next : r + 1 ≡ suc r = omega arith in let t : Taken head es book (suc r) after = subst (λ k. Taken head es book k after) next taken_next in t.sum l

        so : (changed ≡ true) × (equal ≡ true) → StepRight head es capacities free book starts ends r
        so t = record { changed = c.0 t.0; figures_right = λ l h. omega (arith, held l, read l h, s.0 t.1 l h) }

        back : StepRight head es capacities free book starts ends r → (l : ℕ) → l < most_links → get_or figures l 0 + get_or after l 0 ≡ get_or capacities l 0
        back step l h = omega (arith, held l, read l h, step.figures_right l h)

-- one row more
pub rows_next : (P : ℕ → Type 0) (r : ℕ) (right step : Bool) → ((right ≡ true) ↔ ((k : ℕ) → k < r → P k)) → ((step ≡ true) ↔ P r) → ((right && step) ≡ true) ↔ ((k : ℕ) → k < r + 1 → P k)
rows_next P r right step a b = (
  (λ t k h. let both = (and-eq-true_iff right step).0 t in elim (ℕ_discrete k r) [ yes e ↦ subst P (sym e) (b.0 both.1) | no d ↦ a.0 both.0 k (omega arith) ]),
  λ h. (and-eq-true_iff right step).1 (a.1 (λ k l. h k (omega arith)), b.1 (h r (omega arith))),
)

-- something changes at a row, or it is the first
pub changed_tells : (r s e : ℕ) → (((eqb r 0 || not (eqb s 0)) || not (eqb e 0)) ≡ true) ↔ (s ≡ 0 → e ≡ 0 → r ≡ 0)
changed_tells r s e = ((λ t a b. so t a b), λ h. back h)
  where
    so : ((eqb r 0 || not (eqb s 0)) || not (eqb e 0)) ≡ true → s ≡ 0 → e ≡ 0 → r ≡ 0
    so t a b = elim (ℕ_discrete r 0) [
      | yes z ↦ z
      | no d ↦ absurd (false≢true (sym (ap₂ ◌||◌ (ap₂ ◌||◌ (ne_eqb r 0 d) (ap not (eq-eqb s 0 a))) (ap not (eq-eqb e 0 b))) ∙ t))
    ]

    back : (s ≡ 0 → e ≡ 0 → r ≡ 0) → ((eqb r 0 || not (eqb s 0)) || not (eqb e 0)) ≡ true
    back h = elim (ℕ_discrete s 0) [
      | no d ↦ rw (ne_eqb s 0 d) (ap (λ b. b || not (eqb e 0)) (or-true (eqb r 0)))
      | yes a ↦ elim (ℕ_discrete e 0) [
        | no d ↦ rw (ne_eqb e 0 d) (or-true (eqb r 0 || not (eqb s 0)))
        | yes b ↦ rw (eq-eqb r 0 (h a b)) refl
      ]
    ]

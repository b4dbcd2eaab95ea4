-- Used events: a rising list from a clock on; the row that holds in a minute, by the events around it.
use mathlib.Core.Path.{◌≡◌, refl, sym, ap, ◌∙◌, subst}
use mathlib.Core.List.{List, ◌∷◌, append-nil}
use Prim.Native.Nat.{ℕ, suc, ◌+◌, ◌-◌, ◌≤◌, ◌<◌}
use native.Mathlib.Decide.{dec_lt}
use native.Mathlib.Omega.{arith}
use lib.ListN.{length, get_or, drop}
use Rattle.units.specs.Lists.{padded}
use Rattle.units.proofs.Tests.{Rising}
use Rattle.timeline.specs.Events.{events, row_at}
use Rattle.timeline.specs.EventTable.{Used}
use Rattle.timeline.proofs.Events.{later_only}
use Rattle.timeline.proofs.Places.{begun, not_behind, row_early, row_below, event_row, event_order}

pub rising_used : (c : ℕ) (es : List ℕ) → Rising c es → Used (c ∷ es)
rising_used c es r = ap (λ l. c ∷ l) (later_only c es es r (λ x h. refl))

module _ (es : List ℕ) (u : Used es) (m : ℕ) where
  c : ℕ
  c = get_or es 0 0

  ts : List ℕ
  ts = drop 1 es

  unpadded : padded 0 (events c ts) ≡ events c ts
  unpadded = let none : 0 - length (events c ts) ≡ 0 = omega arith in rw none (append-nil (events c ts))

  row_is : row_at es m ≡ row_at (padded 0 (events c ts)) m
  unfolding c ts
  row_is = ap (λ l. row_at l m) (u ∙ sym unpadded)

  -- the row is not before r where r's event is not after the minute
  not_before : (r : ℕ) → r < length es → get_or es r 0 ≤ m → r ≤ row_at es m
  unfolding c ts
  not_before r h b = omega (arith, row_is, begun 0 c ts m r (omega (arith, ap length u)) (omega (arith, ap (λ l. get_or l r 0) u)))

  -- nor behind it where the next event is
  not_after : (r : ℕ) → m < get_or es (suc r) 0 → row_at es m ≤ r
  unfolding c ts
  not_after r h = elim (dec_lt r (row_at es m)) [ no k ↦ omega arith | yes k ↦ absurd (past k) ]
    where
      past : r < row_at es m → ⊥
      past k = elim (dec_lt m c) [
        | yes e ↦ omega (arith, row_is, row_early 0 c ts m (omega arith))
        | no l ↦ omega (arith, not_behind 0 c ts m (suc r) (omega arith) (omega (arith, row_is)), ap (λ l. get_or l (suc r) 0) u)
      ]

  -- the row is one of the events'
  pub inside : row_at es m < length es
  unfolding c ts
  inside = omega (arith, row_is, row_below 0 c ts m, ap length u)

module _ (es : List ℕ) (u : Used es) where
  -- a row's event is in its row, and the last at or before a minute is not after it
  pub row_of_event : (r : ℕ) → r < length es → row_at es (get_or es r 0) ≡ r
  unfolding c ts
  row_of_event r h =
      row_is es u (get_or es r 0)
      ∙ ap (row_at (padded 0 (events (get_or es 0 0) (drop 1 es)))) (ap (λ l. get_or l r 0) u)
      ∙ event_row 0 (get_or es 0 0) (drop 1 es) r (omega (arith, ap length u))

  pub not_later : (m : ℕ) → get_or es 0 0 ≤ m → get_or es (row_at es m) 0 ≤ m
  unfolding c ts
  not_later m h = omega (arith, not_behind 0 (get_or es 0 0) (drop 1 es) m (row_at es m) h (omega (arith, row_is es u m)), ap (λ l. get_or l (row_at es m) 0) u)

  pub order_of : (q r : ℕ) → q < r → r < length es → get_or es q 0 < get_or es r 0
  order_of q r h k =
      omega (arith, event_order 0 (get_or es 0 0) (drop 1 es) q r h (omega (arith, ap length u)), ap (λ l. get_or l q 0) u, ap (λ l. get_or l r 0) u)

-- what halving has narrowed the row to: `left` rows from `row` on
pub record Narrowed (es : List ℕ) (m row left : ℕ) : Type 0 where
  pub some : 0 < left
  pub fits : row + left ≤ length es
  pub from : row ≤ row_at es m
  pub until : row_at es m < row + left

module _ {es : List ℕ} (u : Used es) {m : ℕ} where
  pub all_rows : Narrowed es m 0 (length es)
  all_rows = record { some = omega (arith, inside es u m); fits = omega arith; from = omega arith; until = omega (arith, inside es u m) }

  module _ {row left : ℕ} (n : Narrowed es m row left) (half : ℕ) (some : 0 < half) (part : half + half ≤ left) where
    pub upper_rows : get_or es (row + half) 0 ≤ m → Narrowed es m (row + half) (left - half)
    upper_rows h = record { some = omega arith; fits = omega (arith, n.fits); from = not_before es u m (row + half) (omega (arith, n.fits)) h; until = omega (arith, n.until) }

    pub lower_rows : m < get_or es (row + half) 0 → Narrowed es m row (left - half)
    lower_rows h = record { some = omega arith; fits = omega (arith, n.fits); from = n.from; until = omega (arith, not_behind_row) }
      where
        not_behind_row : row_at es m < row + half
        not_behind_row = let next : row + half ≡ suc (row + half - 1) = omega arith in omega (arith, not_after es u m (row + half - 1) (subst (λ k. m < get_or es k 0) next h))

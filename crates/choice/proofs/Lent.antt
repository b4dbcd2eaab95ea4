-- Spans on the lent tables: what carries a span carries it from an earlier start and from a later one, where no time lies
-- between; and a span is read off its rows.
use mathlib.Core.Path.{◌≡◌, sym, ◌∙◌, ap, subst}
use mathlib.Core.List.{List}
use mathlib.Core.Bool.{Bool, true}
use Prim.Native.Nat.{ℕ, ◌+◌, ◌-◌, ◌≤◌, ◌<◌}
use native.Mathlib.Omega.{arith}
use lib.Dec.{leb}
use lib.ListN.{length, get_or}
use Rattle.units.specs.Lists.{padded}
use Rattle.units.specs.Search.{all_from}
use Rattle.units.proofs.Tests.{at_most}
use Rattle.units.proofs.Padded.{padded_get}
use Rattle.units.proofs.Search.{all_from_all, all_allFrom}
use Rattle.timeline.specs.Events.{events}
use Rattle.timeline.proofs.Steady.{NoneBetween, ChangesAt}
use Rattle.timeline.proofs.Spans.{span_back, span_on}
use Rattle.free_table.specs.Figures.{kept}
use Rattle.free_table.specs.Looking.{enough_span}
use Rattle.free_table.proofs.SpanCheck.{kept_changes, enough_span_kept}
use Rattle.choice.specs.Carrying.{suffices, carries}

module _ (figure : ℕ → ℕ → ℕ) (bandwidth duration : ℕ) where
  abbrev fits : ℕ → ℕ → Bool
  fits l k = suffices bandwidth (figure l k)

  -- a link that carries the span from m carries the one from an earlier k, if none of the times lies between
  carries_back : (ts : List ℕ) (l : ℕ) → ChangesAt ts (figure l) → (k m : ℕ) → k ≤ m → NoneBetween ts k m
      → carries figure bandwidth duration m l ≡ true → carries figure bandwidth duration k l ≡ true
  carries_back ts l s k m h q e =
      all_allFrom (fits l) k duration
      (λ j a b. (at_most bandwidth (figure l j)).1 (span_back (figure l) (λ x. bandwidth ≤ x) ts s k m duration h q (λ i a b. (at_most bandwidth (figure l i)).0 (all_from_all (fits l) m duration e i a b)) j a b))

  -- and the one from a later k, if none of the times lies between the last minutes of the two
  carries_on : (ts : List ℕ) (l : ℕ) → ChangesAt ts (figure l) → (m k : ℕ) → m ≤ k → 0 < duration → NoneBetween ts (m + duration - 1) (k + duration - 1)
      → carries figure bandwidth duration m l ≡ true → carries figure bandwidth duration k l ≡ true
  carries_on ts l s m k h some q e =
      all_allFrom (fits l) k duration
      (λ j a b. (at_most bandwidth (figure l j)).1 (span_on (figure l) (λ x. bandwidth ≤ x) ts s m k duration h some q (λ i a b. (at_most bandwidth (figure l i)).0 (all_from_all (fits l) m duration e i a b)) j a b))

-- the same of the figures that lent tables keep; and a place of the event table has its event, zero behind the last one
module _ (c : ℕ) (ts es t : List ℕ) (shown : es ≡ padded (length es) (events c ts)) (bandwidth duration : ℕ) where
  kept_steady : (l : ℕ) → ChangesAt ts (kept es t l)
  kept_steady l = subst (λ x. ChangesAt ts (kept x t l)) (sym shown) (kept_changes (length es) c ts t l)

  pub kept_back : (k m l : ℕ) → k ≤ m → NoneBetween ts k m → carries (kept es t) bandwidth duration m l ≡ true → carries (kept es t) bandwidth duration k l ≡ true
  kept_back k m l = carries_back (kept es t) bandwidth duration ts l (kept_steady l) k m

  pub kept_on : (m k l : ℕ) → m ≤ k → 0 < duration → NoneBetween ts (m + duration - 1) (k + duration - 1)
      → carries (kept es t) bandwidth duration m l ≡ true → carries (kept es t) bandwidth duration k l ≡ true
  kept_on m k l = carries_on (kept es t) bandwidth duration ts l (kept_steady l) m k

  pub event_at : (i : ℕ) → get_or es i 0 ≡ get_or (events c ts) i 0
  event_at i = ap (λ x. get_or x i 0) shown ∙ padded_get 0 (length es) (events c ts) i

-- a link has enough of the bandwidth throughout the minutes of a span if and only if it carries it
pub enough_carries : (c : ℕ) (ts es t : List ℕ) → es ≡ padded (length es) (events c ts) → (l bandwidth start n : ℕ) → c ≤ start → 1 ≤ n
    → enough_span es start (start + n) l bandwidth t ≡ carries (kept es t) bandwidth n start l
enough_carries c ts es t shown l bandwidth start n h some =
    let whole : start + n - start ≡ n = omega arith in
    subst (λ x. enough_span x start (start + n) l bandwidth t ≡ carries (kept x t) bandwidth n start l) (sym shown)
    (enough_span_kept (length es) c ts t l bandwidth start (start + n) h (omega arith)
    ∙ ap (λ k. all_from start k (λ j. leb bandwidth (kept (padded (length es) (events c ts)) t l j))) whole)

-- The part of a list that rises from its first on: as far as a loop has gone, and that it is used events.
use mathlib.Core.Path.{◌≡◌, refl, sym, ap, ◌∙◌, subst}
use mathlib.Core.List.{List, [], ◌∷◌, ◌++◌, append-nil}
use mathlib.Core.Bool.{true, false}
use Prim.Native.Nat.{ℕ, zero, suc, ◌+◌, ◌-◌, ◌≤◌, ◌<◌}
use native.Mathlib.Omega.{arith}
use lib.ListN.{length, get_or, take, drop, replicate, drop_of_length-le}
use lib.Seq.{drop-cons}
use borrow.Author.Tests.{lt-ltb, le-ltb}
use Rattle.units.proofs.Tests.{Rising, Side, below, above, side}
use Rattle.units.specs.Lists.{padded}
use Rattle.timeline.specs.Events.{events, later}
use Rattle.timeline.specs.EventTable.{Used, rising_from, rising_part}
use Rattle.timeline.proofs.Events.{later_rises}
use Rattle.timeline.proofs.Halving.{rising_used}

-- one more that rises, or one that doesn't
module _ (c e : ℕ) (es : List ℕ) where
  from_more : c < e → rising_from c (e ∷ es) ≡ e ∷ rising_from e es
  unfolding rising_from
  from_more h = ap (λ b. elim b [ true ↦ e ∷ rising_from e es | false ↦ [] ]) (lt-ltb c e h)

  from_stop : e ≤ c → rising_from c (e ∷ es) ≡ []
  unfolding rising_from
  from_stop h = ap (λ b. elim b [ true ↦ e ∷ rising_from e es | false ↦ [] ]) (le-ltb c e h)

from_rises : (c : ℕ) (es : List ℕ) → Rising c (rising_from c es)
unfolding rising_from
from_rises c [] = tt
from_rises c (e ∷ es) = by (side c e) (from_rises e es)
  where
    by : Side c e → Rising e (rising_from e es) → Rising c (rising_from c (e ∷ es))
    by (below h) ih = subst (Rising c) (sym (from_more c e es h)) (h, ih)
    by (above h) ih = subst (Rising c) (sym (from_stop c e es h)) tt

pub part_used : (es : List ℕ) → 0 < length es → Used (rising_part es)
unfolding rising_part
part_used [] h = absurd (omega arith)
part_used (c ∷ es) h = rising_used c (rising_from c es) (from_rises c es)

-- zeros behind a rising list don't rise
zeros_stop : (c k : ℕ) → rising_from c (replicate k 0) ≡ []
unfolding rising_from
zeros_stop c zero = refl
zeros_stop c (suc k) = from_stop c 0 (replicate k 0) (omega arith)

from_rising : (c k : ℕ) (es : List ℕ) → Rising c es → rising_from c (es ++ replicate k 0) ≡ es
unfolding rising_from
from_rising c k [] r = zeros_stop c k
from_rising c k (e ∷ es) r = from_more c e (es ++ replicate k 0) r.0 ∙ ap (λ l. e ∷ l) (from_rising e k es r.1)

-- the part stands first, with the rest behind it
from_split : (c : ℕ) (es : List ℕ) → rising_from c es ++ drop (length (rising_from c es)) es ≡ es
unfolding rising_from
from_split c [] = refl
from_split c (e ∷ es) = by (side c e) (from_split e es)
  where
    by : Side c e → rising_from e es ++ drop (length (rising_from e es)) es ≡ es → rising_from c (e ∷ es) ++ drop (length (rising_from c (e ∷ es))) (e ∷ es) ≡ e ∷ es
    by (below h) ih = rw (from_more c e es h) (ap (λ l. e ∷ l) ih)
    by (above h) ih = rw (from_stop c e es h) refl

pub part_split : (es : List ℕ) → rising_part es ++ drop (length (rising_part es)) es ≡ es
unfolding rising_part
part_split [] = refl
part_split (c ∷ es) = ap (λ l. c ∷ l) (from_split c es)

pub part_first : (es : List ℕ) → get_or (rising_part es) 0 0 ≡ get_or es 0 0
unfolding rising_part
part_first [] = refl
part_first (c ∷ es) = refl

-- that of events with zeros behind them
pub part_events : (n c : ℕ) (ts : List ℕ) → rising_part (padded n (events c ts)) ≡ events c ts
unfolding rising_part
part_events n c ts = ap (λ l. c ∷ l) (from_rising c (n - length (events c ts)) (later c ts) (later_rises c ts))

-- ---- the loop, behind the first `rows`
pub record Risen (es : List ℕ) (rows : ℕ) : Type 0 where
  pub some : 0 < rows
  pub fits : rows ≤ length es
  pub so_far : rising_part es ≡ take rows es ++ rising_from (get_or es (rows - 1) 0) (drop rows es)

pub risen_first : (es : List ℕ) → 0 < length es → Risen es 1
unfolding rising_part
risen_first [] h = absurd (omega arith)
risen_first (c ∷ es) h = record { some = omega arith; fits = omega arith; so_far = refl }

take_next : (es : List ℕ) (i : ℕ) (tail : List ℕ) → i < length es → take (suc i) es ++ tail ≡ take i es ++ (get_or es i 0 ∷ tail)
take_next [] i tail h = absurd (omega arith)
take_next (e ∷ es) zero tail h = refl
take_next (e ∷ es) (suc i) tail h = ap (λ l. e ∷ l) (take_next es i tail (omega arith))

module _ (es : List ℕ) (rows : ℕ) (r : Risen es rows) where
  pub risen_next : rows < length es → get_or es (rows - 1) 0 < get_or es rows 0 → Risen es (rows + 1)
  risen_next h rises =
      let next : rows + 1 ≡ suc rows = omega arith in
      let back : suc rows - 1 ≡ rows = omega arith in
      rw next (record {
        some = omega arith;
        fits = omega arith;
        so_far = r.so_far ∙ ap (λ l. take rows es ++ rising_from (get_or es (rows - 1) 0) l) (drop-cons es rows 0 h) ∙ ap (λ l. take rows es ++ l) (from_more (get_or es (rows - 1) 0) (get_or es rows 0) (drop (suc rows) es) rises) ∙ sym (take_next es rows (rising_from (get_or es rows 0) (drop (suc rows) es)) h) ∙ ap (λ k. take (suc rows) es ++ rising_from (get_or es k 0) (drop (suc rows) es)) (sym back);
      })

  -- nothing rises further
  pub risen_end : length es ≤ rows → take rows es ≡ rising_part es
  unfolding rising_from
  risen_end h = sym (r.so_far ∙ ap (λ l. take rows es ++ rising_from (get_or es (rows - 1) 0) l) (drop_of_length-le es h) ∙ append-nil (take rows es))

  pub risen_stop : rows < length es → get_or es rows 0 ≤ get_or es (rows - 1) 0 → take rows es ≡ rising_part es
  risen_stop h stops =
      sym (r.so_far ∙ ap (λ l. take rows es ++ rising_from (get_or es (rows - 1) 0) l) (drop-cons es rows 0 h) ∙ ap (λ l. take rows es ++ l) (from_stop (get_or es (rows - 1) 0) (get_or es rows 0) (drop (suc rows) es) stops) ∙ append-nil (take rows es))

-- A list of the first n numbers, and the bookings of the first n places: sums and times.
use mathlib.Core.Path.{◌≡◌, refl, sym, ap, ap₂, ◌∙◌}
use mathlib.Core.Logic.{◌⊎◌, inl, inr, ⊎_elim}
use mathlib.Core.List.Memᴰ
use mathlib.Core.List.{List, map, flatten, Memᴰ}
use Prim.Native.Nat.{ℕ, zero, suc, ◌+◌, ◌-◌, ◌≤◌, ◌<◌}
use native.Mathlib.Decide.{ℕ_discrete}
use native.Mathlib.Omega.{arith}
use lib.Dec.{ltb}
use borrow.Author.Tests.{lt-ltb, le-ltb}
use Rattle.units.specs.declared.Head.{Head}
use Rattle.units.specs.Lists.{if_so, sum, count_from}
use Rattle.rules.specs.Plain.{Plain, until, times, uses, taken}
use Rattle.rules.specs.Tables.{booking_at, held_by}
use Rattle.rules.proofs.Uses.{all_times}
use Rattle.row_changes.specs.Changes.{sum_below}
use Rattle.row_changes.proofs.Sums.{sum_same}

-- ---- sums

sum_first : (n : ℕ) (f : ℕ → ℕ) → sum_below (suc n) f ≡ f 0 + sum_below n (λ i. f (suc i))
unfolding sum_below
sum_first zero f = refl
sum_first (suc n) f = let rest = sum_first n f in omega arith

sum_from : {A : Type 0} (g : A → ℕ) (h : ℕ → A) (i n : ℕ) → sum (map g (map h (count_from i n))) ≡ sum_below n (λ j. g (h (i + j)))
unfolding sum count_from sum_below
sum_from g h i zero = refl
sum_from g h i (suc n) =
    let here : i + 0 ≡ i = omega arith in
    let rest = sum_from g h (suc i) n in
    let same = sum_same n (λ j. g (h (suc i + j))) (λ j. g (h (i + suc j))) (λ j k. (let e : suc i + j ≡ i + suc j = omega arith in ap (λ x. g (h x)) e)) in
    omega (arith, sum_first n (λ j. g (h (i + j))), ap (λ x. g (h x)) here)

-- up to a larger number, where the others don't count
sum_up : (n k : ℕ) (f : ℕ → ℕ) → sum_below (k + n) (λ i. if_so (ltb i n) (f i)) ≡ sum_below n f
unfolding sum_below
sum_up n zero f =
    let none : 0 + n ≡ n = omega arith in
    ap (λ m. sum_below m (λ i. if_so (ltb i n) (f i))) none ∙ sum_same n (λ i. if_so (ltb i n) (f i)) f (λ i h. ap (λ b. if_so b (f i)) (lt-ltb i n h))
sum_up n (suc k) f =
    let next : suc k + n ≡ suc (k + n) = omega arith in
    ap (λ m. sum_below m (λ i. if_so (ltb i n) (f i))) next
    ∙ ap₂ ◌+◌ (ap (λ b. if_so b (f (k + n))) (le-ltb (k + n) n (omega arith))) (sum_up n k f) ∙ omega arith

-- what the bookings of a book take together of link l in minute m
pub taken_counted : (head : Head) (book : List ℕ) (k l m : ℕ) → head.bookings ≤ k
    → taken (held_by head book) l m ≡ sum_below k (λ i. if_so (ltb i head.bookings) (uses (held_by head book) (booking_at book i) l m))
taken_counted head book k l m h =
    let n = head.bookings in
    let f : ℕ → ℕ = λ i. uses (held_by head book) (booking_at book i) l m in
    let up : (k - n) + n ≡ k = omega arith in
    sum_from (λ b. uses (held_by head book) b l m) (booking_at book) 0 n
    ∙ sum_same n (λ j. f (0 + j)) f (λ j q. (let z : 0 + j ≡ j = omega arith in ap f z))
    ∙ sym (sum_up n (k - n) f)
    ∙ ap (λ m. sum_below m (λ i. if_so (ltb i n) (f i))) up

-- ---- times

-- a time of the booking of one of the n places from i on
pub record TimeOf (p : Plain) (book : List ℕ) (i n x : ℕ) : Type 0 where
  pub place : ℕ
  pub from : i ≤ place
  pub before : place < i + n
  pub is : (x ≡ (booking_at book place).grant.start) ⊎ (x ≡ until p (booking_at book place))

module _ (p : Plain) (book : List ℕ) where
  times_from : ℕ → ℕ → List ℕ
  times_from i n = flatten (map (times p) (map (booking_at book) (count_from i n)))

  time_found : (i n x : ℕ) → Memᴰ x (times_from i n) → TimeOf p book i n x
  unfolding times_from count_from flatten
  time_found i zero x m = absurd (Memᴰ.not-nil m)
  time_found i (suc n) x m =
      ⊎_elim
      (λ e. record { place = i; from = omega arith; before = omega arith; is = inl e })
      (λ q. ⊎_elim
      (λ e. record { place = i; from = omega arith; before = omega arith; is = inr e })
      (λ r. (let t = time_found (suc i) n x r in record { place = t.place; from = omega (arith, t.from); before = omega (arith, t.before); is = t.is }))
      (Memᴰ.cases_cons q))
      (Memᴰ.cases_cons m)

  time_there : (i n x : ℕ) → TimeOf p book i n x → Memᴰ x (times_from i n)
  unfolding times_from count_from flatten
  time_there i zero x t = absurd (omega (arith, t.from, t.before))
  time_there i (suc n) x t =
      elim (ℕ_discrete t.place i) [
        | yes e ↦
            ⊎_elim
            (λ s. Memᴰ.head (s ∙ ap (λ k. (booking_at book k).grant.start) e))
            (λ u. Memᴰ.tail (Memᴰ.head (u ∙ ap (λ k. until p (booking_at book k)) e)))
            t.is
        | no d ↦ Memᴰ.tail (Memᴰ.tail (time_there (suc i) n x (record { place = t.place; from = omega (arith, t.from, d); before = omega (arith, t.before); is = t.is })))
      ]

module _ (head : Head) (book : List ℕ) (x : ℕ) where
  pub time_of : Memᴰ x (all_times (held_by head book)) → TimeOf (held_by head book) book 0 head.bookings x
  unfolding times_from
  time_of m = time_found (held_by head book) book 0 head.bookings x m

  pub time_in : TimeOf (held_by head book) book 0 head.bookings x → Memᴰ x (all_times (held_by head book))
  unfolding times_from
  time_in t = time_there (held_by head book) book 0 head.bookings x t

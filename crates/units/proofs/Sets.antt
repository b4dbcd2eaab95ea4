-- Sets of numbers as bits: which numbers a union, a difference, one number alone and the rest without the lowest have.
use mathlib.Core.Path.{◌≡◌, refl, sym, ◌∙◌, ap, ap₂}
use mathlib.Core.Logic.{◌≢◌}
use mathlib.Core.Bool.{Bool, true, false, not, ◌&&◌, ◌||◌, and-eq-true_iff}
use Prim.Native.Nat.{ℕ, zero, suc, ◌-◌, ◌*◌, ◌/◌, ◌%◌, ◌^◌, ◌≤◌, ◌<◌, min, max}
use native.Mathlib.Nat.{le_refl}
use native.Mathlib.Decide.{ℕ_discrete, dec_lt}
use native.Mathlib.Omega.{arith}
use lib.Dec.{eqb, ltb}
use borrow.Author.Tests.{lt-ltb, le-ltb, ltb-true, eqb-true, eq-eqb, ne_eqb}
use mir.Val.{bits}
use Rattle.std.specs.Int.{Width, bit_at, bit_not, trailing_zeros}
use Rattle.std.specs.Int.Bits.{bit_and, bit_or}
use Rattle.std.proofs.lemmas.Nat.{one_shl}
use Rattle.std.proofs.lemmas.Nat.Bits.{bit_at-zero, bit_at-suc, bit_at_lowest, bit_at-lt, bit_at_and, bit_at_or, bit_at_not, bit_at-pow_same, bit_at-pow_other, bit_at_above, bit_at-trailing_zeros, same_from_bits}
use Rattle.units.specs.Sets.{has}
use Rattle.units.specs.Search.{any_below}
use Rattle.units.proofs.Search.{clash, not_true, any_below_some, some_anyBelow}
use Rattle.units.proofs.Tests.{same_test, or_elim, left_or, right_or}

-- a number is in the set, or its bit is 0
pub has_bit : (set i : ℕ) → has set i ≡ true → bit_at set i ≡ 1
has_bit set i h = eqb-true (bit_at set i) 1 h

pub has_no_bit : (set i : ℕ) → has set i ≡ false → bit_at set i ≡ 0
has_no_bit set i h = elim (ℕ_discrete (bit_at set i) 1) [ yes e ↦ clash (eq-eqb (bit_at set i) 1 e) h | no d ↦ omega (arith, bit_at-lt set i) ]

bit_has : (set i : ℕ) → bit_at set i ≡ 1 → has set i ≡ true
bit_has set i e = eq-eqb (bit_at set i) 1 e

no_bit_has_not : (set i : ℕ) → bit_at set i ≡ 0 → has set i ≡ false
no_bit_has_not set i e = ne_eqb (bit_at set i) 1 (λ q. omega arith)

module _ (x y : ℕ) (low_x : x < 2) (low_y : y < 2) where
  test_min : eqb (min x y) 1 ≡ (eqb x 1 && eqb y 1)
  test_min =
      elim (ℕ_discrete x 1) [
        | no d ↦ ne_eqb (min x y) 1 (λ e. omega arith) ∙ sym (ap (λ t. t && eqb y 1) (ne_eqb x 1 d))
        | yes e ↦ ap (λ z. eqb z 1) (let s : min x y ≡ y = omega arith in s) ∙ sym (ap (λ t. t && eqb y 1) (eq-eqb x 1 e))
      ]

  test_max : eqb (max x y) 1 ≡ (eqb x 1 || eqb y 1)
  test_max =
      elim (ℕ_discrete x 1) [
        | yes e ↦ eq-eqb (max x y) 1 (omega arith) ∙ sym (ap (λ t. t || eqb y 1) (eq-eqb x 1 e))
        | no d ↦ ap (λ z. eqb z 1) (let s : max x y ≡ y = omega arith in s) ∙ sym (ap (λ t. t || eqb y 1) (ne_eqb x 1 d))
      ]

test_less : (x : ℕ) → x < 2 → eqb (1 - x) 1 ≡ not (eqb x 1)
test_less x h =
    elim (ℕ_discrete x 1) [
      | yes e ↦ ne_eqb (1 - x) 1 (λ q. omega arith) ∙ sym (ap not (eq-eqb x 1 e))
      | no d ↦ eq-eqb (1 - x) 1 (omega arith) ∙ sym (ap not (ne_eqb x 1 d))
    ]

-- what is in both, and in one of two
pub has_and : (a b i : ℕ) → has (bit_and a b) i ≡ (has a i && has b i)
has_and a b i = ap (λ x. eqb x 1) (bit_at_and a b i) ∙ test_min (bit_at a i) (bit_at b i) (bit_at-lt a i) (bit_at-lt b i)

pub has_or : (a b i : ℕ) → has (bit_or a b) i ≡ (has a i || has b i)
has_or a b i = ap (λ x. eqb x 1) (bit_at_or a b i) ∙ test_max (bit_at a i) (bit_at b i) (bit_at-lt a i) (bit_at-lt b i)

-- nothing is in the empty set, and a set that has nothing is empty
pub has_none : (i : ℕ) → has 0 i ≡ false
has_none i = no_bit_has_not 0 i (bit_at-zero i)

pub none_empty : (set : ℕ) → ((i : ℕ) → has set i ≡ false) → set ≡ 0
none_empty set h = same_from_bits set 0 (λ i. has_no_bit set i (h i) ∙ sym (bit_at-zero i))

-- two sets that have the same numbers
pub same_set : (a b : ℕ) → ((i : ℕ) → has a i ≡ has b i) → a ≡ b
same_set a b h = same_from_bits a b (λ i. by i (has b i) refl)
  where
    by : (i : ℕ) (t : Bool) → has b i ≡ t → bit_at a i ≡ bit_at b i
    by i true e = has_bit a i (h i ∙ e) ∙ sym (has_bit b i e)
    by i false e = has_no_bit a i (h i ∙ e) ∙ sym (has_no_bit b i e)

-- two sets with nothing in common, and one that lies in the other
pub none_common : (a b i : ℕ) → bit_and a b ≡ 0 → has a i ≡ true → has b i ≡ false
none_common a b i e h = not_true (has b i) (λ t. clash (has_and a b i ∙ (and-eq-true_iff (has a i) (has b i)).1 (h, t)) (ap (λ s. has s i) e ∙ has_none i))

pub all_common : (a b i : ℕ) → bit_and a b ≡ b → has b i ≡ true → has a i ≡ true
all_common a b i e h = ((and-eq-true_iff (has a i) (has b i)).0 (sym (has_and a b i) ∙ ap (λ s. has s i) e ∙ h)).0

-- a number alone, unbounded
pub has_power : (k i : ℕ) → has (2 ^ k) i ≡ eqb i k
has_power k i =
    elim (ℕ_discrete i k) [
      | yes e ↦ bit_has (2 ^ k) i (ap (bit_at (2 ^ k)) e ∙ bit_at-pow_same k) ∙ sym (eq-eqb i k e)
      | no d ↦ no_bit_has_not (2 ^ k) i (bit_at-pow_other k i d) ∙ sym (ne_eqb i k d)
    ]

-- the lowest number t of a set
pub record Lowest (set t : ℕ) : Type 0 where
  pub in_set : has set t ≡ true
  pub before : (i : ℕ) → i < t → has set i ≡ false

-- without it
lowest_off : (t set : ℕ) → bit_at set t ≡ 1 → ((i : ℕ) → i < t → bit_at set i ≡ 0) → (i : ℕ) → i ≢ t → min (bit_at set i) (bit_at (set - 1) i) ≡ bit_at set i
lowest_off zero set h low zero apart = absurd (apart refl)
lowest_off zero set h low (suc i) apart =
    let odd : set % 2 ≡ 1 = sym (bit_at_lowest set) ∙ h in
    let half : (set - 1) / 2 ≡ set / 2 = omega arith in
    let same : bit_at (set - 1) (suc i) ≡ bit_at set (suc i) = bit_at-suc (set - 1) i ∙ ap (λ x. bit_at x i) half ∙ sym (bit_at-suc set i) in
    omega arith
lowest_off (suc t) set h low zero apart = let z = low 0 (omega arith) in omega arith
lowest_off (suc t) set h low (suc i) apart =
    let even : set % 2 ≡ 0 = sym (bit_at_lowest set) ∙ low 0 (omega arith) in
    let top : bit_at (set / 2) t ≡ 1 = sym (bit_at-suc set t) ∙ h in
    let some : 0 < set / 2 = elim (ℕ_discrete (set / 2) 0) [ yes e ↦ (let z : bit_at (set / 2) t ≡ 0 = ap (λ x. bit_at x t) e ∙ bit_at-zero t in absurd (omega arith)) | no d ↦ omega arith ] in
    let half : (set - 1) / 2 ≡ set / 2 - 1 = omega arith in
    let rest = lowest_off t (set / 2) top (λ j a. sym (bit_at-suc set j) ∙ low (suc j) (omega arith)) i (λ e. apart (ap suc e)) in
    let here : bit_at set (suc i) ≡ bit_at (set / 2) i = bit_at-suc set i in
    let less : bit_at (set - 1) (suc i) ≡ bit_at (set / 2 - 1) i = bit_at-suc (set - 1) i ∙ ap (λ x. bit_at x i) half in
    omega arith

lowest_gone : (t set : ℕ) → bit_at set t ≡ 1 → ((i : ℕ) → i < t → bit_at set i ≡ 0) → bit_at (set - 1) t ≡ 0
lowest_gone zero set h low = let odd : set % 2 ≡ 1 = sym (bit_at_lowest set) ∙ h in let z = bit_at_lowest (set - 1) in omega arith
lowest_gone (suc t) set h low =
    let even : set % 2 ≡ 0 = sym (bit_at_lowest set) ∙ low 0 (omega arith) in
    let top : bit_at (set / 2) t ≡ 1 = sym (bit_at-suc set t) ∙ h in
    let some : 0 < set / 2 = elim (ℕ_discrete (set / 2) 0) [ yes e ↦ (let z : bit_at (set / 2) t ≡ 0 = ap (λ x. bit_at x t) e ∙ bit_at-zero t in absurd (omega arith)) | no d ↦ omega arith ] in
    let half : (set - 1) / 2 ≡ set / 2 - 1 = omega arith in
    bit_at-suc (set - 1) t ∙ ap (λ x. bit_at x t) half ∙ lowest_gone t (set / 2) top (λ j a. sym (bit_at-suc set j) ∙ low (suc j) (omega arith))

module _ (set t : ℕ) (lowest : Lowest set t) where
  bit_low : (i : ℕ) → i < t → bit_at set i ≡ 0
  bit_low i h = has_no_bit set i (lowest.before i h)

  -- `set & (set - 1)` is the rest without the lowest
  pub has_rest : (i : ℕ) → has (bit_and set (set - 1)) i ≡ (has set i && not (eqb i t))
  has_rest i =
      elim (ℕ_discrete i t) [
        | yes e ↦ no_bit_has_not (bit_and set (set - 1)) i (bit_at_and set (set - 1) i ∙ (let z : bit_at (set - 1) i ≡ 0 = ap (bit_at (set - 1)) e ∙ lowest_gone t set (has_bit set t lowest.in_set) bit_low in omega arith))
            ∙ sym (ap (λ b. has set i && not b) (eq-eqb i t e) ∙ none (has set i))
        | no d ↦ ap (λ x. eqb x 1) (bit_at_and set (set - 1) i ∙ lowest_off t set (has_bit set t lowest.in_set) bit_low i d)
            ∙ sym (ap (λ b. has set i && not b) (ne_eqb i t d) ∙ all (has set i))
      ]
    where
      none : (b : Bool) → (b && false) ≡ false
      none true = refl
      none false = refl

      all : (b : Bool) → (b && true) ≡ b
      all true = refl
      all false = refl

module _ (w : Width) where
  -- `1 << k`: a number alone
  pub has_one : (k i : ℕ) → k < bits w → has (1 * 2 ^ k % 2 ^ bits w) i ≡ eqb i k
  has_one k i h = ap (λ s. has s i) (one_shl k (bits w) h) ∙ has_power k i

  -- the numbers below the width that are not in the set
  pub has_not : (set i : ℕ) → set < 2 ^ bits w → i < bits w → has (bit_not w set) i ≡ not (has set i)
  has_not set i fits h = ap (λ x. eqb x 1) (bit_at_not w set i fits h) ∙ test_less (bit_at set i) (bit_at-lt set i)

  -- a set has no number from the width on
  pub has_below : (set i : ℕ) → set < 2 ^ bits w → has set i ≡ true → i < bits w
  has_below set i fits h =
      elim (dec_lt i (bits w)) [ yes c ↦ c | no c ↦ clash h (no_bit_has_not set i (bit_at_above set (bits w) i fits (omega arith))) ]

  -- `trailing_zeros` is the lowest number of a set that is not empty
  pub lowest_is : (set : ℕ) → 0 < set → set < 2 ^ bits w → (trailing_zeros w set < bits w) × Lowest set (trailing_zeros w set)
  lowest_is set some fits =
      let z = bit_at-trailing_zeros w set some fits in
      (z.0, record { in_set = bit_has set (trailing_zeros w set) z.1; before = λ i h. no_bit_has_not set i (z.2 i h) })

-- a set has a number exactly where it is not empty
some_bit : (most set : ℕ) → set ≤ most → 0 < set → (i : ℕ) × (bit_at set i ≡ 1)
some_bit zero set h some = absurd (omega arith)
some_bit (suc most) set h some =
    elim (ℕ_discrete (set % 2) 1) [
      | yes e ↦ (0, bit_at_lowest set ∙ e)
      | no d ↦ let r = some_bit most (set / 2) (omega arith) (omega arith) in (suc r.0, bit_at-suc set r.0 ∙ r.1)
    ]

pub some_has : (set : ℕ) → 0 < set → (i : ℕ) × (has set i ≡ true)
some_has set some = let r = some_bit set set (le_refl set) some in (r.0, bit_has set r.0 r.1)

pub has_some : (set i : ℕ) → has set i ≡ true → 0 < set
has_some set i h = elim (ℕ_discrete set 0) [ yes e ↦ clash (ap (λ s. has s i) (sym e) ∙ h) (has_none i) | no d ↦ omega arith ]

-- ---- whether some number of a set passes a test, asked of the lowest and then of the rest

module _ (test : ℕ → Bool) where
  pub none_left : (n : ℕ) → any_below n (λ i. has 0 i && test i) ≡ false
  none_left n =
      not_true (any_below n (λ i. has 0 i && test i))
      (λ t. let s = any_below_some (λ i. has 0 i && test i) n t in clash ((and-eq-true_iff (has 0 s.0) (test s.0)).0 s.2).0 (has_none s.0))

  pub lowest_left : (n set t : ℕ) → Lowest set t → t < n → any_below n (λ i. has set i && test i) ≡ (test t || any_below n (λ i. has (bit_and set (set - 1)) i && test i))
  lowest_left n set t lowest h = same_test _ _ there back
    where
      rest : ℕ → Bool
      rest i = has (bit_and set (set - 1)) i && test i

      all : ℕ → Bool
      all i = has set i && test i

      there : any_below n all ≡ true → (test t || any_below n rest) ≡ true
      there e =
          let s = any_below_some all n e in
          let o = (and-eq-true_iff (has set s.0) (test s.0)).0 s.2 in
          elim (ℕ_discrete s.0 t) [
            | yes q ↦ left_or (test t) (any_below n rest) (ap test (sym q) ∙ o.1)
            | no d ↦ right_or (test t) (any_below n rest)
                (some_anyBelow rest n s.0 s.1 ((and-eq-true_iff (has (bit_and set (set - 1)) s.0) (test s.0)).1 (has_rest set t lowest s.0 ∙ (and-eq-true_iff (has set s.0) (not (eqb s.0 t))).1 (o.0, ap not (ne_eqb s.0 t d)), o.1)))
          ]

      back : (test t || any_below n rest) ≡ true → any_below n all ≡ true
      back e =
          or_elim (test t) (any_below n rest) e (λ q. some_anyBelow all n t h ((and-eq-true_iff (has set t) (test t)).1 (lowest.in_set, q)))
          (λ q.
          let s = any_below_some rest n q in
          let o = (and-eq-true_iff (has (bit_and set (set - 1)) s.0) (test s.0)).0 s.2 in
          let w = (and-eq-true_iff (has set s.0) (not (eqb s.0 t))).0 (sym (has_rest set t lowest s.0) ∙ o.0) in
          some_anyBelow all n s.0 s.1 ((and-eq-true_iff (has set s.0) (test s.0)).1 (w.0, o.1)))

-- ---- a set that is made in turn: it has the numbers below n that pass a test

module _ (test : ℕ → Bool) (set n : ℕ) (below : (k : ℕ) → has set k ≡ (ltb k n && test k)) where
  one_more : (k : ℕ) → k ≢ n → ltb k n ≡ ltb k (suc n)
  one_more k d =
      same_test (ltb k n) (ltb k (suc n)) (λ e. let z = ltb-true k n e in lt-ltb k (suc n) (omega arith)) (λ e. let z = ltb-true k (suc n) e in lt-ltb k n (omega arith))

  -- the next number passes: it is put in
  pub has_next : (w : Width) → n < bits w → test n ≡ true → (k : ℕ) → has (bit_or set (1 * 2 ^ n % 2 ^ bits w)) k ≡ (ltb k (suc n) && test k)
  has_next w fits passes k =
      has_or set (1 * 2 ^ n % 2 ^ bits w) k
      ∙ ap₂ ◌||◌ (below k) (has_one w n k fits)
      ∙ elim (ℕ_discrete k n) [
        | yes e ↦ right_or (ltb k n && test k) (eqb k n) (eq-eqb k n e) ∙ sym ((and-eq-true_iff (ltb k (suc n)) (test k)).1 (lt-ltb k (suc n) (omega arith), ap test e ∙ passes))
        | no d ↦ ap (λ b. (ltb k n && test k) || b) (ne_eqb k n d) ∙ or_false (ltb k n && test k) ∙ ap (λ b. b && test k) (one_more k d)
      ]
    where
      or_false : (b : Bool) → (b || false) ≡ b
      or_false true = refl
      or_false false = refl

  -- it does not: the set stays
  pub has_same : test n ≡ false → (k : ℕ) → has set k ≡ (ltb k (suc n) && test k)
  has_same fails k =
      below k
      ∙ elim (ℕ_discrete k n) [
        | yes e ↦ ap₂ ◌&&◌ (le-ltb k n (omega arith)) (ap test e ∙ fails) ∙ sym (ap (λ b. ltb k (suc n) && b) (ap test e ∙ fails) ∙ and_false (ltb k (suc n)))
        | no d ↦ ap (λ b. b && test k) (one_more k d)
      ]
    where
      and_false : (b : Bool) → (b && false) ≡ false
      and_false true = refl
      and_false false = refl

-- What decimal numbers are: the tens and then the last digit; digits alone, no leading zero, and the number can be read back.
use mathlib.Core.Path.{◌≡◌, refl, sym, ap, ◌∙◌, subst}
use mathlib.Core.List.{List, [], ◌∷◌, ◌++◌}
use Prim.Native.Nat.{ℕ, max, zero, suc, ◌+◌, ◌-◌, ◌*◌, ◌/◌, ◌%◌, ◌^◌, ◌≤◌, ◌<◌}
use native.Mathlib.Nat.{pow-succ'}
use native.Mathlib.Decide.{dec_lt}
use native.Mathlib.Omega.{arith}
use lib.ListN.{length, get_or, length-append, get_or-append}
use borrow.Author.Tests.{lt-ltb, le-ltb}
use Rattle.std.specs.Fmt as fmt
use Rattle.std.proofs.lemmas.Fmt.{decimal_from_appends, length-decimal-le_succ}
use Rattle.units.specs.Lists.{Within, All}
use Rattle.report.specs.Decimal.{digit, digits, decimal, read_behind, read_decimal}

digits_short : (m n : ℕ) → n < 10 → digits (suc m) n ≡ digit n ∷ []
unfolding digits
digits_short m n h = rw (lt-ltb n 10 h, digits)

digits_long : (m n : ℕ) → 10 ≤ n → digits (suc m) n ≡ digits m (n / 10) ++ (digit (n % 10) ∷ [])
unfolding digits
digits_long m n h = rw (le-ltb n 10 h, digits)

-- a number below ten, and one that is not
digit_or_more : {P : Type 0} (n : ℕ) → (n < 10 → P) → (10 ≤ n → P) → P
digit_or_more n short long = elim (dec_lt n 10) [ yes h ↦ short h | no h ↦ long (omega arith) ]

-- any bound above the number gives the same digits
same_digits : (k m n : ℕ) → n < k → n < m → digits k n ≡ digits m n
same_digits zero m n h i = absurd (omega arith)
same_digits (suc k) zero n h i = absurd (omega arith)
same_digits (suc k) (suc m) n h i =
    digit_or_more n (λ s. digits_short k n s ∙ sym (digits_short m n s))
    (λ l. digits_long k n l ∙ ap (λ (ds : List ℕ). ds ++ (digit (n % 10) ∷ [])) (same_digits k m (n / 10) (omega arith) (omega arith)) ∙ sym (digits_long m n l))

pub short : (n : ℕ) → n < 10 → decimal n ≡ digit n ∷ []
unfolding decimal
short n h = digits_short n n h

pub long : (n : ℕ) → 10 ≤ n → decimal n ≡ decimal (n / 10) ++ (digit (n % 10) ∷ [])
unfolding decimal
long n h = digits_long n n h ∙ ap (λ (ds : List ℕ). ds ++ (digit (n % 10) ∷ [])) (same_digits n (suc (n / 10)) (n / 10) (omega arith) (omega arith))

-- what holds of one digit, and with a last digit more, holds of every number
by_digits : (P : ℕ → List ℕ → Type 0) → ((n : ℕ) → n < 10 → P n (digit n ∷ []))
    → ((n : ℕ) (ds : List ℕ) → 10 ≤ n → P (n / 10) ds → P n (ds ++ (digit (n % 10) ∷ []))) → (k n : ℕ) → n < k → P n (decimal n)
by_digits P first next zero n h = absurd (omega arith)
by_digits P first next (suc k) n h =
    digit_or_more n (λ s. subst (P n) (sym (short n s)) (first n s))
    (λ l. subst (P n) (sym (long n l)) (next n (decimal (n / 10)) l (by_digits P first next k (n / 10) (omega arith))))

-- reading the digits back gives the number
read_last : (n : ℕ) (ds : List ℕ) (d : ℕ) → read_behind n (ds ++ (digit d ∷ [])) ≡ read_behind n ds * 10 + d
unfolding read_behind
read_last n [] d = omega arith
read_last n (b ∷ bs) d = read_last (n * 10 + (b - 48)) bs d

pub read_back : (n : ℕ) → read_decimal (decimal n) ≡ n
unfolding read_behind
read_back n = by_digits (λ n ds. read_decimal ds ≡ n) (λ n h. omega arith) (λ n ds h e. rw (read_last 0 ds (n % 10), e) (omega arith)) (suc n) n (omega arith)

-- every byte is a digit
last_digit : (ds : List ℕ) (d : ℕ) → d < 10 → All (Within 48 57) ds → All (Within 48 57) (ds ++ (digit d ∷ []))
last_digit [] d h a = ((omega arith, omega arith), tt)
last_digit (b ∷ bs) d h a = (a.0, last_digit bs d h a.1)

pub only_digits : (n : ℕ) → All (Within 48 57) (decimal n)
only_digits n =
    by_digits (λ n ds. All (Within 48 57) ds) (λ n h. ((omega arith, omega arith), tt)) (λ n ds h a. last_digit ds (n % 10) (omega arith) a) (suc n) n (omega arith)

-- zero is one digit, and the first digit of any other number is not zero
pub zero_is : decimal 0 ≡ 48 ∷ []
unfolding decimal digits
zero_is = refl

leads : (n : ℕ) → (0 < n → 48 < get_or (decimal n) 0 0) × (0 < length (decimal n))
leads n =
    by_digits (λ n ds. (0 < n → 48 < get_or ds 0 0) × (0 < length ds)) (λ n h. (λ i. omega arith, omega arith))
    (λ n ds h a. (λ i. rw (get_or-append ds (digit (n % 10) ∷ []) 0 0 a.1) (a.0 (omega arith)), rw length-append (omega arith))) (suc n) n (omega arith)

pub no_leading_zero : (n : ℕ) → 0 < n → 48 < get_or (decimal n) 0 0
no_leading_zero n = (leads n).0

-- of a number that fits 64 bits, std's text
pub as_printed : (n : ℕ) → n < 2 ^ 64 → fmt.decimal n ≡ decimal n
unfolding decimal
as_printed n h = sym (decimal_from_appends digits (record { one = digits_short; more = digits_long }) (suc n) n h (omega (arith, length-decimal-le_succ n h)))

-- how many digits a number has, by the powers of ten between which it lies; zero has one
pub digit_count : (n k : ℕ) → 10 ^ k ≤ max n 1 → max n 1 < 10 * 10 ^ k → length (decimal n) ≡ suc k
digit_count n = by_digits (λ n ds. (k : ℕ) → 10 ^ k ≤ max n 1 → max n 1 < 10 * 10 ^ k → length ds ≡ suc k) one more (suc n) n (omega arith)
  where
    one : (n : ℕ) → n < 10 → (k : ℕ) → 10 ^ k ≤ max n 1 → max n 1 < 10 * 10 ^ k → length (digit n ∷ []) ≡ suc k
    one n h zero low high = refl
    one n h (suc k) low high = absurd (omega (arith, pow-succ' 10 k, low, high))

    more : (n : ℕ) (ds : List ℕ) → 10 ≤ n → ((k : ℕ) → 10 ^ k ≤ max (n / 10) 1 → max (n / 10) 1 < 10 * 10 ^ k → length ds ≡ suc k) → (k : ℕ) → 10 ^ k ≤ max n 1 → max n 1 < 10 * 10 ^ k → length (ds ++ (digit (n % 10) ∷ [])) ≡ suc k
    more n ds h a zero low high = absurd (omega (arith, high))
    more n ds h a (suc k) low high = rw length-append (omega (arith, a k (omega (arith, low, pow-succ' 10 k)) (omega (arith, high, pow-succ' 10 k))))

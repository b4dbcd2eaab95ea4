-- The library's number of some bytes, the most significant first, and its bytes of a number are the layout's.
use mathlib.Core.Path.{◌≡◌, refl, sym, ◌∙◌, ap, ap₂}
use mathlib.Core.List.{List, [], ◌∷◌, ◌++◌}
use Prim.Native.Nat.{ℕ, zero, suc, ◌+◌, ◌-◌, ◌*◌, ◌/◌, ◌%◌, ◌^◌, ◌<◌, ◌≤◌}
use native.Mathlib.Nat.{add-mul, mul_assoc, add_assoc, zero-mul, zero-add, mul-one, add-zero, mul_comm, pow-suc, div-one}
use native.Mathlib.Omega.{arith}
use lib.ListN.{length, take, get_or, replicate, length-append}
use lib.Seq.{take-suc, take_all}
use lib.Pow.{pow-add}
use Rattle.std.specs.Array.{IsWholeChunk}
use Rattle.std.specs.Int.{byte_at, byte_worth, bytes_high_first, sum_through}
use Rattle.units.specs.Lists.{sum}
use Rattle.layout.specs.Layout.{big_endian, cut, spelled}
use Rattle.layout.proofs.Packing.{byte_powers}

append_number : (xs ys : List ℕ) → big_endian (xs ++ ys) ≡ big_endian xs * 256 ^ length ys + big_endian ys
unfolding big_endian
append_number [] ys = sym (rw (zero-mul, zero-add))
append_number (x ∷ xs) ys = rw (length-append xs ys, pow-add 256 (length xs) (length ys), append_number xs ys) (simp (add-mul, mul_assoc, add_assoc))

next_number : (s : List ℕ) (i : ℕ) → i < length s → big_endian (take (suc i) s) ≡ big_endian (take i s) * 256 + get_or s i 0
unfolding big_endian
next_number s i h = rw (take-suc s i 0, append_number) (simp (mul-one, add-zero))

worth : (i b : ℕ) → byte_worth i b ≡ b * 256 ^ i
worth zero b = sym (mul-one b)
worth (suc i) b = refl

-- the first j + 1 of m + 1 bytes, each with what it is worth among all of them
through : (s : List ℕ) (m j : ℕ) → j ≤ m → m < length s → sum_through (λ i. byte_worth (m - i) (get_or s i 0)) j ≡ big_endian (take (suc j) s) * 256 ^ (m - j)
unfolding big_endian
through s m zero h l =
    let first : big_endian (take 1 s) ≡ get_or s 0 0 = next_number s 0 (omega arith) ∙ simp (zero-mul, zero-add) in
    worth (m - 0) (get_or s 0 0) ∙ ap (λ x. x * 256 ^ (m - 0)) (sym first)
through s m (suc j) h l =
    let k : m - j ≡ suc (m - suc j) = omega arith in
    ap₂ (λ x y. x + y) (through s m j (omega arith) l ∙ ap (λ n. big_endian (take (suc j) s) * 256 ^ n) k) (worth (m - suc j) (get_or s (suc j) 0))
    ∙ joined (big_endian (take (suc j) s)) (get_or s (suc j) 0) (m - suc j)
    ∙ ap (λ x. x * 256 ^ (m - suc j)) (sym (next_number s (suc j) (omega arith)))
  where
    joined : (a b n : ℕ) → a * 256 ^ suc n + b * 256 ^ n ≡ (a * 256 + b) * 256 ^ n
    joined a b n = rw (pow-suc 256 n, mul_comm (256 ^ n) 256, add-mul, mul_assoc)

number_is : (s : List ℕ) (m : ℕ) → length s ≡ suc m → sum_through (λ i. byte_worth (m - i) (get_or s i 0)) m ≡ big_endian s
number_is s m e =
    let z : m - m ≡ 0 = omega arith in
    through s m m (omega arith) (omega arith) ∙ rw (z, mul-one) (ap big_endian (take_all (suc m) s (omega arith)))

-- the same of bytes that are one piece
pub piece_number : {bytes piece : List ℕ} (m : ℕ) → IsWholeChunk bytes piece (suc m) → sum_through (λ i. byte_worth (m - i) (get_or piece i 0)) m ≡ big_endian bytes
piece_number {bytes} {piece} m whole = number_is piece m (ap length whole.same ∙ whole.long) ∙ ap big_endian whole.same

byte_is : (k n : ℕ) → byte_at k n ≡ n / 2 ^ sum (replicate k 8) % 2 ^ 8
unfolding sum
byte_is zero n = ap (λ x. x % 256) (sym (div-one n))
byte_is (suc k) n = ap (λ x. n / x % 256) (byte_powers (suc k))

pub bytes_are : (count n : ℕ) → bytes_high_first count n ≡ spelled count n
unfolding cut
bytes_are zero n = refl
bytes_are (suc k) n = ap₂ (λ (x : ℕ) (xs : List ℕ). x ∷ xs) (byte_is k n) (bytes_are k n)

-- The law of fields, of any widths, in both directions: cutting gives back the fields that were packed, and packing the number that was
-- cut. Bytes are fields too, of 8 bits each, so that it serves the records and the bytes alike.
use mathlib.Core.Path.{◌≡◌, refl, sym, ◌∙◌, ap, ap₂}
use mathlib.Core.List.{List, [], ◌∷◌}
use mathlib.Core.Bool.{true, and-eq-true_iff}
use Prim.Native.Nat.{ℕ, zero, suc, ◌+◌, ◌*◌, ◌/◌, ◌%◌, ◌^◌, ◌<◌}
use native.Mathlib.Nat.{mod-one, mod-eq_of_lt, mod-lt, pow-suc, mul_comm}
use native.Mathlib.Omega.{arith}
use lib.Arith.{digits_lt}
use lib.Dec.{ltb}
use lib.ListN.{length, replicate, length-replicate}
use lib.Pow.{pow-add, pow_pos, high, low, field, mod-mod-pow, mod-pow-add}
use borrow.Author.Tests.{ltb-true, lt-ltb}
use Rattle.units.specs.Lists.{sum, All}
use Rattle.layout.specs.Layout.{big_endian, cut, pack, fits, spelled}

-- a field of the lower part of a number, from that part alone
pub lower : (hi lo j w k : ℕ) → lo < 2 ^ (j + (w + k)) → (hi * 2 ^ (j + (w + k)) + lo) / 2 ^ k % 2 ^ w ≡ lo / 2 ^ k % 2 ^ w
lower hi lo j w k h =
    sym (field (hi * 2 ^ (j + (w + k)) + lo) w k)
    ∙ ap (λ x. x / 2 ^ k) (sym (mod-mod-pow (hi * 2 ^ (j + (w + k)) + lo) j (w + k)) ∙ ap (λ x. x % 2 ^ (w + k)) (low hi (j + (w + k)) h))
    ∙ field lo w k

-- of fields that fit, the first and those behind it
pub first_fits : (w : ℕ) (ws : List ℕ) (f : ℕ) (fs : List ℕ) → fits (w ∷ ws) (f ∷ fs) ≡ true → (f < 2 ^ w) × (fits ws fs ≡ true)
unfolding fits
first_fits w ws f fs e = let h = (and-eq-true_iff (ltb f (2 ^ w)) (fits ws fs)).0 e in (ltb-true f (2 ^ w) h.0, h.1)

-- fields that fit make a number of so many bits
pub pack_below : (ws fs : List ℕ) → fits ws fs ≡ true → pack ws fs < 2 ^ sum ws
unfolding pack sum
pack_below [] fs e = omega arith
pack_below (w ∷ ws) [] e = pow_pos (w + sum ws)
pack_below (w ∷ ws) (f ∷ fs) e = let h = first_fits w ws f fs e in rw (pow-add 2 w (sum ws)) (digits_lt h.0 (pack_below ws fs h.1))

-- what stands above the fields changes none of them
above : (ws : List ℕ) (j k hi lo : ℕ) → k ≡ j + sum ws → lo < 2 ^ k → cut ws (hi * 2 ^ k + lo) ≡ cut ws lo
unfolding cut sum
above [] j k hi lo e h = refl
above (w ∷ ws) j k hi lo e h = ap₂ (λ (x : ℕ) (xs : List ℕ). x ∷ xs) (rw e (lower hi lo j w (sum ws) (rw e at h))) (above ws (j + w) k hi lo (omega arith) h)

-- read after write, for any widths
pub cut_pack : (ws fs : List ℕ) → length fs ≡ length ws → fits ws fs ≡ true → cut ws (pack ws fs) ≡ fs
unfolding cut pack
cut_pack [] [] l e = refl
cut_pack [] (f ∷ fs) l e = absurd (omega arith)
cut_pack (w ∷ ws) [] l e = absurd (omega arith)
cut_pack (w ∷ ws) (f ∷ fs) l e =
    let h = first_fits w ws f fs e in
    let low = pack_below ws fs h.1 in
    let first = ap (λ x. x % 2 ^ w) (high f (sum ws) low) ∙ mod-eq_of_lt h.0 in
    ap₂ (λ (x : ℕ) (xs : List ℕ). x ∷ xs) first (above ws 0 (sum ws) f (pack ws fs) (omega arith) low ∙ cut_pack ws fs (omega arith) h.1)

-- write after read, for any widths
pub pack_cut : (ws : List ℕ) (n : ℕ) → pack ws (cut ws n) ≡ n % 2 ^ sum ws
unfolding cut pack sum
pack_cut [] n = sym (mod-one n)
pack_cut (w ∷ ws) n = ap (λ x. n / 2 ^ sum ws % 2 ^ w * 2 ^ sum ws + x) (pack_cut ws n) ∙ sym (mod-pow-add n w (sum ws))

-- as many fields as widths
length_cut : (ws : List ℕ) (n : ℕ) → length (cut ws n) ≡ length ws
unfolding cut
length_cut [] n = refl
length_cut (w ∷ ws) n = ap suc (length_cut ws n)

-- fields that are cut fit
pub cut_fits : (ws : List ℕ) (n : ℕ) → fits ws (cut ws n) ≡ true
unfolding cut fits
cut_fits [] n = refl
cut_fits (w ∷ ws) n = rw (lt-ltb (n / 2 ^ sum ws % 2 ^ w) (2 ^ w) (mod-lt (n / 2 ^ sum ws) (pow_pos w))) (cut_fits ws n)

-- the bytes of a number are fields of 8 bits
pub byte_powers : (n : ℕ) → 256 ^ n ≡ 2 ^ sum (replicate n 8)
unfolding sum
byte_powers zero = refl
byte_powers (suc n) = pow-suc 256 n ∙ ap (λ x. x * 256) (byte_powers n) ∙ mul_comm _ 256 ∙ sym (pow-add 2 8 (sum (replicate n 8)))

packed_bytes : (bytes : List ℕ) → big_endian bytes ≡ pack (replicate (length bytes) 8) bytes
unfolding big_endian pack
packed_bytes [] = refl
packed_bytes (b ∷ bs) = ap₂ (λ x y. b * x + y) (byte_powers (length bs)) (packed_bytes bs)

-- each number is a byte
abbrev pub Bytes : List ℕ → Type 0
Bytes = All (λ b. b < 256)

bytes_fit : (bytes : List ℕ) → Bytes bytes → fits (replicate (length bytes) 8) bytes ≡ true
unfolding fits
bytes_fit [] h = refl
bytes_fit (b ∷ bs) h = rw (lt-ltb b 256 h.0) (bytes_fit bs h.1)

-- the number that the bytes of a number make, and the bytes of the number that bytes make
spelled_number : (count n : ℕ) → n < 2 ^ sum (replicate count 8) → big_endian (spelled count n) ≡ n
spelled_number count n h =
    packed_bytes (spelled count n)
    ∙ ap (λ k. pack (replicate k 8) (spelled count n)) (length_cut (replicate count 8) n ∙ length-replicate count 8)
    ∙ pack_cut (replicate count 8) n
    ∙ mod-eq_of_lt h

number_spelled : (bytes : List ℕ) → Bytes bytes → spelled (length bytes) (big_endian bytes) ≡ bytes
number_spelled bytes h = ap (spelled (length bytes)) (packed_bytes bytes) ∙ cut_pack (replicate (length bytes) 8) bytes (sym (length-replicate (length bytes) 8)) (bytes_fit bytes h)

-- a record of any layout that fills its bytes: written and read, and read and written
pub read_back : (ws fs : List ℕ) (count : ℕ) → sum ws ≡ sum (replicate count 8) → length fs ≡ length ws → fits ws fs ≡ true → cut ws (big_endian (spelled count (pack ws fs))) ≡ fs
read_back ws fs count s l e = ap (cut ws) (spelled_number count (pack ws fs) (rw (← s) (pack_below ws fs e))) ∙ cut_pack ws fs l e

pub write_back : (ws bytes : List ℕ) → sum ws ≡ sum (replicate (length bytes) 8) → Bytes bytes → spelled (length bytes) (pack ws (cut ws (big_endian bytes))) ≡ bytes
write_back ws bytes s h =
    let below : big_endian bytes < 2 ^ sum ws = rw (packed_bytes bytes, s) (pack_below (replicate (length bytes) 8) bytes (bytes_fit bytes h)) in
    ap (spelled (length bytes)) (pack_cut ws (big_endian bytes) ∙ mod-eq_of_lt below) ∙ number_spelled bytes h

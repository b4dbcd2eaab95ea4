-- Masks of a row: what a comparison of vectors tells of each link, and masks put side by side.
use mathlib.Core.Path.{◌≡◌, refl, ◌∙◌, ap}
use mathlib.Core.List.{List, map}
use mathlib.Core.Bool.{Bool, true, false}
use Prim.Native.Nat.{ℕ, ◌+◌, ◌-◌, ◌*◌, ◌^◌, ◌%◌, ◌≤◌, ◌<◌}
use native.Mathlib.Decide.{dec_lt}
use native.Mathlib.Omega.{arith}
use lib.Dec.{leb, eqb}
use lib.ListN.{length, get_or, replicate, length-map}
use lib.Lanes.{mask_l, zip2, top}
use Rattle.std.proofs.Common.{cond, w32}
use Rattle.std.proofs.lemmas.Simd.{tops_compared, zip2_splat_left, mask_l-mod, mask_l-lt, bit_mask_l}
use Rattle.std.proofs.lemmas.Nat.Bits.{bit_at_cat_low, bit_at_cat_high}
use Rattle.std.proofs.lemmas.List.{get_or-map}
use Rattle.units.specs.Sets.{has}

test_one : (b : Bool) → eqb (cond b 1 0) 1 ≡ b
test_one true = refl
test_one false = refl

-- a bit of a mask tells whether its lane passes
pub has_lane : (ms : List Bool) (i : ℕ) → has (mask_l ms) i ≡ get_or ms i false
has_lane ms i = ap (λ x. eqb x 1) (bit_mask_l ms i) ∙ test_one (get_or ms i false)

module _ (bandwidth : ℕ) (figures : List ℕ) (long : length figures ≡ 16) where
  -- the mask of a comparison with a vector of one figure
  pub compared : mask_l (map (top 31) (zip2 (λ a b. cond (leb a b) (2 ^ 32 - 1) 0) (replicate 16 bandwidth) figures)) % 2 ^ 64 ≡ mask_l (map (leb bandwidth) figures)
  compared =
      ap (λ ms. mask_l ms % 2 ^ 64) (tops_compared w32 leb (replicate 16 bandwidth) figures ∙ zip2_splat_left leb bandwidth 16 figures long)
      ∙ mask_l-mod (map (leb bandwidth) figures) 64 (simp (length-map) (omega arith))

  pub compared_few : mask_l (map (leb bandwidth) figures) < 2 ^ 16
  compared_few = let n : length (map (leb bandwidth) figures) ≡ 16 = simp (length-map) long in rw n at (mask_l-lt (map (leb bandwidth) figures))

  pub compared_has : (l : ℕ) → l < 16 → has (mask_l (map (leb bandwidth) figures)) l ≡ leb bandwidth (get_or figures l 0)
  compared_has l h = has_lane (map (leb bandwidth) figures) l ∙ get_or-map (leb bandwidth) figures l 0 false (omega arith)

-- ---- masks side by side

low_has : (high low l : ℕ) → l < 16 → has (high * 2 ^ 16 + low) l ≡ has low l
low_has high low l h = ap (λ x. eqb x 1) (bit_at_cat_low high 16 low l h)

high_has : (high low l : ℕ) → low < 2 ^ 16 → 16 ≤ l → has (high * 2 ^ 16 + low) l ≡ has high (l - 16)
high_has high low l few h = ap (λ x. eqb x 1) (bit_at_cat_high high 16 low l few h)

module _ (a b c d bandwidth : ℕ) (row : List ℕ) (few_a : a < 2 ^ 16) (few_b : b < 2 ^ 16) (few_c : c < 2 ^ 16) (few_d : d < 2 ^ 16) where
  abbrev enough : ℕ → Bool
  enough l = leb bandwidth (get_or row l 0)

  -- each is that of 16 links of a row
  pub side_by_side : ((l : ℕ) → l < 16 → has a l ≡ enough (0 + l)) → ((l : ℕ) → l < 16 → has b l ≡ enough (16 + l)) → ((l : ℕ) → l < 16 → has c l ≡ enough (32 + l)) → ((l : ℕ) → l < 16 → has d l ≡ enough (48 + l))
      → (l : ℕ) → l < 64 → has (a + b * 2 ^ 16 % 2 ^ 64 + c * 2 ^ 32 % 2 ^ 64 + d * 2 ^ 48 % 2 ^ 64) l ≡ enough l
  side_by_side is_a is_b is_c is_d l h =
      ap (λ m. has m l) (let whole : a + b * 2 ^ 16 % 2 ^ 64 + c * 2 ^ 32 % 2 ^ 64 + d * 2 ^ 48 % 2 ^ 64 ≡ ((d * 2 ^ 16 + c) * 2 ^ 16 + b) * 2 ^ 16 + a = omega arith in whole)
      ∙ elim (dec_lt l 16) [
        | yes k ↦ low_has ((d * 2 ^ 16 + c) * 2 ^ 16 + b) a l k ∙ is_a l k ∙ ap enough (omega arith)
        | no k ↦ high_has ((d * 2 ^ 16 + c) * 2 ^ 16 + b) a l few_a (omega arith)
            ∙ elim (dec_lt l 32) [
              | yes j ↦ low_has (d * 2 ^ 16 + c) b (l - 16) (omega arith) ∙ is_b (l - 16) (omega arith) ∙ ap enough (omega arith)
              | no j ↦ high_has (d * 2 ^ 16 + c) b (l - 16) few_b (omega arith)
                  ∙ elim (dec_lt l 48) [
                    | yes i ↦ low_has d c (l - 16 - 16) (omega arith) ∙ is_c (l - 16 - 16) (omega arith) ∙ ap enough (omega arith)
                    | no i ↦ high_has d c (l - 16 - 16) few_c (omega arith) ∙ is_d (l - 16 - 16 - 16) (omega arith) ∙ ap enough (omega arith)
                  ]
            ]
      ]

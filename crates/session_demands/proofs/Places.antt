-- A line has one place: its digits end at the space, and can be read back.
use mathlib.Core.Path.{◌≡◌, refl, sym, ap, ap₂, ◌∙◌}
use mathlib.Core.List.{List, [], ◌∷◌, ◌++◌}
use Prim.Native.Nat.{ℕ, ◌≤◌}
use native.Mathlib.Omega.{arith}
use lib.ListN.{length, get_or, drop, length-append}
use Rattle.std.specs.Prelude.{codes}
use Rattle.units.specs.Lists.{Within, All}
use Rattle.report.specs.Decimal.{read_decimal, decimal}
use Rattle.report.specs.Line.{line}
use Rattle.report.proofs.Decimals.{only_digits, read_back}
use Rattle.session_demands.specs.Cutting.{LineAt}

-- a line is not empty
pub line_some : (place : ℕ) (line : List ℕ) → LineAt place line → 1 ≤ length line
line_some place line at = omega (arith, ap length at.placed, length-append (decimal place) (codes " " ++ (at.words ++ codes "\n")))

-- digits end at the space
same_digits : (xs ys us vs : List ℕ) → All (Within 48 57) xs → All (Within 48 57) ys → xs ++ (32 ∷ us) ≡ ys ++ (32 ∷ vs) → xs ≡ ys
same_digits [] [] us vs a b e = refl
same_digits [] (y ∷ ys) us vs a b e = absurd (let h : 32 ≡ y = ap (λ l. get_or l 0 0) e in omega (arith, b.0.0))
same_digits (x ∷ xs) [] us vs a b e = absurd (let h : x ≡ 32 = ap (λ l. get_or l 0 0) e in omega (arith, a.0.0))
same_digits (x ∷ xs) (y ∷ ys) us vs a b e = ap₂ ◌∷◌ (ap (λ l. get_or l 0 0) e) (same_digits xs ys us vs a.1 b.1 (ap (drop 1) e))

-- so a line has one place
pub same_place : (p q : ℕ) (line : List ℕ) → LineAt p line → LineAt q line → p ≡ q
same_place p q line a b =
    sym (read_back p) ∙ ap read_decimal (same_digits (decimal p) (decimal q) _ _ (only_digits p) (only_digits q) (sym a.placed ∙ b.placed)) ∙ read_back q

-- The checks of the tables by the number that the code computes: what it says of the outcome, and of the tables.
use mathlib.Core.Path.{◌≡◌, refl, sym, ◌∙◌, ap}
use mathlib.Core.List.{List}
use mathlib.Core.Bool.{Bool, true, false}
use Prim.Native.Nat.{ℕ}
use native.Mathlib.Omega.{arith}
use Rattle.units.specs.declared.Link.{Link}
use Rattle.rules.specs.Calls.{Ask, ask, checked, first_refusal, list_fits}
use Rattle.rules.specs.Tables.{Tables, sized, sound, lent_checks, Fine}
use Rattle.rules.specs.Desk.{outcome}
use Rattle.rules.proofs.Exits.{refused_with, unsized, list_unfit, unsound}

module _ (links : List Link) (t : Tables) where
  -- by whether a lent list fits
  module _ (fits : Bool) where
    abbrev pub lent_refusal : ℕ
    lent_refusal = first_refusal (lent_checks links t fits)

    pub says_1 : sized links t ≡ false → lent_refusal ≡ 1
    unfolding checked
    says_1 s = rw s

    pub says_13 : sized links t ≡ true → fits ≡ false → lent_refusal ≡ 13
    unfolding checked
    says_13 s f = rw (s, f)

    pub says_3 : sized links t ≡ true → fits ≡ true → sound links t ≡ false → lent_refusal ≡ 3
    unfolding checked
    says_3 s f e = rw (s, f, e)

    pub says_0 : sized links t ≡ true → fits ≡ true → sound links t ≡ true → lent_refusal ≡ 0
    unfolding checked
    says_0 s f e = rw (s, f, e)

    -- passed: the tables are fine, and the list fits
    all_fine : lent_refusal ≡ 0 → Fine links t × (fits ≡ true)
    all_fine q = by (sized links t) fits (sound links t) refl refl refl
      where
        by : (x y z : Bool) → sized links t ≡ x → fits ≡ y → sound links t ≡ z → Fine links t × (fits ≡ true)
        by true true true s f e = (record { is_sized = s; is_sound = e }, f)
        by true true false s f e = absurd (let z : ◌≡◌ {A = ℕ} 3 0 = sym (says_3 s f e) ∙ q in omega arith)
        by true false z s f e = absurd (let z : ◌≡◌ {A = ℕ} 13 0 = sym (says_13 s f) ∙ q in omega arith)
        by false y z s f e = absurd (let z : ◌≡◌ {A = ℕ} 1 0 = sym (says_1 s) ∙ q in omega arith)

    pub fine : lent_refusal ≡ 0 → Fine links t
    fine q = (all_fine q).0

    pub list_fine : lent_refusal ≡ 0 → fits ≡ true
    list_fine q = (all_fine q).1

  -- not passed: a refusal with that number
  pub tables_refused : (a : Ask) (k : ℕ) → k ≡ lent_refusal (list_fits a) → (k ≡ 0 → ⊥) → outcome links t (ask a) ≡ refused_with k t
  tables_refused a k q ne = by (sized links t) (list_fits a) (sound links t) refl refl refl
    where
      by : (x y z : Bool) → sized links t ≡ x → list_fits a ≡ y → sound links t ≡ z → outcome links t (ask a) ≡ refused_with k t
      by true true true s f e = absurd (ne (q ∙ says_0 (list_fits a) s f e))
      by true true false s f e = unsound links t a s f e ∙ ap (λ j. refused_with j t) (sym (q ∙ says_3 (list_fits a) s f e))
      by true false z s f e = list_unfit links t a s f ∙ ap (λ j. refused_with j t) (sym (q ∙ says_13 (list_fits a) s f))
      by false y z s f e = unsized links t (ask a) s ∙ ap (λ j. refused_with j t) (sym (q ∙ says_1 (list_fits a) s))

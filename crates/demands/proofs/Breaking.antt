-- What the minute beside 8 is by its property alone: there is one such minute, and it lies in the span that starts at low, its guard
-- counted.
use mathlib.Core.Path.{◌≡◌, subst}
use mathlib.Core.List.{List}
use Prim.Native.Nat.{ℕ, suc, ◌+◌, ◌-◌, ◌≤◌, ◌<◌}
use native.Mathlib.Nat.{le_refl}
use native.Mathlib.Decide.{dec_lt}
use native.Mathlib.Omega.{arith}
use Rattle.units.specs.declared.Link.{Link}
use Rattle.units.specs.declared.Request.{Request}
use Rattle.units.proofs.Search.{one_failing}
use Rattle.rules.specs.Plain.{Plain, span, terms, low}
use Rattle.rules.specs.Choosing.{PathIn, NoStart, BreaksOff}

module _ (links : List Link) (p : Plain) (r : Request) where
  pub breaks_off_only : (m n : ℕ) → BreaksOff links p r m → BreaksOff links p r n → m ≡ n
  breaks_off_only m n b d = one_failing m n b.from_low d.from_low (λ w. b.none_lasts w.0 w.1) (λ w. d.none_lasts w.0 w.1) b.lasts_before d.lasts_before

  pub breaks_off_inside : (m : ℕ) → 1 ≤ r.duration.0 → low p r ≤ r.latest.0 → NoStart links p r → BreaksOff links p r m → m < low p r + span p (terms r)
  breaks_off_inside m some window none b = elim (dec_lt m (low p r + span p (terms r))) [
    | yes h ↦ h
    | no h ↦ absurd (
        let last : ℕ = low p r + span p (terms r) - 1 in
        let end : suc last ≡ low p r + span p (terms r) = omega arith in
        let w = b.lasts_before last (omega arith) (omega arith) in
        none (low p r) w.0 (le_refl (low p r), window) (subst (λ e. PathIn links p r (low p r) e w.0) end w.1))
  ]

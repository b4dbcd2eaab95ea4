-- `reset_events` meets its contract: the clock is written over the first zero.
use Rattle.std.proofs.Common.{◌≡◌, ℕ, zero, suc, ◌-◌, ◌<◌, ◌∷◌, length, replicate, slice_set, refl, ap, ◌∙◌, arith}
use native.Mathlib.Numerals.{sub-one}
use Rattle.timeline.specs.EventTable.{only_clock}
use Rattle.timeline.proofs.reset_events.Goals as goal

clock_alone : (clock places : ℕ) → 0 < places → slice_set (replicate places 0) 0 clock ≡ clock ∷ replicate (places - 1) 0
clock_alone clock zero h = absurd (omega arith)
clock_alone clock (suc n) h = rw sub-one refl

pub returns : goal.returns
unfolding only_clock
returns c =
    let a = c.args in
    ap (λ l. slice_set l 0 a.clock.0) (c.fill.ensures.after (λ y e. e)) ∙ clock_alone a.clock.0 (length a.events.now) c.requires

-- Low and event times lose nothing.
use mathlib.Core.Logic.{inl, inr, ⊎_elim}
use mathlib.Core.List.{List}
use Prim.Native.Nat.{ℕ, ◌+◌, ◌≤◌}
use native.Mathlib.Omega.{arith}
use Rattle.units.specs.declared.Link.{Link}
use Rattle.units.specs.declared.Request.{Request}
use Rattle.units.proofs.Parts.{all_map}
use Rattle.timeline.proofs.Steady.{NoneBetween}
use Rattle.timeline.proofs.Spans.{span_back, last_start, last_start_le, last_start_between, last_start_is}
use Rattle.rules.specs.Plain.{Plain, span, terms, taken, capacity, low}
use Rattle.rules.specs.Choosing.{Carries}
use Rattle.demands.specs.Demands.{EventsSuffice}
use Rattle.rules.proofs.Uses.{all_times, taken_changes}

-- a link that carries the request from m on does so from an earlier e on, if none of the times lies between
pub carries_back : (links : List Link) (p : Plain) (r : Request) (e m l : ℕ) → e ≤ m → NoneBetween (all_times p) e m → Carries links p r m l → Carries links p r e l
carries_back links p r e m l h q = span_back (taken p l) (λ x. x + r.bandwidth.0 ≤ capacity links l) (all_times p) (taken_changes p l) e m (span p (terms r)) h q

pub events_suffice : EventsSuffice
events_suffice links p r m path h w =
    let c = p.clock in
    let ts = all_times p in
    let early : c ≤ low p r = omega arith in
    let s = last_start c ts (low p r) m early h in (
      s,
      omega arith,
      last_start_le c ts (low p r) m early h,
      ⊎_elim inl (λ i. inr i.0) (last_start_is c ts (low p r) m early h),
      (w.0, all_map (Carries links p r m) (Carries links p r s) (λ l. carries_back links p r s m l (last_start_le c ts (low p r) m early h) (last_start_between c ts (low p r) m early h)) path w.1),
    )

-- The desk has demand 1.
use mathlib.Core.Path.{◌≡◌, sym, ap, ◌∙◌, subst}
use mathlib.Core.Logic.{⊎_elim}
use mathlib.Core.List.{List}
use Prim.Native.Nat.{ℕ, ◌<◌}
use native.Mathlib.Decide.{ℕ_discrete}
use native.Mathlib.Omega.{arith}
use Rattle.units.specs.declared.Link.{Link}
use Rattle.histories.specs.Kinds.{all_checks}
use Rattle.histories.proofs.Checks.{Numbered, Verdict, lets, stops, verdict}
use Rattle.histories.proofs.Demand1 as every_kind
use Rattle.rules.specs.Calls.{Ask, book, offer, list, cancel, move_clock, show, sold, Call, set_up_with, ask, Refusal, Answer, done, refused, refuse, Values, values, StartOr8, InForm}
use Rattle.rules.specs.Tables.{Tables, held}
use Rattle.rules.specs.Desk.{bandwidth_desk, outcome}
use Rattle.rules.proofs.Exits.{own_numbered}
use Rattle.demands.specs.Demands.{Desk, Demand1, AsksStart, NotOtherwise, RefusalKeeps, OthersBringNone}
use Rattle.demands.proofs.Lawful.{lawful}
use Rattle.rules.proofs.Checks.{done≢refused, starts≢refused, lists≢refused, shows≢refused, refused_same}

pub demand1 : Demand1 outcome
demand1 = every_kind.demand1 bandwidth_desk lawful

-- ---- in its other words, of any desk

only_8 : (a : Answer) (f : Refusal) → StartOr8 a → a ≡ refused f → f.number ≡ 8
only_8 a f w e = ⊎_elim (λ s. starts≢refused (sym s.1 ∙ e)) (λ n. refused_same (sym e ∙ n.1)) w

form_8 : (c : Ask) (a : Answer) (f : Refusal) → InForm c a → a ≡ refused f → AsksStart (ask c) × (f.number ≡ 8)
form_8 (book n r) a f w e = (tt, only_8 a f w e)
form_8 (offer r) a f w e = (tt, only_8 a f w e)
form_8 (list n r) a f w e = lists≢refused (sym w.1 ∙ e)
form_8 (cancel n) a f w e = done≢refused (sym w ∙ e)
form_8 (move_clock m) a f w e = done≢refused (sym w ∙ e)
form_8 (show l m) a f w e = shows≢refused (sym w.1 ∙ e)
form_8 (sold l) a f w e = shows≢refused (sym w.1 ∙ e)

pub not_otherwise : (desk : Desk) → Demand1 desk → NotOtherwise desk
not_otherwise desk d links t (set_up_with s) f h e = done≢refused (sym (d.in_form links t (set_up_with s) h) ∙ e)
not_otherwise desk d links t (ask a) f h e = form_8 a (desk links t (ask a)).answer f (d.in_form links t (ask a) h) e

all_numbered : (links : List Link) (t : Tables) (c : Call) → Numbered (all_checks bandwidth_desk links t c)
all_numbered links t (set_up_with s) = (omega arith, (omega arith, (omega arith, (omega arith, tt))))
all_numbered links t (ask a) = (omega arith, (omega arith, (omega arith, own_numbered links (held t) a)))

-- no desk with demand 1 gives number 0 to a refusal
not_0 : (desk : Desk) → Demand1 desk → (links : List Link) (t : Tables) (c : Call) (f : Refusal) → f.number ≡ 0 → (desk links t c).answer ≡ refused f → ⊥
not_0 desk d links t c f z e = by (verdict refuse done (all_checks bandwidth_desk links t c) (all_numbered links t c))
  where
    by : Verdict refuse done (all_checks bandwidth_desk links t c) → ⊥
    by (lets p) = let h = (not_otherwise desk d links t c f p e).1 in omega arith
    by (stops k h p) = let same = refused_same (sym (d.stopped links t c k p) ∙ e) in omega arith

pub refusal_keeps : (desk : Desk) → Demand1 desk → RefusalKeeps desk
refusal_keeps desk d links t c f e = elim (ℕ_discrete f.number 0) [
  | yes z ↦ absurd (not_0 desk d links t c f z e)
  | no z ↦ d.refusal_keeps links t c (subst (λ a. 0 < (values a).number) (sym e) (omega arith))
]

minute_of : (f : Refusal) (k : ℕ) → refused f ≡ refuse k → f.at ≡ 0
minute_of f k e = ap (λ (v : Values). v.at) (ap values e)

pub others_bring_none : (desk : Desk) → Demand1 desk → OthersBringNone desk
others_bring_none desk d links t c f e other = by (verdict refuse done (all_checks bandwidth_desk links t c) (all_numbered links t c))
  where
    by : Verdict refuse done (all_checks bandwidth_desk links t c) → f.at ≡ 0
    by (lets p) = absurd (other (not_otherwise desk d links t c f p e).1)
    by (stops k h p) = minute_of f k (sym e ∙ d.stopped links t c k p)

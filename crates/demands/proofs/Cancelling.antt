-- Cancelling doesn't hurt. A plain book without one of its bookings leaves free figures that are nowhere lower, and those make no
-- start impossible.
use mathlib.Core.Path.{◌≡◌, refl, sym, ◌∙◌, ap, ap₂, subst}
use mathlib.Core.List.{List, [], ◌∷◌}
use mathlib.Core.Bool.{not}
use Prim.Native.Nat.{ℕ}
use native.Mathlib.Omega.{arith}
use lib.Dec.{leb, eqb}
use Rattle.units.specs.declared.Link.{Link}
use Rattle.units.specs.declared.Request.{Request}
use Rattle.units.proofs.Parts.{select_part}
use Rattle.choice.specs.Choice.{Grant}
use Rattle.choice.specs.Right.{NowhereLower}
use Rattle.choice.proofs.Theorems.{chosen_no_later}
use Rattle.rules.specs.Plain.{Plain, span, terms, graph, free_for, low}
use Rattle.rules.specs.Calls.{offer, cancel, ask, Answer, done, starts, refuse, request_checks, breaks_off, chosen, best, take_out}
use Rattle.rules.specs.Tables.{Tables, tables, held}
use Rattle.rules.specs.Desk.{bandwidth_desk, left_by, outcome}
use Rattle.rules.specs.Sound.{Obeys}
use Rattle.histories.specs.Kinds as kinds
use Rattle.histories.specs.Kinds.{all_checks}
use Rattle.histories.specs.Histories.{answers}
use Rattle.demands.specs.Cancelling.{StartsBy, CancellingHarmless}
use Rattle.rules.proofs.Uses.{taken_part}
use Rattle.rules.proofs.Checks.{starts≢refused, Passed, passed_answer, passed_all}
use Rattle.rules.proofs.Tests.{sized_tells}
use Rattle.rules.proofs.Choices.{choice_by, choice, chosen_granted}
use Rattle.rules.proofs.Obeys.{sound_obeys}
use Rattle.rules.proofs.Step.{obeys_take_out, answers_plain}
use Rattle.histories.proofs.Exits.{answer_is}

-- ---- of two plain books with the same window and span, the one whose figures are nowhere lower offers no later

module _ (links : List Link) (p q : Plain) (r : Request) (window : low p r ≡ low q r) (minutes : span p (terms r) ≡ span q (terms r)) (more : NowhereLower (free_for links p r) (free_for links q r)) where
  best_no_later : (g : Grant) → best links p r ≡ starts g → StartsBy g.start (best links q r)
  unfolding best
  best_no_later g e =
      let h = chosen_no_later (graph links) (free_for links p r) (free_for links q r) more r.bandwidth.0 (span p (terms r)) r.from r.to (low p r) r.latest.0 g (chosen_granted (breaks_off links p r) (choice links p r) g e) in
      (h.0, ap (chosen (breaks_off links q r)) (sym (ap₂ (choice_by links r (free_for links q r)) minutes window) ∙ h.1), h.2)

module _ (links : List Link) (t : Tables) (r : Request) (g : Grant) (offered : (outcome links t (ask (offer r))).answer ≡ starts g) where
  passed : Passed (all_checks bandwidth_desk links t (ask (offer r)))
  passed = passed_all refuse (all_checks bandwidth_desk links t (ask (offer r))) (best links (held t) r) (λ k e. starts≢refused (sym offered ∙ answer_is bandwidth_desk links t (ask (offer r)) ∙ e))

  best_before : best links (held t) r ≡ starts g
  best_before = sym (passed_answer refuse (all_checks bandwidth_desk links t (ask (offer r))) (best links (held t) r) passed) ∙ sym (answer_is bandwidth_desk links t (ask (offer r))) ∙ offered

  obeyed : Obeys links (held t)
  obeyed = sound_obeys links t passed.1.1.0

  module _ (q : Plain) (o : Obeys links q) (window : low (held t) r ≡ low q r) (minutes : span (held t) (terms r) ≡ span q (terms r)) where
    -- the offer passes its checks again
    best_after : (outcome links (tables links q) (ask (offer r))).answer ≡ best links q r
    unfolding kinds.answer
    best_after =
        answers_plain links q o ((sized_tells links t).0 passed.0).links_right (ask (offer r))
        ∙ passed_answer refuse (request_checks q r) (best links q r) (passed.1.1.1.0, (ap (λ m. leb m r.latest.0) (sym window) ∙ passed.1.1.1.1.0, tt))

    pub offer_no_later : NowhereLower (free_for links (held t) r) (free_for links q r) → StartsBy g.start (outcome links (tables links q) (ask (offer r))).answer
    offer_no_later more = subst (StartsBy g.start) (sym best_after) (best_no_later links (held t) q r window minutes more g best_before)

-- ---- cancelling

-- without a booking no figure is lower
freer : (links : List Link) (p : Plain) (r : Request) (n : ℕ) → NowhereLower (free_for links p r) (free_for links (take_out n p) r)
freer links p r n l m = omega (arith, taken_part p (select_part (λ b. not (eqb n b.number)) p.bookings) l m)

module _ (links : List Link) (t : Tables) (r : Request) (n : ℕ) (g : Grant) (offered : (outcome links t (ask (offer r))).answer ≡ starts g) (cancelled : (outcome links t (ask (cancel n))).answer ≡ done) where
  left_cancelled : (outcome links t (ask (cancel n))).tables ≡ tables links (take_out n (held t))
  unfolding kinds.outcome
  left_cancelled = ap (left_by links t (ask (cancel n))) cancelled

  no_later : StartsBy g.start (outcome links (outcome links t (ask (cancel n))).tables (ask (offer r))).answer
  no_later =
      subst (λ u. StartsBy g.start (outcome links u (ask (offer r))).answer) (sym left_cancelled)
      (offer_no_later links t r g offered (take_out n (held t)) (obeys_take_out links (held t) n (obeyed links t r g offered)) refl refl (freer links (held t) r n))

-- equal lists of three answers have the same answer at each place
each_same : {x y z a b c : Answer} → x ∷ y ∷ z ∷ [] ≡ a ∷ b ∷ c ∷ [] → (x ≡ a) × (y ≡ b) × (z ≡ c)
each_same e = (cc, cc, cc)

-- 'Cancelling must not hurt': document 02's Job 4.
pub cancelling_harmless : CancellingHarmless outcome
unfolding answers kinds.outcome
cancelling_harmless = record { no_later = λ links t r n g again e. let s = each_same e in subst (StartsBy g.start) s.2 (no_later links t r n g s.0 s.1) }

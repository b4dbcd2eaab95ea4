-- The desk has demand 2.
use mathlib.Core.Path.{◌≡◌, refl, sym, ◌∙◌, subst}
use mathlib.Core.List.{List}
use mathlib.Core.Bool.{true, and-eq-true_iff}
use Prim.Native.Nat.{◌≤◌}
use Rattle.units.specs.declared.Link.{Link}
use Rattle.units.specs.declared.Request.{Request}
use Rattle.units.proofs.Tests.{at_most}
use Rattle.histories.specs.Kinds.{all_checks}
use Rattle.rules.specs.Plain.{low}
use Rattle.rules.specs.Calls.{Ask, book, offer, ask, refuse, number_ok, request_ok, best, result}
use Rattle.rules.specs.Tables.{Tables, held}
use Rattle.rules.specs.Desk.{bandwidth_desk, outcome}
use Rattle.rules.specs.Choosing.{RightChoice}
use Rattle.demands.specs.Demands.{Demand2}
use Rattle.rules.proofs.Checks.{Passed, passed_answer, passed_done}
use Rattle.rules.proofs.Tests.{request_right}
use Rattle.rules.proofs.Choices.{best_right}
use Rattle.rules.proofs.Obeys.{sound_obeys}
use Rattle.histories.proofs.Exits.{answer_is}

-- the choice is right on sound tables, whatever else is checked
sound_right : (links : List Link) (t : Tables) (a : Ask) (r : Request) → Passed (all_checks bandwidth_desk links t (ask a)) → result links (held t) a ≡ best links (held t) r → request_ok r ≡ true
    → low (held t) r ≤ r.latest.0 → RightChoice links (held t) r (outcome links t (ask a)).answer
sound_right links t a r h is ok window =
    subst (RightChoice links (held t) r) (sym (answer_is bandwidth_desk links t (ask a) ∙ passed_answer refuse (all_checks bandwidth_desk links t (ask a)) (result links (held t) a) h ∙ is))
    (best_right links (held t) r (sound_obeys links t h.1.1.0).links_right (request_right r ok) window)

pub demand2 : Demand2 outcome
demand2 = record {
  booking = λ links t n r e. let h = passed_done (all_checks bandwidth_desk links t (ask (book n r))) e in sound_right links t (book n r) r h refl ((and-eq-true_iff (number_ok n) (request_ok r)).0 h.1.1.1.0).1 ((at_most (low (held t) r) r.latest.0).0 h.1.1.1.1.0);
  offering = λ links t r e. let h = passed_done (all_checks bandwidth_desk links t (ask (offer r))) e in sound_right links t (offer r) r h refl h.1.1.1.0 ((at_most (low (held t) r) r.latest.0).0 h.1.1.1.1.0);
}

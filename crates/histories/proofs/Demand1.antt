-- What each call makes of any tables has demand 1, for every lawful kind of desk.
use mathlib.Core.Path.{◌≡◌, refl, sym, ◌∙◌, subst}
use mathlib.Core.List.{List}
use Prim.Native.Nat.{◌<◌}
use Rattle.histories.specs.Kinds.{Call, set_up_with, ask, Kind, answer_on, outcome, all_checks}
use Rattle.histories.specs.Lawful.{Lawful}
use Rattle.histories.specs.Demands.{Fits, Demand1}
use Rattle.histories.proofs.Checks.{passed_answer, passed_done, stopped_answer}
use Rattle.histories.proofs.Exits.{left_refused, final, answer_is}

module _ (K : Kind) (lawful : Lawful K) where
  final_fits : (links : List K.Link) (p : K.Plain) (c : Call K.Start K.Ask) → Fits K c (final K links p c)
  final_fits links p (set_up_with s) = refl
  final_fits links p (ask a) = lawful.in_form links p a

  keeps : (links : List K.Link) (t : K.Tables) (c : Call K.Start K.Ask) → 0 < K.number (outcome K links t c).answer → (outcome K links t c).tables ≡ t
  unfolding outcome
  keeps links t c h = left_refused K links t c (answer_on K links t c) h

  pub demand1 : Demand1 K (outcome K)
  demand1 = record {
    stopped = λ links t c k e. answer_is K links t c ∙ stopped_answer K.refuse K.done lawful.done_differs (all_checks K links t c) k (final K links (K.held t) c) e;
    in_form = λ links t c e.
        subst (Fits K c) (sym (answer_is K links t c ∙ passed_answer K.refuse (all_checks K links t c) (final K links (K.held t) c) (passed_done K.refuse K.done lawful.done_differs (all_checks K links t c) e)))
        (final_fits links (K.held t) c);
    refusal_keeps = keeps;
  }

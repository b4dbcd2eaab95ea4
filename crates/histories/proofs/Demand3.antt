-- What each call makes of any tables has demand 3, for every lawful kind of desk. The list of calls is followed here, once.
use mathlib.Core.Path.{◌≡◌, sym, ◌∙◌, ap, subst}
use mathlib.Core.List.{List, [], ◌∷◌}
use Rattle.histories.specs.Kinds.{Call, set_up_with, ask, Kind, answer, answer_with, outcome}
use Rattle.histories.specs.Histories.{answers, left, counted}
use Rattle.histories.specs.Lawful.{Lawful}
use Rattle.histories.specs.Demands.{Moment, now, plain, Counts, Alike, Demand3}

module _ (K : Kind) (lawful : Lawful K) where
  module _ (links : List K.Link) (started : lawful.Started links) where
    follows : (calls : List (Call K.Start K.Ask)) (t : K.Tables) (p : K.Plain) → t ≡ K.tables links p → lawful.Obeys links p
        → (left (outcome K) links t calls ≡ K.tables links (counted (outcome K) K.next links t p calls)) × lawful.Obeys links (counted (outcome K) K.next links t p calls)
    unfolding left counted
    follows [] t p e o = (e, o)
    follows (c ∷ cs) t p e o =
        follows cs (outcome K links t c).tables (K.next links p c (outcome K links t c).answer) (leaves ∙ ap (λ a. K.tables links (K.next links p c a)) (sym says))
        (subst (λ a. lawful.Obeys links (K.next links p c a)) (sym says) (lawful.stays_obeyed links p c started o))
      where
        says : (outcome K links t c).answer ≡ answer_with K links p c
        says = ap (λ x. (outcome K links x c).answer) e ∙ lawful.answers_plain links p c started o

        leaves : (outcome K links t c).tables ≡ K.tables links (K.next links p c (answer_with K links p c))
        leaves = ap (λ x. (outcome K links x c).tables) e ∙ lawful.leaves_plain links p c started o

  module _ (links : List K.Link) (h : Moment K (outcome K) links) where
    starts : lawful.Started links × lawful.Obeys links (K.empty h.start) × ((outcome K links h.before (set_up_with h.start)).tables ≡ K.tables links (K.empty h.start))
    starts = lawful.set_up_starts links h.before h.start h.accepted

    pub followed : (now K (outcome K) h ≡ K.tables links (plain K (outcome K) h)) × lawful.Obeys links (plain K (outcome K) h)
    unfolding now plain
    followed = follows links starts.0 h.calls (outcome K links h.before (set_up_with h.start)).tables (K.empty h.start) starts.2 starts.1

    abbrev p : K.Plain
    p = plain K (outcome K) h

    answered : (a : K.Ask) → (outcome K links (now K (outcome K) h) (ask a)).answer ≡ answer K links p a
    answered a = ap (λ t. (outcome K links t (ask a)).answer) followed.0 ∙ lawful.answers_plain links p (ask a) starts.0 followed.1

    counts : Counts K (outcome K) links h
    counts = record {
      tables_are = followed.0;
      still_sound = ap (K.sound links) followed.0 ∙ lawful.are_sound links p starts.0 followed.1;
      not_oversold = lawful.not_oversold links p followed.1;
      as_kept = λ l m b k. let x = lawful.kept_free links p starts.0 followed.1 l m b k in (x.0, subst (λ t. K.Keeps t l m x.0) (sym followed.0) x.1, x.2);
      as_shown = λ l m b k s. let x = lawful.shown_free links p starts.0 followed.1 l m b k s in (x.0, answered (K.show l m) ∙ x.1, x.2);
      as_answered = answered;
    }

  agrees : (links : List K.Link) (h k : Moment K (outcome K) links) → K.Agree (plain K (outcome K) h) (plain K (outcome K) k) → Alike K (outcome K) links h k
  agrees links h k a = record { same_tables = same_now; same_answers = λ calls. ap (λ t. answers (outcome K) links t calls) same_now }
    where
      same_now : now K (outcome K) h ≡ now K (outcome K) k
      same_now = (followed links h).0 ∙ lawful.same_tables links (plain K (outcome K) h) (plain K (outcome K) k) (followed links h).1 a ∙ sym (followed links k).0

  pub demand3 : Demand3 K (outcome K)
  demand3 = record { counts = counts; agrees = agrees }

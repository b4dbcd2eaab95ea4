-- What a list of calls is answered after a set-up, from the plain book alone, for every lawful kind of desk.
use mathlib.Core.Path.{◌≡◌, refl, ap, ap₂, ◌∙◌}
use mathlib.Core.List.{List, [], ◌∷◌, map}
use Rattle.histories.specs.Kinds.{set_up_with, ask, Kind, answer, outcome}
use Rattle.histories.specs.Histories.{answers}
use Rattle.histories.specs.Lawful.{Lawful}

unfoldable pub replies : (K : Kind) → List K.Link → K.Plain → List K.Ask → List K.Answer
replies K links p [] = []
replies K links p (a ∷ rest) = answer K links p a ∷ replies K links (K.next links p (ask a) (answer K links p a)) rest

module _ (K : Kind) (lawful : Lawful K) (links : List K.Link) where
  answers_are : lawful.Started links → (calls : List K.Ask) (p : K.Plain) → lawful.Obeys links p → answers (outcome K) links (K.tables links p) (map ask calls) ≡ replies K links p calls
  unfolding answers replies
  answers_are started [] p o = refl
  answers_are started (a ∷ rest) p o =
      ap₂ ◌∷◌ (lawful.answers_plain links p (ask a) started o)
      (ap (λ t. answers (outcome K) links t (map ask rest)) (lawful.leaves_plain links p (ask a) started o)
      ∙ answers_are started rest (K.next links p (ask a) (answer K links p a)) (lawful.stays_obeyed links p (ask a) started o))

  pub replies_after : (t : K.Tables) (s : K.Start) → (outcome K links t (set_up_with s)).answer ≡ K.done → (calls : List K.Ask)
      → answers (outcome K) links t (set_up_with s ∷ map ask calls) ≡ K.done ∷ replies K links (K.empty s) calls
  unfolding answers
  replies_after t s accepted calls =
      let h = lawful.set_up_starts links t s accepted in
      ap₂ ◌∷◌ accepted (ap (λ x. answers (outcome K) links x (map ask calls)) h.2 ∙ answers_are h.0 calls (K.empty s) h.1)

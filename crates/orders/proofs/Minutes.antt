-- No minute stands beside a refusal of a cancellation or a clock move.
use mathlib.Core.Path.{◌≡◌, refl}
use mathlib.Core.List.{List, [], ◌∷◌}
use mathlib.Core.Bool.{true, false}
use Prim.Native.Nat.{ℕ}
use Rattle.units.specs.declared.Link.{Link}
use Rattle.histories.specs.Kinds as kinds
use Rattle.rules.specs.Calls.{Ask, cancel, move_clock, ask, Answer, refuse, values, Check, check, checked, own_checks, result}
use Rattle.rules.specs.Tables.{Tables, held, table_checks}
use Rattle.rules.specs.Desk.{answer, outcome}

abbrev NoMinute : Answer → Type 0
NoMinute a = (values a).at ≡ 0

checked_without : (cs : List Check) (a : Answer) → NoMinute a → NoMinute (checked refuse cs a)
unfolding checked
checked_without [] a h = h
checked_without (check k true ∷ cs) a h = checked_without cs a h
checked_without (check k false ∷ cs) a h = refl

-- an answer has a minute only if what a call that passes its checks answers has one
outcome_without : (links : List Link) (t : Tables) (a : Ask) → NoMinute (result links (held t) a) → NoMinute (outcome links t (ask a)).answer
unfolding kinds.outcome kinds.answer_on kinds.answer
outcome_without links t a h =
    checked_without (table_checks links t (ask a)) (answer links (held t) a) (checked_without (own_checks links (held t) a) (result links (held t) a) h)

pub cancel_without : (links : List Link) (t : Tables) (n : ℕ) → (values (outcome links t (ask (cancel n))).answer).at ≡ 0
cancel_without links t n = outcome_without links t (cancel n) refl

pub clock_without : (links : List Link) (t : Tables) (m : ℕ) → (values (outcome links t (ask (move_clock m))).answer).at ≡ 0
clock_without links t m = outcome_without links t (move_clock m) refl

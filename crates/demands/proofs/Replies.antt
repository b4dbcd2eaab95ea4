-- What a list of calls is answered after a set-up, from the plain book alone.
use mathlib.Core.Path.{◌≡◌}
use mathlib.Core.List.{List, ◌∷◌, map}
use mathlib.Core.Bool.{true}
use Prim.Native.Nat.{ℕ, ◌≤◌}
use Rattle.units.specs.declared.Link.{Link}
use Rattle.units.specs.Limits.{most_guard}
use Rattle.units.specs.Lists.{All}
use Rattle.histories.specs.Histories.{answers}
use Rattle.histories.proofs.Replies as every_kind
use Rattle.rules.specs.Plain.{Plain, empty}
use Rattle.rules.specs.Calls.{Ask, set_up, ask, Answer, done}
use Rattle.rules.specs.Tables.{Tables, sized}
use Rattle.rules.specs.Desk.{bandwidth_desk, outcome}
use Rattle.rules.specs.Sound.{LinkRight}
use Rattle.rules.proofs.Step.{set_up_accepted}
use Rattle.demands.proofs.Lawful.{lawful}

abbrev pub replies : List Link → Plain → List Ask → List Answer
replies = every_kind.replies bandwidth_desk

pub replies_after : (links : List Link) (guard : ℕ) → guard ≤ most_guard → All LinkRight links → (t : Tables) → sized links t ≡ true → (calls : List Ask)
    → answers outcome links t (set_up guard ∷ map ask calls) ≡ done ∷ replies links (empty guard) calls
replies_after links guard short right t size calls = every_kind.replies_after bandwidth_desk lawful links t guard (set_up_accepted links t guard short size right) calls

-- The desk accepts a move to the minute that the clock shows, and changes nothing.
use mathlib.Core.Path.{◌≡◌, refl, sym, ap, ◌∙◌}
use mathlib.Core.List.{List, [], ◌∷◌}
use native.Mathlib.Omega.{arith}
use lib.Dec.{ltb}
use borrow.Author.Tests.{le-leb, lt-ltb}
use Rattle.units.specs.declared.Link.{Link}
use Rattle.units.specs.Limits.{last_minute}
use Rattle.units.specs.Lists.{All, select, cons_if}
use Rattle.histories.specs.Kinds as kinds
use Rattle.rules.specs.Plain.{Plain, Booking, until}
use Rattle.rules.specs.Calls.{move_clock, ask, done, refuse, own_checks, next}
use Rattle.rules.specs.Tables.{tables, held}
use Rattle.rules.specs.Desk.{answer, outcome}
use Rattle.rules.specs.Sound.{Obeys, BookingRight}
use Rattle.demands.specs.Demands.{SameMinute}
use Rattle.rules.proofs.Checks.{passed_answer}
use Rattle.rules.proofs.Tests.{sized_tells}
use Rattle.rules.proofs.Obeys.{sound_obeys, sound_tables}
use Rattle.rules.proofs.Step.{answers_plain, leaves_plain}

-- at the clock every booking stands that stood
still : (links : List Link) (p : Plain) (bs : List Booking) → All (BookingRight links p) bs → select (λ b. ltb p.clock (until p b)) bs ≡ bs
unfolding select
still links p [] a = refl
still links p (b ∷ bs) a = ap (λ x. cons_if x b (select (λ b. ltb p.clock (until p b)) bs)) (lt-ltb _ _ a.0.still_stands) ∙ ap (λ (l : List Booking). b ∷ l) (still links p bs a.1)

said : (links : List Link) (p : Plain) → Obeys links p → answer links p (move_clock p.clock) ≡ done
unfolding kinds.answer
said links p o = passed_answer refuse (own_checks links p (move_clock p.clock)) done (le-leb p.clock last_minute o.clock_right, (le-leb p.clock p.clock (omega arith), tt))

pub same_minute : SameMinute outcome
same_minute links t f =
    let p : Plain = held t in
    let o : Obeys links p = sound_obeys links t f.is_sound in
    let is = sound_tables links t f.is_sound in
    let count = ((sized_tells links t).0 f.is_sized).links_right in
    let c = ask (move_clock p.clock) in (
      ap (λ x. (outcome links x c).answer) is ∙ answers_plain links p o count c ∙ said links p o,
      ap (λ x. (outcome links x c).tables) is ∙ leaves_plain links p o count c ∙ ap (λ a. tables links (next p c a)) (said links p o)
          ∙ ap (λ bs. tables links (record { clock = p.clock; guard = p.guard; bookings = bs })) (still links p p.bookings o.bookings_right) ∙ sym is,
    )

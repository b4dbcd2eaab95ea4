-- The plain book is fed as document 01 says.
use mathlib.Core.Path.{◌≡◌, refl}
use mathlib.Core.List.{◌∷◌}
use Prim.Native.Nat.{ℕ, ◌+◌}
use native.Mathlib.Omega.{arith}
use lib.Dec.{ltb}
use Rattle.units.specs.Lists.{select}
use Rattle.units.specs.declared.Request.{Request}
use Rattle.choice.specs.Choice.{Grant}
use Rattle.rules.specs.Plain.{Plain, terms}
use Rattle.rules.specs.Calls.{Ask, book, offer, list, cancel, move_clock, show, sold, Call, set_up_with, ask, Refusal, Answer, done, starts, lists, shows, refused, next}
use Rattle.rules.specs.Feeding.{RightlyFed}

refusal_kept : (p : Plain) (c : Call) (f : Refusal) → next p c (refused f) ≡ p
refusal_kept p (set_up_with s) f = refl
refusal_kept p (ask (book n r)) f = refl
refusal_kept p (ask (offer r)) f = refl
refusal_kept p (ask (list n r)) f = refl
refusal_kept p (ask (cancel n)) f = refl
refusal_kept p (ask (move_clock m)) f = refl
refusal_kept p (ask (show l m)) f = refl
refusal_kept p (ask (sold l)) f = refl

booking_added : (p : Plain) (n : ℕ) (r : Request) (g : Grant)
    → ((next p (ask (book n r)) (starts g)).bookings ≡ record { number = n; terms = terms r; grant = g } ∷ p.bookings) × ((next p (ask (book n r)) (starts g)).clock ≡ p.clock)
booking_added p n r g = (refl, refl)

guard_kept : (p : Plain) (a : Ask) (answer : Answer) → (next p (ask a) answer).guard ≡ p.guard
guard_kept p (book n r) done = refl
guard_kept p (book n r) (starts g) = refl
guard_kept p (book n r) (lists rs) = refl
guard_kept p (book n r) (shows x) = refl
guard_kept p (book n r) (refused k) = refl
guard_kept p (offer r) answer = refl
guard_kept p (list n r) answer = refl
guard_kept p (cancel n) done = refl
guard_kept p (cancel n) (starts g) = refl
guard_kept p (cancel n) (lists rs) = refl
guard_kept p (cancel n) (shows x) = refl
guard_kept p (cancel n) (refused k) = refl
guard_kept p (move_clock m) done = refl
guard_kept p (move_clock m) (starts g) = refl
guard_kept p (move_clock m) (lists rs) = refl
guard_kept p (move_clock m) (shows x) = refl
guard_kept p (move_clock m) (refused k) = refl
guard_kept p (show l m) answer = refl
guard_kept p (sold l) answer = refl

end_and_guard : (start duration guard : ℕ) → start + (duration + guard) ≡ start + duration + guard
end_and_guard start duration guard = omega arith

pub rightly_fed : RightlyFed
rightly_fed = record {
  set_up_empties = λ p guard. (refl, refl);
  set_up_guards = λ p guard. refl;
  guard_stays = guard_kept;
  booking_adds = booking_added;
  cancelled_gone = λ p n. (refl, refl);
  clock_set = λ p m. refl;
  ended_dropped = λ p m i. select (λ b. ltb m (end_and_guard b.grant.start b.terms.duration p.guard i)) p.bookings;
  offer_keeps = λ p r a. refl;
  listing_keeps = λ p n r a. refl;
  showing_keeps = λ p l m a. refl;
  asking_keeps = λ p l a. refl;
  refusal_keeps = refusal_kept;
}

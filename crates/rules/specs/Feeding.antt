-- What document 01 says of the plain book as it is fed. The tables that a call leaves are those of the plain book's next state, so
-- that state has to be right by itself.
use Rattle.std.specs.Prelude.{◌≡◌, [], ◌∷◌, not, ℕ, ◌+◌, ltb, eqb}
use Rattle.units.specs.declared.Request.{Request}
use Rattle.units.specs.Lists.{select}
use Rattle.choice.specs.Choice.{Grant}
use Rattle.rules.specs.Plain.{Plain, terms}
use Rattle.rules.specs.Calls.{Ask, book, offer, list, cancel, move_clock, show, sold, Call, set_up, ask, Refusal, Answer, done, starts, refused, next}

pub record RightlyFed : Type 0 where
  -- 'set-up makes the clock 0 and the list empty', and writes the guard 'as asked'
  pub set_up_empties : (p : Plain) (guard : ℕ) → ((next p (set_up guard) done).clock ≡ 0) × ((next p (set_up guard) done).bookings ≡ [])
  pub set_up_guards : (p : Plain) (guard : ℕ) → (next p (set_up guard) done).guard ≡ guard
  -- which no other call changes
  pub guard_stays : (p : Plain) (a : Ask) (answer : Answer) → (next p (ask a) answer).guard ≡ p.guard
  -- 'booking adds one, start and path as answered, the rest as asked', and the clock stays
  pub booking_adds : (p : Plain) (n : ℕ) (r : Request) (g : Grant)
      → ((next p (ask (book n r)) (starts g)).bookings ≡ record { number = n; terms = terms r; grant = g } ∷ p.bookings) × ((next p (ask (book n r)) (starts g)).clock ≡ p.clock)
  -- 'cancelling takes out the one of that number', and the clock stays
  pub cancelled_gone : (p : Plain) (n : ℕ) → ((next p (ask (cancel n)) done).bookings ≡ select (λ b. not (eqb n b.number)) p.bookings) × ((next p (ask (cancel n)) done).clock ≡ p.clock)
  -- 'a clock move sets the clock and takes out all whose end is at or before it', which goes by 'end plus guard'
  pub clock_set : (p : Plain) (m : ℕ) → (next p (ask (move_clock m)) done).clock ≡ m
  pub ended_dropped : (p : Plain) (m : ℕ) → (next p (ask (move_clock m)) done).bookings ≡ select (λ b. ltb m (b.grant.start + b.terms.duration + p.guard)) p.bookings
  -- 'offers, showings and refused calls change nothing', nor do listings and questions for a total
  pub offer_keeps : (p : Plain) (r : Request) (a : Answer) → next p (ask (offer r)) a ≡ p
  pub listing_keeps : (p : Plain) (n : ℕ) (r : Request) (a : Answer) → next p (ask (list n r)) a ≡ p
  pub showing_keeps : (p : Plain) (l m : ℕ) (a : Answer) → next p (ask (show l m)) a ≡ p
  pub asking_keeps : (p : Plain) (l : ℕ) (a : Answer) → next p (ask (sold l)) a ≡ p
  pub refusal_keeps : (p : Plain) (c : Call) (f : Refusal) → next p c (refused f) ≡ p

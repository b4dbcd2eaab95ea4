-- On fine tables what the chooser answers is the plain book's best start: as it is handed out, and as it is entered.
use mathlib.Core.List.{List}
use mathlib.Core.Path.{◌≡◌, refl, sym, ◌∙◌, ap, ap₂}
use mathlib.Core.Bool.{false, and-eq-true_iff}
use borrow.Author.Tests.{not-true, ltb-true}
use Prim.Native.Nat.{ℕ, ◌-◌, ◌≤◌, ◌<◌}
use lib.ListN.{length, take, replicate}
use lib.Seq.{take-append_seam}
use Rattle.std.proofs.Common.{Result}
use Rattle.units.specs.declared.Refused.{Refused}
use Rattle.units.specs.declared.Request.{Request}
use Rattle.units.specs.Limits.{most_hops, most_bookings, last_number}
use Rattle.units.specs.Lists.{Within}
use Rattle.units.proofs.Tests.{in_range}
use Rattle.path_search.specs.Answer as search
use Rattle.choice.specs.declared.Granted.{Granted}
use Rattle.choice.specs.Answer as answers
use Rattle.units.specs.declared.Link.{Link}
use Rattle.rules.specs.Plain.{Booking, terms}
use Rattle.choice.specs.Choice.{Grant, Choice, granted, no_start}
use Rattle.rules.specs.Calls.{Ask, stands, number_ok, request_ok, own_checks, breaks_off, chosen, best}
use Rattle.sound_calls.specs.Lent.{choice_shown}
use Rattle.rules.specs.Tables.{Tables, held, Fine}
use Rattle.units.specs.Spans.{low_of}
use Rattle.starts.specs.Asked.{search_of}
use Rattle.starts.proofs.BestStart.{Started, by_tables, broken_by_tables, by_book, same_answer}
use Rattle.changes.specs.Updating.{booked, Grantable}
use Rattle.rules.proofs.Checks.{Passed}
use Rattle.rules.proofs.Choices.{GoodGrant, good_best}
use Rattle.rules.proofs.Step.{obeys_booked}
use Rattle.rules.proofs.Tests.{RequestRight}
use Rattle.rules.proofs.Fine.{book_obeys}

-- the choice on tables that are read is the choice on the desk's
abbrev chosen_on : List Link → Tables → Request → Result Granted Refused
chosen_on links t r =
    answers.chosen (answers.break_off_for (search_of t.head links r) t.events t.free (low_of t.head r)) (answers.choice_for (search_of t.head links r) t.events t.free (low_of t.head r) r.latest.0)

pub found_best : {l links : List Link} {s t : Tables} {a : Result Granted Refused} → l ≡ links → s ≡ t → (r : Request) → a ≡ chosen_on l s r → a ≡ chosen_on links t r
found_best same_links same_tables r e = e ∙ ap₂ (λ l t. chosen_on l t r) same_links same_tables

-- a choice as it is handed out, by the chooser and by document 01's values
shown_same : (m : ℕ) (c : Choice Grant) → answers.values (answers.chosen m c) ≡ choice_shown (chosen m c)
shown_same m (granted g) = refl
shown_same m no_start = refl

module _ (links : List Link) (t : Tables) (f : Fine links t) (r : Request) (q : RequestRight r) where
  -- what the chooser answers is the plain book's best start, or its refusal
  pub answered : (a : Result Granted Refused) → a ≡ answers.chosen (broken_by_tables links t f r q) (by_tables links t f r q) → answers.values a ≡ choice_shown (best links (held t) r)
  unfolding best
  answered a e = ap answers.values (e ∙ same_answer links t f r q) ∙ shown_same (breaks_off links (held t) r) (by_book links t f r q)

  -- the booking that is entered is the one of the grant
  module _ (number : ℕ) (given : Granted) (s : Started links t f r q given) where
    abbrev pub booking : Booking
    booking = record { number = number; terms = terms r; grant = s.grant }

    good : GoodGrant links (held t) r (book_obeys f).links_right q s.grant
    good = good_best links (held t) r (book_obeys f).links_right q s.grant s.is_best

    short : length s.grant.path ≤ most_hops
    short = good.is_path.length_right.1

    path_kept : take given.path.count given.path.links ≡ s.grant.path
    path_kept = ap (λ x. take x.path.count x.path.links) s.given_is ∙ take-append_seam s.grant.path (replicate (most_hops - length s.grant.path) 0)

    pub booked_is : booked number r given.start given.path ≡ booking
    booked_is = λ i. record { number = number; terms = terms r; grant = record { start = (s.given_is i).start.0; path = path_kept i } }

    pub grantable : Passed (own_checks links (held t) (Ask.book number r)) → Grantable links (held t) number r given.start given.path
    grantable checks = record {
      booking_right = rw booked_is (obeys_booked links (held t) (book_obeys f) number r q in_range_number new room s.grant good).bookings_right.0;
      path_is = ap (λ x. x.path) s.given_is ∙ ap search.path_of (sym path_kept);
      room = room;
    }
      where
        in_range_number : Within 1 last_number number
        in_range_number = (in_range 1 last_number number).0 ((and-eq-true_iff (number_ok number) (request_ok r)).0 checks.0).0

        new : stands number (held t).bookings ≡ false
        new = not-true (stands number (held t).bookings) checks.1.1.0

        room : length (held t).bookings < most_bookings
        room = ltb-true (length (held t).bookings) most_bookings checks.1.1.1.0

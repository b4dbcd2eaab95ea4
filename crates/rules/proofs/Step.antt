-- One call on the tables of a plain book that obeys the rules: it is answered from the links and that book, and leaves the
-- tables of the book's next state, which obeys the rules too.
use mathlib.Core.Path.{◌≡◌, refl, sym, ap, ◌∙◌}
use mathlib.Core.List.Permᴰ
use mathlib.Core.List.{List, [], ◌∷◌, Permᴰ, Sublistᴰ}
use mathlib.Core.Bool.{Bool, true, false, ◌&&◌, not, and-eq-true_iff}
use Prim.Native.Nat.{ℕ, ◌+◌, ◌-◌, ◌≤◌, ◌<◌}
use native.Mathlib.Omega.{arith}
use lib.Dec.{leb, ltb, eqb}
use lib.ListN.{length}
use borrow.Author.Tests.{leb-true, ltb-true, not-true}
use Rattle.units.specs.declared.Link.{Link}
use Rattle.units.specs.declared.Request.{Request}
use Rattle.units.specs.Limits.{most_links, most_bookings, last_minute, last_number, most_guard, list_size}
use Rattle.units.specs.Lists.{Within, member, sum, All}
use Rattle.units.specs.Refusals as refusals
use Rattle.units.proofs.Tests.{member_tells, absent, in_range, at_most}
use Rattle.units.proofs.Permuted.{length_permuted, member_permuted, select_permuted}
use Rattle.units.proofs.Parts.{select_part, length_part, map_part, distinct_part, all_at, all_selected}
use Rattle.choice.specs.Choice.{Grant}
use Rattle.choice.specs.BreakOff.{break_off}
use Rattle.choice.specs.Carrying.{carries as carries_by}
use Rattle.listing.specs.Ranges.{ranges}
use Rattle.histories.specs.Kinds as kinds
use Rattle.rules.specs.Plain.{Booking, Plain, empty, span, terms, until, uses, taken, capacity, graph, free, low, with_book}
use Rattle.rules.specs.Calls.{Ask, book, offer, list, cancel, move_clock, show, sold, Call, set_up, set_up_with, ask, Answer, done, starts, lists, shows, refused, refuse, check, checked, numbers, stands, number_ok, request_ok, own_checks, request_checks, breaks_off, chosen, best, every, put_in, take_out, move_to, next, list_fits}
use Rattle.rules.specs.Tables.{Tables, tables, held, sized, guard_check, table_checks}
use Rattle.rules.specs.Desk.{answer, answer_with, left_by, outcome}
use Rattle.rules.specs.Sound.{LinkRight, BookingRight, Obeys}
use Rattle.rules.specs.Choosing.{Carries}
use Rattle.rules.proofs.Uses.{uses_most, taken_put_in, taken_permuted, taken_part}
use Rattle.rules.proofs.Book.{by_number_is}
use Rattle.rules.proofs.Checks.{done≢refused, Passed, checked_elim, passed_all}
use Rattle.rules.proofs.Exits.{set_up_answer}
use Rattle.rules.proofs.Tests.{links_tell, sized_tells, RequestRight, request_right}
use Rattle.rules.proofs.Choices.{choice_by, GoodGrant, best_elim}
use Rattle.rules.proofs.Obeys.{right_in, all_right_in, free_permuted, sold_permuted, tables_permuted, held_ordered, tables_ordered, tables_sound, tables_sized}

-- ---- setting up

module _ (links : List Link) (t : Tables) (guard : ℕ) where
  -- a set-up is accepted on tables of the right sizes with a guard in range and right links
  pub set_up_accepted : guard ≤ most_guard → sized links t ≡ true → All LinkRight links → (outcome links t (set_up guard)).answer ≡ done
  unfolding kinds.outcome
  set_up_accepted short size right = set_up_answer links t guard (size, ((at_most guard most_guard).1 short, ((links_tell links).1 right, tt)))

  -- and only on those
  pub set_up_passed : (outcome links t (set_up guard)).answer ≡ done → Within 1 most_links (length links) × (guard ≤ most_guard) × All LinkRight links
  unfolding kinds.outcome kinds.answer_on
  set_up_passed e =
      let h = passed_all refuse (table_checks links t (set_up guard)) (answer_with links (held t) (set_up guard)) (λ k f. done≢refused (sym e ∙ f)) in
      (((sized_tells links t).0 h.0).links_right, (at_most guard most_guard).0 h.1.0, (links_tell links).0 h.1.1.0)

  pub set_up_leaves : (outcome links t (set_up guard)).answer ≡ done → (outcome links t (set_up guard)).tables ≡ tables links (empty guard)
  unfolding kinds.outcome
  set_up_leaves e = ap (left_by links t (set_up guard)) e

-- ---- the next state obeys the rules

pub obeys_empty : (links : List Link) (guard : ℕ) → guard ≤ most_guard → All LinkRight links → Obeys links (empty guard)
unfolding sum
obeys_empty links guard short a = record { links_right = a; clock_right = omega arith; guard_right = short; not_too_many = omega arith; numbers_differ = tt; bookings_right = tt; not_oversold = λ l m h. omega arith }

-- some of the bookings, at a clock at which they stand
obeys_part : (links : List Link) (p : Plain) (t : ℕ) (bs : List Booking) → Obeys links p → t ≤ last_minute → Sublistᴰ bs p.bookings → All (BookingRight links (record { clock = t; guard = p.guard; bookings = bs })) bs
    → Obeys links (record { clock = t; guard = p.guard; bookings = bs })
obeys_part links p t bs o h q a = record {
  links_right = o.links_right;
  clock_right = h;
  guard_right = o.guard_right;
  not_too_many = omega (arith, length_part q, o.not_too_many);
  numbers_differ = distinct_part (map_part (λ b. b.number) q) o.numbers_differ;
  bookings_right = a;
  not_oversold = λ l m k. omega (arith, taken_part p q l m, o.not_oversold l m k);
}

pub obeys_take_out : (links : List Link) (p : Plain) (n : ℕ) → Obeys links p → Obeys links (take_out n p)
obeys_take_out links p n o =
    obeys_part links p p.clock (take_out n p).bookings o o.clock_right (select_part (λ b. not (eqb n b.number)) p.bookings)
    (all_selected (λ b. not (eqb n b.number)) (BookingRight links p) (BookingRight links (take_out n p)) (λ b e r. right_in links p (take_out n p) b r.still_stands r) p.bookings o.bookings_right)

pub obeys_move_to : (links : List Link) (p : Plain) (t : ℕ) → t ≤ last_minute → Obeys links p → Obeys links (move_to t p)
obeys_move_to links p t h o =
    obeys_part links p t (move_to t p).bookings o h (select_part (λ b. ltb t (until p b)) p.bookings)
    (all_selected (λ b. ltb t (until p b)) (BookingRight links p) (BookingRight links (move_to t p)) (λ b e r. right_in links p (move_to t p) b (ltb-true t (until p b) e) r) p.bookings o.bookings_right)

module _ (links : List Link) (p : Plain) (o : Obeys links p) (n : ℕ) (r : Request) (asked : RequestRight r) (number : Within 1 last_number n)
    (new : member n (numbers p.bookings) ≡ false) (room : length p.bookings < most_bookings) (g : Grant) (good : GoodGrant links p r o.links_right asked g) where
  abbrev booked : Booking
  booked = record { number = n; terms = terms r; grant = g }

  booked_right : BookingRight links (put_in booked p) booked
  booked_right =
      let q = asked in
      record {
        number_right = number;
        start_right = omega (arith, good.not_after, q.latest_right);
        duration_right = q.duration_right;
        bandwidth_right = q.bandwidth_right;
        path_right = good.is_path;
        still_stands = omega (arith, good.not_before, q.duration_right);
      }

  -- what it uses is free
  booked_fits : (l m : ℕ) → l < length links → uses p booked l m + taken p l m ≤ capacity links l
  booked_fits l m h =
      let old = o.not_oversold l m h in
      let new = uses_most p booked l m (free links p l m) (λ a b i. let c = all_at (Carries links p r g.start) good.carried ((member_tells l g.path).0 i) m a b in omega arith) in
      omega arith

  pub obeys_booked : Obeys links (put_in booked p)
  obeys_booked = record {
    links_right = o.links_right;
    clock_right = o.clock_right;
    guard_right = o.guard_right;
    not_too_many = room;
    numbers_differ = (absent n (numbers p.bookings) new, o.numbers_differ);
    bookings_right = (booked_right, all_right_in links p (put_in booked p).bookings p.bookings o.bookings_right);
    not_oversold = λ l m h. rw taken_put_in (booked_fits l m h);
  }

-- ---- the answer does not depend on the order of the bookings

module _ (links : List Link) (p : Plain) {bs cs : List Booking} (q : Permᴰ bs cs) where
  stands_permuted : (n : ℕ) → stands n bs ≡ stands n cs
  stands_permuted n = member_permuted n (Permᴰ.map (λ b. b.number) q)

  best_permuted : (r : Request) → best links (with_book p bs) r ≡ best links (with_book p cs) r
  unfolding best breaks_off
  best_permuted r = ap (λ (f : ℕ → ℕ → ℕ). chosen (break_off (graph links) (carries_by f r.bandwidth.0) r.from r.to (span p (terms r)) (low p r)) (choice_by links r f (span p (terms r)) (low p r))) (free_permuted links p q)

  every_permuted : (r : Request) → every links (with_book p bs) r ≡ every links (with_book p cs) r
  unfolding every
  every_permuted r = ap (λ (f : ℕ → ℕ → ℕ). ranges (graph links) (carries_by f r.bandwidth.0 (span p (terms r))) r.from r.to (low p r) r.latest.0) (free_permuted links p q)

  pub answer_permuted : (a : Ask) → answer links (with_book p bs) a ≡ answer links (with_book p cs) a
  unfolding kinds.answer
  answer_permuted (book n r) = λ i.
      checked refuse
      (check refusals.bad_field (number_ok n && request_ok r)
      ∷ check refusals.too_late (leb (low p r) r.latest.0)
      ∷ check refusals.number_stands (not (stands_permuted n i))
      ∷ check refusals.book_full (ltb (length_permuted q i) most_bookings)
      ∷ [])
      (best_permuted r i)
  answer_permuted (offer r) = ap (checked refuse (own_checks links (with_book p bs) (offer r))) (best_permuted r)
  answer_permuted (list n r) = ap (λ rs. checked refuse (own_checks links (with_book p bs) (list n r)) (lists rs)) (every_permuted r)
  answer_permuted (cancel n) = ap (λ x. checked refuse (check refusals.bad_field (number_ok n) ∷ check refusals.not_standing x ∷ []) done) (stands_permuted n)
  answer_permuted (move_clock m) = refl
  answer_permuted (show l m) = ap (λ x. checked refuse (own_checks links (with_book p bs) (show l m)) (shows (capacity links l - x))) (taken_permuted p q l m)
  answer_permuted (sold l) = ap (λ (f : ℕ → ℕ). checked refuse (own_checks links (with_book p bs) (sold l)) (shows (f l))) (sold_permuted links p q)

-- ---- one call

-- a call that is lent a list checks its size on sound tables as well
list_checked : (links : List Link) (p : Plain) (a : Ask) → checked refuse (check refusals.bad_list (list_fits a) ∷ []) (answer links p a) ≡ answer links p a
unfolding kinds.answer checked
list_checked links p (book n r) = refl
list_checked links p (offer r) = refl
list_checked links p (list n r) = by (eqb n list_size)
  where
    by : (fits : Bool) → checked refuse (check refusals.bad_list fits ∷ []) (checked refuse (check refusals.bad_list fits ∷ request_checks p r) (lists (every links p r))) ≡ checked refuse (check refusals.bad_list fits ∷ request_checks p r) (lists (every links p r))
    by true = refl
    by false = refl
list_checked links p (cancel n) = refl
list_checked links p (move_clock m) = refl
list_checked links p (show l m) = refl
list_checked links p (sold l) = refl

-- a check that is passed, behind another, changes nothing
passed_behind : (k l : ℕ) (t : Bool) (x : Answer) → checked refuse (check k t ∷ check l true ∷ []) x ≡ checked refuse (check k t ∷ []) x
unfolding checked
passed_behind k l true x = refl
passed_behind k l false x = refl

-- a check that is made twice
passed_again : (k : ℕ) (t : Bool) (x : Answer) → checked refuse (check k t ∷ []) (checked refuse (check k t ∷ []) x) ≡ checked refuse (check k t ∷ []) x
unfolding checked
passed_again k true x = refl
passed_again k false x = refl

module _ (links : List Link) (p : Plain) (o : Obeys links p) where
  -- an answer of another form changes nothing
  again : tables links (held (tables links p)) ≡ tables links p
  again = ap (tables links) (held_ordered links p o) ∙ sym (tables_ordered links p o)

  by_number_0 : (accepted : Bool) → ◌≡◌ {A = Tables} (elim accepted [ true ↦ tables links (held (tables links p)) | false ↦ tables links p ]) (tables links p)
  by_number_0 true = again
  by_number_0 false = refl

  -- what the call leaves are the tables of the next state
  leaves : (c : Call) (a : Answer) → Obeys links (next p c a) → left_by links (tables links p) c a ≡ tables links (next p c a)
  leaves (set_up_with s) done w = refl
  leaves (set_up_with s) (starts g) w = again
  leaves (set_up_with s) (lists rs) w = again
  leaves (set_up_with s) (shows x) w = again
  leaves (set_up_with s) (refused k) w = by_number_0 (eqb k.number 0)
  leaves (ask (book n r)) done w = again
  leaves (ask (book n r)) (starts g) w =
      ap (λ q. tables links (put_in (record { number = n; terms = terms r; grant = g }) q)) (held_ordered links p o)
      ∙ sym (tables_permuted links p (Permᴰ.cons refl (Permᴰ.symm (by_number_is p.bookings))) w.numbers_differ)
  leaves (ask (book n r)) (lists rs) w = again
  leaves (ask (book n r)) (shows x) w = again
  leaves (ask (book n r)) (refused k) w = by_number_0 (eqb k.number 0)
  leaves (ask (offer r)) a w = refl
  leaves (ask (list n r)) a w = refl
  leaves (ask (cancel n)) done w =
      ap (λ q. tables links (take_out n q)) (held_ordered links p o)
      ∙ sym (tables_permuted links p (select_permuted (λ b. not (eqb n b.number)) (Permᴰ.symm (by_number_is p.bookings))) w.numbers_differ)
  leaves (ask (cancel n)) (starts g) w = again
  leaves (ask (cancel n)) (lists rs) w = again
  leaves (ask (cancel n)) (shows x) w = again
  leaves (ask (cancel n)) (refused k) w = by_number_0 (eqb k.number 0)
  leaves (ask (move_clock m)) done w =
      ap (λ q. tables links (move_to m q)) (held_ordered links p o)
      ∙ sym (tables_permuted links (move_to m p) (select_permuted (λ b. ltb m (until p b)) (Permᴰ.symm (by_number_is p.bookings))) w.numbers_differ)
  leaves (ask (move_clock m)) (starts g) w = again
  leaves (ask (move_clock m)) (lists rs) w = again
  leaves (ask (move_clock m)) (shows x) w = again
  leaves (ask (move_clock m)) (refused k) w = by_number_0 (eqb k.number 0)
  leaves (ask (show l m)) a w = refl
  leaves (ask (sold l)) a w = refl

  -- the next state obeys the rules, whatever the call
  Next : Call → Answer → Type 0
  Next c a = Obeys links (next p c a)

  booked_obeys : (n : ℕ) (r : Request) → Passed (own_checks links p (book n r)) → Next (ask (book n r)) (best links p r)
  unfolding Next
  booked_obeys n r ok =
      let h = (and-eq-true_iff (number_ok n) (request_ok r)).0 ok.0 in
      let asked = request_right r h.1 in
      best_elim links p r o.links_right asked (Next (ask (book n r)))
      (λ g good. obeys_booked links p o n r asked ((in_range 1 last_number n).0 h.0) (not-true (stands n p.bookings) ok.1.1.0) (ltb-true (length p.bookings) most_bookings ok.1.1.1.0) g good)
      (λ m. o)

  pub stays_obeyed : (c : Call) → Obeys links (next p c (answer_with links p c))
  unfolding kinds.answer checked Next
  stays_obeyed (set_up_with guard) = checked_elim refuse (Next (set_up guard)) (guard_check guard ∷ []) done (λ ok. obeys_empty links guard ((at_most guard most_guard).0 ok.0) o.links_right) (λ k. o)
  stays_obeyed (ask (book n r)) = checked_elim refuse (Next (ask (book n r))) (own_checks links p (book n r)) (best links p r) (booked_obeys n r) (λ k. o)
  stays_obeyed (ask (offer r)) = o
  stays_obeyed (ask (list n r)) = o
  stays_obeyed (ask (cancel n)) = checked_elim refuse (Next (ask (cancel n))) (own_checks links p (cancel n)) done (λ ok. obeys_take_out links p n o) (λ k. o)
  stays_obeyed (ask (move_clock m)) = checked_elim refuse (Next (ask (move_clock m))) (own_checks links p (move_clock m)) done (λ ok. obeys_move_to links p m (leb-true m last_minute ok.0) o) (λ k. o)
  stays_obeyed (ask (show l m)) = o
  stays_obeyed (ask (sold l)) = o

  module _ (count : Within 1 most_links (length links)) where
    same_answer : (c : Call) → answer_with links (held (tables links p)) c ≡ answer_with links p c
    same_answer (set_up_with s) = refl
    same_answer (ask a) = ap (λ q. answer links q a) (held_ordered links p o) ∙ answer_permuted links p (by_number_is p.bookings) a

    -- the tables pass, and whether a lent list fits is among the call's own checks too
    tables_pass : (c : Call) → checked refuse (table_checks links (tables links p) c) (answer_with links p c) ≡ answer_with links p c
    unfolding checked
    tables_pass (set_up_with guard) = rw (tables_sized links p o count, (links_tell links).1 o.links_right) (passed_behind refusals.bad_field refusals.bad_link (leb guard most_guard) (answer_with links p (set_up guard)) ∙ passed_again refusals.bad_field (leb guard most_guard) done)
    tables_pass (ask a) = rw (tables_sized links p o count, tables_sound links p o) (passed_behind refusals.bad_list refusals.unsound (list_fits a) (answer links p a) ∙ list_checked links p a)

    -- a call is answered from the links and the plain book
    pub answers_plain : (c : Call) → (outcome links (tables links p) c).answer ≡ answer_with links p c
    unfolding kinds.outcome kinds.answer_on
    answers_plain c = ap (checked refuse (table_checks links (tables links p) c)) (same_answer c) ∙ tables_pass c

    pub leaves_plain : (c : Call) → (outcome links (tables links p) c).tables ≡ tables links (next p c (answer_with links p c))
    unfolding kinds.outcome
    leaves_plain c = ap (left_by links (tables links p) c) (answers_plain c) ∙ leaves c (answer_with links p c) (stays_obeyed c)

-- The buyer's five sham desks, each refuted by the demand that is to exclude it, one that lists starts wrongly, two that answer an
-- offer wrongly after a cancellation, three that answer an accepted call in another call's form, one that takes every guard for none,
-- two that say a wrong minute beside 8, one that says a minute beside another refusal, two that keep the work of a booking that has gone, and
-- two that tell a wrong total.
-- All but the calls named they do properly.
use mathlib.Core.Path.{◌≡◌, refl, sym, ap, subst}
use mathlib.Core.Logic.{⊎_elim}
use mathlib.Core.List.Memᴰ
use mathlib.Core.List.{List, [], ◌∷◌, map, flatten}
use mathlib.Core.Bool.{Bool, true, false, ◌&&◌}
use Prim.Native.Nat.{ℕ, zero, suc, ◌+◌, ◌*◌, ◌≤◌, ◌<◌}
use native.Mathlib.Omega.{arith}
use lib.Dec.{lit<, lit≤, leb, eqb, ltb}
use lib.ListN.{length}
use Rattle.units.specs.declared.Link.{Link}
use Rattle.units.specs.declared.Request.{Request}
use Rattle.units.specs.Limits.{most_guard, list_size}
use Rattle.units.specs.Lists.{if_so, member, sum, count_from, equal, rising, select}
use Rattle.units.specs.Search.{first_from, all_from, any_below}
use Rattle.timeline.specs.Events.{insert_rising, later, passed, row_at}
use Rattle.path_search.specs.Paths.{reaches, lowest, fewest, route, goes_on}
use Rattle.choice.specs.Earliest.{can_start, earliest}
use Rattle.choice.specs.BreakOff.{break_off}
use Rattle.listing.specs.Ranges.{Range, ranges_from, ranges}
use Rattle.listing.specs.Right.{Apart}
use Rattle.rules.specs.Plain.{Booking, empty, span, terms, capacity, low}
use Rattle.rules.specs.Calls.{Ask, book, offer, list, cancel, move_clock, show, sold, Call, set_up, set_up_with, ask, Answer, done, starts, lists, shows, refused, refuse, no_start_at, Values, values, checked, best, breaks_off, every, put_in, on_done, on_start}
use Rattle.plain_book.specs.Bookings as bookings
use Rattle.rules.specs.Tables.{Tables, sized, tables, held, sound_with, sound}
use Rattle.rules.specs.Choosing.{PathIn}
use Rattle.rules.specs.Desk.{Outcome, bandwidth_desk, outcome}
use Rattle.histories.specs.Kinds as kinds
use Rattle.histories.specs.Histories.{answers, left, counted}
use Rattle.histories.specs.Demands.{Stopped, Moment, now, plain}
use Rattle.demands.specs.Demands.{Desk, Demand1, Demand2, Demand3, Passes}
use Rattle.demands.specs.Listing.{EveryStart}
use Rattle.demands.specs.Cancelling.{StartsBy, CancellingHarmless}
use Rattle.demands.specs.Guarding.{KeepsApart}
use Rattle.demands.specs.Selling.{SellsAsBooked}
use Rattle.demands.specs.Examples.{start_at, session_links, request}
use Rattle.rules.proofs.Checks.{starts≢refused}

shows≢done : {X : Type 0} {x : ℕ} → shows x ≡ done → X
shows≢done e = let z : ◌≡◌ {A = ℕ} 0 1 = cc in absurd (omega arith)

abbrev says : Answer → Tables → Outcome
says a t = record { answer = a; tables = t }

-- what is done with a booking, an offer, a cancellation, a clock move, a showing, a question for a link's total, and any other call
abbrev by_kind : Ask → Outcome → Outcome → Outcome → Outcome → Outcome → (ℕ → Outcome) → Outcome → Outcome
by_kind (book n r) b o c m s w x = b
by_kind (offer r) b o c m s w x = o
by_kind (list n r) b o c m s w x = x
by_kind (cancel n) b o c m s w x = c
by_kind (move_clock n) b o c m s w x = m
by_kind (show l n) b o c m s w x = s
by_kind (sold l) b o c m s w x = w l

-- what a sham makes of the proper outcome of a call, and of the tables that it is lent
abbrev Sham : Type 0
Sham = Outcome → Tables → Ask → Outcome

-- the desk that sets up properly and makes that of every other call
abbrev desk_of : Sham → Desk
desk_of sham links t (set_up_with s) = outcome links t (set_up_with s)
desk_of sham links t (ask a) = sham (outcome links t (ask a)) t a

-- 1. says 8 to all
abbrev says_8 : Sham
says_8 proper t a = says (refuse 8) t

-- 2. offers start 0 by link 0 always
abbrev always_0 : Sham
always_0 proper t a = by_kind a proper (says (start_at 0 (0 ∷ [])) t) proper proper proper (λ l. proper) proper

-- 3. says booked and writes nothing
abbrev writes_nothing : Sham
writes_nothing proper t a = by_kind a (says proper.answer t) proper proper proper proper (λ l. proper) proper

-- 4. books the first order properly and then only says so
abbrev first_only : Sham
first_only proper t a = by_kind a (elim (eqb t.head.bookings 0) [ true ↦ proper | false ↦ says proper.answer t ]) proper proper proper proper (λ l. proper) proper

-- 5. shows made-up free figures
abbrev makes_up : Sham
makes_up proper t a = by_kind a proper proper proper proper (says (shows 3) t) (λ l. proper) proper

-- 6. lists the first minute of the first range apart from the rest of it, which it touches
abbrev split : List Range → List Range
split [] = []
split (x ∷ rs) =
    elim (ltb x.first x.last) [ true ↦ record { first = x.first; last = x.first } ∷ record { first = suc x.first; last = x.last } ∷ rs | false ↦ x ∷ rs ]

abbrev split_listing : Answer → Answer
split_listing done = done
split_listing (starts g) = starts g
split_listing (lists rs) = lists (split rs)
split_listing (shows x) = shows x
split_listing (refused k) = refused k

abbrev splits : Sham
splits proper t a = says (split_listing proper.answer) proper.tables

-- 7. answers an offer that comes right after a cancellation as f makes of the proper answer. Of the cancellation it makes a note in
-- the head, one link more than there are, and rubs it out before it looks at the tables again
abbrev with_count : ℕ → Tables → Tables
with_count n t = record { head = record { clock = t.head.clock; links = n; bookings = t.head.bookings; guard = t.head.guard }; events = t.events; free = t.free; book = t.book; totals = t.totals }

abbrev noted : Outcome → Outcome
noted o = on_done o.answer (says done (with_count (suc o.tables.head.links) o.tables)) o

abbrev offers_so : (Answer → Answer) → Sham
offers_so f proper t a = by_kind a proper (says (f proper.answer) proper.tables) (noted proper) proper proper (λ l. proper) proper

abbrev after_cancelling : (Answer → Answer) → Desk
after_cancelling f links t c =
    elim (eqb t.head.links (suc (length links))) [ true ↦ desk_of (offers_so f) links (with_count (length links) t) c | false ↦ desk_of (offers_so (λ a. a)) links t c ]

-- one minute later, or no start
abbrev one_later : Answer → Answer
one_later a = on_start a (λ g. starts (record { start = suc g.start; path = g.path })) a

abbrev no_longer : Answer → Answer
no_longer a = refuse 8

abbrev fresh : Tables
fresh = tables session_links (empty 0)

-- the first two orders of the session
abbrev first : Request
first = request 0 2 4 10 0 1000000000

abbrev second : Request
second = request 0 2 6 5 0 1000000000

first_passes : Passes session_links fresh (ask (offer first))
unfolding checked sound sound_with tables later flatten count_from bookings.by_number rising equal sum all_from
first_passes = refl

pub not_says_8 : ¬ Demand2 (desk_of says_8)
unfolding tables count_from sum
not_says_8 d = (d.offering session_links fresh first first_passes).no_start_iff.0 (0, refl) 0 (2 ∷ []) (lit≤ tt, lit≤ tt) ((lit< tt, refl, refl), ((λ k a b. lit≤ tt), tt))

pub not_always_0 : ¬ Demand2 (desk_of always_0)
not_always_0 d = let link_0_leads_to_2 : ◌≡◌ {A = ℕ} 1 2 = (((d.offering session_links fresh first first_passes).start_iff (record { start = 0; path = 0 ∷ [] })).0 refl).works.0.2 in omega arith

set_up_done : (outcome session_links fresh (set_up 0)).answer ≡ done
unfolding kinds.outcome kinds.answer_on checked tables later flatten count_from bookings.by_number
set_up_done = refl

-- the session's desk after a set-up and these calls
abbrev after : (sham : Sham) → List Call → Moment bandwidth_desk (desk_of sham) session_links
after sham calls = record { before = fresh; start = 0; accepted = set_up_done; calls = calls }

pub not_writes_nothing : ¬ Demand3 (desk_of writes_nothing)
unfolding now plain left counted kinds.outcome kinds.answer_on kinds.answer checked best member sum earliest can_start route fewest lowest reaches first_from all_from any_below row_at passed sound sound_with tables later insert_rising flatten count_from bookings.by_number bookings.insert_by_number goes_on rising equal
not_writes_nothing d =
    let s = (d.counts session_links (after writes_nothing (ask (book 7 first) ∷ []))).as_kept 2 0 (lit< tt) (lit≤ tt) in
    let kept_4 : ◌≡◌ {A = ℕ} 4 s.0 = s.1 in
    let taken_4_of_4 : s.0 + 4 ≡ 4 = s.2 in
    omega arith

pub not_first_only : ¬ Demand3 (desk_of first_only)
unfolding now plain left counted kinds.outcome kinds.answer_on kinds.answer checked best member sum earliest can_start route fewest lowest reaches first_from all_from any_below row_at passed sound sound_with tables later insert_rising flatten count_from bookings.by_number bookings.insert_by_number goes_on rising equal
not_first_only d =
    let s = (d.counts session_links (after first_only (ask (book 7 first) ∷ ask (book 9 second) ∷ []))).as_kept 0 0 (lit< tt) (lit≤ tt) in
    let kept_10 : ◌≡◌ {A = ℕ} 10 s.0 = s.1 in
    let taken_6_of_10 : s.0 + 6 ≡ 10 = s.2 in
    omega arith

pub not_makes_up : ¬ Demand3 (desk_of makes_up)
unfolding plain counted sum
not_makes_up d =
    let s = (d.counts session_links (after makes_up [])).as_shown 0 0 (lit< tt) (lit≤ tt) (lit≤ tt) in
    let three : ◌≡◌ {A = ℕ} 3 s.0 = let e = s.1 in cc in
    let ten : s.0 + 0 ≡ 10 = s.2 in
    omega arith

-- a window of two minutes, both possible
abbrev two_minutes : Request
two_minutes = request 0 2 4 10 0 1

two_pass : Passes session_links fresh (ask (list list_size two_minutes))
unfolding checked sound sound_with tables later flatten count_from bookings.by_number rising equal sum all_from
two_pass = refl

listed_apart : (desk_of splits session_links fresh (ask (list list_size two_minutes))).answer ≡ lists (record { first = 0; last = 0 } ∷ record { first = 1; last = 1 } ∷ [])
unfolding kinds.outcome kinds.answer_on kinds.answer checked every ranges ranges_from member sum can_start route fewest lowest reaches first_from all_from any_below row_at passed sound sound_with tables later insert_rising flatten count_from bookings.by_number bookings.insert_by_number goes_on rising equal
listed_apart = refl

pub not_splits : ¬ EveryStart (desk_of splits)
not_splits d =
    let s = d.listing session_links fresh list_size two_minutes two_pass in
    let same : s.0 ≡ record { first = 0; last = 0 } ∷ record { first = 1; last = 1 } ∷ [] = let e = s.1 in let f = listed_apart in cc in
    let touching : ◌<◌ 1 1 = (subst Apart same s.2.apart).1.0 in
    omega arith

-- the first order stands; the second is offered, the first cancelled, and the second offered again
abbrev first_stands : Tables
first_stands = tables session_links (put_in (record { number = 7; terms = terms first; grant = record { start = 0; path = 2 ∷ [] } }) (empty 0))

offered_again : (f : Answer → Answer) → answers (after_cancelling f) session_links first_stands (ask (offer second) ∷ ask (cancel 7) ∷ ask (offer second) ∷ [])
    ≡ start_at 0 (0 ∷ 1 ∷ []) ∷ done ∷ f (start_at 0 (0 ∷ 1 ∷ [])) ∷ []
unfolding answers kinds.outcome kinds.answer_on kinds.answer checked best member sum earliest can_start route fewest lowest reaches first_from all_from any_below row_at passed sound sound_with tables later insert_rising flatten count_from bookings.by_number bookings.insert_by_number goes_on rising equal select
offered_again f = refl

-- what a desk that has the property would then say
said_by_0 : (f : Answer → Answer) → CancellingHarmless (after_cancelling f) → StartsBy 0 (f (start_at 0 (0 ∷ 1 ∷ [])))
said_by_0 f d = d.no_later session_links first_stands second 7 (record { start = 0; path = 0 ∷ 1 ∷ [] }) (f (start_at 0 (0 ∷ 1 ∷ []))) (offered_again f)

pub not_one_later : ¬ CancellingHarmless (after_cancelling one_later)
not_one_later d =
    let s = said_by_0 one_later d in
    let one : ◌≡◌ {A = ℕ} 1 s.0.start = let e = s.1 in cc in
    let none : s.0.start ≤ 0 = s.2 in
    omega arith

pub not_no_longer : ¬ CancellingHarmless (after_cancelling no_longer)
not_no_longer d = starts≢refused (sym (said_by_0 no_longer d).1)

-- 8. a second set-up goes unheard: on a desk that is in use it is answered as a showing of 0, whose number is 0 too, and every table
-- stays. All else is done properly
abbrev unheard : Bool → Tables → Outcome → Outcome
unheard true t proper = says (shows 0) t
unheard false t proper = proper

abbrev deaf : Desk
deaf links t (set_up_with s) = unheard (sized links t && sound links t) t (outcome links t (set_up_with s))
deaf links t (ask a) = outcome links t (ask a)

set_up_passes : Passes session_links fresh (set_up 0)
unfolding checked tables later flatten count_from bookings.by_number
set_up_passes = refl

pub not_deaf : ¬ Demand1 deaf
unfolding sound sound_with tables later flatten count_from bookings.by_number rising equal sum all_from
not_deaf d = shows≢done (d.in_form session_links fresh (set_up 0) set_up_passes)

-- 9. answers every set-up so, and writes nothing
abbrev mute : Desk
mute links t (set_up_with s) = says (on_done (outcome links t (set_up_with s)).answer (shows 0) (outcome links t (set_up_with s)).answer) t
mute links t (ask a) = outcome links t (ask a)

pub not_mute : ¬ Demand1 mute
unfolding kinds.outcome kinds.answer_on checked tables later flatten count_from bookings.by_number
not_mute d = shows≢done (d.in_form session_links fresh (set_up 0) set_up_passes)

-- 10. answers every cancellation so
abbrev mute_cancelling : Sham
mute_cancelling proper t a = by_kind a proper proper (on_done proper.answer (says (shows 0) proper.tables) proper) proper proper (λ l. proper) proper

cancel_passes : Passes session_links first_stands (ask (cancel 7))
unfolding checked member sum sound sound_with tables later insert_rising flatten count_from bookings.by_number bookings.insert_by_number goes_on rising equal all_from any_below
cancel_passes = refl

pub not_mute_cancelling : ¬ Demand1 (desk_of mute_cancelling)
unfolding kinds.outcome kinds.answer_on kinds.answer checked member sum sound sound_with tables later insert_rising flatten count_from bookings.by_number bookings.insert_by_number goes_on rising equal all_from any_below select
not_mute_cancelling d = shows≢done (d.in_form session_links first_stands (ask (cancel 7)) cancel_passes)

-- 11. takes every guard that is in range for none
abbrev unguarded : Desk
unguarded links t (set_up_with guard) = elim (leb guard most_guard) [ true ↦ outcome links t (set_up 0) | false ↦ outcome links t (set_up guard) ]
unguarded links t (ask a) = outcome links t (ask a)

-- set up with a guard of 2 it books link 2 full for minutes 0 to 9, and then from minute 10 on
abbrev behind_first : Request
behind_first = request 0 2 4 10 10 10

abbrev too_close : Moment bandwidth_desk unguarded session_links
too_close = record { before = fresh; start = 2; accepted = set_up_done; calls = ask (book 7 first) ∷ ask (book 9 behind_first) ∷ [] }

pub not_unguarded : ¬ Demand3 unguarded
unfolding now plain left counted kinds.outcome kinds.answer_on kinds.answer checked best member sum earliest can_start route fewest lowest reaches first_from all_from any_below row_at passed sound sound_with tables later insert_rising flatten count_from bookings.by_number bookings.insert_by_number goes_on rising equal
not_unguarded d =
    let s = (d.counts session_links too_close).as_kept 2 10 (lit< tt) (lit≤ tt) in
    let kept_0 : ◌≡◌ {A = ℕ} 0 s.0 = s.1 in
    let taken_8_of_4 : s.0 + 8 ≡ 4 = s.2 in
    omega arith

pub not_unguarded_apart : ¬ KeepsApart unguarded
unfolding plain left counted kinds.outcome kinds.answer_on kinds.answer checked best member sum earliest can_start route fewest lowest reaches first_from all_from any_below row_at passed sound sound_with tables later insert_rising flatten count_from bookings.by_number bookings.insert_by_number goes_on rising equal
not_unguarded_apart d =
    let apart = d session_links too_close (booked 7 0) (booked 9 10) (Memᴰ.tail (Memᴰ.head refl)) (Memᴰ.head refl) (λ e. let z : ◌≡◌ {A = ℕ} 7 9 = e in omega arith) 2 (Memᴰ.head refl) (Memᴰ.head refl) (lit< tt) in
    ⊎_elim (λ (h : 12 ≤ 10). omega arith) (λ (h : 22 ≤ 0). omega arith) apart
  where
    booked : ℕ → ℕ → Booking
    booked number start = record { number = number; terms = terms first; grant = record { start = start; path = 2 ∷ [] } }

-- 12. says the minute that f makes of an offer's low and of the one at which it breaks off
abbrev beside_8 : (ℕ → ℕ) → Answer → Answer
beside_8 f done = done
beside_8 f (starts g) = starts g
beside_8 f (lists rs) = lists rs
beside_8 f (shows x) = shows x
beside_8 f (refused k) = elim (eqb k.number 8) [ true ↦ no_start_at (f k.at) | false ↦ refused k ]

abbrev minute_said : (ℕ → ℕ → ℕ) → Desk
minute_said f links t (set_up_with s) = outcome links t (set_up_with s)
minute_said f links t (ask (offer r)) = says (beside_8 (f (low (held t) r)) (outcome links t (ask (offer r))).answer) t
minute_said f links t (ask (book n r)) = outcome links t (ask (book n r))
minute_said f links t (ask (list n r)) = outcome links t (ask (list n r))
minute_said f links t (ask (cancel n)) = outcome links t (ask (cancel n))
minute_said f links t (ask (move_clock m)) = outcome links t (ask (move_clock m))
minute_said f links t (ask (show l m)) = outcome links t (ask (show l m))
minute_said f links t (ask (sold l)) = outcome links t (ask (sold l))

-- low always
abbrev low_always : ℕ → ℕ → ℕ
low_always least m = least

-- one late
abbrev one_late : ℕ → ℕ → ℕ
one_late least m = suc m

-- link 0, the only one from node 0 to node 1, is sold full in minutes 3 and 4, and an offer of five minutes from 0 on breaks off at 3
abbrev sold_at_3 : Tables
sold_at_3 = tables session_links (put_in (record { number = 7; terms = record { duration = 2; bandwidth = 10 }; grant = record { start = 3; path = 0 ∷ [] } }) (empty 0))

abbrev five_minutes : Request
five_minutes = request 0 1 1 5 0 0

five_pass : Passes session_links sold_at_3 (ask (offer five_minutes))
unfolding checked member sum sound sound_with tables later insert_rising flatten count_from bookings.by_number bookings.insert_by_number goes_on rising equal all_from any_below
five_pass = refl

pub not_low_always : ¬ Demand2 (minute_said low_always)
unfolding kinds.outcome kinds.answer_on kinds.answer checked best breaks_off break_off member sum earliest can_start route fewest lowest reaches first_from all_from any_below row_at passed sound sound_with tables later insert_rising flatten count_from bookings.by_number bookings.insert_by_number goes_on rising equal
not_low_always d =
    let b = (d.offering session_links sold_at_3 five_minutes five_pass).breaks_off 0 refl in
    b.none_lasts (0 ∷ []) ((lit< tt, refl, refl), ((λ k x y. let e : k ≡ 0 = omega arith in rw e (lit≤ tt)), tt))

-- more than any link has
abbrev too_much : Request
too_much = request 0 1 11 1 0 0

much_passes : Passes session_links fresh (ask (offer too_much))
unfolding checked sound sound_with tables later flatten count_from bookings.by_number rising equal sum all_from
much_passes = refl

no_link_has_11 : (l : ℕ) → capacity session_links l ≤ 10
no_link_has_11 zero = lit≤ tt
no_link_has_11 (suc zero) = lit≤ tt
no_link_has_11 (suc (suc zero)) = lit≤ tt
no_link_has_11 (suc (suc (suc l))) = lit≤ tt

pub not_one_late : ¬ Demand2 (minute_said one_late)
unfolding kinds.outcome kinds.answer_on kinds.answer checked best breaks_off break_off member sum earliest can_start route fewest lowest reaches first_from all_from any_below row_at passed sound sound_with tables later flatten count_from bookings.by_number rising equal
not_one_late d =
    let b = (d.offering session_links fresh too_much much_passes).breaks_off 1 refl in
    let w = b.lasts_before 0 (lit≤ tt) (lit< tt) in
    none w.0 w.1
  where
    none : (path : List ℕ) → PathIn session_links (held fresh) too_much 0 1 path → ⊥
    none [] x = let z : ◌≡◌ {A = ℕ} 0 1 = x.0 in omega arith
    none (l ∷ path) x = let h = x.1.0 0 (lit≤ tt) (lit< tt) in omega (arith, no_link_has_11 l)

-- 13. says minute 1 beside a refusal of an offer that isn't 8
abbrev beside_others : Answer → Answer
beside_others done = done
beside_others (starts g) = starts g
beside_others (lists rs) = lists rs
beside_others (shows x) = shows x
beside_others (refused k) = elim (eqb k.number 8) [ true ↦ refused k | false ↦ refused (record { number = k.number; at = 1 }) ]

abbrev minute_beside : Sham
minute_beside proper t a = by_kind a proper (says (beside_others proper.answer) proper.tables) proper proper proper (λ l. proper) proper

abbrev same_nodes : Request
same_nodes = request 0 0 1 1 0 0

stopped_4 : Stopped bandwidth_desk session_links fresh (ask (offer same_nodes)) 4
unfolding checked sound sound_with tables later flatten count_from bookings.by_number rising equal sum all_from
stopped_4 = refl

pub not_minute_beside : ¬ Demand1 (desk_of minute_beside)
unfolding kinds.outcome kinds.answer_on kinds.answer checked sound sound_with tables later flatten count_from bookings.by_number rising equal sum all_from
not_minute_beside d =
    let one : ◌≡◌ {A = ℕ} 1 0 = ap (λ (v : Values). v.at) (ap values (d.stopped session_links fresh (ask (offer same_nodes)) 4 stopped_4)) in
    omega arith

-- 14. keeps the totals as they were in a cancellation, or in a clock move
abbrev with_totals : List ℕ → Tables → Tables
with_totals totals t = record { head = t.head; events = t.events; free = t.free; book = t.book; totals = totals }

abbrev forgets : Sham
forgets proper t a = by_kind a proper proper (says proper.answer (with_totals t.totals proper.tables)) proper proper (λ l. proper) proper

abbrev keeps_ended : Sham
keeps_ended proper t a = by_kind a proper proper proper (says proper.answer (with_totals t.totals proper.tables)) proper (λ l. proper) proper

-- the first order sells 40 of link 2, and is cancelled
pub not_forgets : ¬ SellsAsBooked (desk_of forgets)
unfolding now plain left counted kinds.outcome kinds.answer_on kinds.answer checked best member sum earliest can_start route fewest lowest reaches first_from all_from any_below row_at passed sound sound_with tables later insert_rising flatten count_from bookings.by_number bookings.insert_by_number goes_on rising equal select
not_forgets d =
    let forty : ◌≡◌ {A = ℕ} 40 0 = d.kept session_links (after forgets (ask (book 7 first) ∷ ask (cancel 7) ∷ [])) 2 (lit< tt) in
    omega arith

-- or has ended
pub not_keeps_ended : ¬ SellsAsBooked (desk_of keeps_ended)
unfolding now plain left counted kinds.outcome kinds.answer_on kinds.answer checked best member sum earliest can_start route fewest lowest reaches first_from all_from any_below row_at passed sound sound_with tables later insert_rising flatten count_from bookings.by_number bookings.insert_by_number goes_on rising equal select
not_keeps_ended d =
    let forty : ◌≡◌ {A = ℕ} 40 0 = d.kept session_links (after keeps_ended (ask (book 7 first) ∷ ask (move_clock 10) ∷ [])) 2 (lit< tt) in
    omega arith

-- 15. tells of a link what f says
abbrev tells : (List Link → Tables → ℕ → Answer) → Desk
tells f links t c = desk_of (λ proper t a. by_kind a proper proper proper proper proper (λ l. says (f links t l) t) proper) links t c

-- the guard counted
abbrev with_guard : List Link → Tables → ℕ → Answer
with_guard links t l = shows (sum (map (λ b. if_so (member l b.grant.path) (b.terms.bandwidth * span (held t) b.terms)) (held t).bookings))

-- the total of the link behind
abbrev link_behind : List Link → Tables → ℕ → Answer
link_behind links t l = (outcome links t (ask (sold (suc l)))).answer

figure_said : {x y : ℕ} → shows x ≡ shows y → x ≡ y
figure_said e = ap (λ (v : Values). v.figure) (ap values e)

set_up_under_2 : (outcome session_links fresh (set_up 2)).answer ≡ done
unfolding kinds.outcome kinds.answer_on checked tables later flatten count_from bookings.by_number
set_up_under_2 = refl

-- after the first order, under a guard of 2
abbrev sold_under_2 : Moment bandwidth_desk (tells with_guard) session_links
sold_under_2 = record { before = fresh; start = 2; accepted = set_up_under_2; calls = ask (book 7 first) ∷ [] }

pub not_with_guard : ¬ SellsAsBooked (tells with_guard)
unfolding now plain left counted kinds.outcome kinds.answer_on kinds.answer checked best member sum earliest can_start route fewest lowest reaches first_from all_from any_below row_at passed sound sound_with tables later insert_rising flatten count_from bookings.by_number bookings.insert_by_number goes_on rising equal
not_with_guard d =
    let more : ◌≡◌ {A = ℕ} 48 40 = figure_said (d.answered session_links sold_under_2 2 (lit< tt)) in
    omega arith

-- and under none
abbrev sold_under_0 : Moment bandwidth_desk (tells link_behind) session_links
sold_under_0 = record { before = fresh; start = 0; accepted = set_up_done; calls = ask (book 7 first) ∷ [] }

pub not_link_behind : ¬ SellsAsBooked (tells link_behind)
unfolding now plain left counted kinds.outcome kinds.answer_on kinds.answer checked best member sum earliest can_start route fewest lowest reaches first_from all_from any_below row_at passed sound sound_with tables later insert_rising flatten count_from bookings.by_number bookings.insert_by_number goes_on rising equal
not_link_behind d =
    let forty : ◌≡◌ {A = ℕ} 40 0 = figure_said (d.answered session_links sold_under_0 1 (lit< tt)) in
    omega arith

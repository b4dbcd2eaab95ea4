-- list_ranges meets its contract. The ranges before the next start are found, counted and written.
use mathlib.Core.Bool.{true}
use mathlib.Core.Path.{◌≡◌, sym, ◌∙◌, ap, subst}
use Prim.Native.Nat.{suc, ◌-◌, ◌*◌, ◌≤◌, ◌<◌}
use native.Mathlib.Nat.{le_refl}
use native.Mathlib.Omega.{arith}
use borrow.Author.Rules.{rules}
use borrow.Rule.Slice.PartMut.{put_mid}
use lib.ListN.{length, take, drop, replicate, length-set}
use mathlib.Core.List.{◌++◌}
use Rattle.std.proofs.lemmas.Slice.{overwrites}
use Rattle.units.specs.Limits.{most_ranges}
use Rattle.path_search.specs.Answer.{graph}
use Rattle.choice.specs.Answer.{wanted, carried, possible_of, choice_of}
use Rattle.choice.proofs.Exits.{askable_part}
use Rattle.listing.specs.Ranges.{start_of, start_granted}
use Rattle.listing.proofs.Found.{Listed, NextStart, minute_or, start_or, start_answered, start_found, next_start, listed_first, listed_few, listed_next, all_counted, all_written}
use Rattle.listing.proofs.list_ranges.Goals as goal
use Rattle.listing.proofs.list_ranges.Goals.{After-start_granted-next, In-Some, After-run_end-end, After-next_start-next}

-- the first start is that of the choice
first_is : (c : After-start_granted-next) → c.start_granted-next.result ≡ start_of (choice_of c.args.asked.now c.args.low.0 c.args.latest.0)
first_is c = c.start_granted-next.ensures ∙ ap start_granted c.first_start.ensures.first ∙ start_answered (choice_of c.args.asked.now c.args.low.0 c.args.latest.0)

first_or : (c : After-start_granted-next) → minute_or (suc c.args.latest.0) c.start_granted-next.result ≡ start_or (suc c.args.latest.0) (choice_of c.args.asked.now c.args.low.0 c.args.latest.0)
first_or c = ap (minute_or (suc c.args.latest.0)) (first_is c)

-- the start that is looked at lies in the window, behind the ranges so far
listed_to : (c : In-Some) → Listed (possible_of c.args.asked.now) c.args.latest.0 (minute_or (suc c.args.latest.0) c.start_granted-next.result) c.loop-next.list c.loop-next.count c.in-Some.start.0
listed_to c =
    subst (Listed (possible_of c.args.asked.now) c.args.latest.0 (minute_or (suc c.args.latest.0) c.start_granted-next.result) c.loop-next.list c.loop-next.count)
    (ap (minute_or (suc c.args.latest.0)) c.in-Some.is) c.loop-next.invariant.listed

-- it is possible
looked_at : (c : In-Some) → (c.args.low.0 ≤ c.in-Some.start.0) × (c.in-Some.start.0 ≤ c.args.latest.0) × (possible_of c.args.asked.now c.in-Some.start.0 ≡ true)
looked_at c = c.loop-next.invariant.in_window c.in-Some.start c.in-Some.is

-- where a range is found there is a place for it
room : (c : After-run_end-end) → c.loop-next.count < most_ranges
room c =
    let at = goal.at.After-run_end-end c in
    listed_few c.args.asked.now c.args.low.0 c.args.latest.0 (minute_or (suc c.args.latest.0) c.start_granted-next.result) (first_or at.After-start_granted-next) c.loop-next.list c.loop-next.count c.in-Some.start.0 (listed_to at.In-Some) (looked_at at.In-Some).1
    c.run_end-end.result.0 c.run_end-end.ensures.run c.requires.askable.not_past c.requires.events_fit

-- the next start, or the minute after the window
following : (c : After-next_start-next) → NextStart (possible_of c.args.asked.now) c.run_end-end.result.0 (suc c.args.latest.0) (minute_or (suc c.args.latest.0) c.next_start-next.result)
following c =
    let a = c.args.asked.now in
    next_start (graph a.search.now.ends) (carried (wanted a.search.now) a.table.events.now a.table.figures.now) a.search.now.source a.search.now.destination c.run_end-end.result.0 c.args.latest.0
    (minute_or (suc c.args.latest.0) c.next_start-next.result) c.run_end-end.ensures.run.not_past (ap (minute_or (suc c.args.latest.0)) c.next_start-next.ensures.next)

pub first_start-requires-clause-known : goal.first_start-requires-clause-known
first_start-requires-clause-known c = c.nothing_known-known.ensures c.args.asked.now

pub loop-next-init : goal.loop-next-init
loop-next-init c =
    let a = c.args.asked.now in
    record {
      listed = listed_first a c.args.low.0 c.args.latest.0 (minute_or (suc c.args.latest.0) c.start_granted-next.result) (first_or (goal.at.loop-next-init c).After-start_granted-next) c.args.list.now c.requires.list_sized;
      known = c.first_start.ensures.known;
      in_window = λ m e. start_found a c.args.low.0 c.args.latest.0 m (sym (first_is (goal.at.loop-next-init c).After-start_granted-next) ∙ e);
    }

pub run_end-end-requires : goal.run_end-end-requires
run_end-end-requires c =
    let start = looked_at (goal.at.run_end-end-requires c).In-Some in
    record { askable = askable_part c.requires.askable c.in-Some.start.0 c.args.latest.0 start.0 (le_refl _); known = c.loop-next.invariant.known; in_window = start.1; possible = start.2 }

pub bounds-list-place : goal.bounds-list-place
bounds-list-place c = omega (arith, room (goal.at.bounds-list-place c).After-run_end-end, c.loop-next.invariant.listed.sized)

pub bounds-list-place-in-Some : goal.bounds-list-place-in-Some
bounds-list-place-in-Some c = simp length-set (omega (arith, room (goal.at.bounds-list-place-in-Some c).After-run_end-end, c.loop-next.invariant.listed.sized))

pub next_start-next-requires-clause-askable : goal.next_start-next-requires-clause-askable
next_start-next-requires-clause-askable c =
    askable_part c.requires.askable c.run_end-end.result.0 c.args.latest.0 (omega (arith, looked_at (goal.at.next_start-next-requires-clause-askable c).In-Some, c.run_end-end.ensures.run.after)) (le_refl _)

pub loop-next-smaller : goal.loop-next-smaller
loop-next-smaller c =
    let at = goal.at.loop-next-smaller c in
    omega (arith, looked_at at.In-Some, ap (minute_or (suc c.args.latest.0)) c.in-Some.is, c.run_end-end.ensures.run.after, (following at.After-next_start-next).not_before)

pub loop-next-preserved : goal.loop-next-preserved
loop-next-preserved c =
    let at = goal.at.loop-next-preserved c in
    let a = c.args.asked.now in
    record {
      listed = listed_next a c.args.low.0 c.args.latest.0 (minute_or (suc c.args.latest.0) c.start_granted-next.result) (first_or at.After-start_granted-next) c.loop-next.list c.loop-next.count c.in-Some.start.0 (listed_to at.In-Some) (looked_at at.In-Some).1
          c.run_end-end.result.0 c.run_end-end.ensures.run (minute_or (suc c.args.latest.0) c.next_start-next.result) (following at.After-next_start-next) (room at.After-run_end-end);
      known = c.next_start-next.ensures.known;
      in_window = λ m e. let found = start_found a c.run_end-end.result.0 c.args.latest.0 m (sym c.next_start-next.ensures.next ∙ e) in (omega (arith, looked_at at.In-Some, c.run_end-end.ensures.run.after, found), found.1, found.2);
    }

pub returns : goal.returns
returns c =
    let at = (goal.at.returns c).After-start_granted-next in
    let l = c.loop-next in
    let a = c.args.asked.now in
    let none_left : minute_or (suc c.args.latest.0) l.next ≡ suc c.args.latest.0 = ap (minute_or (suc c.args.latest.0)) c.in_default.is in
    let outside : c.args.latest.0 < minute_or (suc c.args.latest.0) l.next = omega arith in
    let first = minute_or (suc c.args.latest.0) c.start_granted-next.result in
    let next = minute_or (suc c.args.latest.0) l.next in
    let size = l.invariant.listed.sized in
    let room = l.invariant.listed.room in
    let rest : length (take (length l.list - l.count * 2) (drop (l.count * 2) l.list)) ≡ length l.list - l.count * 2 = search rules in
    let zeros : c.fill.new.self ≡ replicate (length l.list - l.count * 2) 0 = c.fill.ensures.after (λ y h. search rules) ∙ ap (λ n. replicate n 0) rest in
    let whole : put_mid (l.count * 2) (length l.list - l.count * 2) l.list c.fill.new.self ≡ take (l.count * 2) l.list ++ c.fill.new.self = search (rules, overwrites) in
    record {
      count = all_counted a c.args.low.0 c.args.latest.0 first (first_or at) l.list l.count next l.invariant.listed outside;
      written = whole ∙ ap (λ z. take (l.count * 2) l.list ++ z) zeros ∙ all_written a c.args.low.0 c.args.latest.0 first (first_or at) l.list l.count next l.invariant.listed outside;
    }

-- `advance` meets its contract: what stands before the clock is dropped in the rows that can be used.
use Rattle.std.proofs.Common.{◌≡◌, ◌∙◌, ◌+◌, ◌*◌, length, arith}
use Rattle.lent.specs.Lent.{tables_of}
use Rattle.rules.specs.Calls.{move_to}
use Rattle.rules.specs.Tables.{held}
use Rattle.rules.proofs.Fine.{sizes, few_bookings}
use Rattle.changes.proofs.InOrder.{book_moved, count_moved}
use Rattle.changes.proofs.Front.{rows_few, events_inside, events_lent, free_inside, free_lent}
use Rattle.changes.proofs.MovedOn.{obeys_left, can_drop, moved_on}
use Rattle.changes.proofs.Written.{totals_were}
use Rattle.changes.proofs.advance.Goals as goal
use Rattle.changes.proofs.advance.Goals.{After-drop_ended}

pub slice_bounds-events-end : goal.slice_bounds-events-end
slice_bounds-events-end c = let fine = c.requires.fine in events_inside fine (1 + 2 * c.args.desk.now.head.now.bookings) (rows_few fine)

pub slice_bounds-events-end-2 : goal.slice_bounds-events-end-2
slice_bounds-events-end-2 c = let fine = c.requires.fine in events_lent fine (1 + 2 * c.args.desk.now.head.now.bookings) (rows_few fine)

pub slice_bounds-free-end : goal.slice_bounds-free-end
slice_bounds-free-end c = let fine = c.requires.fine in free_inside fine (1 + 2 * c.args.desk.now.head.now.bookings) (rows_few fine)

pub slice_bounds-free-end-2 : goal.slice_bounds-free-end-2
slice_bounds-free-end-2 c = let fine = c.requires.fine in free_lent fine (1 + 2 * c.args.desk.now.head.now.bookings) (rows_few fine)

pub drop_ended_work-requires-clause-can : goal.drop_ended_work-requires-clause-can
drop_ended_work-requires-clause-can c = can_drop c.requires.fine c.args.minute.0 c.requires.in_range c.requires.onward

pub drop_ended_work-requires-clause-were : goal.drop_ended_work-requires-clause-were
drop_ended_work-requires-clause-were c = totals_were c.requires.fine

pub drop_ended-requires : goal.drop_ended-requires
drop_ended-requires c = omega (arith, few_bookings c.requires.fine, (sizes c.requires.fine).book_right)

count_is : (c : After-drop_ended) → c.drop_ended.result ≡ length (move_to c.args.minute.0 (held (tables_of c.args.desk.now))).bookings
count_is c = c.drop_ended.ensures.0 ∙ count_moved c.requires.fine c.args.minute.0

pub overflow_cast-head : goal.overflow_cast-head
overflow_cast-head c =
    let at = goal.at.overflow_cast-head c in
    omega (arith, count_is at.After-drop_ended, (obeys_left c.requires.fine c.args.minute.0 c.requires.in_range c.requires.onward).not_too_many)

pub returns-clause-tables : goal.returns-clause-tables
returns-clause-tables c =
    let fine = c.requires.fine in
    let m = c.args.minute.0 in
    moved_on fine m c.requires.in_range c.requires.onward (count_is (goal.at.returns-clause-tables c).After-drop_ended) (c.drop_ended.ensures.1 ∙ book_moved fine m) c.drop_before.ensures.0 c.drop_before.ensures.1 c.drop_ended_work.ensures

-- What is written and pending, and the lines of the orders that are left, are all that was pending and all orders' lines.
use Rattle.std.proofs.Common.{◌≡◌, ◌+◌, ◌≤◌, ◌++◌, length, drop, true}
use Rattle.rules.specs.Tables.{Fine}
use Rattle.lent.specs.Lent.{tables_of}
use Rattle.streams.specs.Writing.{Moves, pending}
use Rattle.session.specs.Session.{lines, after}
use Rattle.session.specs.Streaming.{running}
use Rattle.session.proofs.run_orders.Given as goal

abbrev pub invariant-loop-order : goal.invariant-loop-order
invariant-loop-order g l =
    let r = running l.desk l.lines in
    let first = running l.initial.desk l.initial.lines in
    let left = drop l.order-index l.orders in
    (g.W.Output.intact l.output ≡ true)
    × Fine l.desk.links.now (tables_of l.desk)
    × (l.lines.used ≤ length l.lines.bytes)
    × (l.lines.place ≡ l.initial.lines.place + l.order-index)
    × (after r left ≡ after first l.orders)
    × Moves (g.W.Write.contents l.initial.output) (g.W.Write.contents l.output) (pending l.initial.lines ++ lines first l.orders) (pending l.lines ++ lines r left)

-- What was written, and what is due of the rest of the input, are all lines.
use Rattle.std.proofs.Common.{◌≡◌, ◌+◌, ◌*◌, ◌≤◌, ◌<◌, true}
use Rattle.rules.specs.Tables.{Fine}
use Rattle.lent.specs.Lent.{tables_of}
use Rattle.layout.specs.Layout.{order_bytes}
use Rattle.streams.specs.Reading.{kept}
use Rattle.session.specs.Session.{lines, orders}
use Rattle.session.specs.Streaming.{Goes, Taken, running, at_place, due, most_orders}
use Rattle.session.proofs.run_all.Given as goal

abbrev pub invariant-loop : goal.invariant-loop
invariant-loop g l =
    (g.W.Output.intact l.output ≡ true)
    × Fine l.desk.links.now (tables_of l.desk)
    × (l.block.kept < order_bytes)
    × (l.lines.used ≡ 0)
    × (l.lines.place ≤ 1 + l.counter * most_orders)
    × Taken l.counter (g.R.Read.remaining l.initial.input) (g.R.Read.remaining l.input)
    × Goes (g.R.Read.remaining l.initial.input) (g.R.Read.remaining l.input) (g.W.Write.contents l.initial.output) (g.W.Write.contents l.output) (λ bytes. lines (at_place l.initial.desk 1) (orders bytes)) (due (running l.desk l.lines) (kept l.block))

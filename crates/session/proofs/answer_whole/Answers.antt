-- `answer_whole` meets its contract: where the lines cannot be written out, some of them were.
use Rattle.std.proofs.Common.{rules, ◌∙◌, ap, subst}
use Rattle.streams.specs.Writing.{AppendsFront, Moves, pending}
use Rattle.session.specs.Session.{lines, whole_orders}
use Rattle.session.specs.Streaming.{running}
use Rattle.session.proofs.Fronts.{front_after}
use Rattle.session.proofs.Runs.{none_pending}
use Rattle.session.proofs.answer_whole.Goals as goal

pub returns-clause-front : goal.returns-clause-front
returns-clause-front g c =
    let first = running c.args.desk.now c.args.lines.now in
    let all = lines first (whole_orders c.args.bytes.now) in
    let mid = c.run_orders.new in
    let before = g.W.Write.contents c.args.output.now in
    let between = g.W.Write.contents mid.output in
    let moved : Moves before between all (pending mid.lines) =
    subst (λ x. Moves before between x (pending mid.lines)) (none_pending c.args.lines.now c.requires.none _ ∙ ap (lines first) c.as_chunks.ensures.front) c.in_ok-run_orders.ensures.moves in
    let fails : AppendsFront before (g.W.Write.contents c.write_out.new.output) all =
    front_after before between (g.W.Write.contents c.write_out.new.output) all (pending mid.lines) moved c.write_out.ensures.front in
    search (rules, fails)

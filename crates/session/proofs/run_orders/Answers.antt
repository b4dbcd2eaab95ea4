-- `run_orders` meets its contract: the next order's line goes behind those before it.
use Rattle.std.proofs.Common.{rules, ◌≡◌, ◌+◌, ◌++◌, [], ◌∷◌, List, ℕ, get_or, drop, drop_of_length-le, ap, ◌∙◌, arith}
use Rattle.std.proofs.lemmas.List.{drop_more}
use Rattle.streams.specs.Writing.{AppendsFront, pending}
use Rattle.session.specs.Session.{lines}
use Rattle.session.specs.Streaming.{running}
use Rattle.session.proofs.Runs.{next_after, one_more, one_fails, all_run, all_moved}
use Rattle.session.proofs.run_orders.Given.{Over}
use Rattle.session.proofs.run_orders.Goals as goal
use Rattle.session.proofs.run_orders.Goals.{After-run_one}

-- the next order, and those behind it
abbrev next : (g : Over) → After-run_one g → List ℕ
next g c = get_or c.args.orders.now c.loop-order.order-index []

abbrev rest : (g : Over) → After-run_one g → List (List ℕ)
rest g c = drop (c.loop-order.order-index + 1) c.args.orders.now

here : (g : Over) (c : After-run_one g) → drop c.loop-order.order-index c.args.orders.now ≡ next g c ∷ rest g c
here g c = drop_more c.args.orders.now c.loop-order.order-index [] (search rules)

pub returns-in_err-run_one-clause-front : goal.returns-in_err-run_one-clause-front
returns-in_err-run_one-clause-front g c =
    let k = (goal.at.returns-in_err-run_one-clause-front g c).After-run_one in
    let l = c.loop-order in
    let all = pending c.args.lines.now ++ lines (running c.args.desk.now c.args.lines.now) c.args.orders.now in
    let (intact, fine, within, place, behind_it, moved) = l.invariant in
    let fails : AppendsFront (g.W.Write.contents c.args.output.now) (g.W.Write.contents c.run_one.new.output) all =
    one_fails (running l.desk l.lines) (next g k) (rest g k) _ (here g k) (g.W.Write.contents c.args.output.now) (g.W.Write.contents l.output) (g.W.Write.contents c.run_one.new.output) all (pending l.lines) moved c.in_err-run_one.ensures.front in
    search (rules, fails)

pub loop-order-preserved : goal.loop-order-preserved
loop-order-preserved g c =
    let k = (goal.at.loop-order-preserved g c).After-run_one in
    let l = c.loop-order in
    let all = pending c.args.lines.now ++ lines (running c.args.desk.now c.args.lines.now) c.args.orders.now in
    let (intact, fine, within, place, behind_it, moved) = l.invariant in
    let run = c.in_ok-run_one.ensures in
    let now = running c.run_one.new.desk c.run_one.new.lines in (
      run.intact,
      run.fine,
      run.within,
      omega (arith, ap (λ x. x.place) run.runs, place),
      next_after (running l.desk l.lines) (next g k) (rest g k) _ (here g k) now run.runs ∙ behind_it,
      one_more (running l.desk l.lines) (next g k) (rest g k) _ (here g k) (g.W.Write.contents c.args.output.now) (g.W.Write.contents l.output) (g.W.Write.contents c.run_one.new.output) all (pending l.lines) moved now (pending c.run_one.new.lines) run.runs run.moves,
    )

pub returns-clause-runs : goal.returns-clause-runs
returns-clause-runs g c =
    let l = c.loop-order in
    let (intact, fine, within, place, behind_it, moved) = l.invariant in
    all_run (running l.desk l.lines) _ (drop_of_length-le c.args.orders.now (search rules)) (running c.args.desk.now c.args.lines.now) c.args.orders.now behind_it

pub returns-clause-moves : goal.returns-clause-moves
returns-clause-moves g c =
    let l = c.loop-order in
    let all = pending c.args.lines.now ++ lines (running c.args.desk.now c.args.lines.now) c.args.orders.now in
    let (intact, fine, within, place, behind_it, moved) = l.invariant in
    all_moved (running l.desk l.lines) _ (drop_of_length-le c.args.orders.now (search rules)) (g.W.Write.contents c.args.output.now) (g.W.Write.contents l.output) all (pending l.lines) moved

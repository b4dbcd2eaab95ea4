-- `run_all` meets its contract: what a turn writes stands behind what was written.
use Rattle.std.proofs.Common.{rules, ◌≡◌, List, ℕ, true, false, subst}
use Rattle.streams.specs.Reading.{kept}
use Rattle.session.specs.Session.{lines, orders}
use Rattle.session.specs.Streaming.{Goes, running, at_place, due, due_if}
use Rattle.session.proofs.Steps.{goes_then, goes_fails, goes_stops, taken_more}
use Rattle.session.proofs.run_all.Goals as goal

pub returns-in_err-answer_some-clause-front : goal.returns-in_err-answer_some-clause-front
returns-in_err-answer_some-clause-front g c =
    let a = c.args in
    let l = c.loop in
    let (intact, fine, short, none, place, taken, goes) = l.invariant in
    let all : List ℕ → List ℕ = λ bytes. lines (at_place a.desk.now 1) (orders bytes) in
    goes_fails (g.R.Read.remaining a.input.now) (g.R.Read.remaining l.input) (g.W.Write.contents a.output.now) (g.W.Write.contents l.output) all (due (running l.desk l.lines) (kept l.block)) goes (g.W.Write.contents c.answer_some.new.output) c.in_err-answer_some.ensures.front

pub returns-then-not-branch-clause-front : goal.returns-then-not-branch-clause-front
returns-then-not-branch-clause-front g c =
    let a = c.args in
    let l = c.loop in
    let (intact, fine, short, none, place, taken, goes) = l.invariant in
    let k = c.in_ok-answer_some.ensures in
    let all : List ℕ → List ℕ = λ bytes. lines (at_place a.desk.now 1) (orders bytes) in
    let ended : c.in_ok-answer_some.field-0 ≡ false = search rules in
    let still : List ℕ → List ℕ = due (running c.answer_some.new.desk c.answer_some.new.lines) (kept c.answer_some.new.block) in
    let step = subst (λ m. Goes (g.R.Read.remaining l.input) (g.R.Read.remaining c.answer_some.new.input) (g.W.Write.contents l.output) (g.W.Write.contents c.answer_some.new.output) (due (running l.desk l.lines) (kept l.block)) (due_if m still)) ended k.goes in
    let whole = goes_then (g.R.Read.remaining a.input.now) (g.R.Read.remaining l.input) (g.W.Write.contents a.output.now) (g.W.Write.contents l.output) all (due (running l.desk l.lines) (kept l.block)) goes (g.R.Read.remaining c.answer_some.new.input) (g.W.Write.contents c.answer_some.new.output) (due_if false still) step in
    goes_stops (g.R.Read.remaining a.input.now) (g.R.Read.remaining c.answer_some.new.input) (g.W.Write.contents a.output.now) (g.W.Write.contents c.answer_some.new.output) all (due_if false still) whole

pub loop-preserved : goal.loop-preserved
loop-preserved g c =
    let a = c.args in
    let l = c.loop in
    let (intact, fine, short, none, place, taken, goes) = l.invariant in
    let k = c.in_ok-answer_some.ensures in
    let all : List ℕ → List ℕ = λ bytes. lines (at_place a.desk.now 1) (orders bytes) in
    let more : c.in_ok-answer_some.field-0 ≡ true = search rules in
    let still : List ℕ → List ℕ = due (running c.answer_some.new.desk c.answer_some.new.lines) (kept c.answer_some.new.block) in
    let step = subst (λ m. Goes (g.R.Read.remaining l.input) (g.R.Read.remaining c.answer_some.new.input) (g.W.Write.contents l.output) (g.W.Write.contents c.answer_some.new.output) (due (running l.desk l.lines) (kept l.block)) (due_if m still)) more k.goes in (
      k.intact,
      k.fine,
      k.kept,
      k.none more,
      search rules,
      taken_more l.counter 1 (g.R.Read.remaining a.input.now) (g.R.Read.remaining l.input) (g.R.Read.remaining c.answer_some.new.input) taken (k.taken more),
      goes_then (g.R.Read.remaining a.input.now) (g.R.Read.remaining l.input) (g.W.Write.contents a.output.now) (g.W.Write.contents l.output) all (due (running l.desk l.lines) (kept l.block)) goes (g.R.Read.remaining c.answer_some.new.input) (g.W.Write.contents c.answer_some.new.output) still step,
    )

pub returns-clause-front : goal.returns-clause-front
returns-clause-front g c =
    let a = c.args in
    let l = c.loop in
    let (intact, fine, short, none, place, taken, goes) = l.invariant in
    goes_stops (g.R.Read.remaining a.input.now) (g.R.Read.remaining l.input) (g.W.Write.contents a.output.now) (g.W.Write.contents l.output) (λ bytes. lines (at_place a.desk.now 1) (orders bytes)) (due (running l.desk l.lines) (kept l.block)) goes

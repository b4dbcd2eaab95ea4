-- `answer_some` meets its contract: what has come is answered, but for what is cut short; at the input's end that is the last piece.
use Rattle.std.proofs.Common.{rules, List, [], ℕ, take}
use Rattle.std.specs.Prelude.{IfSome}
use Rattle.streams.specs.Reading.{kept}
use Rattle.streams.specs.Writing.{AppendsFront}
use Rattle.session.specs.Streaming.{running, due}
use Rattle.session.proofs.Steps.{answered_whole, whole_fails, answered_last, last_fails}
use Rattle.session.proofs.answer_some.Given.{Over}
use Rattle.session.proofs.answer_some.Goals as goal
use Rattle.session.proofs.answer_some.Goals.{After-read_more}

-- the bytes that stand in the block
abbrev all : (g : Over) → After-read_more g → ℕ → List ℕ
all g c size = take size c.read_more.new.self.bytes

pub returns-in_err-answer_last-clause-front : goal.returns-in_err-answer_last-clause-front
returns-in_err-answer_last-clause-front g c =
    let k = (goal.at.returns-in_err-answer_last-clause-front g c).After-read_more in
    let a = c.args in
    let size = c.in_ok-size in
    let fails : IfSome (g.R.Read.remaining a.input.now) (λ bytes. AppendsFront (g.W.Write.contents a.output.now) (g.W.Write.contents c.answer_last.new.output) (due (running a.desk.now a.lines.now) (kept a.block.now) bytes)) =
    last_fails (g.R.Read.remaining a.input.now) (g.R.Read.remaining c.read_more.new.input) (g.W.Write.contents a.output.now) (g.W.Write.contents c.answer_last.new.output) (running a.desk.now a.lines.now) (kept a.block.now) (all g k size.size)
    (search rules) (search rules) (search rules) size.ensures.came c.in_err-answer_last.ensures.front in
    search (rules, fails)

pub returns-then-size-block-clause-goes : goal.returns-then-size-block-clause-goes
returns-then-size-block-clause-goes g c =
    let k = (goal.at.returns-then-size-block-clause-goes g c).After-read_more in
    let a = c.args in
    let size = c.in_ok-size in
    answered_last (g.R.Read.remaining a.input.now) (g.R.Read.remaining c.read_more.new.input) (g.W.Write.contents a.output.now) (g.W.Write.contents c.answer_last.new.output) (running a.desk.now a.lines.now) (kept a.block.now) (all g k size.size)
    (search rules) (search rules) (search rules) size.ensures.came c.in_ok-answer_last.ensures.written (λ rest. [])

pub returns-in_err-answer_whole-clause-front : goal.returns-in_err-answer_whole-clause-front
returns-in_err-answer_whole-clause-front g c =
    let k = (goal.at.returns-in_err-answer_whole-clause-front g c).After-read_more in
    let a = c.args in
    let size = c.in_ok-size in
    let fails : IfSome (g.R.Read.remaining a.input.now) (λ bytes. AppendsFront (g.W.Write.contents a.output.now) (g.W.Write.contents c.answer_whole.new.output) (due (running a.desk.now a.lines.now) (kept a.block.now) bytes)) =
    whole_fails (g.R.Read.remaining a.input.now) (g.R.Read.remaining c.read_more.new.input) (g.W.Write.contents a.output.now) (g.W.Write.contents c.answer_whole.new.output) (running a.desk.now a.lines.now) (kept a.block.now) (all g k size.size)
    size.ensures.came c.in_err-answer_whole.ensures.front in
    search (rules, fails)

pub returns-clause-goes : goal.returns-clause-goes
returns-clause-goes g c =
    let k = (goal.at.returns-clause-goes g c).After-read_more in
    let a = c.args in
    let size = c.in_ok-size in
    let run = c.in_ok-answer_whole.ensures in
    answered_whole (g.R.Read.remaining a.input.now) (g.R.Read.remaining c.read_more.new.input) (g.W.Write.contents a.output.now) (g.W.Write.contents c.answer_whole.new.output) (running a.desk.now a.lines.now) (kept a.block.now) (all g k size.size)
    (running c.answer_whole.new.desk c.answer_whole.new.lines) (kept c.keep.new.self) size.ensures.came run.written run.runs c.keep.ensures.bytes

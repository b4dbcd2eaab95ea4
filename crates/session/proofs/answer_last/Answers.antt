-- `answer_last` meets its contract: a last piece is one order, if it is any.
use Rattle.std.proofs.Common.{rules, ◌≡◌, ◌++◌, ℕ, List, sym, ◌∙◌, subst}
use Rattle.std.specs.Io.KnownBytes.{Appends}
use Rattle.std.proofs.KnownBytes.{Appends-nil}
use Rattle.orders.specs.Ordered.{line_of}
use Rattle.streams.specs.Writing.{AppendsFront, Moves, pending}
use Rattle.session.specs.Session.{answered, lines, last_piece}
use Rattle.session.specs.Streaming.{running}
use Rattle.session.proofs.Fronts.{moves_out, front_after}
use Rattle.session.proofs.Runs.{no_last, last_line, none_pending}
use Rattle.session.proofs.answer_last.Given.{Over}
use Rattle.session.proofs.answer_last.Goals as goal
use Rattle.session.proofs.answer_last.Goals.{After-run_one}

pub returns-then-is_empty-clause-written : goal.returns-then-is_empty-clause-written
returns-then-is_empty-clause-written g c =
    subst (Appends _ _) (sym (no_last (running c.args.desk.now c.args.lines.now) c.args.piece.now (search rules))) (Appends-nil (g.W.Write.contents c.args.output.now))

-- what is due is the piece's line
abbrev all : (g : Over) → After-run_one g → List ℕ
all g c = lines (running c.args.desk.now c.args.lines.now) (last_piece c.args.piece.now)

is_line : (g : Over) (c : After-run_one g) → let l = c.args.lines.now in pending l ++ line_of l.place (answered (running c.args.desk.now l) c.args.piece.now) ≡ all g c
is_line g c = none_pending c.args.lines.now c.requires.none _ ∙ sym (last_line (running c.args.desk.now c.args.lines.now) c.args.piece.now (search rules))

pub returns-in_err-run_one-clause-front : goal.returns-in_err-run_one-clause-front
returns-in_err-run_one-clause-front g c =
    let k = (goal.at.returns-in_err-run_one-clause-front g c).After-run_one in
    let fails : AppendsFront (g.W.Write.contents c.args.output.now) (g.W.Write.contents c.run_one.new.output) (all g k) = subst (AppendsFront _ _) (is_line g k) c.in_err-run_one.ensures.front in
    search (rules, fails)

pub returns-clause-written : goal.returns-clause-written
returns-clause-written g c =
    let k = (goal.at.returns-clause-written g c).After-run_one in
    let before = g.W.Write.contents c.args.output.now in
    let between = g.W.Write.contents c.run_one.new.output in
    let waits = pending c.run_one.new.lines in
    let moved : Moves before between (all g k) waits = subst (λ x. Moves before between x waits) (is_line g k) c.in_ok-run_one.ensures.moves in
    search (rules, moved, moves_out)

pub returns-clause-front : goal.returns-clause-front
returns-clause-front g c =
    let k = (goal.at.returns-clause-front g c).After-run_one in
    let before = g.W.Write.contents c.args.output.now in
    let between = g.W.Write.contents c.run_one.new.output in
    let waits = pending c.run_one.new.lines in
    let moved : Moves before between (all g k) waits = subst (λ x. Moves before between x waits) (is_line g k) c.in_ok-run_one.ensures.moves in
    let fails : AppendsFront before (g.W.Write.contents c.write_out.new.output) (all g k) = front_after before between (g.W.Write.contents c.write_out.new.output) (all g k) waits moved c.write_out.ensures.front in
    search (rules, fails)

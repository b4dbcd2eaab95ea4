-- `run_on` meets its contract: the start is refused, or its orders are run.
use Rattle.std.proofs.Common.{rules, List, ℕ, take, ap₂}
use Rattle.std.specs.Io.KnownBytes.{Appends}
use Rattle.units.proofs.Refusals.{numbered}
use Rattle.units.specs.declared.Link.{Link}
use Rattle.rules.specs.Tables.{Tables, lent}
use Rattle.session.specs.Session.{Running}
use Rattle.streams.specs.Writing.{AppendsFront}
use Rattle.session.proofs.Whole.{session_refused, session_accepted, stops_refused, stops_accepted}
use Rattle.session.proofs.run_on.Goals as goal

-- a session at its first order
abbrev at_first : List Link → Tables → Running
at_first links t = record { links = links; tables = t; place = 1 }

pub returns-in_err-write_start-in-Err-clause-front : goal.returns-in_err-write_start-in-Err-clause-front
returns-in_err-write_start-in-Err-clause-front g c =
    let size = c.in_ok-size in
    let P : List ℕ → Type 0 = λ bytes. AppendsFront (g.W.Write.contents c.args.output.now) (g.W.Write.contents c.write_start.new.output) bytes in
    session_refused (g.R.Read.remaining c.args.input.now) (g.R.Read.remaining c.read_start.new.input) (take size.size c.read_start.new.first) size.ensures.start _ c.requires.blank P _ c.in-Err.ensures.refusal (numbered c.in-Err.refusal) c.in_err-write_start-in-Err.ensures.front

pub returns-in_ok-write_start-in-Err-clause-whole : goal.returns-in_ok-write_start-in-Err-clause-whole
returns-in_ok-write_start-in-Err-clause-whole g c e =
    let size = c.in_ok-size in
    let P : List ℕ → Type 0 = λ bytes. Appends (g.W.Write.contents c.args.output.now) (g.W.Write.contents c.write_start.new.output) bytes in
    session_refused (g.R.Read.remaining c.args.input.now) (g.R.Read.remaining c.read_start.new.input) (take size.size c.read_start.new.first) size.ensures.start _ c.requires.blank P _ c.in-Err.ensures.refusal (numbered c.in-Err.refusal) c.in_ok-write_start-in-Err.ensures.whole

pub returns-in_ok-write_start-in-Err-clause-front : goal.returns-in_ok-write_start-in-Err-clause-front
returns-in_ok-write_start-in-Err-clause-front g c =
    let size = c.in_ok-size in
    let P : List ℕ → Type 0 = λ bytes. AppendsFront (g.W.Write.contents c.args.output.now) (g.W.Write.contents c.write_start.new.output) bytes in
    session_refused (g.R.Read.remaining c.args.input.now) (g.R.Read.remaining c.read_start.new.input) (take size.size c.read_start.new.first) size.ensures.start _ c.requires.blank P _ c.in-Err.ensures.refusal (numbered c.in-Err.refusal) c.in_ok-write_start-in-Err.ensures.front

pub returns-in-Ok-clause-whole : goal.returns-in-Ok-clause-whole
returns-in-Ok-clause-whole g c =
    let size = c.in_ok-size in
    let left = c.open_desk.new in
    let P : List ℕ → Type 0 = λ bytes. Appends (g.W.Write.contents c.args.output.now) (g.W.Write.contents c.run_opened.new.output) bytes in
    let r : Running = at_first c.in-Ok.links.now (lent left.head left.events left.free left.book left.totals) in
    let whole = session_accepted (g.R.Read.remaining c.args.input.now) (g.R.Read.remaining c.read_start.new.input) (take size.size c.read_start.new.first) size.ensures.start _ c.requires.blank P r c.in-Ok.ensures.refusal (ap₂ at_first c.in-Ok.ensures.links c.in-Ok.ensures.tables) in
    search (rules, whole)

pub returns-in-Ok-clause-front : goal.returns-in-Ok-clause-front
returns-in-Ok-clause-front g c =
    let size = c.in_ok-size in
    let left = c.open_desk.new in
    let P : List ℕ → Type 0 = λ bytes. AppendsFront (g.W.Write.contents c.args.output.now) (g.W.Write.contents c.run_opened.new.output) bytes in
    let r : Running = at_first c.in-Ok.links.now (lent left.head left.events left.free left.book left.totals) in
    let fails = session_accepted (g.R.Read.remaining c.args.input.now) (g.R.Read.remaining c.read_start.new.input) (take size.size c.read_start.new.first) size.ensures.start _ c.requires.blank P r c.in-Ok.ensures.refusal (ap₂ at_first c.in-Ok.ensures.links c.in-Ok.ensures.tables) in
    search (rules, fails)

pub returns-in_ok-write_start-in-Err-clause-stops : goal.returns-in_ok-write_start-in-Err-clause-stops
returns-in_ok-write_start-in-Err-clause-stops g c =
    let size = c.in_ok-size in
    stops_refused (g.R.Read.remaining c.args.input.now) (g.R.Read.remaining c.read_start.new.input) (take size.size c.read_start.new.first) size.ensures.start

pub returns-in-Ok-clause-stops : goal.returns-in-Ok-clause-stops
returns-in-Ok-clause-stops g c =
    let size = c.in_ok-size in
    let stops = stops_accepted (g.R.Read.remaining c.args.input.now) (g.R.Read.remaining c.read_start.new.input) (g.R.Read.remaining c.run_opened.new.input) (take size.size c.read_start.new.first) size.ensures.start _ c.requires.blank c.in-Ok.ensures.refusal in
    search (rules, stops)

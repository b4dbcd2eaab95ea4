-- `read_start` meets its contract: the first byte, and what stands behind it.
use Rattle.std.proofs.Common.{rules}
use Rattle.streams.proofs.Start.{first_alone, first_and_rest}
use Rattle.streams.proofs.reader.read_start.Goals as goal

pub returns-in_default-clause-start : goal.returns-in_default-clause-start
returns-in_default-clause-start g c =
    let k = c.in_ok-read_full in
    first_alone (g.R.Read.remaining c.args.input.now) (g.R.Read.remaining c.read_full.new.input) k.field-0 (search rules) (search rules) c.read_full.new.buffer _ (search rules) k.ensures.came (search rules)

pub returns-clause-start : goal.returns-clause-start
returns-clause-start g c =
    let k = c.in_ok-read_full in
    let came = c.in_ok-came in
    first_and_rest (g.R.Read.remaining c.args.input.now) (g.R.Read.remaining c.read_full.new.input) k.field-0 (search rules) (search rules) (g.R.Read.remaining c.read_full-2.new.input) c.in-Some.size came.came c.read_full.new.buffer _ c.read_full-2.new.buffer (search rules) k.ensures.came (search rules) (search rules) (search rules) came.ensures.came (search rules)

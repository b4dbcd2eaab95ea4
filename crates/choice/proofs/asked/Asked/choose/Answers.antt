-- `choose` meets its contract: the first try begins with nothing known.
use Rattle.choice.proofs.asked.Asked.choose.Goals as goal

pub first_start-requires-clause-known : goal.first_start-requires-clause-known
first_start-requires-clause-known c = c.nothing_known-known.ensures c.args.self.now

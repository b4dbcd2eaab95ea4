-- `nothing_known` meets its contract: there are no masks, no cut and no path.
use Rattle.choice.proofs.known.nothing_known.Goals as goal

pub returns : goal.returns
returns c = λ asked. record { kept = c.no_masks.ensures asked.table.figures.now asked.search.now.bandwidth.0; cut = tt; held = tt }

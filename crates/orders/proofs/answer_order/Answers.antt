-- `answer_order` meets its contract: what it leaves is what the order leaves, so the tables are sound.
use Rattle.orders.proofs.Fine.{left_fine}
use Rattle.orders.proofs.answer_order.Goals as goal

pub returns-clause-fine : goal.returns-clause-fine
returns-clause-fine c = left_fine c.args.desk.now _ c.args.bytes.now c.requires.fine c.carry_out.ensures.loans c.carry_out.ensures.tables

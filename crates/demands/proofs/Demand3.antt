-- The desk has demand 3; and with it the last row of every desk that has it shows full capacity.
use mathlib.Core.Path.{◌∙◌}
use native.Mathlib.Omega.{arith}
use Rattle.histories.specs.Demands as demands
use Rattle.histories.proofs.Demand3 as every_kind
use Rattle.rules.specs.Desk.{bandwidth_desk, outcome}
use Rattle.rules.proofs.Uses.{taken_at_end}
use Rattle.demands.specs.Demands.{Desk, Demand3, LastRowFull}
use Rattle.demands.proofs.Lawful.{lawful}

pub demand3 : Demand3 outcome
demand3 = every_kind.demand3 bandwidth_desk lawful

pub last_row_full : (desk : Desk) → Demand3 desk → LastRowFull desk
last_row_full desk d links h l m on_List since over =
    let p = demands.plain bandwidth_desk desk h in
    let k = (d.counts links h).as_kept l m on_List since in
    let none = taken_at_end p p.bookings l m over in
    k.1 ∙ omega (arith, k.2, none)

-- `reset_free` meets its contract: behind the loop all capacities stand before the rest of the zeros.
use Rattle.std.proofs.Common.{◌≡◌, ◌++◌, length, take, drop, replicate, sym, ap, ap₂, ◌∙◌, arith}
use Rattle.std.proofs.Math.Seq.{take-length}
use Rattle.std.proofs.lemmas.List.{drop-replicate}
use Rattle.free_table.proofs.Tables.{all_free_whole}
use Rattle.free_table.proofs.reset_free.Goals as goal

pub returns : goal.returns
returns c =
    let capacities = c.args.capacities.now in
    let figures = length c.args.free.now in
    let all : c.loop-link.link ≡ length capacities = omega arith in
    c.loop-link.invariant
    ∙ ap (λ i. take i capacities ++ drop i (replicate figures 0)) all
    ∙ ap₂ ◌++◌ (take-length capacities) (drop-replicate (length capacities) figures 0)
    ∙ sym (all_free_whole figures capacities)

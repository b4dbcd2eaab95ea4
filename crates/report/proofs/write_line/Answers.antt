-- `write_line` meets its contract: the answer and the line's end, for which there is room.
use Rattle.std.proofs.Common.{◌+◌, ◌≤◌, length, rules, arith}
use Rattle.report.specs.Line.{answer, line, max_line}
use Rattle.report.proofs.Figures.{answer_fits}
use Rattle.report.proofs.Writing.{joined}
use Rattle.report.proofs.write_line.Goals as goal
use Rattle.report.proofs.write_line.Goals.{After-write_answer}

pub write_answer-requires : goal.write_answer-requires
write_answer-requires c =
    let a = c.args in
    omega (arith, answer_fits a.place a.links.now c.ranges.place.fits (λ i. (c.type_inv.links i).fits) c.requires.links_le_most_hops a.report _ c.well_formed.1.1.1.0)

-- once the answer is written, there is room for the line's end
fits : (k : After-write_answer) → let a = k.args in length (answer a.place a.report a.links.now) + 1 ≤ max_line
fits k =
    let a = k.args in
    answer_fits a.place a.links.now k.ranges.place.fits (λ i. (k.type_inv.links i).fits) k.requires.links_le_most_hops a.report _ k.well_formed.1.1.1.0

pub write_bytes-requires : goal.write_bytes-requires
write_bytes-requires c = omega (arith, fits (goal.at.write_bytes-requires c).After-write_answer)

pub returns : goal.returns
unfolding line
returns c =
    let w = joined (omega (arith, c.requires.max_line_in_bounds)) c.write_answer.ensures c.write_bytes.ensures in
    record { wrote = search (rules, w.wrote, w.same_buffer); upper_bound = omega (arith, fits (goal.at.returns c).After-write_answer, w.wrote.behind) }

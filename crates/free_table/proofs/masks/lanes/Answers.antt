-- `lanes` meets its contract: the bits are those of the comparison.
use Rattle.std.proofs.Common.{◌≡◌, ◌+◌, ◌-◌, leb, length, get_or, drop, ap, ◌∙◌, arith, rules}
use borrow.Rule.Slice.PartMut.{mid_of}
use lib.Lanes.{chunk}
use Rattle.std.proofs.lemmas.Simd.{length-chunk, get_or-chunk}
use Rattle.std.proofs.Math.Seq.{get_or-take, get_or-drop}
use Rattle.units.specs.Sets.{has}
use Rattle.free_table.proofs.Lanes.{compared, compared_few, compared_has}
use Rattle.free_table.proofs.masks.lanes.Goals as goal

pub returns-clause-enough : goal.returns-clause-enough
returns-clause-enough c l h =
    let part = mid_of c.args.from (64 - c.args.from) c.args.row.now in
    let long : length (chunk 0 16 part) ≡ 16 = length-chunk 0 16 part (search rules) in
    let first : get_or part (0 + l) 0 ≡ get_or part l 0 = let z : 0 + l ≡ l = omega arith in ap (λ i. get_or part i 0) z in
    let figure : get_or part l 0 ≡ get_or c.args.row.now (c.args.from + l) 0 = get_or-take (64 - c.args.from) (drop c.args.from c.args.row.now) l 0 (omega arith) ∙ get_or-drop c.args.from c.args.row.now l 0 in
    ap (λ m. has m l) (compared c.args.bandwidth.0 (chunk 0 16 part) long)
    ∙ compared_has c.args.bandwidth.0 (chunk 0 16 part) long l h
    ∙ ap (leb c.args.bandwidth.0) (get_or-chunk 0 16 part l 0 h ∙ first ∙ figure)

pub returns-clause-few : goal.returns-clause-few
returns-clause-few c =
    let part = mid_of c.args.from (64 - c.args.from) c.args.row.now in
    let long : length (chunk 0 16 part) ≡ 16 = length-chunk 0 16 part (search rules) in
    rw (compared c.args.bandwidth.0 (chunk 0 16 part) long) (compared_few c.args.bandwidth.0 (chunk 0 16 part) long)

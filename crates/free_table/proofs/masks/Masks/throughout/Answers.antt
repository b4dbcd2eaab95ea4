-- `throughout` meets its contract: a link has enough throughout the interval if and only if it has it in each of its rows.
use Rattle.std.proofs.Common.{◌≡◌, [], ◌+◌, ◌-◌, leb, length, get_or, drop, ap, ◌∙◌, arith, rules}
use borrow.Rule.Slice.PartMut.{mid_of}
use Rattle.std.proofs.Math.Seq.{get_or-take, get_or-drop}
use Rattle.units.specs.Search.{all_from}
use Rattle.units.specs.Sets.{has}
use Rattle.units.proofs.Search.{all_from_agree}
use Rattle.free_table.specs.Looking.{span_rows}
use Rattle.free_table.specs.Masks.{enough_in}
use Rattle.free_table.proofs.MaskRows.{enough_rows, enough_row}
use Rattle.free_table.proofs.masks.Masks.throughout.Goals as goal

pub returns-then-past-gt-EVENTS-clause-enough : goal.returns-then-past-gt-EVENTS-clause-enough
returns-then-past-gt-EVENTS-clause-enough c = λ l h.
    let a = c.args in
    c.in_rows.ensures l h
    ∙ ap (λ rows. all_from 0 (length rows) (λ i. leb a.bandwidth.0 (get_or (get_or rows i []) l 0))) c.rows-first.ensures.rows
    ∙ enough_rows a.table.now.events.now a.minutes.start.0 a.minutes.end.0 a.table.now.figures.now l a.bandwidth.0 h

pub go_on_to-requires-clause-kept : goal.go_on_to-requires-clause-kept
go_on_to-requires-clause-kept c = c.begin_at.ensures.kept c.args.table.now.figures.now c.args.bandwidth.0 c.requires

pub returns-clause-enough : goal.returns-clause-enough
returns-clause-enough c = λ l h.
    let a = c.args in
    let es = a.table.now.events.now in
    let t = a.table.now.figures.now in
    let first = c.rows-first.result.0 in
    let count = length c.rows-first.result.1.now in
    let rows = span_rows es a.minutes.start.0 a.minutes.end.0 t in
    let masks = c.go_on_to.new.self.rows in
    let kept = c.go_on_to.ensures.kept in
    let part = mid_of first (first + count - first) masks in
    let long : length part ≡ count = search rules in
    let all : count ≡ length rows = ap length c.rows-first.ensures.rows in
    c.in_all.ensures l h
    ∙ ap (λ n. all_from 0 n (λ i. has (get_or part i 0) l)) (long ∙ all)
    ∙ all_from_agree (λ i. has (get_or part i 0) l) (λ i. leb a.bandwidth.0 (get_or (get_or rows i []) l 0)) 0 (length rows)
    (λ i b k.
    ap (λ m. has m l) (get_or-take (first + count - first) (drop first masks) i 0 (omega arith) ∙ get_or-drop first masks i 0)
    ∙ kept.right (first + i) l (omega (arith, c.go_on_to.ensures.first, c.begin_at.ensures.first)) (omega (arith, c.go_on_to.ensures.past)) h
    ∙ ap (λ r. enough_in t a.bandwidth.0 (r + i) l) c.rows-first.ensures.first
    ∙ enough_row es a.minutes.start.0 a.minutes.end.0 t l a.bandwidth.0 h i (omega arith))
    ∙ enough_rows es a.minutes.start.0 a.minutes.end.0 t l a.bandwidth.0 h

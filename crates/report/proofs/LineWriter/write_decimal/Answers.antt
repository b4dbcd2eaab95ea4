-- One digit is written as it is. More stand in their place, and end where their count says.
use Rattle.std.proofs.Common.{◌≡◌, ◌+◌, ◌++◌, refl, ap, sym, ◌∙◌, ℕ, List, length, take, drop, add-one, rules, arith}
use Rattle.std.proofs.lemmas.List.{take-append-drop}
use Rattle.report.specs.Decimal.{decimal}
use Rattle.report.specs.Written.{Wrote}
use Rattle.report.proofs.Decimals.{short, as_printed, digit_count}
use Rattle.report.proofs.LineWriter.write_decimal.Goals as goal
use Rattle.report.proofs.LineWriter.write_decimal.Goals.{After-ilog10}

count : (k : After-ilog10) → length (decimal k.args.value) ≡ k.ilog10.result + 1
count k =
    let e = k.ilog10.ensures in
    rw add-one (digit_count k.args.value k.ilog10.result (omega (arith, e.power_le)) (omega (arith, e.next_power_gt)))

pub write_bytes-requires : goal.write_bytes-requires
write_bytes-requires c = omega (arith, c.requires, ap length (short c.args.value c.if-value-lt10.true))

pub returns-then-value-lt10 : goal.returns-then-value-lt10
returns-then-value-lt10 c = rw (short c.args.value c.if-value-lt10.true) c.write_bytes.ensures

pub write_digits-requires : goal.write_digits-requires
write_digits-requires c =
    let n = count (goal.at.write_digits-requires c).After-ilog10 in
    let same = ap length (as_printed c.args.value c.ranges.value.fits) in
    (omega (arith, n, same), omega (arith, n, c.requires))

-- bytes that stand before an index, with all else as it was
in_place : (bytes before after : List ℕ) (at from end : ℕ) → from + length bytes ≡ end → end ≡ at + length bytes → drop from after ≡ bytes ++ drop end before → take from after ≡ take from before → Wrote bytes before at after end
in_place bytes before after at from end start count written kept =
    let e : from ≡ at = omega (arith, start, count) in
    record { behind = count; holds = sym (take-append-drop from after) ∙ rw (written, kept, e, count) refl }

pub returns : goal.returns
returns c =
    let n = count (goal.at.returns c).After-ilog10 in
    let w = rw (as_printed c.args.value c.ranges.value.fits) at c.write_digits.ensures in
    record { same_buffer = search rules; same_length = search rules; within = omega (arith, n, c.requires); wrote = in_place _ _ _ _ _ _ w.start (omega (arith, n)) w.written w.before }

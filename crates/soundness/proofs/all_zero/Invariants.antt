-- `all_zero` meets its contract: the figures before `figure` are looked at, and the others are still to be.
use Rattle.std.proofs.Common.{◌≡◌, drop}
use Rattle.std.specs.Prelude.{◌&&◌}
use Rattle.soundness.specs.Checking.{all_zero}
use Rattle.soundness.proofs.all_zero.Given as goal

abbrev pub invariant-loop-figure : goal.invariant-loop-figure
invariant-loop-figure l = all_zero l.figures ≡ (l.zero && all_zero (drop l.figure-index l.figures))

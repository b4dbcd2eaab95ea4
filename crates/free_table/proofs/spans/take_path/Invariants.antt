-- `take_path` meets its contract: the bandwidth is taken from the links before `link`, and what is left is to take from the others.
use Rattle.std.proofs.Common.{◌≡◌, drop, length}
use Rattle.free_table.specs.Spans.{taken, change_path}
use Rattle.free_table.proofs.spans.take_path.Given as goal

abbrev pub invariant-loop-link : goal.invariant-loop-link
invariant-loop-link l =
    (change_path (taken l.bandwidth.0) l.rows l.path l.initial.part ≡ change_path (taken l.bandwidth.0) l.rows (drop l.link-index l.path) l.part)
    × (length l.part ≡ length l.initial.part)

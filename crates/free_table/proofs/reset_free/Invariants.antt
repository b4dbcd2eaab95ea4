-- The capacities of the links before this one are written over the first zeros.
use Rattle.std.proofs.Common.{◌≡◌, ◌++◌, length, take, drop, replicate}
use Rattle.free_table.proofs.reset_free.Given as goal

abbrev pub invariant-loop-link : goal.invariant-loop-link
invariant-loop-link l = l.free ≡ take l.link l.capacities ++ drop l.link (replicate (length l.fn.free) 0)

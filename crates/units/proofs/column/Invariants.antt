-- The first i links have their field in the column.
use Rattle.std.proofs.Common.{◌≡◌, ℕ, take}
use Rattle.units.specs.declared.Link.{Link}
use Rattle.units.specs.Columns.{column, Reads}
use Rattle.units.proofs.column.Given as goal

abbrev pub invariant-loop-i : goal.invariant-loop-i
invariant-loop-i g l = (field : Link → ℕ) → Reads g.F.Fn l.read field → l.column ≡ column field (take l.i l.link-items)

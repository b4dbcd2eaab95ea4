-- `go_on_to` meets its contract: the masks of the rows before the loop's are kept.
use Rattle.std.proofs.Common.{◌≡◌, ℕ, ◌≤◌, ◌<◌, get_or}
use Rattle.units.specs.Limits.{most_links}
use Rattle.units.specs.Sets.{has}
use Rattle.free_table.specs.Masks.{enough_in}
use Rattle.free_table.proofs.masks.Masks.go_on_to.Given as goal

abbrev pub invariant-loop-row : goal.invariant-loop-row
invariant-loop-row l = record {
  first : l.self.first ≡ l.initial.self.first;
  past : l.self.past ≡ l.initial.self.past;
  right : (row k : ℕ) → l.self.first ≤ row → row < l.row → k < most_links → has (get_or l.self.rows row 0) k ≡ enough_in l.figures l.bandwidth.0 row k;
}

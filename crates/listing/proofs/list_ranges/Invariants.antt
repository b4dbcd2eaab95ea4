-- list_ranges meets its contract. The ranges before the next start are found, counted and written.
use mathlib.Core.Path.{◌≡◌}
use mathlib.Core.Bool.{true}
use Prim.Native.Nat.{suc, ◌-◌, ◌≤◌}
use Rattle.std.proofs.Common.{Some}
use Rattle.units.specs.declared.Minute.{Minute}
use Rattle.choice.specs.Answer.{possible_of}
use Rattle.choice.specs.Known.{KnownOf}
use Rattle.listing.proofs.Found.{Listed, minute_or}
use Rattle.listing.proofs.list_ranges.Given as goal

abbrev pub invariant-loop-next : goal.invariant-loop-next
invariant-loop-next l = record {
  listed : Listed (possible_of l.asked) l.latest.0 (minute_or (suc l.latest.0) l.initial.next) l.list l.count (minute_or (suc l.latest.0) l.next);
  known : KnownOf l.asked l.known;
  in_window : (m : Minute) → l.next ≡ Some m → (l.fn.low.0 ≤ m.0) × (m.0 ≤ l.latest.0) × (possible_of l.asked m.0 ≡ true);
}

abbrev pub decreases-loop-next : goal.decreases-loop-next
decreases-loop-next l = suc l.latest.0 - minute_or (suc l.latest.0) l.next

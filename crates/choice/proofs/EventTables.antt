-- An event table of any clock and times has its clock first, and its other places tell the later events.
use mathlib.Core.Path.{◌≡◌, refl, sym, ◌∙◌, ap}
use mathlib.Core.List.{List, [], ◌∷◌, ◌++◌}
use Prim.Native.Nat.{ℕ, zero, suc, ◌-◌, ◌≤◌, zero-le}
use native.Mathlib.Nat.{le_refl}
use native.Mathlib.Omega.{arith}
use lib.ListN.{length, get_or, drop, replicate}
use Rattle.units.specs.Lists.{padded}
use Rattle.units.proofs.Tests.{Rising}
use Rattle.timeline.specs.Events.{insert_rising, later, events}
use Rattle.timeline.proofs.Events.{insert_less, insert_empty, later_skips, later_inserts, later_rises}
use Rattle.choice.specs.EventTables.{AreEvents}

-- a lower number goes before a rising list
insert_first : (m : ℕ) (es : List ℕ) → Rising m es → insert_rising m es ≡ m ∷ es
insert_first m [] r = insert_empty m
insert_first m (e ∷ es) r = insert_less m e es r.0

later_zeros : (c k : ℕ) → later c (replicate k 0) ≡ []
unfolding later
later_zeros c zero = refl
later_zeros c (suc k) = later_skips c 0 (replicate k 0) zero-le ∙ later_zeros c k

-- what rises from the clock on, with zeros behind it, is what is later
later_rising : (c d k : ℕ) (es : List ℕ) → c ≤ d → Rising d es → later c (es ++ replicate k 0) ≡ es
later_rising c d k [] h r = later_zeros c k
later_rising c d k (e ∷ es) h r =
    later_inserts c e (es ++ replicate k 0) (omega arith)
    ∙ ap (insert_rising e) (later_rising c e k es (omega arith) r.1)
    ∙ insert_first e es r.1

pub are_events : (es : List ℕ) (c : ℕ) (ts : List ℕ) → es ≡ padded (length es) (events c ts) → AreEvents es
are_events es c ts e =
    e ∙ ap (padded (length es)) (ap (λ l. c ∷ l) (sym (later_rising c c (length es - length (events c ts)) (later c ts) (le_refl c) (later_rises c ts))) ∙ sym (ap (λ l. events (get_or l 0 0) (drop 1 l)) e))

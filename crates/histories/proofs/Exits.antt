-- The outcome of a call by its answer, for every kind of desk.
use mathlib.Core.Path.{◌≡◌, refl, sym, ap, ◌∙◌}
use mathlib.Core.List.{List}
use mathlib.Core.Bool.{Bool, true, false, ◌&&◌}
use Prim.Native.Nat.{◌<◌}
use native.Mathlib.Omega.{arith}
use borrow.Author.Tests.{ne_eqb}
use Rattle.histories.specs.Checks.{checked}
use Rattle.histories.specs.Kinds.{Call, set_up_with, ask, Kind, answer, answer_on, call_writes, left_by, outcome, all_checks}
use Rattle.histories.proofs.Checks.{checked_append}

module _ (K : Kind) (links : List K.Link) (t : K.Tables) (c : Call K.Start K.Ask) where
  -- an answer decides the outcome
  pub outcome_of : (a : K.Answer) → answer_on K links t c ≡ a → outcome K links t c ≡ record { answer = a; tables = left_by K links t c a }
  unfolding outcome
  outcome_of a e = ap (λ x. record { answer = x; tables = left_by K links t c x }) e

  abbrev by : Bool → Bool → K.Answer → K.Tables
  by w z a = elim (w && z) [ true ↦ K.tables links (K.next links (K.held t) c a) | false ↦ t ]

  -- a refusal leaves the tables as they came
  pub left_refused : (a : K.Answer) → 0 < K.number a → left_by K links t c a ≡ t
  left_refused a h = ap (λ z. by (call_writes K c) z a) (ne_eqb (K.number a) 0 (λ e. absurd (omega arith))) ∙ stays (call_writes K c)
    where
      stays : (w : Bool) → by w false a ≡ t
      stays true = refl
      stays false = refl

-- the answer of a call that passes every check
abbrev pub final : (K : Kind) → List K.Link → K.Plain → Call K.Start K.Ask → K.Answer
final K links p (set_up_with s) = K.done
final K links p (ask a) = K.result links p a

pub answer_is : (K : Kind) (links : List K.Link) (t : K.Tables) (c : Call K.Start K.Ask) → (outcome K links t c).answer ≡ checked K.refuse (all_checks K links t c) (final K links (K.held t) c)
unfolding outcome answer_on answer
answer_is K links t (set_up_with s) = sym (checked_append K.refuse (K.table_checks links t (set_up_with s)) (K.start_checks s) K.done)
answer_is K links t (ask a) = sym (checked_append K.refuse (K.table_checks links t (ask a)) (K.own_checks links (K.held t) a) (K.result links (K.held t) a))

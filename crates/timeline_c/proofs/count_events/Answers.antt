-- `count_events` meets its contract: the clock, and the events behind it up to the first zero.
use Rattle.std.proofs.Common.{◌≡◌, ℕ, zero, suc, ◌+◌, List, [], ◌∷◌, length, refl, sym, ap, ◌∙◌, not, eqb, rules, arith}
use borrow.Author.Tests.{tests, ne_eqb}
use Rattle.std.specs.List.{prefix_len}
use Rattle.std.proofs.lemmas.Iterator.{YieldsList-from_slice}
use Rattle.std.proofs.lemmas.Iterator.Search.{YieldsList-from_take_while}
use Rattle.std.proofs.lemmas.Iterator.Consumers.{count_from_yields_List}
use Rattle.std.proofs.lemmas.List.Folds.{length-prefix_len}
use Rattle.timeline.specs.EventTable.{filled, count_events}
use Rattle.timeline_c.proofs.count_events.Goals as goal

filled_first : (es : List ℕ) → filled es ≡ prefix_len (λ e. not (eqb e 0)) es
unfolding filled
filled_first [] = refl
filled_first (zero ∷ es) = refl
filled_first (suc e ∷ es) = let some : (suc e ≡ 0 → ⊥) = omega arith in rw (ne_eqb (suc e) 0 some) (omega (arith, filled_first es))

none : (es : List ℕ) → length es ≡ 0 → 0 ≡ count_events es
unfolding count_events
none [] h = refl
none (c ∷ es) h = absurd (omega arith)

behind : (clock : ℕ) (later es : List ℕ) → es ≡ clock ∷ later → 1 + filled later ≡ count_events es
unfolding count_events
behind clock later es h = rw h (omega arith)

pub returns-in_default : goal.returns-in_default
returns-in_default c = none c.args.events.now c.in_default.ensures.cases

pub returns : goal.returns
returns c =
    let later = c.in-Some.later.now in
    ap (λ n. 1 + n)
    (count_from_yields_List c.take_while.result _ c.count.ensures.ran (YieldsList-from_take_while _ (λ e. not (eqb e 0)) (YieldsList-from_slice later (cc)) c.take_while.ensures.closure (cc) (λ x b q k. search (rules, tests)))
    ∙ length-prefix_len (λ e. not (eqb e 0)) later
    ∙ sym (filled_first later))
    ∙ behind c.in-Some.field-0-0.now later c.args.events.now c.in-Some.ensures.cases.0

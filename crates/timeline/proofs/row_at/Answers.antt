-- `row_at` meets its contract: the events behind the clock are counted up to the first that is zero or after the minute.
use Rattle.std.proofs.Common.{◌≡◌, ℕ, List, [], ◌∷◌, length, refl, ◌∙◌, sym, not, ◌&&◌, leb, eqb, rules, arith}
use borrow.Author.Tests.{tests}
use Rattle.std.proofs.lemmas.Iterator.{YieldsList-from_slice}
use Rattle.std.proofs.lemmas.Iterator.Search.{YieldsList-from_take_while}
use Rattle.std.proofs.lemmas.Iterator.Consumers.{count_from_yields_List}
use Rattle.std.proofs.lemmas.List.Folds.{length-prefix_len}
use Rattle.timeline.specs.Events.{passed, row_at}
use Rattle.timeline.proofs.Rows.{passed_first}
use Rattle.timeline.proofs.row_at.Goals as goal

none : (m : ℕ) (es : List ℕ) → length es ≡ 0 → 0 ≡ row_at es m
unfolding row_at
none m [] h = refl
none m (c ∷ es) h = absurd (omega arith)

behind : (m clock : ℕ) (later es : List ℕ) → es ≡ clock ∷ later → passed m later ≡ row_at es m
unfolding row_at
behind m clock later es h = rw h refl

pub returns-in_default : goal.returns-in_default
returns-in_default c = none c.args.minute.0 c.args.events.now c.in_default.ensures.cases

pub returns : goal.returns
returns c =
    let m = c.args.minute.0 in
    let later = c.in-Some.later.now in
    count_from_yields_List c.take_while.result _ c.count.ensures.ran (YieldsList-from_take_while _ (λ e. not (eqb e 0) && leb e m) (YieldsList-from_slice later (cc)) c.take_while.ensures.closure (cc) (λ x b q k. search (rules, tests)))
    ∙ length-prefix_len (λ e. not (eqb e 0) && leb e m) later
    ∙ sym (passed_first m later)
    ∙ behind m c.in-Some.field-0-0.now later c.args.events.now c.in-Some.ensures.cases.0

-- A session from its first bytes and the orders behind them.
use Rattle.std.proofs.Common.{◌≡◌, ◌++◌, ℕ, List, [], Bool, length, take, drop, sym, ap, ap₂, ◌∙◌, subst}
use Rattle.std.specs.Prelude.{Option, None, Some, IfSome}
use Rattle.std.specs.Io.KnownBytes.{Appends}
use Rattle.std.proofs.KnownBytes.{Appends-trans}
use native.Mathlib.Nat.{le_refl}
use borrow.Author.Tests.{eq-eqb, ne_eqb}
use Rattle.layout.specs.Records.{if_passed}
use Rattle.report.specs.declared.Report.TheVariants.{DeskLinks, DeskRefused}
use Rattle.report.specs.Line.{line}
use Rattle.rules.specs.Tables.{Tables}
use Rattle.opening.specs.Opened.{Opened, opened, first_size}
use Rattle.opening.proofs.First.{opened_first}
use Rattle.streams.specs.Reading.{TakesStart}
use Rattle.streams.specs.Writing.{AppendsFront}
use Rattle.session.specs.Session.{Running, lines, orders, blank, started, output, session, opened_lines}
use Rattle.session.specs.Streaming.{StopsAtStart}
use Rattle.session.proofs.Fronts.{front_more, front_then}

-- what the first bytes give is what all bytes give
same_opened : (t : Tables) (bytes start : List ℕ) → t ≡ blank → start ≡ take (first_size bytes) bytes → opened t start ≡ opened blank bytes
same_opened t bytes start e s = ap (λ x. opened x start) e ∙ ap (opened blank) s ∙ opened_first blank bytes (first_size bytes) (le_refl (first_size bytes))

abbrev its_line : ℕ → List ℕ
its_line refusal = line 0 (DeskRefused refusal) []

-- a start that is refused has one line, and an accepted one has the orders' lines behind its own
pub output_refused : (o : Opened) (rest : List ℕ) → (o.answer.refusal ≡ 0 → ⊥) → output o rest ≡ its_line o.answer.refusal
output_refused o rest n = ap (λ (x : Bool). if_passed x (opened_lines (started o) rest) (its_line o.answer.refusal)) (ne_eqb o.answer.refusal 0 n)

pub output_accepted : (o : Opened) (rest : List ℕ) → o.answer.refusal ≡ 0 → output o rest ≡ opened_lines (started o) rest
output_accepted o rest e = ap (λ (x : Bool). if_passed x (opened_lines (started o) rest) (its_line o.answer.refusal)) (eq-eqb o.answer.refusal 0 e)

module _ (old left : Option (List ℕ)) (start : List ℕ) (takes : TakesStart old left start) (t : Tables) (zeros : t ≡ blank) (P : List ℕ → Type 0) where
  pub session_refused : (k : ℕ) → k ≡ (opened t start).answer.refusal → (k ≡ 0 → ⊥) → P (its_line k) → IfSome old (λ bytes. P (session bytes))
  unfolding session
  session_refused k e n p = by old left takes
    where
      by : (a b : Option (List ℕ)) → TakesStart a b start → IfSome a (λ bytes. P (session bytes))
      by None b c = tt
      by (Some bytes) None c = absurd c
      by (Some bytes) (Some rest) c =
          let o : k ≡ (opened blank bytes).answer.refusal = e ∙ ap (λ x. x.answer.refusal) (same_opened t bytes start zeros c.0) in
          subst P (sym (output_refused (opened blank bytes) (drop (first_size bytes) bytes) (λ z. n (o ∙ z)) ∙ ap its_line (sym o))) p

  pub session_accepted : (r : Running) → 0 ≡ (opened t start).answer.refusal → r ≡ started (opened t start) → IfSome left (λ rest. P (opened_lines r rest)) → IfSome old (λ bytes. P (session bytes))
  unfolding session
  session_accepted r e same = by old left takes
    where
      by : (a b : Option (List ℕ)) → TakesStart a b start → IfSome b (λ rest. P (opened_lines r rest)) → IfSome a (λ bytes. P (session bytes))
      by None b c p = tt
      by (Some bytes) None c p = absurd c
      by (Some bytes) (Some rest) c p =
          let o = same_opened t bytes start zeros c.0 in
          subst P (sym (output_accepted (opened blank bytes) (drop (first_size bytes) bytes) (sym (e ∙ ap (λ x. x.answer.refusal) o)) ∙ ap₂ opened_lines (sym (same ∙ ap started o)) (sym c.1))) p

-- and nothing is read behind a start that is refused
pub stops_refused : (old left : Option (List ℕ)) (start : List ℕ) → TakesStart old left start → StopsAtStart old left
stops_refused None left start c = tt
stops_refused (Some bytes) None start c = absurd c
stops_refused (Some bytes) (Some rest) start c = λ n. ap (λ l. Some l) c.1

pub stops_accepted : (old left end : Option (List ℕ)) (start : List ℕ) → TakesStart old left start → (t : Tables) → t ≡ blank → 0 ≡ (opened t start).answer.refusal → StopsAtStart old end
stops_accepted None left end start c t zeros e = tt
stops_accepted (Some bytes) None end start c t zeros e = absurd c
stops_accepted (Some bytes) (Some rest) end start c t zeros e = λ n. absurd (n (sym (e ∙ ap (λ x. x.answer.refusal) (same_opened t bytes start zeros c.0))))

-- the desk's own line, and the orders' lines behind it
module _ (a x y : Option (List ℕ)) (r : Running) (count : ℕ) (counts : count ≡ length r.links) where
  abbrev start : List ℕ
  start = line 0 (DeskLinks count) []

  abbrev opened_is : (bytes : List ℕ) → start ++ lines r (orders bytes) ≡ opened_lines r bytes
  opened_is bytes = ap (λ n. line 0 (DeskLinks n) [] ++ lines r (orders bytes)) counts

  pub start_fails : AppendsFront x y start → IfSome a (λ bytes. AppendsFront x y (opened_lines r bytes))
  start_fails f = by a
    where
      by : (o : Option (List ℕ)) → IfSome o (λ bytes. AppendsFront x y (opened_lines r bytes))
      by None = tt
      by (Some bytes) = subst (AppendsFront x y) (opened_is bytes) (front_more x y start (lines r (orders bytes)) f)

  module _ (z : Option (List ℕ)) (written : Appends x y start) where
    pub opened_whole : IfSome a (λ bytes. Appends y z (lines r (orders bytes))) → IfSome a (λ bytes. Appends x z (opened_lines r bytes))
    opened_whole = by a
      where
        by : (o : Option (List ℕ)) → IfSome o (λ bytes. Appends y z (lines r (orders bytes))) → IfSome o (λ bytes. Appends x z (opened_lines r bytes))
        by None w = tt
        by (Some bytes) w = subst (Appends x z) (opened_is bytes) (Appends-trans x y z start (lines r (orders bytes)) written w)

    pub opened_fails : IfSome a (λ bytes. AppendsFront y z (lines r (orders bytes))) → IfSome a (λ bytes. AppendsFront x z (opened_lines r bytes))
    opened_fails = by a
      where
        by : (o : Option (List ℕ)) → IfSome o (λ bytes. AppendsFront y z (lines r (orders bytes))) → IfSome o (λ bytes. AppendsFront x z (opened_lines r bytes))
        by None f = tt
        by (Some bytes) f = subst (AppendsFront x z) (opened_is bytes) (front_then x y start (lines r (orders bytes)) z written f)

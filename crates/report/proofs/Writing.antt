-- Two pieces written one behind the other are their whole.
use Rattle.std.proofs.Common.{◌≡◌, ◌++◌, ◌+◌, ◌≤◌, ℕ, List, [], refl, add-zero, length, take, drop, sym, ◌∙◌, ap, append_assoc, arith, length-append}
use Rattle.std.proofs.lemmas.List.{take_at, take-append-drop, length-take-le, drop-drop}
use Rattle.std.proofs.Math.Seq.{drop-append-add}
use Rattle.report.specs.Written.{Wrote, Writes}
use Rattle.report.specs.declared.LineWriter.{LineWriter}

module _ {a b before mid after : List ℕ} {at p q : ℕ} (within : at ≤ length before) (first : Wrote a before at mid p) (second : Wrote b mid p after q) where
  front : length (take at before ++ a) ≡ p
  front = omega (arith, length-append (take at before) a, length-take-le at before within, first.behind)

  mid_is : mid ≡ (take at before ++ a) ++ drop (at + length a) before
  mid_is = first.holds ∙ sym (append_assoc (take at before) a _)

  rest : drop (p + length b) mid ≡ drop (at + length (a ++ b)) before
  rest =
      let e : (at + length a) + length b ≡ at + length (a ++ b) = omega (arith, length-append a b) in
      rw (mid_is, ← front) (drop-append-add (take at before ++ a) _ (length b) ∙ drop-drop (length b) (at + length a) before ∙ ap (λ i. drop i before) e)

  whole : take p mid ++ (b ++ drop (p + length b) mid) ≡ take at before ++ ((a ++ b) ++ drop (at + length (a ++ b)) before)
  whole = rw (rest, mid_is, take_at (take at before ++ a) (drop (at + length a) before) p front) (simp append_assoc)

  joined_bytes : Wrote (a ++ b) before at after q
  joined_bytes = record { behind = omega (arith, first.behind, second.behind, length-append a b); holds = second.holds ∙ whole }

pub joined : {a b : List ℕ} {w v u : LineWriter} → w.at ≤ length w.out.now → Writes a w v → Writes b v u → Writes (a ++ b) w u
joined within first second = record { same_buffer = second.same_buffer ∙ first.same_buffer; same_length = second.same_length ∙ first.same_length; within = second.within; wrote = joined_bytes within first.wrote second.wrote }

pub none : {w : LineWriter} → w.at ≤ length w.out.now → Writes [] w w
none {w} within = record { same_buffer = refl; same_length = refl; within = within; wrote = record { behind = omega arith; holds = rw add-zero (sym (take-append-drop w.at w.out.now)) } }

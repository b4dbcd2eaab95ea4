-- Whatever program adds a line for each order writes one line for the desk and one for each order: the orders are taken away one by one.
use mathlib.Core.Path.{◌≡◌, refl, sym, ap, ◌∙◌}
use mathlib.Core.Logic.{◌≢◌}
use mathlib.Core.List.{List, [], ◌∷◌, ◌++◌}
use mathlib.Core.Bool.{Bool, true, false}
use Prim.Native.Nat.{ℕ, zero, suc, ◌+◌, ◌*◌, ◌/◌, ◌≤◌}
use native.Mathlib.Decide.{dec_le}
use native.Mathlib.Omega.{arith}
use borrow.Author.Tests.{ne_eqb, leb-true}
use lib.Dec.{eqb, leb}
use lib.ListN.{length, take, drop, length-drop}
use Rattle.std.specs.Prelude.{codes}
use Rattle.std.proofs.lemmas.List.{take-append-drop, length-take-le}
use Rattle.units.specs.Limits.{most_links}
use Rattle.units.specs.Lists.{Within, within, if_so, All}
use Rattle.units.specs.Refusals.{bad_size, bad_length}
use Rattle.layout.specs.Layout.{count_bytes, guard_bytes, lead_bytes, link_bytes, order_bytes}
use Rattle.layout.specs.Records.{if_passed}
use Rattle.report.specs.Decimal.{decimal}
use Rattle.opening.specs.Opened.{first_byte, first_size, bytes_refusal, opened}
use Rattle.opening.proofs.First.{opened_first}
use Rattle.session.specs.Session.{blank}
use Rattle.session_demands.specs.Cutting.{AtBorder, LineAt, LineByLine, ends, OneLineEach}
use Rattle.session_demands.proofs.PlainBook.{passed}
use Rattle.session_demands.proofs.Cutting.{first_size_some}
use Rattle.streams.proofs.Start.{size_front}
use Rattle.session_demands.proofs.LineByLine.{orders_count, orders_count_more, decimal_no_end}

ends_append : (xs ys : List ℕ) → ends (xs ++ ys) ≡ ends xs + ends ys
unfolding ends
ends_append [] ys = omega arith
ends_append (x ∷ xs) ys = omega (arith, ends_append xs ys)

ends_none : (xs : List ℕ) → All (λ b. b ≢ 10) xs → ends xs ≡ 0
unfolding ends
ends_none [] h = refl
ends_none (x ∷ xs) h = rw (ne_eqb x 10 h.0) (omega (arith, ends_none xs h.1))

-- a line ends once
ends_line : (place : ℕ) (line : List ℕ) → LineAt place line → ends line ≡ 1
unfolding ends
ends_line place line at =
    omega (
      arith,
      ap ends at.placed,
      ends_append (decimal place) (codes " " ++ (at.words ++ codes "\n")),
      ends_none (decimal place) (decimal_no_end place),
      ends_append at.words (codes "\n"),
      ends_none at.words at.one_line,
    )

-- an accepted start is whole
start_whole : (bytes : List ℕ) → bytes_refusal bytes ≡ 0 → first_size bytes ≤ length bytes
unfolding bytes_refusal first_size
start_whole bytes e = by (eqb (length bytes) 0) (within 1 most_links (first_byte bytes)) (leb (lead_bytes + first_byte bytes * link_bytes) (length bytes)) refl _ e
  where
    by : (none counted enough : Bool) → leb (lead_bytes + first_byte bytes * link_bytes) (length bytes) ≡ enough → (n : ℕ)
        → if_passed none bad_length (if_passed counted (if_passed enough n bad_length) bad_size) ≡ 0 → count_bytes + if_so counted (guard_bytes + first_byte bytes * link_bytes) ≤ length bytes
    by true counted enough q n e = absurd (omega arith)
    by false false enough q n e = absurd (omega arith)
    by false true false q n e = absurd (omega arith)
    by false true true q n e = let h = leb-true _ _ q in omega (arith, h)

-- the bytes of a start and its first orders
module _ (bytes : List ℕ) (accepted : (opened blank bytes).answer.refusal ≡ 0) (n : ℕ) (h : first_size bytes + n * order_bytes ≤ length bytes) where
  abbrev front : List ℕ
  front = take (first_size bytes + n * order_bytes) bytes

  front_length : length front ≡ first_size bytes + n * order_bytes
  front_length = length-take-le (first_size bytes + n * order_bytes) bytes h

  front_border : AtBorder front n
  front_border =
      let some = first_size_some bytes in
      let same : first_size front ≡ first_size bytes = sym (size_front front (drop (first_size bytes + n * order_bytes) bytes) (omega (arith, front_length))) ∙ ap first_size (take-append-drop (first_size bytes + n * order_bytes) bytes) in
      record { accepted = ap (λ o. o.answer.refusal) (opened_first blank bytes (first_size bytes + n * order_bytes) (omega arith)) ∙ accepted; border = omega (arith, front_length, same) }

module _ (program : List ℕ → List ℕ) (demand : LineByLine program) where
  -- one order behind a border, whole or cut short
  ends_more : (bytes : List ℕ) (accepted : (opened blank bytes).answer.refusal ≡ 0) (n : ℕ) (h : first_size bytes + n * order_bytes ≤ length bytes)
      → Within 1 order_bytes (length (drop (first_size bytes + n * order_bytes) bytes)) → ends (program (front bytes accepted n h)) ≡ 1 + n → ends (program bytes) ≡ 2 + n
  ends_more bytes accepted n h one e =
      let a = front bytes accepted n h in
      let x = demand.one_more a (drop (first_size bytes + n * order_bytes) bytes) n (front_border bytes accepted n h) one in
      omega
      (arith, ap (λ l. ends (program l)) (take-append-drop (first_size bytes + n * order_bytes) bytes), ap ends x.2, ends_append (program a) x.0, ends_line (n + 1) x.0 x.1, e)

  -- at a border
  ends_border : (count : ℕ) (bytes : List ℕ) → AtBorder bytes count → ends (program bytes) ≡ 1 + count
  unfolding ends
  ends_border zero bytes at =
      let number = decimal (first_byte bytes) in
      omega
      (arith, ap ends (demand.first bytes at), ends_append (codes "desk links ") (number ++ codes "\n"), ends_append number (codes "\n"), ends_none number (decimal_no_end (first_byte bytes)))
  ends_border (suc n) bytes at =
      let h : first_size bytes + n * order_bytes ≤ length bytes = omega (arith, at.border) in
      let long = length-drop (first_size bytes + n * order_bytes) bytes in
      ends_more bytes at.accepted n h (omega (arith, at.border), omega (arith, at.border)) (ends_border n (front bytes at.accepted n h) (front_border bytes at.accepted n h))
      ∙ omega arith

  pub one_line_each : OneLineEach program
  one_line_each bytes accepted =
      let whole = start_whole bytes (passed bytes accepted) in
      let rest = drop (first_size bytes) bytes in
      let long = length-drop (first_size bytes) bytes in
      let k = length rest / order_bytes in
      let h : first_size bytes + k * order_bytes ≤ length bytes = omega arith in
      let last = length-drop (first_size bytes + k * order_bytes) bytes in
      elim (dec_le (length rest) (k * order_bytes)) [
        | yes none ↦ ends_border k bytes (record { accepted = accepted; border = omega arith }) ∙ ap (λ n. 1 + n) (sym (orders_count k rest (omega arith)))
        | no some ↦ ends_more bytes accepted k h (omega arith, omega arith) (ends_border k (front bytes accepted k h) (front_border bytes accepted k h)) ∙ omega (arith, orders_count_more k rest (omega arith) (omega arith))
      ]

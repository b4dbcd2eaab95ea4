-- Each order adds one line with the next place: whatever it is answered, its line has its place and one end.
use mathlib.Core.Path.{◌≡◌, refl, ap, ap₂, ◌∙◌}
use mathlib.Core.Logic.{◌≢◌}
use mathlib.Core.List.{List, [], ◌∷◌, ◌++◌, append_assoc, append-nil}
use mathlib.Core.Bool.{Bool, true, false, not}
use Prim.Native.Nat.{ℕ, zero, suc, ◌+◌, ◌-◌, ◌*◌, ◌≤◌, ◌<◌}
use native.Mathlib.Decide.{dec_lt}
use native.Mathlib.Omega.{arith}
use lib.Dec.{eqb}
use lib.ListN.{length, take, drop, length-drop, length-append}
use Rattle.std.specs.Prelude.{codes, Result, Ok, Err}
use Rattle.std.specs.Simd.{first_chunks}
use Rattle.std.proofs.lemmas.List.{take_all, drop_all}
use Rattle.units.specs.declared.Link.{Link}
use Rattle.units.specs.declared.Minute.{Minute}
use Rattle.units.specs.declared.Refusal.{Refusal}
use Rattle.units.specs.Refusals.{number, no_start}
use Rattle.units.specs.Lists.{Within, all, All}
use Rattle.units.proofs.Tests.{all_tells, differs}
use Rattle.units.proofs.Parts.{all_map}
use Rattle.layout.specs.declared.Order.{Order}
use Rattle.layout.specs.declared.Order.TheVariants as orders_of
use Rattle.layout.specs.Layout.{order_bytes}
use Rattle.layout.specs.Records.{if_passed, order_read}
use Rattle.layout.proofs.Reading.{missized}
use Rattle.report.specs.declared.Report.TheVariants as reports
use Rattle.report.specs.Decimal.{digits, decimal}
use Rattle.report.specs.Line.{numbers, route, answer, line}
use Rattle.report.proofs.Decimals.{only_digits}
use Rattle.rules.specs.Calls.{Values, values}
use Rattle.rules.specs.Tables.{Tables}
use Rattle.rules.specs.Desk.{outcome}
use Rattle.opening.specs.Opened.{first_byte, first_size, opened}
use Rattle.orders.specs.Ordered.{call_of, answered as answered_order, by_reading, ordered, accepted, path_shown, refused as refusal_report, line_of}
use Rattle.session.specs.Session.{Running, answered, lines, last_piece, orders, blank, started, session}
use Rattle.session_demands.specs.Cutting.{AtBorder, reached, LineAt, LineByLine}
use Rattle.session.proofs.Orders.{after_place, orders_short, orders_first, orders_front}
use Rattle.session_demands.proofs.PlainBook.{links_counted, start_tables}
use Rattle.session_demands.proofs.Cutting.{goes_on}
use Rattle.session.proofs.Whole.{output_accepted, output_refused}

-- ---- a line

abbrev pub NoEnd : List ℕ → Type 0
NoEnd = All (λ b. b ≢ 10)

no_end : (xs : List ℕ) → all (λ b. not (eqb b 10)) xs ≡ true → NoEnd xs
no_end xs e = (all_tells (λ b. not (eqb b 10)) (λ b. b ≢ 10) (λ b. differs b 10) xs).0 e

both : (xs ys : List ℕ) → NoEnd xs → NoEnd ys → NoEnd (xs ++ ys)
both [] ys a b = b
both (x ∷ xs) ys a b = (a.0, both xs ys a.1 b)

pub decimal_no_end : (n : ℕ) → NoEnd (decimal n)
decimal_no_end n = all_map (Within 48 57) (λ b. b ≢ 10) (λ b h e. absurd (omega arith)) (decimal n) (only_digits n)

numbers_no_end : (links : List ℕ) → NoEnd (numbers links)
unfolding numbers
numbers_no_end [] = tt
numbers_no_end (l ∷ links) = both (codes " " ++ decimal l) (numbers links) (both (codes " ") (decimal l) (no_end (codes " ") refl) (decimal_no_end l)) (numbers_no_end links)

route_no_end : (start : Minute) (links : List ℕ) → NoEnd (route start links)
unfolding route
route_no_end start links =
    both (codes " start ") _ (no_end (codes " start ") refl) (both (decimal start.0) _ (decimal_no_end start.0) (both (codes " links") (numbers links) (no_end (codes " links") refl) (numbers_no_end links)))

ended : (place : ℕ) (words : List ℕ) → NoEnd words → LineAt place ((decimal place ++ (codes " " ++ words)) ++ codes "\n")
ended place words h = record { words = words; one_line = h; placed = append_assoc (decimal place) (codes " " ++ words) (codes "\n") }

module _ (place : ℕ) (links : List ℕ) where
  refused_line : (k : ℕ) → LineAt place (line place (reports.Refused k) links)
  unfolding answer line
  refused_line k = ended place (codes "refused " ++ decimal k) (both (codes "refused ") (decimal k) (no_end (codes "refused ") refl) (decimal_no_end k))

  refused_at_line : (k m : ℕ) → LineAt place (line place (reports.RefusedAt k (record { 0 = m })) links)
  unfolding answer line
  refused_at_line k m =
      ended place (codes "refused " ++ (decimal k ++ (codes " at " ++ decimal m)))
      (both (codes "refused ") _ (no_end (codes "refused ") refl) (both (decimal k) _ (decimal_no_end k) (both (codes " at ") (decimal m) (no_end (codes " at ") refl) (decimal_no_end m))))

  -- a refusal, by whether it is 8
  refusal_line : (k m : ℕ) → LineAt place (line place (refusal_report k m) links)
  refusal_line k m = by (eqb k no_start)
    where
      by : (t : Bool) → LineAt place (line place (if_passed t (reports.RefusedAt k (record { 0 = m })) (reports.Refused k)) links)
      by true = refused_at_line k m
      by false = refused_line k

  accepted_line : (order : Order) (v : Values) → LineAt place (line place (accepted order v) links)
  unfolding answer line
  accepted_line (orders_of.Book number w) v =
      ended place (codes "booked " ++ (decimal number ++ route (record { 0 = v.start }) links))
      (both (codes "booked ") _ (no_end (codes "booked ") refl) (both (decimal number) _ (decimal_no_end number) (route_no_end (record { 0 = v.start }) links)))
  accepted_line (orders_of.Cancel number) v = ended place (codes "cancelled " ++ decimal number) (both (codes "cancelled ") (decimal number) (no_end (codes "cancelled ") refl) (decimal_no_end number))
  accepted_line (orders_of.Clock minute) v = ended place (codes "clock " ++ decimal minute.0) (both (codes "clock ") (decimal minute.0) (no_end (codes "clock ") refl) (decimal_no_end minute.0))
  accepted_line (orders_of.Offer w) v = ended place (codes "offer" ++ route (record { 0 = v.start }) links) (both (codes "offer") _ (no_end (codes "offer") refl) (route_no_end (record { 0 = v.start }) links))

  reported_line : (order : Order) (v : Values) (passed : Bool) → LineAt place (line place (if_passed passed (accepted order v) (refusal_report v.number v.at)) links)
  reported_line order v true = accepted_line order v
  reported_line order v false = refusal_line v.number v.at

pub ordered_line : (links : List Link) (t : Tables) (bytes : List ℕ) (place : ℕ) → LineAt place (line_of place (ordered links t bytes))
unfolding ordered answered_order
ordered_line links t bytes place = by (order_read bytes)
  where
    by : (read : Result Order Refusal) → LineAt place (line_of place (by_reading links t read))
    by (Ok order) =
        let v = values (outcome links t (call_of order)).answer in
        reported_line place (take (path_shown order v).count (path_shown order v).links) order v (eqb v.number 0)
    by (Err refusal) = refusal_line place [] (number refusal) 0

-- ---- one order more

length_chunks : (n k : ℕ) (xs : List ℕ) → length (first_chunks n k xs) ≡ k
length_chunks n zero xs = refl
length_chunks n (suc k) xs = ap suc (length_chunks n k (drop n xs))

pub orders_none : orders [] ≡ []
unfolding orders
orders_none = refl

-- an order's bytes, all or some, are one order
pub orders_one : (order : List ℕ) → Within 1 order_bytes (length order) → orders order ≡ order ∷ []
orders_one order h = elim (dec_lt (length order) order_bytes) [
  | yes short ↦ orders_short order short ∙ one order h.0
  | no whole ↦ orders_first order (omega arith) ∙ ap₂ ◌∷◌ (take_all order_bytes order (omega arith)) (ap orders (drop_all order_bytes order h.1) ∙ orders_none)
]
  where
    one : (xs : List ℕ) → 1 ≤ length xs → last_piece xs ≡ xs ∷ []
    one [] h = absurd (omega arith)
    one (x ∷ xs) h = refl

pub orders_count : (k : ℕ) (bytes : List ℕ) → length bytes ≡ k * order_bytes → length (orders bytes) ≡ k
orders_count k bytes h =
    ap length (orders_front k bytes (omega arith) ∙ ap (λ x. first_chunks order_bytes k bytes ++ x) (ap orders (drop_all (k * order_bytes) bytes (omega arith)) ∙ orders_none) ∙ append-nil _)
    ∙ length_chunks order_bytes k bytes

-- and one more, whole or cut short
pub orders_count_more : (k : ℕ) (bytes : List ℕ) → k * order_bytes < length bytes → length bytes ≤ k * order_bytes + order_bytes → length (orders bytes) ≡ suc k
orders_count_more k bytes some most =
    let last = drop (k * order_bytes) bytes in
    let long = length-drop (k * order_bytes) bytes in
    ap length (orders_front k bytes (omega arith) ∙ ap (λ x. first_chunks order_bytes k bytes ++ x) (orders_one last (omega arith, omega arith)))
    ∙ omega (arith, length-append (first_chunks order_bytes k bytes) (last ∷ []), length_chunks order_bytes k bytes)

refused : (bytes : List ℕ) → (opened blank bytes).answer.refusal ≢ 0 → session bytes ≡ codes "desk refused " ++ (decimal (opened blank bytes).answer.refusal ++ codes "\n")
unfolding session answer line
refused bytes e =
    output_refused (opened blank bytes) (drop (first_size bytes) bytes) e ∙ append_assoc (codes "desk refused ") (decimal (opened blank bytes).answer.refusal) (codes "\n")

first : (a : List ℕ) → AtBorder a 0 → session a ≡ codes "desk links " ++ (decimal (first_byte a) ++ codes "\n")
unfolding session lines answer line
first a at =
    let rest = drop (first_size a) a in
    let s = start_tables a at.accepted in
    output_accepted (opened blank a) rest at.accepted
    ∙ ap₂ (λ n os. line 0 (reports.DeskLinks n) [] ++ lines (started (opened blank a)) os) (ap (λ o. length o.answer.links) s ∙ links_counted a) (ap orders (drop_all (first_size a) a (omega (arith, at.border))) ∙ orders_none)
    ∙ append-nil (line 0 (reports.DeskLinks (first_byte a)) [])
    ∙ append_assoc (codes "desk links ") (decimal (first_byte a)) (codes "\n")

-- the place of the next order
pub next_place : (a : List ℕ) (count : ℕ) → AtBorder a count → (reached a).place ≡ count + 1
next_place a count at =
    after_place (started (opened blank a)) (orders (drop (first_size a) a))
    ∙ omega (arith, orders_count count (drop (first_size a) a) (rw length-drop (omega (arith, at.border))))

pub one_more : (a order : List ℕ) (count : ℕ) → AtBorder a count → Within 1 order_bytes (length order) → session (a ++ order) ≡ session a ++ line_of (count + 1) (answered (reached a) order)
unfolding lines
one_more a order count at h =
    goes_on a order count at
    ∙ ap (λ x. session a ++ x) (ap (lines (reached a)) (orders_one order h) ∙ append-nil _ ∙ ap (λ n. line_of n (answered (reached a) order)) (next_place a count at))

-- fewer bytes than an order's are refused, and change nothing
piece_line : (r : Running) (piece : List ℕ) (place : ℕ) → length piece ≢ order_bytes → line_of place (answered r piece) ≡ decimal place ++ codes " refused 12\n"
unfolding ordered decimal digits answer line
piece_line r piece place h = ap (λ read. line_of place (by_reading r.links r.tables read)) (missized piece h) ∙ append_assoc (decimal place) (codes " refused 12") (codes "\n")

cut_short : (a piece : List ℕ) (count : ℕ) → AtBorder a count → Within 1 (order_bytes - 1) (length piece) → session (a ++ piece) ≡ session a ++ (decimal (count + 1) ++ codes " refused 12\n")
cut_short a piece count at h = one_more a piece count at (omega arith, omega arith) ∙ ap (λ x. session a ++ x) (piece_line (reached a) piece (count + 1) (λ e. absurd (omega arith)))

pub line_by_line : LineByLine session
line_by_line = record {
  refused = refused;
  first = first;
  cut_short = cut_short;
  one_more = λ a order count at h. (line_of (count + 1) (answered (reached a) order), ordered_line (reached a).links (reached a).tables order (count + 1), one_more a order count at h);
}

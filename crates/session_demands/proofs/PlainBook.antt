-- The output of a session is what the plain book answers: each order leaves the tables of the book's next state.
use mathlib.Core.Path.{◌≡◌, refl, sym, ap, ap₂, ◌∙◌, subst}
use mathlib.Core.List.{List, [], ◌∷◌, ◌++◌}
use mathlib.Core.Bool.{Bool, true, false}
use Prim.Native.Nat.{ℕ, ◌+◌, ◌*◌, ◌≤◌}
use native.Mathlib.Omega.{arith}
use borrow.Author.Tests.{eqb-true}
use lib.Dec.{eqb}
use lib.ListN.{length, drop, length-replicate}
use Rattle.std.specs.Prelude.{Result, Ok, Err}
use Rattle.std.proofs.lemmas.List.{length-map}
use Rattle.units.specs.declared.Link.{Link}
use Rattle.units.specs.declared.Refusal.{Refusal}
use Rattle.units.specs.Limits.{most_links, most_events, most_bookings, most_guard, place_size, most_totals}
use Rattle.units.specs.Lists.{within, Within, All}
use Rattle.units.specs.Refusals.{bad_size, bad_link, bad_field, bad_length}
use Rattle.units.proofs.Tests.{in_range, at_most}
use Rattle.layout.specs.declared.Order.{Order}
use Rattle.layout.specs.Records.{if_passed, order_read}
use Rattle.report.specs.declared.Report.TheVariants.{DeskLinks}
use Rattle.report.specs.Line.{line}
use Rattle.histories.specs.Kinds as kinds
use Rattle.histories.proofs.Checks.{Passed, passed_number}
use Rattle.rules.specs.Plain.{Plain, empty}
use Rattle.rules.specs.Calls.{set_up, done, refuse, values, check, checked, first_refusal}
use Rattle.rules.specs.Tables.{tables, sized, guard_ok, links_ok, set_up_checks}
use Rattle.rules.specs.Desk.{outcome}
use Rattle.rules.specs.Sound.{LinkRight, Obeys}
use Rattle.rules.proofs.Tests.{links_tell, sized_tells}
use Rattle.rules.proofs.Step.{set_up_accepted, set_up_leaves, obeys_empty, answers_plain, leaves_plain, stays_obeyed}
use Rattle.opening.specs.Opened.{first_byte, guard_byte, first_size, links_in, bytes_refusal, by_set_up, opened}
use Rattle.orders.specs.Ordered.{Ordered, call_of, answered_by, answered as answered_order, by_reading, ordered, line_of}
use Rattle.units.proofs.Padded.{length_count}
use Rattle.session.specs.Session.{Running, answered, behind, lines, after, started, orders, blank, output, session}
use Rattle.session_demands.specs.FromPlainBook.{plain_told, plain_next, line_at, plain_lines, start_refusal, plain_start, plain_output, plain_session, FromPlainBook, LinesFromPlainBook}

module _ (links : List Link) (count : Within 1 most_links (length links)) where
  pub next_obeys : (p : Plain) → Obeys links p → (read : Result Order Refusal) → Obeys links (plain_next links p read)
  next_obeys p o (Ok order) = stays_obeyed links p o (call_of order)
  next_obeys p o (Err refusal) = o

  read_plain : (p : Plain) → Obeys links p → (read : Result Order Refusal) → by_reading links (tables links p) read ≡ record { answer = plain_told links p read; tables = tables links (plain_next links p read) }
  unfolding answered_order
  read_plain p o (Ok order) = ap₂ (λ a t. answered_by order (record { answer = a; tables = t })) (answers_plain links p o count (call_of order)) (leaves_plain links p o count (call_of order))
  read_plain p o (Err refusal) = refl

  lines_from : (p : Plain) (place : ℕ) (orders : List (List ℕ)) → Obeys links p → lines (record { links = links; tables = tables links p; place = place }) orders ≡ plain_lines links p place orders
  unfolding lines plain_lines ordered
  lines_from p place [] o = refl
  lines_from p place (x ∷ xs) o =
      ap (λ (z : Ordered). line_of place z ++ lines (record { links = links; tables = z.tables; place = place + 1 }) xs) (read_plain p o (order_read x))
      ∙ ap (λ rest. line_at place (plain_told links p (order_read x)) ++ rest) (lines_from (plain_next links p (order_read x)) (place + 1) xs (next_obeys p o (order_read x)))

pub lines_plain : LinesFromPlainBook
lines_plain links p place orders count o = lines_from links count p place orders o

-- ---- the start

blank_sized : (links : List Link) → Within 1 most_links (length links) → sized links blank ≡ true
unfolding blank
blank_sized links count =
    (sized_tells links blank).1 (record {
      links_right = count;
      events_right = length-replicate {A = ℕ} most_events 0;
      free_right = length-replicate {A = ℕ} (most_events * most_links) 0;
      book_right = length-replicate {A = ℕ} (most_bookings * place_size) 0;
      totals_right = length-replicate {A = ℕ} most_totals 0;
    })

-- 'then the set-up (2)', with the guard's range (4)
set_up_number : (links : List Link) (guard : ℕ) → Within 1 most_links (length links) → (values (outcome links blank (set_up guard)).answer).number ≡ start_refusal links guard
unfolding kinds.outcome kinds.answer_on checked
set_up_number links guard count = rw (blank_sized links count) (by (guard_ok guard) (links_ok links))
  where
    by : (short ok : Bool) → (values (checked refuse (check bad_field short ∷ check bad_link ok ∷ []) (checked refuse (check bad_field short ∷ []) done))).number
        ≡ first_refusal (check bad_field short ∷ check bad_link ok ∷ [])
    by true true = refl
    by true false = refl
    by false ok = refl

-- bytes that pass count as many links as they hold, in range
pub links_counted : (bytes : List ℕ) → length (links_in bytes (first_byte bytes)) ≡ first_byte bytes
unfolding links_in
links_counted bytes = rw (length-map, length_count) refl

pub counted : (bytes : List ℕ) → bytes_refusal bytes ≡ 0 → Within 1 most_links (length (links_in bytes (first_byte bytes)))
unfolding bytes_refusal
counted bytes e = rw links_counted (by _ (eqb (length bytes) 0) (within 1 most_links (first_byte bytes)) refl e)
  where
    by : (n : ℕ) (none fits : Bool) → within 1 most_links (first_byte bytes) ≡ fits → if_passed none bad_length (if_passed fits n bad_size) ≡ 0 → Within 1 most_links (first_byte bytes)
    by n true fits f e = absurd (omega arith)
    by n false true f e = (in_range 1 most_links (first_byte bytes)).0 f
    by n false false f e = absurd (omega arith)

module _ (bytes : List ℕ) where
  abbrev pub found : List Link
  found = links_in bytes (first_byte bytes)

  abbrev pub asked_guard : ℕ
  asked_guard = guard_byte bytes

  pub start_answer : (opened blank bytes).answer ≡ plain_start bytes
  unfolding opened
  start_answer = by (eqb (bytes_refusal bytes) 0) refl
    where
      by : (passes : Bool) → eqb (bytes_refusal bytes) 0 ≡ passes
          → (if_passed passes (by_set_up blank found asked_guard) (record { answer = record { refusal = bytes_refusal bytes; links = [] }; tables = blank })).answer
          ≡ if_passed passes (record { refusal = start_refusal found asked_guard; links = found }) (record { refusal = bytes_refusal bytes; links = [] })
      by true e = ap (λ n. record { refusal = n; links = found }) (set_up_number found asked_guard (counted bytes (eqb-true _ _ e)))
      by false e = refl

  -- an accepted start leaves the tables of the empty plain book
  module _ (accepted : (opened blank bytes).answer.refusal ≡ 0) where
    pub passed : bytes_refusal bytes ≡ 0
    unfolding opened
    passed = by (eqb (bytes_refusal bytes) 0) refl accepted
      where
        by : (passes : Bool) → eqb (bytes_refusal bytes) 0 ≡ passes
            → (if_passed passes (by_set_up blank found asked_guard) (record { answer = record { refusal = bytes_refusal bytes; links = [] }; tables = blank })).answer.refusal ≡ 0 → bytes_refusal bytes ≡ 0
        by true e a = eqb-true _ _ e
        by false e a = a

    set_up_is : opened blank bytes ≡ by_set_up blank found asked_guard
    unfolding opened
    set_up_is = rw passed refl

    checks_passed : Passed (set_up_checks found asked_guard)
    checks_passed = passed_number _ (omega arith, (omega arith, tt)) (sym (set_up_number found asked_guard (counted bytes passed)) ∙ ap (λ o. o.answer.refusal) (sym set_up_is) ∙ accepted)

    pub right : All LinkRight found
    right = (links_tell found).0 checks_passed.1.0

    pub short : asked_guard ≤ most_guard
    short = (at_most asked_guard most_guard).0 checks_passed.0

    pub obeys_at_first : Obeys found (empty asked_guard)
    obeys_at_first = obeys_empty found asked_guard short right

    pub start_tables : opened blank bytes ≡ record { answer = record { refusal = 0; links = found }; tables = tables found (empty asked_guard) }
    start_tables =
        let a = set_up_accepted found blank asked_guard short (blank_sized found (counted bytes passed)) right in
        set_up_is ∙ ap₂ (λ n t. record { answer = record { refusal = n; links = found }; tables = t }) (ap (λ a. (values a).number) a) (set_up_leaves found blank asked_guard a)

-- the session at its first order is at the empty plain book
pub session_plain : FromPlainBook session
unfolding session plain_session
session_plain bytes = by (eqb (opened blank bytes).answer.refusal 0) refl
  where
    rest : List ℕ
    rest = drop (first_size bytes) bytes

    by : (accepted : Bool) → eqb (opened blank bytes).answer.refusal 0 ≡ accepted → output (opened blank bytes) rest ≡ plain_output (plain_start bytes) (guard_byte bytes) rest
    by true e =
        let a = eqb-true _ _ e in
        let s = start_tables bytes a in
        ap (λ o. output o rest) s
        ∙ ap (λ x. line 0 (DeskLinks (length (found bytes))) [] ++ x) (lines_from (found bytes) (counted bytes (passed bytes a)) (empty (guard_byte bytes)) 1 (orders rest) (obeys_at_first bytes a))
        ∙ ap (λ t. plain_output t (guard_byte bytes) rest) (sym (ap (λ o. o.answer) s) ∙ start_answer bytes)
    by false e = rw e (sym (ap (λ t. plain_output t (guard_byte bytes) rest) (sym (start_answer bytes)) ∙ rw e refl))

-- ---- any moment of a session

-- the session's tables are those of a plain book that obeys the rules
pub record AtPlain (r : Running) : Type 0 where
  pub count : Within 1 most_links (length r.links)
  pub book : Plain
  pub obeys : Obeys r.links book
  pub tables_are : r.tables ≡ tables r.links book

-- an order is answered from that book, and leaves the tables of its next state
pub answered_plain : (r : Running) (at : AtPlain r) (order : List ℕ)
    → answered r order ≡ record { answer = plain_told r.links at.book (order_read order); tables = tables r.links (plain_next r.links at.book (order_read order)) }
unfolding ordered
answered_plain r at order = ap (λ t. by_reading r.links t (order_read order)) at.tables_are ∙ read_plain r.links at.count at.book at.obeys (order_read order)

abbrev pub behind_plain : (r : Running) → AtPlain r → (order : List ℕ) → AtPlain (behind r order)
behind_plain r at order = record {
  count = at.count;
  book = plain_next r.links at.book (order_read order);
  obeys = next_obeys r.links at.count at.book at.obeys (order_read order);
  tables_are = ap (λ o. o.tables) (answered_plain r at order);
}

pub after_plain : (r : Running) → AtPlain r → (orders : List (List ℕ)) → AtPlain (after r orders)
unfolding after
after_plain r at [] = at
after_plain r at (order ∷ orders) = after_plain (behind r order) (behind_plain r at order) orders

-- at its first order it is the empty one; and so at any place with those tables
module _ (bytes : List ℕ) (accepted : (opened blank bytes).answer.refusal ≡ 0) where
  abbrev pub fresh : ℕ → Running
  fresh place = record { links = found bytes; tables = tables (found bytes) (empty (asked_guard bytes)); place = place }

  abbrev pub fresh_plain : (place : ℕ) → AtPlain (fresh place)
  fresh_plain place = record { count = counted bytes (passed bytes accepted); book = empty (asked_guard bytes); obeys = obeys_at_first bytes accepted; tables_are = refl }

  pub started_fresh : started (opened blank bytes) ≡ fresh 1
  started_fresh = ap (λ o. started o) (start_tables bytes accepted)

  pub started_plain : AtPlain (started (opened blank bytes))
  started_plain = subst (λ r. AtPlain r) (sym started_fresh) (fresh_plain 1)

-- A booking that is accepted stands for the next order: the book that the order before it left holds it.
use mathlib.Core.Path.{◌≡◌, refl, sym, ap, ap₂, ◌∙◌, subst}
use mathlib.Core.Logic.{◌≢◌}
use mathlib.Core.List.{List, ◌++◌, append_assoc, append-nil}
use mathlib.Core.Bool.{Bool, true, false, ◌||◌, and-eq-true_iff}
use Prim.Native.Nat.{ℕ, ◌+◌, ◌≤◌}
use native.Mathlib.Omega.{arith}
use borrow.Author.Tests.{eqb-true, eq-eqb, ne_eqb}
use lib.Dec.{eqb, lit≤}
use lib.ListN.{length, get_or, take, drop}
use Rattle.std.specs.Prelude.{codes, Result, Ok, Err}
use Rattle.std.proofs.lemmas.List.{append_cancel_left}
use Rattle.units.specs.declared.Link.{Link}
use Rattle.units.specs.declared.Request.{Request}
use Rattle.units.specs.declared.Refusal.{Refusal}
use Rattle.units.specs.declared.Refusal.TheVariants.{BadLength}
use Rattle.units.specs.Refusals as refusals
use Rattle.units.specs.Lists.{member}
use Rattle.layout.specs.declared.Order.{Order}
use Rattle.layout.specs.declared.Order.TheVariants as orders_of
use Rattle.layout.specs.declared.Wish.{Wish}
use Rattle.layout.specs.Layout.{big_endian, cut, order_widths, order_bytes}
use Rattle.layout.specs.Records.{if_passed, order_from, order_fields, order_read}
use Rattle.layout.specs.Values.{request_of}
use Rattle.report.specs.declared.Report.TheVariants as reports
use Rattle.report.specs.Decimal.{decimal}
use Rattle.report.specs.Line.{answer, line}
use Rattle.choice.specs.Choice.{Grant, Choice, granted, no_start, choose}
use Rattle.histories.specs.Kinds as kinds
use Rattle.histories.proofs.Checks.{Verdict, lets, stops, verdict}
use Rattle.rules.specs.Plain.{Booking, Plain, terms, graph, carries, low}
use Rattle.rules.specs.Calls.{book, cancel, ask, Refusal as RefusedWith, done, starts, refused, refuse, checked, own_checks, number_ok, request_ok, stands, breaks_off, chosen, best, put_in, next}
use Rattle.rules.specs.Desk.{answer as plain_answer}
use Rattle.rules.proofs.Checks.{starts≢refused, passed_answer, passed_all}
use Rattle.opening.specs.Opened.{first_size, opened}
use Rattle.orders.specs.Ordered.{line_of}
use Rattle.session.specs.Session.{Running, answered, behind, lines, orders, blank, started, session}
use Rattle.session_demands.specs.FromPlainBook.{plain_told, plain_next, line_at, shown}
use Rattle.session_demands.specs.Cutting.{AtBorder, reached, Remembers}
use Rattle.session_demands.proofs.PlainBook.{AtPlain, answered_plain, behind_plain, after_plain, started_plain}
use Rattle.session_demands.proofs.Cutting.{goes_on, orders_cut}
use Rattle.session_demands.proofs.LineByLine.{orders_one, next_place, one_more}

-- only sixteen bytes are read as an order
pub read_length : (bytes : List ℕ) (order : Order) → order_read bytes ≡ Ok order → length bytes ≡ order_bytes
unfolding order_read
read_length bytes order e = by (eqb (length bytes) order_bytes) refl (order_from (order_fields (cut order_widths (big_endian bytes)))) e
  where
    by : (t : Bool) → eqb (length bytes) order_bytes ≡ t → (x : Result Order Refusal) → if_passed t x (Err BadLength) ≡ Ok order → length bytes ≡ order_bytes
    by true q x e = eqb-true (length bytes) order_bytes q
    by false q x e = absurd (cc)

-- ---- one booking, from the plain book

module _ (links : List Link) (p : Plain) where
  -- a booking gets a start, and its number is in range; or it is refused
  pub data Booked (n : ℕ) (r : Request) : Type 0 where
    gets : (g : Grant) → plain_answer links p (book n r) ≡ starts g → number_ok n ≡ true → Booked n r
    refuses : (f : RefusedWith) → 1 ≤ f.number → plain_answer links p (book n r) ≡ refused f → Booked n r

  booked : (n : ℕ) (r : Request) → Booked n r
  unfolding kinds.answer best
  booked n r = by (verdict refuse (best links p r) (own_checks links p (book n r)) (lit≤ tt, (lit≤ tt, (lit≤ tt, (lit≤ tt, tt)))))
    where
      chosen_by : (c : Choice Grant) → let a = chosen (breaks_off links p r) c in checked refuse (own_checks links p (book n r)) a ≡ a → plain_answer links p (book n r) ≡ checked refuse (own_checks links p (book n r)) a → Booked n r
      chosen_by (granted g) e q = gets g (q ∙ e) ((and-eq-true_iff (number_ok n) (request_ok r)).0 (passed_all refuse (own_checks links p (book n r)) (starts g) (λ k h. starts≢refused (sym e ∙ h))).0).0
      chosen_by no_start e q = refuses (record { number = refusals.no_start; at = breaks_off links p r }) (lit≤ tt) (q ∙ e)

      by : Verdict refuse (best links p r) (own_checks links p (book n r)) → Booked n r
      by (lets e) = chosen_by (choose (graph links) (carries links p r) r.from r.to (low p r) r.latest.0) e refl
      by (stops k h e) = refuses (record { number = k; at = 0 }) h e

  -- a booking in the book can be cancelled
  cancelled : (b : Booking) → number_ok b.number ≡ true → plain_answer links (put_in b p) (cancel b.number) ≡ done
  unfolding kinds.answer member
  cancelled b e = passed_answer refuse (own_checks links (put_in b p) (cancel b.number)) done (e, (ap (λ t. t || stands b.number p.bookings) (eq-eqb b.number b.number refl), tt))

-- ---- the two lines

-- the line of an order that is refused with another number than 8
pub refused_line : (place : ℕ) (order : Order) (k : ℕ) → 1 ≤ k → k ≢ refusals.no_start → line_at place (shown order (refuse k)) ≡ decimal place ++ (codes " refused " ++ (decimal k ++ codes "\n"))
unfolding answer line
refused_line place order k h d = rw (ne_eqb k 0 (λ e. absurd (omega arith)), ne_eqb k refusals.no_start d) (append_assoc (decimal place) (codes " refused " ++ decimal k) (codes "\n"))

-- and of any that is refused
refused_words : (place : ℕ) (order : Order) (f : RefusedWith) → 1 ≤ f.number → (words : List ℕ) × (line_at place (shown order (refused f)) ≡ decimal place ++ (codes " refused " ++ words))
unfolding answer line
refused_words place order f h = rw (ne_eqb f.number 0 (λ e. absurd (omega arith))) (by (eqb f.number refusals.no_start))
  where
    by : (t : Bool) → (words : List ℕ)
        × (line place (if_passed t (reports.RefusedAt f.number (record { 0 = f.at })) (reports.Refused f.number)) (take (shown order (refused f)).path.count (shown order (refused f)).path.links) ≡ decimal place ++ (codes " refused " ++ words))
    by true = ((decimal f.number ++ (codes " at " ++ decimal f.at)) ++ codes "\n", append_assoc (decimal place) (codes " refused " ++ (decimal f.number ++ (codes " at " ++ decimal f.at))) (codes "\n"))
    by false = (decimal f.number ++ codes "\n", append_assoc (decimal place) (codes " refused " ++ decimal f.number) (codes "\n"))

-- of one that is cancelled
pub cancelled_line : (place number : ℕ) → line_at place (shown (orders_of.Cancel number) done) ≡ decimal place ++ (codes " cancelled " ++ (decimal number ++ codes "\n"))
unfolding answer line
cancelled_line place number = append_assoc (decimal place) (codes " cancelled " ++ decimal number) (codes "\n")

-- the words of a refused order are no other's
pub not_refused : (place : ℕ) (order : Order) (f : RefusedWith) (words : List ℕ) → 1 ≤ f.number → line_at place (shown order (refused f)) ≡ decimal place ++ (codes " booked " ++ words) → ⊥
not_refused place order f words h e =
    let z : ◌≡◌ {A = ℕ} 114 98 = ap (λ l. get_or l 1 0) (append_cancel_left (decimal place) _ _ (sym (refused_words place order f h).1 ∙ e)) in
    omega arith

-- a session at a plain book that answers a booking, and then its cancellation
module _ (r : Running) (at : AtPlain r) (booking cancellation : List ℕ) (number : ℕ) (wish : Wish)
    (first : order_read booking ≡ Ok (orders_of.Book number wish)) (second : order_read cancellation ≡ Ok (orders_of.Cancel number)) where
  abbrev pub asked : Request
  asked = request_of wish

  pub line_1 : line_of r.place (answered r booking) ≡ line_at r.place (shown (orders_of.Book number wish) (plain_answer r.links at.book (book number asked)))
  line_1 = ap (line_of r.place) (answered_plain r at booking) ∙ ap (λ read. line_at r.place (plain_told r.links at.book read)) first

  line_2 : (g : Grant) → plain_answer r.links at.book (book number asked) ≡ starts g → number_ok number ≡ true
      → line_of (r.place + 1) (answered (behind r booking) cancellation) ≡ decimal (r.place + 1) ++ (codes " cancelled " ++ (decimal number ++ codes "\n"))
  line_2 g e ok =
      let b : Booking = record { number = number; terms = terms asked; grant = g } in
      ap (line_of (r.place + 1)) (answered_plain (behind r booking) (behind_plain r at booking) cancellation)
      ∙ ap₂ (λ read next. line_at (r.place + 1) (plain_told r.links next read)) second
      (ap (plain_next r.links at.book) first ∙ ap (λ a. next at.book (ask (book number asked)) a) e)
      ∙ ap (λ a. line_at (r.place + 1) (shown (orders_of.Cancel number) a)) (cancelled r.links at.book b ok)
      ∙ cancelled_line (r.place + 1) number

  cancels_next : (words : List ℕ) → line_of r.place (answered r booking) ≡ decimal r.place ++ (codes " booked " ++ words)
      → line_of (r.place + 1) (answered (behind r booking) cancellation) ≡ decimal (r.place + 1) ++ (codes " cancelled " ++ (decimal number ++ codes "\n"))
  cancels_next words e = by (booked r.links at.book number asked)
    where
      by : Booked r.links at.book number asked → line_of (r.place + 1) (answered (behind r booking) cancellation) ≡ decimal (r.place + 1) ++ (codes " cancelled " ++ (decimal number ++ codes "\n"))
      by (gets g q ok) = line_2 g q ok
      by (refuses f h q) = absurd (not_refused r.place (orders_of.Book number wish) f words h (ap (λ a. line_at r.place (shown (orders_of.Book number wish) a)) (sym q) ∙ sym line_1 ∙ e))

-- ---- the session

lines_of_two : (a booking cancellation : List ℕ) (count : ℕ) → AtBorder a count → length booking ≡ order_bytes → length cancellation ≡ order_bytes
    → lines (reached a) (orders (booking ++ cancellation)) ≡ line_of (count + 1) (answered (reached a) booking) ++ line_of (count + 1 + 1) (answered (behind (reached a) booking) cancellation)
unfolding lines
lines_of_two a booking cancellation count at h k =
    ap (lines (reached a)) (orders_cut booking cancellation 1 (omega arith) ∙ ap₂ ◌++◌ (orders_one booking (omega arith, omega arith)) (orders_one cancellation (omega arith, omega arith)))
    ∙ ap₂ (λ place l. line_of place (answered (reached a) booking) ++ l) (next_place a count at)
    (append-nil _ ∙ ap (λ place. line_of (place + 1) (answered (behind (reached a) booking) cancellation)) (next_place a count at))

two_more : (a booking cancellation : List ℕ) (count : ℕ) → AtBorder a count → length booking ≡ order_bytes → length cancellation ≡ order_bytes
    → (session (a ++ booking) ≡ session a ++ line_of (count + 1) (answered (reached a) booking))
    × (session (a ++ (booking ++ cancellation)) ≡ session (a ++ booking) ++ line_of (count + 1 + 1) (answered (behind (reached a) booking) cancellation))
two_more a booking cancellation count at h k =
    let r = reached a in
    let second = line_of (count + 1 + 1) (answered (behind r booking) cancellation) in
    let one = one_more a booking count at (omega arith, omega arith) in (
      one,
      goes_on a (booking ++ cancellation) count at
          ∙ ap (λ x. session a ++ x) (lines_of_two a booking cancellation count at h k)
          ∙ sym (append_assoc (session a) _ second)
          ∙ ap (λ x. x ++ second) (sym one),
    )

-- the second line by the place of the first
second_line : (a booking cancellation : List ℕ) (count number : ℕ) (wish : Wish) (words : List ℕ) → AtBorder a count
    → order_read booking ≡ Ok (orders_of.Book number wish) → order_read cancellation ≡ Ok (orders_of.Cancel number)
    → line_of (count + 1) (answered (reached a) booking) ≡ decimal (count + 1) ++ (codes " booked " ++ words)
    → line_of (count + 1 + 1) (answered (behind (reached a) booking) cancellation) ≡ decimal (count + 1 + 1) ++ (codes " cancelled " ++ (decimal number ++ codes "\n"))
second_line a booking cancellation count number wish words at first second =
    let r = reached a in
    let plain = after_plain (started (opened blank a)) (started_plain a at.accepted) (orders (drop (first_size a) a)) in
    subst
    (λ place. line_of place (answered r booking) ≡ decimal place ++ (codes " booked " ++ words)
    → line_of (place + 1) (answered (behind r booking) cancellation) ≡ decimal (place + 1) ++ (codes " cancelled " ++ (decimal number ++ codes "\n")))
    (next_place a count at) (cancels_next r plain booking cancellation number wish first second words)

pub remembers : Remembers session
remembers = record {
  cancels = λ a booking cancellation count number wish words at first second e.
      let two = two_more a booking cancellation count at (read_length booking _ first) (read_length cancellation _ second) in
      two.1
      ∙ ap (λ x. session (a ++ booking) ++ x)
      (second_line a booking cancellation count number wish words at first second (append_cancel_left (session a) _ _ (sym two.0 ∙ e))
      ∙ ap (λ n. decimal n ++ (codes " cancelled " ++ (decimal number ++ codes "\n"))) (omega arith));
}

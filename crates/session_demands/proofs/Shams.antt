-- Three sham programs, each refuted whatever its block: one writes nothing behind a block of orders, one counts places anew behind it, one
-- forgets its tables there. All else they do properly.
use mathlib.Core.Path.{◌≡◌, refl, sym, ap, ap₂, ◌∙◌, subst}
use mathlib.Core.List.{List, [], ◌∷◌, ◌++◌, append_assoc}
use mathlib.Core.Bool.{true, false}
use Prim.Native.Nat.{ℕ, zero, suc, ◌+◌, ◌-◌, ◌*◌, ◌%◌, ◌≤◌}
use native.Mathlib.Omega.{arith}
use borrow.Author.Tests.{eq-eqb, ne_eqb}
use lib.Dec.{eqb, lit≤}
use lib.ListN.{length, get_or, take, drop, length-drop, length-append}
use Rattle.std.specs.Prelude.{codes, None, Ok}
use Rattle.std.proofs.lemmas.List.{append_cancel_left, take-append-le}
use Rattle.std.proofs.Math.Nat.{mod_self}
use Rattle.units.specs.Lists.{member, sum, count_from}
use Rattle.units.specs.Search.{first_from, all_from, any_below}
use Rattle.layout.specs.declared.Wish.{Wish}
use Rattle.layout.specs.declared.Order.TheVariants.{Book, Cancel}
use Rattle.layout.specs.Layout.{big_endian, cut, order_bytes}
use Rattle.layout.specs.Records.{if_passed, clear, order_from, order_read, link_from, link_read}
use Rattle.layout.specs.Values.{request_of}
use Rattle.path_search.specs.Paths.{reaches, lowest, fewest, route}
use Rattle.choice.specs.Choice.{Grant}
use Rattle.choice.specs.Earliest.{can_start, earliest}
use Rattle.report.specs.Decimal.{decimal}
use Rattle.report.specs.Line.{route as route_text, answer, line}
use Rattle.rules.specs.Plain.{empty}
use Rattle.histories.specs.Kinds as kinds
use Rattle.rules.specs.Calls.{book, cancel, starts, refuse, checked, best}
use Rattle.rules.specs.Tables.{tables}
use Rattle.rules.specs.Desk.{answer as plain_answer}
use Rattle.opening.specs.Opened.{link_record, links_in, first_size, Opened, opened}
use Rattle.orders.specs.Ordered.{line_of}
use Rattle.session.specs.Session.{Running, answered, behind, orders, blank, started, output}
use Rattle.session_demands.specs.Examples.{session_bytes}
use Rattle.session_demands.specs.FromPlainBook.{plain_told, line_at, shown}
use Rattle.session_demands.specs.Cutting.{LineAt, LineByLine, Remembers}
use Rattle.session_demands.proofs.PlainBook.{found, asked_guard, fresh, fresh_plain, started_fresh, answered_plain}
use Rattle.session_demands.proofs.Cutting.{front, border_more}
use Rattle.session_demands.proofs.LineByLine.{ordered_line}
use Rattle.session_demands.proofs.Remembers.{refused_line, line_1}
use Rattle.session_demands.proofs.Places.{line_some, same_place}
use Rattle.session_demands.proofs.Begun.{no_order, one_order, many, start, begun, start_accepted, start_whole, start_alone, begun_at, unread, many_orders, many_none}
use Rattle.session_demands.proofs.Changed.{after_with, program_with, reached_with, place_reached, more_with, reached_more}

-- ---- 1. it writes nothing behind a block

pub stops_after : ℕ → List ℕ → List ℕ
stops_after block bytes = output (opened blank bytes) (take (block * order_bytes) (drop (first_size bytes) bytes))

module _ (block : ℕ) where
  nothing_more : stops_after block (begun block ++ no_order) ≡ stops_after block (begun block)
  unfolding stops_after
  nothing_more =
      let at = begun_at block in
      front (λ o bs. output o (take (block * order_bytes) bs)) (begun block) no_order (omega (arith, at.border))
      ∙ ap (output (opened blank (begun block))) (take-append-le (block * order_bytes) (drop (first_size (begun block)) (begun block)) no_order (rw length-drop (omega (arith, at.border))))

  pub stops_refuted : ¬ LineByLine (stops_after block)
  stops_refuted demand =
      let x = demand.one_more (begun block) no_order block (begun_at block) one_order in
      omega (arith, ap length (sym nothing_more ∙ x.2), length-append (stops_after block (begun block)) x.0, line_some (block + 1) x.0 x.1)

-- ---- 2. it counts places anew behind each block

pub restarts : ℕ → List ℕ → List ℕ
restarts block = program_with (λ place. (place - 1) % block + 1) (λ r. r)

module _ (block : ℕ) (some : 1 ≤ block) where
  abbrev shows : ℕ → ℕ
  shows place = (place - 1) % block + 1

  reached_again : Running
  reached_again = reached_with shows (λ r. r) (begun block)

  shows_first : shows reached_again.place ≡ 1
  unfolding reached_again
  shows_first =
      let back : block + 1 - 1 ≡ block = omega arith in
      ap shows (place_reached shows (λ r. r) (λ r. refl) (begun block) block (begun_at block)) ∙ ap (λ n. n % block + 1) back ∙ ap (λ n. n + 1) (mod_self block)

  pub restarts_refuted : ¬ LineByLine (restarts block)
  unfolding restarts reached_again
  restarts_refuted demand =
      let r = reached_again in
      let x = demand.one_more (begun block) no_order block (begun_at block) one_order in
      let same = append_cancel_left (restarts block (begun block)) _ _ (sym (more_with shows (λ r. r) (begun block) no_order block (begun_at block) one_order) ∙ x.2) in
      omega (arith, shows_first, same_place (shows r.place) (block + 1) x.0 (subst (LineAt (shows r.place)) same (ordered_line r.links r.tables no_order (shows r.place))) x.1)

-- ---- 3. it forgets its tables behind a block

pub forgotten : ℕ → Running → Running
forgotten block r = record { links = r.links; tables = if_passed (eqb r.place (block + 1)) (tables r.links (empty 0)) r.tables; place = r.place }

pub forgets : ℕ → List ℕ → List ℕ
forgets block = program_with (λ place. place) (forgotten block)

module _ (block : ℕ) where
  kept : (n : ℕ) (r : Running) → r.place + n ≤ block → after_with (λ place. place) (forgotten block) r (orders (many n)) ≡ record { links = r.links; tables = r.tables; place = r.place + n }
  unfolding after_with forgotten
  kept zero r h = ap (after_with (λ place. place) (forgotten block) r) many_none ∙ (let e : r.place ≡ r.place + 0 = omega arith in ap (λ place. record { links = r.links; tables = r.tables; place = place }) e)
  kept (suc n) r h =
      let before : eqb (r.place + 1) (block + 1) ≡ false = ne_eqb (r.place + 1) (block + 1) (λ e. absurd (omega arith)) in
      let e : r.place + 1 + n ≡ r.place + suc n = omega arith in
      ap (after_with (λ place. place) (forgotten block) r) (many_orders n)
      ∙ kept n (forgotten block (behind r no_order)) (omega arith)
      ∙ ap₂ (λ t place. record { links = r.links; tables = t; place = place }) (rw before (unread r)) e

  reached_begun : (n : ℕ) → 1 + n ≤ block → reached_with (λ place. place) (forgotten block) (begun n) ≡ fresh start start_accepted (1 + n)
  unfolding reached_with begun
  reached_begun n h =
      let run : Opened → List ℕ → Running = λ o bs. after_with (λ place. place) (forgotten block) (started o) (orders bs) in
      front run start (many n) (omega (arith, start_whole))
      ∙ ap₂ (λ (r : Running) (bs : List ℕ). after_with (λ place. place) (forgotten block) r (orders (bs ++ many n))) (started_fresh start start_accepted) start_alone
      ∙ kept n (fresh start start_accepted 1) h

-- its first order and its last
booking : List ℕ
booking = take order_bytes (drop 26 session_bytes)

cancellation : List ℕ
cancellation = drop 138 session_bytes

wish : Wish
wish = record { from = 0; to = 2; bandwidth = record { 0 = 4 }; duration = record { 0 = 10 }; earliest = record { 0 = 0 }; latest = None }

booking_read : order_read booking ≡ Ok (Book 7 wish)
unfolding booking wish order_read order_from clear big_endian cut sum
booking_read = refl

cancellation_read : order_read cancellation ≡ Ok (Cancel 7)
unfolding cancellation order_read order_from clear big_endian cut sum
cancellation_read = refl

grant : Grant
grant = record { start = 0; path = 2 ∷ [] }

-- on the empty book the one gets a start, and the other does not stand
booking_answer : plain_answer (found start) (empty (asked_guard start)) (book 7 (request_of wish)) ≡ starts grant
unfolding start wish grant links_in link_record link_read link_from big_endian cut sum count_from kinds.answer checked best member earliest can_start reaches lowest fewest route first_from all_from any_below
booking_answer = refl

cancellation_answer : plain_answer (found start) (empty (asked_guard start)) (cancel 7) ≡ refuse 9
unfolding kinds.answer checked member
cancellation_answer = refl

words : List ℕ
words = decimal 7 ++ (route_text (record { 0 = 0 }) (2 ∷ []) ++ codes "\n")

booked_line : (place : ℕ) → line_at place (shown (Book 7 wish) (starts grant)) ≡ decimal place ++ (codes " booked " ++ words)
unfolding words grant line answer
booked_line place = append_assoc (decimal place) _ (codes "\n") ∙ ap (λ x. decimal place ++ (codes " booked " ++ x)) (append_assoc (decimal 7) _ (codes "\n"))

booking_length : length booking ≡ 1 * order_bytes
unfolding booking
booking_length = refl

cancellation_length : length cancellation ≡ order_bytes
unfolding cancellation
cancellation_length = refl

module _ (n : ℕ) where
  abbrev keeps : Running → Running
  keeps = forgotten (n + 1)

  abbrev at_place : ℕ → Running
  at_place place = fresh start start_accepted place

  -- the booking is the last order of the block, and its cancellation comes next
  first_line : line_of (1 + n) (answered (at_place (1 + n)) booking) ≡ decimal (n + 1) ++ (codes " booked " ++ words)
  first_line =
      line_1 (at_place (1 + n)) (fresh_plain start start_accepted (1 + n)) booking cancellation 7 wish booking_read cancellation_read
      ∙ ap (λ a. line_at (1 + n) (shown (Book 7 wish) a)) booking_answer
      ∙ booked_line (1 + n)
      ∙ (let e : 1 + n ≡ n + 1 = omega arith in ap (λ place. decimal place ++ (codes " booked " ++ words)) e)

  next_line : line_of (1 + n + 1) (answered (at_place (1 + n + 1)) cancellation) ≡ decimal (n + 2) ++ (codes " refused " ++ (decimal 9 ++ codes "\n"))
  next_line =
      ap (line_of (1 + n + 1)) (answered_plain (at_place (1 + n + 1)) (fresh_plain start start_accepted (1 + n + 1)) cancellation)
      ∙ ap (λ read. line_at (1 + n + 1) (plain_told (found start) (empty (asked_guard start)) read)) cancellation_read
      ∙ ap (λ a. line_at (1 + n + 1) (shown (Cancel 7) a)) cancellation_answer
      ∙ refused_line (1 + n + 1) (Cancel 7) 9 (lit≤ tt) (λ e. let z : ◌≡◌ {A = ℕ} 9 8 = e in absurd (omega arith))
      ∙ (let e : 1 + n + 1 ≡ n + 2 = omega arith in ap (λ place. decimal place ++ (codes " refused " ++ (decimal 9 ++ codes "\n"))) e)

  reached_next : reached_with (λ place. place) keeps (begun n ++ booking) ≡ at_place (1 + n + 1)
  unfolding forgotten start
  reached_next =
      let now : eqb (1 + n + 1) (n + 1 + 1) ≡ true = eq-eqb _ _ (omega arith) in
      reached_more (λ place. place) keeps (begun n) booking n (begun_at n) (omega (arith, booking_length), omega (arith, booking_length))
      ∙ ap (λ r. keeps (behind r booking)) (reached_begun (n + 1) n (omega arith))
      ∙ rw now refl

  forgets_booking : forgets (n + 1) (begun n ++ booking) ≡ forgets (n + 1) (begun n) ++ (decimal (n + 1) ++ (codes " booked " ++ words))
  unfolding forgets
  forgets_booking =
      more_with (λ place. place) keeps (begun n) booking n (begun_at n) (omega (arith, booking_length), omega (arith, booking_length))
      ∙ ap (λ x. program_with (λ place. place) keeps (begun n) ++ x) (ap (λ r. line_of r.place (answered r booking)) (reached_begun (n + 1) n (omega arith)) ∙ first_line)

  forgets_next : forgets (n + 1) (begun n ++ (booking ++ cancellation)) ≡ forgets (n + 1) (begun n ++ booking) ++ (decimal (n + 2) ++ (codes " refused " ++ (decimal 9 ++ codes "\n")))
  unfolding forgets
  forgets_next =
      ap (program_with (λ place. place) keeps) (sym (append_assoc (begun n) booking cancellation))
      ∙ more_with (λ place. place) keeps (begun n ++ booking) cancellation (n + 1) (border_more (begun n) booking n 1 (begun_at n) booking_length) (omega (arith, cancellation_length), omega (arith, cancellation_length))
      ∙ ap (λ x. program_with (λ place. place) keeps (begun n ++ booking) ++ x) (ap (λ r. line_of r.place (answered r cancellation)) reached_next ∙ next_line)

  pub forgets_refuted : ¬ Remembers (forgets (n + 1))
  forgets_refuted demand =
      let e = demand.cancels (begun n) booking cancellation n 7 wish words (begun_at n) booking_read cancellation_read forgets_booking in
      let same = append_cancel_left (decimal (n + 2)) _ _ (append_cancel_left (forgets (n + 1) (begun n ++ booking)) _ _ (sym e ∙ forgets_next)) in
      let z : ◌≡◌ {A = ℕ} 99 114 = ap (λ l. get_or l 1 0) same in
      omega arith

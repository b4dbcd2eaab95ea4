-- A program that does all properly but for the places that it shows, and what it makes of the session behind each order.
use mathlib.Core.Path.{◌≡◌, refl, sym, ap, ◌∙◌}
use mathlib.Core.List.{List, [], ◌∷◌, ◌++◌, append_assoc, append-nil}
use Prim.Native.Nat.{ℕ, ◌+◌}
use native.Mathlib.Omega.{arith}
use borrow.Author.Tests.{eq-eqb}
use lib.Dec.{eqb}
use lib.ListN.{length, drop, length-drop}
use Rattle.units.specs.Lists.{Within}
use Rattle.layout.specs.Layout.{order_bytes}
use Rattle.layout.specs.Records.{if_passed}
use Rattle.report.specs.declared.Report.TheVariants.{DeskLinks, DeskRefused}
use Rattle.report.specs.Line.{line}
use Rattle.opening.specs.Opened.{first_size, Opened, opened}
use Rattle.orders.specs.Ordered.{line_of}
use Rattle.session.specs.Session.{Running, answered, behind, orders, blank, started}
use Rattle.session_demands.specs.Cutting.{AtBorder}
use Rattle.session_demands.proofs.Cutting.{front, orders_cut}
use Rattle.session_demands.proofs.LineByLine.{orders_one, orders_count}

module _ (shows : ℕ → ℕ) (keeps : Running → Running) where
  lines_with : Running → List (List ℕ) → List ℕ
  lines_with r [] = []
  lines_with r (order ∷ orders) = line_of (shows r.place) (answered r order) ++ lines_with (keeps (behind r order)) orders

  unfoldable pub after_with : Running → List (List ℕ) → Running
  after_with r [] = r
  after_with r (order ∷ orders) = after_with (keeps (behind r order)) orders

  output_with : Opened → List ℕ → List ℕ
  output_with o bytes = if_passed (eqb o.answer.refusal 0) (line 0 (DeskLinks (length o.answer.links)) [] ++ lines_with (started o) (orders bytes)) (line 0 (DeskRefused o.answer.refusal) [])

  pub program_with : List ℕ → List ℕ
  program_with bytes = output_with (opened blank bytes) (drop (first_size bytes) bytes)

  unfoldable pub reached_with : List ℕ → Running
  reached_with bytes = after_with (started (opened blank bytes)) (orders (drop (first_size bytes) bytes))

  lines_append_with : (r : Running) (xs ys : List (List ℕ)) → lines_with r (xs ++ ys) ≡ lines_with r xs ++ lines_with (after_with r xs) ys
  unfolding lines_with after_with
  lines_append_with r [] ys = refl
  lines_append_with r (x ∷ xs) ys =
      ap (λ rest. line_of (shows r.place) (answered r x) ++ rest) (lines_append_with (keeps (behind r x)) xs ys) ∙ sym (append_assoc (line_of (shows r.place) (answered r x)) _ _)

  after_append_with : (r : Running) (xs ys : List (List ℕ)) → after_with r (xs ++ ys) ≡ after_with (after_with r xs) ys
  unfolding after_with
  after_append_with r [] ys = refl
  after_append_with r (x ∷ xs) ys = after_append_with (keeps (behind r x)) xs ys

  after_place_with : ((r : Running) → (keeps r).place ≡ r.place) → (r : Running) (xs : List (List ℕ)) → (after_with r xs).place ≡ r.place + length xs
  unfolding after_with
  after_place_with same r [] = omega arith
  after_place_with same r (x ∷ xs) = omega (arith, after_place_with same (keeps (behind r x)) xs, same (behind r x))

  output_accepted_with : (o : Opened) (bytes : List ℕ) → o.answer.refusal ≡ 0 → output_with o bytes ≡ line 0 (DeskLinks (length o.answer.links)) [] ++ lines_with (started o) (orders bytes)
  unfolding output_with
  output_accepted_with o bytes e = rw (eq-eqb o.answer.refusal 0 e) refl

  -- one order more
  module _ (a order : List ℕ) (count : ℕ) (at : AtBorder a count) (h : Within 1 order_bytes (length order)) where
    orders_then : orders (drop (first_size a) a ++ order) ≡ orders (drop (first_size a) a) ++ (order ∷ [])
    orders_then = orders_cut (drop (first_size a) a) order count (rw length-drop (omega (arith, at.border))) ∙ ap (λ x. orders (drop (first_size a) a) ++ x) (orders_one order h)

    pub more_with : program_with (a ++ order) ≡ program_with a ++ line_of (shows (reached_with a).place) (answered (reached_with a) order)
    unfolding program_with reached_with lines_with
    more_with =
        let o = opened blank a in
        let rest = drop (first_size a) a in
        let first = line 0 (DeskLinks (length o.answer.links)) [] in
        let one = line_of (shows (reached_with a).place) (answered (reached_with a) order) in
        front output_with a order (omega (arith, at.border))
        ∙ output_accepted_with o (rest ++ order) at.accepted
        ∙ ap (λ x. first ++ x) (ap (lines_with (started o)) orders_then ∙ lines_append_with (started o) (orders rest) (order ∷ []) ∙ ap (λ x. lines_with (started o) (orders rest) ++ x) (append-nil one))
        ∙ sym (append_assoc first (lines_with (started o) (orders rest)) one)
        ∙ sym (ap (λ x. x ++ one) (output_accepted_with o rest at.accepted))

    pub reached_more : reached_with (a ++ order) ≡ keeps (behind (reached_with a) order)
    unfolding reached_with after_with
    reached_more =
        front (λ o bs. after_with (started o) (orders bs)) a order (omega (arith, at.border))
        ∙ ap (after_with (started (opened blank a))) orders_then
        ∙ after_append_with (started (opened blank a)) (orders (drop (first_size a) a)) (order ∷ [])

  pub place_reached : ((r : Running) → (keeps r).place ≡ r.place) → (a : List ℕ) (count : ℕ) → AtBorder a count → (reached_with a).place ≡ count + 1
  unfolding reached_with
  place_reached same a count at =
      after_place_with same (started (opened blank a)) (orders (drop (first_size a) a))
      ∙ omega (arith, orders_count count (drop (first_size a) a) (rw length-drop (omega (arith, at.border))))

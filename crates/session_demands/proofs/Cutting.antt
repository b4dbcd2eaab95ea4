-- A session can be cut at any order's border: what comes behind its first bytes changes nothing of its start, and whole orders stay whole.
use mathlib.Core.Path.{◌≡◌, sym, ap, ap₂, ◌∙◌}
use mathlib.Core.List.{List, [], ◌++◌, append_assoc, append-nil}
use Prim.Native.Nat.{ℕ, ◌+◌, ◌*◌, ◌≤◌}
use native.Mathlib.Omega.{arith}
use lib.ListN.{length, drop, length-drop, length-append}
use lib.Seq.{drop-length, take-append_seam}
use Rattle.std.proofs.lemmas.List.{drop-append-le}
use Rattle.layout.specs.Layout.{order_bytes}
use Rattle.report.specs.declared.Report.TheVariants.{DeskLinks}
use Rattle.report.specs.Line.{line}
use Rattle.opening.specs.Opened.{first_size, Opened, opened}
use Rattle.opening.proofs.First.{opened_first}
use Rattle.streams.specs.Reading.{cut_short}
use Rattle.session.specs.Session.{lines, after, whole_orders, last_piece, orders, blank, started, output, session}
use Rattle.session_demands.specs.Cutting.{AtBorder, Refused, reached, CutAnywhere}
use Rattle.streams.proofs.Start.{size_front}
use Rattle.session.proofs.Whole.{output_accepted, output_refused}
use Rattle.session.proofs.Orders.{lines_append, after_append, orders_more}

-- how many bytes stand before the orders
pub first_size_some : (a : List ℕ) → 1 ≤ first_size a
unfolding first_size
first_size_some a = omega arith

-- whole orders, and orders behind them
pub orders_cut : (xs ys : List ℕ) (k : ℕ) → length xs ≡ k * order_bytes → orders (xs ++ ys) ≡ orders xs ++ orders ys
unfolding orders
orders_cut xs ys k h =
    let e : cut_short xs ≡ [] = ap (λ n. drop n xs) (omega arith) ∙ drop-length xs in
    orders_more xs ys ∙ ap (λ c. whole_orders xs ++ orders (c ++ ys)) e ∙ sym (ap (λ c. (whole_orders xs ++ last_piece c) ++ orders ys) e ∙ ap (λ os. os ++ orders ys) (append-nil (whole_orders xs)))

opened_front : (a b : List ℕ) → first_size a ≤ length a → opened blank (a ++ b) ≡ opened blank a
opened_front a b h =
    let s = first_size_some a in
    sym (opened_first blank (a ++ b) (length a) (rw (size_front a b (omega arith)) h)) ∙ ap (opened blank) (take-append_seam a b)

-- what looks at the start and the bytes behind it alone, where more comes behind those
pub front : {X : Type 0} (out : Opened → List ℕ → X) (a b : List ℕ) → first_size a ≤ length a
    → out (opened blank (a ++ b)) (drop (first_size (a ++ b)) (a ++ b)) ≡ out (opened blank a) (drop (first_size a) a ++ b)
front out a b h =
    let s = first_size_some a in
    ap₂ out (opened_front a b h) (ap (λ n. drop n (a ++ b)) (size_front a b (omega arith)) ∙ drop-append-le (first_size a) a b h)

-- a border behind a border
pub border_more : (a b : List ℕ) (count n : ℕ) → AtBorder a count → length b ≡ n * order_bytes → AtBorder (a ++ b) (count + n)
border_more a b count n at h =
    let s = first_size_some a in
    record {
      accepted = ap (λ o. o.answer.refusal) (opened_front a b (omega (arith, at.border))) ∙ at.accepted;
      border = omega (arith, length-append a b, size_front a b (omega (arith, at.border)), at.border);
    }

pub goes_on : (a b : List ℕ) (count : ℕ) → AtBorder a count → session (a ++ b) ≡ session a ++ lines (reached a) (orders b)
unfolding session
goes_on a b count at =
    let o = opened blank a in
    let rest = drop (first_size a) a in
    let first = line 0 (DeskLinks (length o.answer.links)) [] in
    front output a b (omega (arith, at.border))
    ∙ output_accepted o (rest ++ b) at.accepted
    ∙ ap (λ x. first ++ x) (ap (lines (started o)) (orders_cut rest b count (rw length-drop (omega (arith, at.border)))) ∙ lines_append (started o) (orders rest) (orders b))
    ∙ sym (append_assoc first _ _)
    ∙ sym (ap (λ x. x ++ lines (reached a) (orders b)) (output_accepted o rest at.accepted))

-- and the session reached behind both is the one that goes on from there, so that an input may be cut again and again
pub reached_behind : (a b : List ℕ) (count : ℕ) → AtBorder a count → reached (a ++ b) ≡ after (reached a) (orders b)
reached_behind a b count at =
    let rest = drop (first_size a) a in
    front (λ o bytes. after (started o) (orders bytes)) a b (omega (arith, at.border))
    ∙ ap (after (started (opened blank a))) (orders_cut rest b count (rw length-drop (omega (arith, at.border))))
    ∙ after_append (started (opened blank a)) (orders rest) (orders b)

stops : (a b : List ℕ) → Refused a → session (a ++ b) ≡ session a
unfolding session
stops a b r = front output a b r.whole ∙ output_refused (opened blank a) (drop (first_size a) a ++ b) r.refused ∙ sym (output_refused (opened blank a) (drop (first_size a) a) r.refused)

pub cut_anywhere : CutAnywhere session
cut_anywhere = record { goes_on = goes_on; stops = stops }

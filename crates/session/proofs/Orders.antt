-- The lines of orders follow each other, and of what has come the whole orders are the first ones.
use mathlib.Core.Path.{◌≡◌, refl, sym, ap, ap₂, ◌∙◌}
use mathlib.Core.List.{List, [], ◌∷◌, ◌++◌, append_assoc}
use Prim.Native.Nat.{ℕ, zero, suc, ◌+◌, ◌*◌, ◌/◌, ◌≤◌, ◌<◌}
use native.Mathlib.Omega.{arith}
use lib.ListN.{length, take, drop, length-drop, length-append}
use lib.Seq.{drop-drop}
use Rattle.std.specs.Simd.{first_chunks}
use Rattle.std.proofs.lemmas.List.{take-append-le, drop-append-le}
use Rattle.layout.specs.Layout.{order_bytes}
use Rattle.orders.specs.Ordered.{line_of}
use Rattle.streams.specs.Reading.{cut_short}
use Rattle.session.specs.Session.{Running, answered, behind, lines, after, whole_orders, last_piece, orders}

-- ---- the lines of orders, and the session behind them

pub lines_append : (r : Running) (xs ys : List (List ℕ)) → lines r (xs ++ ys) ≡ lines r xs ++ lines (after r xs) ys
unfolding lines after
lines_append r [] ys = refl
lines_append r (x ∷ xs) ys = ap (λ rest. line_of r.place (answered r x) ++ rest) (lines_append (behind r x) xs ys) ∙ sym (append_assoc (line_of r.place (answered r x)) _ _)

pub after_append : (r : Running) (xs ys : List (List ℕ)) → after r (xs ++ ys) ≡ after (after r xs) ys
unfolding after
after_append r [] ys = refl
after_append r (x ∷ xs) ys = after_append (behind r x) xs ys

pub after_links : (r : Running) (xs : List (List ℕ)) → (after r xs).links ≡ r.links
unfolding after
after_links r [] = refl
after_links r (x ∷ xs) = after_links (behind r x) xs

pub after_place : (r : Running) (xs : List (List ℕ)) → (after r xs).place ≡ r.place + length xs
unfolding after
after_place r [] = omega arith
after_place r (x ∷ xs) = let h = after_place (behind r x) xs in omega arith

-- ---- bytes to orders

-- fewer bytes than an order's
pub orders_short : (bytes : List ℕ) → length bytes < order_bytes → orders bytes ≡ last_piece bytes
unfolding orders
orders_short bytes h = let e : length bytes / order_bytes ≡ 0 = omega arith in rw e refl

-- an order's bytes and more
pub orders_first : (bytes : List ℕ) → order_bytes ≤ length bytes → orders bytes ≡ take order_bytes bytes ∷ orders (drop order_bytes bytes)
unfolding orders
orders_first bytes h =
    let rest = drop order_bytes bytes in
    let e : length bytes / order_bytes ≡ suc (length rest / order_bytes) = rw length-drop (omega arith) in
    let f : drop (suc (length rest / order_bytes) * order_bytes) bytes ≡ cut_short rest = ap (λ n. drop n bytes) (omega arith) ∙ sym (drop-drop (length rest / order_bytes * order_bytes) order_bytes bytes) in
    rw e (ap (λ x. take order_bytes bytes ∷ (whole_orders rest ++ last_piece x)) f)

pub orders_front : (k : ℕ) (bytes : List ℕ) → k * order_bytes ≤ length bytes → orders bytes ≡ first_chunks order_bytes k bytes ++ orders (drop (k * order_bytes) bytes)
orders_front zero bytes h = refl
orders_front (suc k) bytes h =
    let rest = drop order_bytes bytes in
    orders_first bytes (omega arith)
    ∙ ap (take order_bytes bytes ∷◌) (orders_front k rest (rw length-drop (omega arith)) ∙ ap (λ x. first_chunks order_bytes k rest ++ orders x) (drop-drop (k * order_bytes) order_bytes bytes ∙ ap (λ n. drop n bytes) (omega arith)))

-- the first orders are those of the front, whatever follows
chunks_append : (k : ℕ) (xs ys : List ℕ) → k * order_bytes ≤ length xs → first_chunks order_bytes k (xs ++ ys) ≡ first_chunks order_bytes k xs
chunks_append zero xs ys h = refl
chunks_append (suc k) xs ys h =
    ap₂ ◌∷◌ (take-append-le order_bytes xs ys (omega arith))
    (ap (first_chunks order_bytes k) (drop-append-le order_bytes xs ys (omega arith)) ∙ chunks_append k (drop order_bytes xs) ys (rw length-drop (omega arith)))

-- whatever has come, its whole orders are the first ones, and what is cut short of it stands before the rest
pub orders_more : (xs ys : List ℕ) → orders (xs ++ ys) ≡ whole_orders xs ++ orders (cut_short xs ++ ys)
orders_more xs ys =
    let k = length xs / order_bytes in
    let h : k * order_bytes ≤ length xs = omega arith in
    orders_front k (xs ++ ys) (rw length-append (omega arith))
    ∙ ap₂ (λ (a : List (List ℕ)) b. a ++ orders b) (chunks_append k xs ys h) (drop-append-le (k * order_bytes) xs ys h)

-- A session of any length: document 01's three links, then orders that cannot be read.
use mathlib.Core.Path.{◌≡◌, refl, ap, ◌∙◌, subst}
use mathlib.Core.List.{List, [], ◌∷◌, ◌++◌}
use Prim.Native.Nat.{ℕ, zero, suc, ◌+◌, ◌*◌}
use native.Mathlib.Omega.{arith}
use lib.Dec.{lit≤}
use lib.ListN.{length, take, drop, replicate}
use Rattle.units.specs.Lists.{sum, count_from, Within}
use Rattle.units.specs.Search.{first_from}
use Rattle.layout.specs.Layout.{big_endian, cut, order_bytes}
use Rattle.layout.specs.Records.{order_from, order_read, link_from, link_read}
use Rattle.opening.specs.Opened.{link_record, links_refusal, links_in, first_size, bytes_refusal, opened}
use Rattle.rules.specs.Calls.{checked}
use Rattle.orders.specs.Ordered.{ordered}
use Rattle.session.specs.Session.{Running, answered, orders, blank}
use Rattle.session_demands.specs.Examples.{session_bytes}
use Rattle.session_demands.specs.Cutting.{AtBorder}
use Rattle.session_demands.proofs.PlainBook.{start_answer}
use Rattle.session_demands.proofs.Cutting.{border_more, orders_cut}
use Rattle.session_demands.proofs.LineByLine.{orders_none, orders_one}

-- an order that cannot be read: zeros
unfoldable pub no_order : List ℕ
no_order = replicate order_bytes 0

pub one_order : Within 1 order_bytes (length no_order)
unfolding no_order
one_order = (lit≤ tt, lit≤ tt)

unfoldable pub many : ℕ → List ℕ
many zero = []
many (suc n) = no_order ++ many n

unfoldable pub start : List ℕ
start = take 26 session_bytes

unfoldable pub begun : ℕ → List ℕ
begun n = start ++ many n

many_length : (n : ℕ) → length (many n) ≡ n * order_bytes
unfolding many no_order
many_length zero = refl
many_length (suc n) = omega (arith, many_length n)

pub start_accepted : (opened blank start).answer.refusal ≡ 0
unfolding start bytes_refusal links_refusal link_record link_read link_from big_endian cut sum links_in count_from first_from checked
start_accepted = ap (λ told. told.refusal) (start_answer start)

pub start_whole : length start ≡ first_size start + 0 * order_bytes
unfolding start first_size
start_whole = refl

pub start_alone : drop (first_size start) start ≡ []
unfolding start first_size
start_alone = refl

pub begun_at : (n : ℕ) → AtBorder (begun n) n
unfolding begun
begun_at n = let e : 0 + n ≡ n = omega arith in subst (AtBorder (start ++ many n)) e (border_more start (many n) 0 n (record { accepted = start_accepted; border = start_whole }) (many_length n))

-- such an order changes nothing
pub unread : (r : Running) → (answered r no_order).tables ≡ r.tables
unfolding no_order ordered order_read order_from big_endian cut sum
unread r = refl

pub many_orders : (n : ℕ) → orders (many (suc n)) ≡ no_order ∷ orders (many n)
unfolding many no_order
many_orders n = orders_cut no_order (many n) 1 refl ∙ ap (λ xs. xs ++ orders (many n)) (orders_one no_order one_order)

pub many_none : orders (many zero) ≡ []
unfolding many
many_none = orders_none

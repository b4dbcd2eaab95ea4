-- The path beside an answer has at most 31 links, whatever was asked of whatever tables: a route has no more.
use mathlib.Core.Path.{◌≡◌, refl, ap}
use mathlib.Core.List.{List, [], ◌∷◌}
use mathlib.Core.Bool.{Bool, true, false}
use Prim.Native.Nat.{ℕ, ◌≤◌}
use native.Mathlib.Omega.{arith}
use lib.ListN.{length}
use Rattle.std.specs.Prelude.{Result, Ok, Err}
use Rattle.units.specs.declared.Link.{Link}
use Rattle.units.specs.declared.Refusal.{Refusal}
use Rattle.units.specs.Limits.{most_hops}
use Rattle.units.specs.Search.{Found, at, nothing, first_from}
use Rattle.units.proofs.Search.{IsFirst, first_from_found}
use Rattle.path_search.specs.Paths.{Graph, Route, along, none, reaches, lowest, fewest, route_of, route}
use Rattle.path_search.proofs.Chains.{lowest_length}
use Rattle.choice.specs.Earliest.{choice_at, earliest}
use Rattle.choice.specs.Choice.{route_at, grant_at, try_at, possible, choose}
use Rattle.layout.specs.declared.Order.TheVariants as orders
use Rattle.layout.specs.declared.Order.{Order}
use Rattle.layout.specs.Records.{order_read}
use Rattle.layout.specs.Values.{request_of}
use Rattle.rules.specs.Plain.{Plain, low, graph, carries}
use Rattle.histories.specs.Kinds as kinds
use Rattle.rules.specs.Calls.{Ask, book, offer, list, cancel, move_clock, show, sold, ask, Answer, refuse, values, Check, check, checked, own_checks, breaks_off, chosen, best, result}
use Rattle.rules.specs.Tables.{Tables, held, table_checks}
use Rattle.rules.specs.Desk.{answer, outcome}
use Rattle.orders.specs.Ordered.{by_reading, answered, ordered}

abbrev Short : Answer → Type 0
Short a = (values a).count ≤ most_hops

route_short : (g : Graph) (usable : ℕ → Bool) (target v : ℕ) (path : List ℕ) → route g usable target v ≡ along path → length path ≤ most_hops
unfolding route fewest
route_short g usable target v path e = by (fewest g usable target v) refl e
  where
    by : (f : Found) → fewest g usable target v ≡ f → route_of g usable target v f ≡ along path → length path ≤ most_hops
    by (at n) h e =
        let r : IsFirst 1 most_hops (λ k. reaches g usable target k v) n = first_from_found (λ k. reaches g usable target k v) 1 most_hops h in
        let same : lowest g usable target n v ≡ path = cc in
        omega (arith, ap length same, lowest_length g usable target n v r.passes, r.high)
    by nothing h e = absurd (let y : ◌≡◌ {A = ℕ} 0 1 = cc in omega arith)

choose_short : (m : ℕ) (g : Graph) (carries : ℕ → ℕ → Bool) (from to low latest : ℕ) → Short (chosen m (choose g carries from to low latest))
unfolding earliest
choose_short b g carries from to low latest = by (first_from low _ (possible g carries from to))
  where
    along_short : (m : ℕ) (r : Route) → route_at g carries from to m ≡ r → Short (chosen b (grant_at m r))
    along_short m (along path) e = route_short g (carries m) to from path e
    along_short m none e = omega arith

    by : (f : Found) → Short (chosen b (choice_at (try_at g carries from to) f))
    by (at m) = along_short m (route_at g carries from to m) refl
    by nothing = omega arith

checked_short : (cs : List Check) (a : Answer) → Short a → Short (checked refuse cs a)
unfolding checked
checked_short [] a h = h
checked_short (check k true ∷ cs) a h = checked_short cs a h
checked_short (check k false ∷ cs) a h = omega arith

result_short : (links : List Link) (p : Plain) (a : Ask) → Short (result links p a)
unfolding best
result_short links p (book n r) = choose_short (breaks_off links p r) (graph links) (carries links p r) r.from r.to (low p r) r.latest.0
result_short links p (offer r) = choose_short (breaks_off links p r) (graph links) (carries links p r) r.from r.to (low p r) r.latest.0
result_short links p (list n r) = omega arith
result_short links p (cancel n) = omega arith
result_short links p (move_clock m) = omega arith
result_short links p (show l m) = omega arith
result_short links p (sold l) = omega arith

outcome_short : (links : List Link) (t : Tables) (a : Ask) → Short (outcome links t (ask a)).answer
unfolding kinds.outcome kinds.answer_on kinds.answer
outcome_short links t a =
    checked_short (table_checks links t (ask a)) (answer links (held t) a) (checked_short (own_checks links (held t) a) (result links (held t) a) (result_short links (held t) a))

pub ordered_short : (links : List Link) (t : Tables) (bytes : List ℕ) → (ordered links t bytes).answer.path.count ≤ most_hops
unfolding ordered answered
ordered_short links t bytes = by (order_read bytes)
  where
    by : (r : Result Order Refusal) → (by_reading links t r).answer.path.count ≤ most_hops
    by (Ok (orders.Book number w)) = outcome_short links t (book number (request_of w))
    by (Ok (orders.Cancel number)) = omega arith
    by (Ok (orders.Clock minute)) = omega arith
    by (Ok (orders.Offer w)) = outcome_short links t (offer (request_of w))
    by (Err refusal) = omega arith

-- The desk has the examples of documents 01 and 02.
use mathlib.Core.Path.{◌≡◌, refl, sym, ◌∙◌, ap}
use mathlib.Core.Logic.{inl}
use mathlib.Core.List.{List, [], ◌∷◌}
use mathlib.Core.Bool.{and-eq-true_iff}
use Prim.Native.Nat.{ℕ, zero, suc, ◌+◌, ◌-◌, ◌≤◌, ◌<◌}
use native.Mathlib.Nat.{le_refl, le_of_eq}
use native.Mathlib.Decide.{dec_lt}
use native.Mathlib.Omega.{arith}
use lib.Dec.{lit<, lit≤}
use lib.ListN.{length}
use borrow.Author.Tests.{le-leb, eq-eqb}
use Rattle.units.specs.declared.Request.{Request}
use Rattle.units.specs.Limits.{most_guard}
use Rattle.units.specs.Lists.{member, sum, select, All}
use Rattle.units.specs.Search.{first_from, all_from, any_below}
use Rattle.path_search.specs.Paths.{reaches, lowest, fewest, route}
use Rattle.choice.specs.Earliest.{can_start, earliest}
use Rattle.choice.specs.BreakOff.{break_off}
use Rattle.rules.specs.Plain.{Plain, empty, span, terms, taken, low}
use Rattle.rules.specs.Calls.{book, Answer, done, refuse, no_start_at, checked, number_ok, request_ok, own_checks, breaks_off, best}
use Rattle.histories.specs.Kinds as kinds
use Rattle.rules.specs.Desk.{answer, outcome}
use Rattle.rules.specs.Choosing.{FreeIn, PathIn, Carries}
use Rattle.rules.specs.Sound.{LinkRight}
use Rattle.demands.specs.Examples.{start_at, session_links, Entry, Holds, request, only, fill, session, free_figure, free_figure_left, before_low, full_book, same_ends, guarded, last_figure, two_links, broken_off, sums, dropped, Examples}
use Rattle.rules.proofs.Checks.{passed_answer, passed_done}
use Rattle.rules.proofs.Tests.{links_tell, RequestRight, request_right}
use Rattle.rules.proofs.Choices.{best_right}
use Rattle.histories.proofs.Replies as every_kind
use Rattle.demands.proofs.Replies.{replies, replies_after}

-- an entry, of the plain book
abbrev Replies : Entry → Type 0
Replies e = (f : ℕ) → e.least ≤ f → f ≤ e.most → replies (e.links f) (empty e.guard) (e.calls f) ≡ e.answered f

-- the entries without a variable, by computation
session_replies : Replies session
unfolding every_kind.replies kinds.answer checked best breaks_off break_off select member sum earliest can_start reaches lowest fewest route first_from all_from any_below
session_replies f a b = refl

before_low_replies : Replies before_low
unfolding every_kind.replies kinds.answer checked best breaks_off break_off select member sum earliest can_start reaches lowest fewest route first_from all_from any_below
before_low_replies f a b = refl

full_book_replies : Replies full_book
unfolding fill every_kind.replies kinds.answer checked best breaks_off break_off select member sum earliest can_start reaches lowest fewest route first_from all_from any_below
full_book_replies f a b = refl

broken_off_replies : Replies broken_off
unfolding every_kind.replies kinds.answer checked best breaks_off break_off select member sum earliest can_start reaches lowest fewest route first_from all_from any_below
broken_off_replies f a b = refl

sums_replies : Replies sums
unfolding every_kind.replies kinds.answer checked best breaks_off break_off select member sum earliest can_start reaches lowest fewest route first_from all_from any_below
sums_replies f a b = refl

dropped_replies : Replies dropped
unfolding every_kind.replies kinds.answer checked best breaks_off break_off select member sum earliest can_start reaches lowest fewest route first_from all_from any_below
dropped_replies f a b = refl

guarded_replies : Replies guarded
unfolding every_kind.replies kinds.answer checked best breaks_off break_off select member sum earliest can_start reaches lowest fewest route first_from all_from any_below
guarded_replies f a b = refl

last_figure_replies : (guard : ℕ) → Replies (last_figure guard)
unfolding every_kind.replies kinds.answer checked sum
last_figure_replies guard f a b = refl

same_ends_replies : Replies same_ends
unfolding every_kind.replies kinds.answer checked
same_ends_replies f a b = rw (le-leb f 31 b, eq-eqb f f refl) refl

-- a booking of the only link, where low is the only start
module _ (c n w t m : ℕ) (p : Plain) (right : All LinkRight (only c)) (passes : checked refuse (own_checks (only c) p (book n (request 0 2 w t m m))) done ≡ done) (early : p.clock ≤ m) where
  abbrev r : Request
  r = request 0 2 w t m m

  only_path : (k e : ℕ) (path : List ℕ) → PathIn (only c) p r k e path → (path ≡ 0 ∷ []) × FreeIn (only c) p r k e 0
  only_path k e [] x = absurd (omega arith)
  only_path k e (zero ∷ []) x = (refl, x.1.0)
  only_path k e (zero ∷ zero ∷ path) x = absurd (let h = x.0.2.1 in omega arith)
  only_path k e (zero ∷ suc l ∷ path) x = absurd (let h = x.0.2.0 in omega arith)
  only_path k e (suc l ∷ path) x = absurd (let h = x.0.0 in omega arith)

  answer_is_best : answer (only c) p (book n r) ≡ best (only c) p r
  unfolding kinds.answer
  answer_is_best = passed_answer refuse (own_checks (only c) p (book n r)) (best (only c) p r) (passed_done (own_checks (only c) p (book n r)) passes)

  request_fits : RequestRight r
  request_fits = request_right r ((and-eq-true_iff (number_ok n) (request_ok r)).0 (passed_done (own_checks (only c) p (book n r)) passes).0).1

  -- it is accepted if the link has the bandwidth free
  fits_booked : Carries (only c) p r m 0 → answer (only c) p (book n r) ≡ start_at m (0 ∷ [])
  fits_booked h = answer_is_best ∙ ((best_right (only c) p r right request_fits (omega arith)).start_iff (record { start = m; path = 0 ∷ [] })).1 (record {
    in_window = (omega arith, le_refl m);
    works = ((lit< tt, refl, refl), (h, tt));
    earliest = λ k other i x. let j = i.0 in omega arith;
    fewest = λ other x. le_of_eq (ap length (sym (only_path m (m + span p (terms r)) other x).0));
    lowest = λ other x e. inl (only_path m (m + span p (terms r)) other x).0;
  })

  -- and refused 8 if it lacks it in that minute, where it then breaks off
  unfit_refused : ¬ FreeIn (only c) p r m (suc m) 0 → answer (only c) p (book n r) ≡ no_start_at m
  unfit_refused h =
      let best_is = best_right (only c) p r right request_fits (omega arith) in
      let none = best_is.no_start_iff.1 (λ k path i x. let a = i.0 in let b = i.1 in let e : k ≡ m = omega arith in h (λ j y z. (only_path k (k + span p (terms r)) path x).1 j (omega arith) (omega (arith, request_fits.duration_right.0)))) in
      let breaks = best_is.breaks_off none.0 none.1 in
      let at_low : none.0 ≡ m = elim (dec_lt m none.0) [
        | yes later ↦ absurd (let w = breaks.lasts_before m (omega arith) later in h (λ j y z. (only_path (low p r) (suc m) w.0 w.1).1 j (omega arith) z))
        | no later ↦ omega (arith, breaks.from_low)
      ] in
      answer_is_best ∙ none.1 ∙ ap no_start_at at_low

only_right : (c : ℕ) → 1 ≤ c → c ≤ 1000000 → All LinkRight (only c)
only_right c a b = (record { from_right = lit≤ tt; to_right = lit≤ tt; ends_differ = omega arith; capacity_right = (a, b) }, tt)

-- the bandwidths asked in the entries pass the checks
first_passes : (c w : ℕ) → 1 ≤ w → w ≤ 1000000 → checked refuse (own_checks (only c) (empty 0) (book 1 (request 0 2 w 1 0 0))) done ≡ done
unfolding checked member
first_passes c w a b = rw (le-leb 1 w a, le-leb w 1000000 b) refl

free_figure_replies : Replies free_figure
unfolding every_kind.replies sum
free_figure_replies f a b =
    rw (unfit_refused f 1 (suc f) 1 0 (empty 0) (only_right f a (omega arith)) (first_passes f (suc f) (omega arith) (omega arith)) (lit≤ tt) (λ h. let x = h 0 (lit≤ tt) (lit< tt) in omega arith))
    (rw (fits_booked f 1 f 1 0 (empty 0) (only_right f a (omega arith)) (first_passes f f a (omega arith)) (lit≤ tt) (λ k x y. omega arith)) refl)

-- the plain book after the first booking of the next entry
abbrev half_sold : ℕ → Plain
half_sold f = record { clock = 0; guard = 0; bookings = record { number = 2; terms = record { duration = 2; bandwidth = 1000000 - f }; grant = record { start = 0; path = 0 ∷ [] } } ∷ [] }

sale_passes : (w : ℕ) → 1 ≤ w → w ≤ 1000000 → checked refuse (own_checks (only 1000000) (empty 0) (book 2 (request 0 2 w 2 0 0))) done ≡ done
unfolding checked member
sale_passes w a b = rw (le-leb 1 w a, le-leb w 1000000 b) refl

next_passes : (f w : ℕ) → 1 ≤ w → w ≤ 1000000 → checked refuse (own_checks (only 1000000) (half_sold f) (book 1 (request 0 2 w 1 1 1))) done ≡ done
unfolding checked member
next_passes f w a b = rw (le-leb 1 w a, le-leb w 1000000 b) refl

-- what stands free in minute 1, the only one of the next booking's span
sold_in_1 : (f k : ℕ) → 1 ≤ k → k < 1 + 1 → taken (half_sold f) 0 k ≡ 1000000 - f
unfolding sum member
sold_in_1 f k x y = let e : k ≡ 1 = omega arith in rw e (omega arith)

free_figure_left_replies : Replies free_figure_left
unfolding every_kind.replies sum
free_figure_left_replies f a b =
    let million = only_right 1000000 (lit≤ tt) (lit≤ tt) in
    rw (fits_booked 1000000 2 (1000000 - f) 2 0 (empty 0) million (sale_passes (1000000 - f) (omega arith) (omega arith)) (lit≤ tt) (λ k x y. omega arith))
    (rw (unfit_refused 1000000 1 (suc f) 1 1 (half_sold f) million (next_passes f (suc f) (omega arith) (omega arith)) (lit≤ tt) (λ h. let x = h 1 (lit≤ tt) (lit< tt) in let s = sold_in_1 f 1 (lit≤ tt) (lit< tt) in omega arith))
    (rw (fits_booked 1000000 1 f 1 1 (half_sold f) million (next_passes f f a (omega arith)) (lit≤ tt) (λ k x y. let s = sold_in_1 f k x y in omega arith)) refl))

-- what the plain book replies the desk answers
holds : (e : Entry) → e.guard ≤ most_guard → ((f : ℕ) → e.least ≤ f → f ≤ e.most → All LinkRight (e.links f)) → Replies e → Holds outcome e
holds e short right r f a b t size = replies_after (e.links f) e.guard short (right f a b) t size (e.calls f) ∙ ap (λ (x : List Answer). done ∷ x) (r f a b)

session_right : All LinkRight session_links
session_right = (links_tell session_links).0 refl

pub examples : Examples outcome
examples = (
  holds session (lit≤ tt) (λ f a b. session_right) session_replies,
  (
    holds free_figure (lit≤ tt) (λ f a b. only_right f a (omega arith)) free_figure_replies,
    (
      holds free_figure_left (lit≤ tt) (λ f a b. only_right 1000000 (lit≤ tt) (lit≤ tt)) free_figure_left_replies,
      (
        holds before_low (lit≤ tt) (λ f a b. only_right 1 (lit≤ tt) (lit≤ tt)) before_low_replies,
        (
          holds full_book (lit≤ tt) (λ f a b. only_right 64 (lit≤ tt) (lit≤ tt)) full_book_replies,
          (
            holds same_ends (lit≤ tt) (λ f a b. only_right 1 (lit≤ tt) (lit≤ tt)) same_ends_replies,
            (
              holds guarded (lit≤ tt) (λ f a b. only_right 4 (lit≤ tt) (lit≤ tt)) guarded_replies,
              (
                holds (last_figure 0) (lit≤ tt) (λ f a b. only_right 4 (lit≤ tt) (lit≤ tt)) (last_figure_replies 0),
                (
                  holds (last_figure 15) (lit≤ tt) (λ f a b. only_right 4 (lit≤ tt) (lit≤ tt)) (last_figure_replies 15),
                  (
                    holds broken_off (lit≤ tt) (λ f a b. (links_tell two_links).0 refl) broken_off_replies,
                    (
                      holds sums (lit≤ tt) (λ f a b. session_right) sums_replies,
                      (holds dropped (lit≤ tt) (λ f a b. session_right) dropped_replies, tt),
                    ),
                  ),
                ),
              ),
            ),
          ),
        ),
      ),
    ),
  ),
)

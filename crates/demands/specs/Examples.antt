-- The examples of document 01 that are marked P, and those of document 02's Jobs 5 to 7, as one list of entries with a single claim over the
-- list, of any desk.
use Rattle.std.specs.Prelude.{◌≡◌, List, [], ◌∷◌, ◌++◌, map, true, ℕ, zero, suc, ◌-◌, ◌≤◌, replicate}
use Rattle.units.specs.declared.Link.{Link}
use Rattle.units.specs.declared.Request.{Request}
use Rattle.units.specs.Lists.{All}
use Rattle.rules.specs.Calls.{Ask, book, offer, cancel, move_clock, show, sold, set_up, ask, Answer, done, starts, shows, refuse, no_start_at}
use Rattle.rules.specs.Tables.{Tables, sized}
use Rattle.histories.specs.Histories.{answers}
use Rattle.demands.specs.Demands.{Desk}

abbrev pub start_at : ℕ → List ℕ → Answer
start_at m path = starts (record { start = m; path = path })

abbrev pub session_links : List Link
session_links =
    record { from = 0; to = 1; capacity = record { 0 = 10 } }
    ∷ record { from = 1; to = 2; capacity = record { 0 = 10 } }
    ∷ record { from = 0; to = 2; capacity = record { 0 = 4 } }
    ∷ []

-- calls on a desk that was just set up with a guard, and what they are answered; each for every number f from `least` to `most`
pub record Entry : Type 0 where
  pub guard : ℕ
  pub least : ℕ
  pub most : ℕ
  pub links : ℕ → List Link
  pub calls : ℕ → List Ask
  pub answered : ℕ → List Answer

-- set up on tables of the right sizes, whatever they hold, the desk answers the calls so
abbrev pub Holds : Desk → Entry → Type 0
Holds desk e =
    (f : ℕ) → e.least ≤ f → f ≤ e.most → (t : Tables) → sized (e.links f) t ≡ true
    → answers desk (e.links f) t (set_up e.guard ∷ map ask (e.calls f)) ≡ done ∷ e.answered f

abbrev pub request : ℕ → ℕ → ℕ → ℕ → ℕ → ℕ → Request
request s d w t e l = record { from = s; to = d; bandwidth = record { 0 = w }; duration = record { 0 = t }; earliest = record { 0 = e }; latest = record { 0 = l } }

-- the only link, from node 0 to node 2
abbrev pub only : ℕ → List Link
only c = record { from = 0; to = 2; capacity = record { 0 = c } } ∷ []

-- bookings n, n - 1, .. 1 of 1 Mb/s in minute 0
unfoldable pub fill : ℕ → List Ask
fill zero = []
fill (suc n) = book (suc n) (request 0 2 1 1 0 0) ∷ fill n

abbrev pub session : Entry
session = record {
  guard = 0;
  least = 0;
  most = 0;
  links = λ f. session_links;
  calls = λ f. book 7 (request 0 2 4 10 0 1000000000) ∷ book 9 (request 0 2 6 5 0 1000000000) ∷ book 3 (request 0 2 5 4 2 4) ∷ book 3 (request 0 2 5 4 2 5)
      ∷ cancel 9 ∷ offer (request 0 2 4 3 0 0) ∷ move_clock 10 ∷ cancel 7 ∷ [];
  answered = λ f. start_at 0 (2 ∷ []) ∷ start_at 0 (0 ∷ 1 ∷ []) ∷ no_start_at 2 ∷ start_at 5 (0 ∷ 1 ∷ []) ∷ done ∷ start_at 0 (0 ∷ 1 ∷ []) ∷ done ∷ refuse 9 ∷ [];
}

-- low is the only start and one link the only path: one more than the free figure is refused, the free figure accepted
abbrev pub free_figure : Entry
free_figure = record {
  guard = 0;
  least = 1;
  most = 999999;
  links = λ f. only f;
  calls = λ f. book 1 (request 0 2 (suc f) 1 0 0) ∷ book 1 (request 0 2 f 1 0 0) ∷ [];
  answered = λ f. no_start_at 0 ∷ start_at 0 (0 ∷ []) ∷ [];
}

-- the same where a booking has left that figure of 1,000,000
abbrev pub free_figure_left : Entry
free_figure_left = record {
  guard = 0;
  least = 1;
  most = 999999;
  links = λ f. only 1000000;
  calls = λ f. book 2 (request 0 2 (1000000 - f) 2 0 0) ∷ book 1 (request 0 2 (suc f) 1 1 1) ∷ book 1 (request 0 2 f 1 1 1) ∷ [];
  answered = λ f. start_at 0 (0 ∷ []) ∷ no_start_at 1 ∷ start_at 1 (0 ∷ []) ∷ [];
}

abbrev pub before_low : Entry
before_low = record {
  guard = 0;
  least = 0;
  most = 0;
  links = λ f. only 1;
  calls = λ f. move_clock 5 ∷ book 1 (request 0 2 1 1 0 4) ∷ book 1 (request 0 2 1 1 0 5) ∷ [];
  answered = λ f. done ∷ refuse 5 ∷ start_at 5 (0 ∷ []) ∷ [];
}

-- each of the 64 standing numbers; with a 65th number it is 7
abbrev pub full_book : Entry
full_book = record {
  guard = 0;
  least = 0;
  most = 0;
  links = λ f. only 64;
  calls = λ f. fill 64 ++ (book 1 (request 0 2 1 1 0 0) ∷ book 64 (request 0 2 1 1 0 0) ∷ book 65 (request 0 2 1 1 0 0) ∷ []);
  answered = λ f. replicate 64 (start_at 0 (0 ∷ [])) ++ (refuse 6 ∷ refuse 6 ∷ refuse 7 ∷ []);
}

abbrev pub same_ends : Entry
same_ends = record {
  guard = 0;
  least = 0;
  most = 31;
  links = λ f. only 1;
  calls = λ f. book 1 (request f f 1 1 0 0) ∷ offer (request f f 1 1 0 0) ∷ [];
  answered = λ f. refuse 4 ∷ refuse 4 ∷ [];
}

-- document 02's 'sold full for minutes 0 to 9 under guard 2 starts its next booking at 12'
abbrev pub guarded : Entry
guarded = record {
  guard = 2;
  least = 0;
  most = 0;
  links = λ f. only 4;
  calls = λ f. book 1 (request 0 2 4 10 0 0) ∷ book 2 (request 0 2 1 1 0 1000000000) ∷ [];
  answered = λ f. start_at 0 (0 ∷ []) ∷ start_at 12 (0 ∷ []) ∷ [];
}

-- document 02's 'a free figure may be asked for up to minute 1,000,525,615', under no guard and under the longest
abbrev pub last_figure : ℕ → Entry
last_figure guard = record {
  guard = guard;
  least = 0;
  most = 0;
  links = λ f. only 4;
  calls = λ f. show 0 1000525615 ∷ show 0 1000525616 ∷ [];
  answered = λ f. shows 4 ∷ refuse 4 ∷ [];
}

-- two links from node 0 to node 2
abbrev pub two_links : List Link
two_links = record { from = 0; to = 2; capacity = record { 0 = 4 } } ∷ record { from = 0; to = 2; capacity = record { 0 = 4 } } ∷ []

-- under guard 2 link 0 is sold full for minutes 10 to 12 and link 1 for 14 to 18, so that every path from minute 0 on breaks off at 14,
-- though link 0 is free again then: inside the span of an offer of 20 minutes, in the guard's last minute of one of 13; one of 12 starts
abbrev pub broken_off : Entry
broken_off = record {
  guard = 2;
  least = 0;
  most = 0;
  links = λ f. two_links;
  calls = λ f. book 1 (request 0 2 4 3 10 10) ∷ book 2 (request 0 2 4 3 14 14) ∷ cancel 1 ∷ book 1 (request 0 2 4 1 10 10)
      ∷ offer (request 0 2 1 20 0 0) ∷ offer (request 0 2 1 13 0 0) ∷ offer (request 0 2 1 12 0 0) ∷ [];
  answered = λ f. start_at 10 (0 ∷ []) ∷ start_at 14 (1 ∷ []) ∷ done ∷ start_at 10 (0 ∷ [])
      ∷ no_start_at 14 ∷ no_start_at 14 ∷ start_at 0 (1 ∷ []) ∷ [];
}

-- 6 Mb/s for 5 minutes on links 0 and 1 and 4 for 10 on link 0 alone, under guard 3, which isn't counted; link 3 is not on the list
abbrev pub sums : Entry
sums = record {
  guard = 3;
  least = 0;
  most = 0;
  links = λ f. session_links;
  calls = λ f. book 1 (request 0 2 6 5 0 0) ∷ book 2 (request 0 1 4 10 0 0) ∷ sold 0 ∷ sold 1 ∷ sold 2 ∷ sold 3 ∷ [];
  answered = λ f. start_at 0 (0 ∷ 1 ∷ []) ∷ start_at 0 (0 ∷ []) ∷ shows 70 ∷ shows 30 ∷ shows 0 ∷ refuse 4 ∷ [];
}

-- a running booking counts whole, also in its guard; one that has ended or was cancelled counts no more
abbrev pub dropped : Entry
dropped = record {
  guard = 3;
  least = 0;
  most = 0;
  links = λ f. session_links;
  calls = λ f. book 1 (request 0 2 6 5 0 0) ∷ book 2 (request 0 1 4 10 0 0) ∷ move_clock 7 ∷ sold 0 ∷ move_clock 8 ∷ sold 0 ∷ cancel 2 ∷ sold 0 ∷ [];
  answered = λ f. start_at 0 (0 ∷ 1 ∷ []) ∷ start_at 0 (0 ∷ []) ∷ done ∷ shows 70 ∷ done ∷ shows 40 ∷ done ∷ shows 0 ∷ [];
}

abbrev pub entries : List Entry
entries =
    session ∷ free_figure ∷ free_figure_left ∷ before_low ∷ full_book ∷ same_ends ∷ guarded ∷ last_figure 0 ∷ last_figure 15 ∷ broken_off
    ∷ sums ∷ dropped ∷ []

-- the single claim
abbrev pub Examples : Desk → Type 0
Examples desk = All (Holds desk) entries

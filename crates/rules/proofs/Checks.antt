-- Answers of different kinds differ; the laws of checks, for these answers.
use mathlib.Core.Path.{◌≡◌, ap}
use mathlib.Core.List.{List}
use mathlib.Core.Bool.{true, false, ◌&&◌}
use Prim.Native.Nat.{ℕ}
use native.Mathlib.Omega.{arith}
use lib.Dec.{leb}
use Rattle.units.specs.declared.Link.{Link}
use Rattle.units.specs.declared.Request.{Request}
use Rattle.units.specs.Limits.{most_guard}
use Rattle.units.specs.Refusals as refusals
use Rattle.choice.specs.Choice.{Grant}
use Rattle.listing.specs.Ranges.{Range}
use Rattle.histories.proofs.Checks as laws
pub use Rattle.histories.proofs.Checks.{Passed, checked_elim, passed_answer, passed_all}
use Rattle.rules.specs.Plain.{Plain, low}
use Rattle.rules.specs.Calls.{book, set_up, stands, number_ok, request_ok, own_checks, first_refusal, Refusal, Answer, done, starts, lists, shows, refused, refuse, no_start_at, Check, checked}
use Rattle.rules.specs.Tables.{Tables, sized, table_checks}

pub done≢refused : {X : Type 0} {f : Refusal} → done ≡ refused f → X
done≢refused e = let z : ◌≡◌ {A = ℕ} 0 1 = cc in absurd (omega arith)

pub starts≢refused : {X : Type 0} {g : Grant} {f : Refusal} → starts g ≡ refused f → X
starts≢refused e = let z : ◌≡◌ {A = ℕ} 0 1 = cc in absurd (omega arith)

pub lists≢refused : {X : Type 0} {rs : List Range} {f : Refusal} → lists rs ≡ refused f → X
lists≢refused e = let z : ◌≡◌ {A = ℕ} 0 1 = cc in absurd (omega arith)

pub shows≢refused : {X : Type 0} {x : ℕ} {f : Refusal} → shows x ≡ refused f → X
shows≢refused e = let z : ◌≡◌ {A = ℕ} 0 1 = cc in absurd (omega arith)

abbrev number_of : Answer → ℕ
number_of done = 0
number_of (starts g) = 0
number_of (lists rs) = 0
number_of (shows x) = 0
number_of (refused r) = r.number

pub refused_same : {f h : Refusal} → refused f ≡ refused h → f.number ≡ h.number
refused_same e = ap number_of e

abbrev minute_of : Answer → ℕ
minute_of done = 0
minute_of (starts g) = 0
minute_of (lists rs) = 0
minute_of (shows x) = 0
minute_of (refused r) = r.at

pub no_start_same : {m n : ℕ} → no_start_at m ≡ no_start_at n → m ≡ n
no_start_same e = ap minute_of e

pub passed_done : (cs : List Check) → checked refuse cs done ≡ done → Passed cs
passed_done = laws.passed_done refuse done (λ k e. done≢refused e)

-- document 01's 'a standing number on a full book is refused 6, before 7': a number that stands decides, whatever the book's room
pub six_before_seven : (links : List Link) (p : Plain) (n : ℕ) (r : Request) → (number_ok n && request_ok r) ≡ true → leb (low p r) r.latest.0 ≡ true → stands n p.bookings ≡ true
    → first_refusal (own_checks links p (book n r)) ≡ refusals.number_stands
unfolding checked
six_before_seven links p n r fields window e = rw (fields, window, e)

-- document 02's 'refuses with 4, at set-up between 1 and 2, a guard above 15': on tables of the right sizes it decides, whatever the links
pub four_before_two : (links : List Link) (t : Tables) (guard : ℕ) → sized links t ≡ true → leb guard most_guard ≡ false → first_refusal (table_checks links t (set_up guard)) ≡ refusals.bad_field
unfolding checked
four_before_two links t guard size long = rw (size, long)

-- Where the possible minutes from a start on end. A span that moves on stays possible until its end meets an event, so
-- `run_end` tries only there.
use mathlib.Core.Path.{◌≡◌, ◌∙◌, ap}
use mathlib.Core.List.Memᴰ
use mathlib.Core.List.{List}
use mathlib.Core.Bool.{Bool, true, false}
use Prim.Native.Nat.{ℕ, suc, ◌+◌, ◌-◌, ◌≤◌, ◌<◌}
use native.Mathlib.Nat.{le_refl}
use native.Mathlib.Decide.{ℕ_discrete, dec_lt}
use native.Mathlib.Omega.{arith}
use lib.ListN.{length, get_or, length-append}
use Rattle.units.proofs.Tests.{member_tells}
use Rattle.timeline.specs.Events.{later, events}
use Rattle.timeline.proofs.Events.{later_rises, member_later}
use Rattle.timeline.proofs.Steady.{NoneBetween}
use Rattle.timeline.proofs.Places.{rising_order}
use Rattle.path_search.specs.Answer.{graph}
use Rattle.choice.specs.declared.asked.Asked.{Asked}
use Rattle.choice.specs.Answer.{wanted, carried, possible_of}
use Rattle.choice.proofs.Starts.{event_place}
use Rattle.choice.proofs.Possible.{possible_more}
use Rattle.choice.proofs.Lent.{kept_on, event_at}
use Rattle.choice.proofs.Exits.{clock, times}
use Rattle.listing.specs.Right.{RunEnd}

-- the minutes from start to `last` pass, whose span ends before `end`, and the first i events lie before that end
pub record RunTo (test : ℕ → Bool) (es : List ℕ) (duration start latest end i : ℕ) : Type 0 where
  pub last : ℕ
  pub end_is : end ≡ last + duration
  pub not_before : start ≤ last
  pub not_after : last ≤ latest
  pub passes : (m : ℕ) → start ≤ m → m ≤ last → test m ≡ true
  pub passed : (j : ℕ) → j < i → get_or es j 0 < end

module _ (asked : Asked) where
  abbrev es : List ℕ
  es = asked.table.events.now

  abbrev t : List ℕ
  t = asked.table.figures.now

  abbrev bandwidth : ℕ
  bandwidth = asked.search.now.bandwidth.0

  abbrev duration : ℕ
  duration = asked.search.now.span.0

  abbrev c : ℕ
  c = clock asked

  abbrev ts : List ℕ
  ts = times asked

  abbrev test : ℕ → Bool
  test = possible_of asked

  -- from the minute `last` on, whose span ends before `end`, up to one whose span ends before the event at place i
  module _ (last i bound : ℕ) (early : c ≤ last) (passed : (j : ℕ) → j < i → get_or es j 0 < last + duration)
      (ahead : i < length (events c ts) → bound < get_or es i 0) where
    none_met : NoneBetween ts (last + duration - 1) bound
    none_met x m le = elim (dec_lt x (last + duration)) [ yes h ↦ omega arith | no h ↦ met (event_place (events c ts) x (Memᴰ.tail ((member_tells x (later c ts)).0 (member_later x c ts (omega arith) ∙ (member_tells x ts).1 m)))) ]
      where
        met : (j : ℕ) × (j < length (events c ts)) × (get_or (events c ts) j 0 ≡ x) → x ≤ last + duration - 1
        met f =
            elim (dec_lt f.0 i) [
              | yes h ↦ let p = passed f.0 h in let q = event_at c ts es t asked.are_events bandwidth duration f.0 in let r = f.2 in omega arith
              | no h ↦ elim (ℕ_discrete f.0 i) [
                | yes q ↦ let a = ahead (omega (arith, f.1)) in let p = event_at c ts es t asked.are_events bandwidth duration i in let r : get_or (events c ts) i 0 ≡ x = rw q at f.2 in absurd (omega arith)
                | no q ↦ let a = ahead (omega (arith, f.1)) in let p = event_at c ts es t asked.are_events bandwidth duration i in let o = rising_order c (later c ts) (later_rises c ts) i f.0 (omega arith) f.1 in let r = f.2 in absurd (omega arith)
              ]
            ]

    pub goes_on : (m : ℕ) → last ≤ m → m + duration - 1 ≤ bound → test last ≡ true → test m ≡ true
    goes_on m h b p =
        possible_more (graph asked.search.now.ends) (carried (wanted asked.search.now) es t) (carried (wanted asked.search.now) es t) asked.search.now.source asked.search.now.destination m last
        (λ l. kept_on c ts es t asked.are_events bandwidth duration last m l h asked.search.now.lasts (λ x i le. none_met x i (omega arith))) p

  module _ (start latest : ℕ) where
    abbrev Run : ℕ → ℕ → Type 0
    Run = RunTo test es duration start latest

    module _ (early : c ≤ start) (end i : ℕ) (r : Run end i) where
      -- so do those whose span ends before the event at place i
      passes_to : (bound : ℕ) → (i < length (events c ts) → bound < get_or es i 0) → (m : ℕ) → start ≤ m → m + duration - 1 ≤ bound → test m ≡ true
      passes_to bound ahead m a b =
          elim (dec_lt r.last m) [
            | yes h ↦ goes_on r.last i bound (omega (arith, r.not_before)) (λ j k. let q = r.passed j k in omega (arith, r.end_is)) ahead m (omega arith) b (r.passes r.last r.not_before (le_refl _))
            | no h ↦ r.passes m a (omega arith)
          ]

      -- an event before the end of the span is passed
      pub run_skips : get_or es i 0 < end → Run end (i + 1)
      run_skips h = record {
        last = r.last;
        end_is = r.end_is;
        not_before = r.not_before;
        not_after = r.not_after;
        passes = r.passes;
        passed = λ j k. elim (ℕ_discrete j i) [ yes q ↦ rw q h | no q ↦ r.passed j (omega arith) ];
      }

      -- where the span's end meets an event, the minute after is tried
      module _ (event : ℕ) (is : event ≡ get_or es i 0) (meets : end ≤ event) where
        pub run_meets : event < latest + duration → test (event + 1 - duration) ≡ true → Run (event + 1) (i + 1)
        run_meets h p = record {
          last = event + 1 - duration;
          end_is = omega (arith, r.end_is);
          not_before = omega (arith, r.end_is, r.not_before);
          not_after = omega (arith, asked.search.now.lasts);
          passes = λ m a b. elim (ℕ_discrete m (event + 1 - duration)) [ yes q ↦ rw q p | no q ↦ passes_to (event - 1) (λ k. omega (arith, r.end_is)) m a (omega (arith, r.end_is)) ];
          passed = λ j k. elim (ℕ_discrete j i) [ yes q ↦ rw q (omega arith) | no q ↦ let u = r.passed j (omega arith) in omega arith ];
        }

        pub run_stops : event < latest + duration → test (event + 1 - duration) ≡ false → RunEnd test start (suc latest) (event + 1 - duration)
        run_stops h p = record {
          after = omega (arith, r.end_is, r.not_before);
          not_past = omega (arith, asked.search.now.lasts);
          passes = λ m a b. passes_to (event - 1) (λ k. omega (arith, r.end_is)) m a (omega (arith, r.end_is));
          stops = λ k. p;
        }

      whole : (bound : ℕ) → latest + duration - 1 ≤ bound → (i < length (events c ts) → bound < get_or es i 0) → RunEnd test start (suc latest) (latest + 1)
      whole bound h ahead = record {
        after = omega (arith, r.not_before, r.not_after);
        not_past = omega arith;
        passes = λ m a b. passes_to bound ahead m a (omega arith);
        stops = λ k. absurd (omega arith);
      }

      -- no event is met in the window: the next is too late, or none is left
      pub run_late : latest + duration ≤ get_or es i 0 → RunEnd test start (suc latest) (latest + 1)
      run_late h = whole (latest + duration - 1) (le_refl _) (λ k. omega arith)

      pub run_left : length es ≤ i → RunEnd test start (suc latest) (latest + 1)
      run_left h =
          let long : length (events c ts) ≤ i = omega (arith, simp (length-append) at (ap length asked.are_events)) in
          whole (latest + duration - 1) (le_refl _) (λ k. absurd (omega arith))

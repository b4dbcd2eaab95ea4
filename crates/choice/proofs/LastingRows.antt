-- Row by row from a minute on: the links that have the bandwidth in each row so far, and where every path over them breaks off.
use mathlib.Core.Path.{◌≡◌, sym, ◌∙◌, ap, subst}
use mathlib.Core.List.{List, []}
use mathlib.Core.Bool.{Bool, true, false}
use Prim.Native.Nat.{ℕ, suc, ◌+◌, ◌-◌, ◌^◌, ◌≤◌, ◌<◌}
use native.Mathlib.Decide.{dec_lt}
use native.Mathlib.Omega.{arith}
use lib.Dec.{leb}
use lib.ListN.{length, get_or}
use Rattle.std.specs.Int.Bits.{bit_and}
use Rattle.units.specs.Limits.{most_links}
use Rattle.units.specs.Search.{all_from}
use Rattle.units.specs.Lists.{padded}
use Rattle.units.specs.Sets.{has}
use Rattle.timeline.specs.Events.{events, row_at}
use Rattle.timeline.proofs.Rows.{row_later}
use Rattle.free_table.specs.Figures.{kept}
use Rattle.free_table.specs.Looking.{row_minute, enough_span, span_rows}
use Rattle.free_table.proofs.SpanCheck.{Begins, begins}
use Rattle.free_table.proofs.SpanRows.{span_rows_length}
use Rattle.free_table.proofs.MaskRows.{in_none, in_next, enough_up_to}
use Rattle.path_search.specs.Paths.{Graph}
use Rattle.path_search.specs.Answer.{graph}
use Rattle.choice.specs.declared.asked.Asked.{Asked}
use Rattle.choice.specs.Carrying.{carries}
use Rattle.choice.specs.BreakOff.{lasts}
use Rattle.choice.specs.Known.{leads_over}
use Rattle.choice.specs.Answer.{break_off_of, AskableOf}
use Rattle.choice.proofs.BreakOff.{break_off_at}
use Rattle.choice.proofs.Exits.{clock, times}
use Rattle.choice.proofs.Lent.{enough_carries}
use Rattle.choice.proofs.Tries.{leads_possible}

module _ (a : Asked) (low : ℕ) where
  abbrev es : List ℕ
  es = a.table.events.now

  abbrev t : List ℕ
  t = a.table.figures.now

  abbrev g : Graph
  g = graph a.search.now.ends

  abbrev bandwidth : ℕ
  bandwidth = a.search.now.bandwidth.0

  abbrev end : ℕ
  end = low + a.search.now.span.0

  -- what links carry in the first n minutes from low on
  abbrev carried_in : ℕ → ℕ → ℕ → Bool
  carried_in = carries (kept es t) bandwidth

  -- some path lasts throughout low to m
  abbrev pub lasts_of : ℕ → Bool
  lasts_of = lasts g carried_in a.search.now.source a.search.now.destination low

  abbrev enough : List (List ℕ) → ℕ → ℕ → Bool
  enough rows l i = leb bandwidth (get_or (get_or rows i []) l 0)

  -- the links that have enough in the first i rows; some path lasts throughout low to each minute of these
  pub record Looked (rows : List (List ℕ)) (links i : ℕ) : Type 0 where
    pub in_rows : (l : ℕ) → l < most_links → has links l ≡ all_from 0 i (enough rows l)
    pub lasts_before : (k : ℕ) → low ≤ k → k < end → row_at es k < row_at es low + i → lasts_of k ≡ true

  pub looked_first : (rows : List (List ℕ)) → Looked rows (2 ^ 64 - 1) 0
  looked_first rows = record {
    in_rows = λ l h. in_none (enough rows l) l h;
    lasts_before = λ k b e h. absurd (let later = row_later low k es b in omega arith);
  }

  module _ (askable : AskableOf a low low) (rows : List (List ℕ)) (is : rows ≡ span_rows es low end t) where
    row_begins : (i : ℕ) → i < length rows → Begins es low end i
    row_begins i h =
        subst (λ x. i < length (span_rows x low end t) → Begins x low end i) (sym a.are_events)
        (λ k. begins (length es) (clock a) (times a) t 0 0 low end askable.not_past (omega (arith, a.search.now.lasts)) i (omega (arith, span_rows_length (padded (length es) (events (clock a) (times a))) low end t)))
        (rw is at h)

    module _ (links i mask : ℕ) (inside : i < length rows) (looked : Looked rows links i) (next : (l : ℕ) → l < most_links → has mask l ≡ enough rows l i) where
      -- with the next row they are the links that carry the minutes up to any of that row
      more_rows : (l : ℕ) → l < most_links → has (bit_and links mask) l ≡ all_from 0 (i + 1) (enough rows l)
      more_rows l h = in_next (enough rows l) links mask l i (looked.in_rows l h) (next l h)

      leads_lasts : (m : ℕ) → low ≤ m → m < end → row_at es m ≡ row_at es low + i → leads_over a.search.now (bit_and links mask) ≡ lasts_of m
      leads_lasts m b e r =
          leads_possible a.search.now (bit_and links mask) (carried_in (suc m - low)) low
          (λ l h.
          let whole : low + (suc m - low) ≡ suc m = omega arith in
          more_rows l h
          ∙ ap (λ x. all_from 0 (i + 1) (enough x l)) is
          ∙ enough_up_to es low end t l bandwidth h i m b e r
          ∙ ap (λ n. enough_span es low n l bandwidth t) (sym whole)
          ∙ enough_carries (clock a) (times a) es t a.are_events l bandwidth low (suc m - low) askable.not_past (omega arith))

      pub looked_next : leads_over a.search.now (bit_and links mask) ≡ true → Looked rows (bit_and links mask) (i + 1)
      looked_next leads = record {
        in_rows = more_rows;
        lasts_before = λ k b e h. elim (dec_lt (row_at es k) (row_at es low + i)) [
          | yes c ↦ looked.lasts_before k b e c
          | no c ↦ sym (leads_lasts k b e (omega arith)) ∙ leads
        ];
      }

      -- where none leads over them, every path breaks off where the row begins
      pub looked_broken : leads_over a.search.now (bit_and links mask) ≡ false → row_minute es low i ≡ break_off_of a low
      looked_broken none =
          let r = row_begins i inside in
          let m = row_minute es low i in
          sym (break_off_at g carried_in a.search.now.source a.search.now.destination a.search.now.span.0 low m r.from_start (omega (arith, r.before_end))
          (λ e. sym (leads_lasts m r.from_start e r.holds) ∙ none)
          (λ k b h. looked.lasts_before k b (omega (arith, r.before_end)) (r.earlier k b h)))

    -- where a path leads over the links that have enough in all the rows, it lasts throughout the span
    pub looked_all : (links : ℕ) → Looked rows links (length rows) → end ≡ break_off_of a low
    looked_all links looked =
        sym (break_off_at g carried_in a.search.now.source a.search.now.destination a.search.now.span.0 low end (omega arith) (omega arith) (λ e. absurd (omega arith))
        (λ k b h. looked.lasts_before k b h (let later = row_later k (end - 1) es (omega arith) in let first = row_later low k es b in let count : length rows ≡ suc (row_at es (end - 1) - row_at es low) = ap length is ∙ span_rows_length es low end t in omega arith)))

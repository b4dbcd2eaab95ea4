-- The columns of a list, beside its true length, read as a list again: up to 64 links it is the list itself, and past them every
-- call is refused 1 with the tables as they came. So a call's outcome is the same of both, and the columns that the search is
-- given say nothing else than the list that is lent.
use mathlib.Core.Path.{◌≡◌, refl, sym, ◌∙◌, ap}
use mathlib.Core.Bool.{Bool, true, false}
use mathlib.Core.List.{List, map}
use Prim.Native.Nat.{ℕ, zero, suc, ◌+◌, ◌≤◌, ◌<◌}
use native.Mathlib.Omega.{arith}
use borrow.Author.Tests.{ltb-true, ltb-false, le-leb, lt-leb}
use lib.Dec.{ltb}
use lib.ListN.{length, get_or, length-map}
use lib.Seq.{ext_get_or}
use Rattle.units.specs.Limits.{most_links}
use Rattle.units.specs.Lists.{count_from}
use Rattle.units.specs.Columns.{column}
use Rattle.units.proofs.Columns.{column_at}
use Rattle.units.proofs.Padded.{length_count}
use Rattle.units.specs.declared.Link.{Link}
use Rattle.rules.specs.Plain.{no_link, link}
use Rattle.rules.specs.Calls.{Call}
use Rattle.rules.specs.Tables.{Tables, sized}
use Rattle.rules.specs.Desk.{outcome}
use Rattle.rules.proofs.Exits.{unsized}

-- link l of the columns, and as many as the list has
abbrev pub link_at : List Link → ℕ → Link
link_at xs l = record { from = get_or (column (λ x. x.from) xs) l 0; to = get_or (column (λ x. x.to) xs) l 0; capacity = record { 0 = get_or (column (λ x. x.capacity.0) xs) l 0 } }

abbrev pub read_back : List Link → List Link
read_back xs = map (link_at xs) (count_from 0 (length xs))

counted_at : {A : Type 0} (f : ℕ → A) (d : A) (i n j : ℕ) → j < n → get_or (map f (count_from i n)) j d ≡ f (i + j)
unfolding count_from
counted_at f d i zero j h = absurd (omega arith)
counted_at f d i (suc n) zero h = let e : i ≡ i + 0 = omega arith in ap f e
counted_at f d i (suc n) (suc j) h = let e : suc i + j ≡ i + suc j = omega arith in counted_at f d (suc i) n j (omega arith) ∙ ap f e

count_same : (xs : List Link) → length (read_back xs) ≡ length xs
count_same xs = length-map (count_from 0 (length xs)) (link_at xs) ∙ length_count 0 (length xs)

link_same : (xs : List Link) (i : ℕ) → i < most_links → i < length xs → link_at xs i ≡ link xs i
link_same xs i l g = λ j. record {
  from = column_at (λ x. x.from) xs i no_link l g j;
  to = column_at (λ x. x.to) xs i no_link l g j;
  capacity = record { 0 = column_at (λ x. x.capacity.0) xs i no_link l g j };
}

pub links_same : (xs : List Link) → length xs ≤ most_links → read_back xs ≡ xs
links_same xs h = ext_get_or no_link (read_back xs) xs (count_same xs) (λ i l.
    let inside : i < length xs = omega (arith, l, count_same xs) in
    let e : 0 + i ≡ i = omega arith in
    counted_at (link_at xs) no_link 0 (length xs) i inside ∙ ap (link_at xs) e ∙ link_same xs i (omega (arith, inside, h)) inside)

too_many : (xs : List Link) (t : Tables) → most_links < length xs → sized xs t ≡ false
too_many xs t h = rw (le-leb 1 (length xs) (omega (arith, h)), lt-leb (length xs) most_links h)

module _ (xs : List Link) (t : Tables) (c : Call) where
  outcome_same_at : (b : Bool) → ltb most_links (length xs) ≡ b → outcome (read_back xs) t c ≡ outcome xs t c
  outcome_same_at true e =
      let h = ltb-true most_links (length xs) e in
      unsized (read_back xs) t c (too_many (read_back xs) t (omega (arith, h, count_same xs))) ∙ sym (unsized xs t c (too_many xs t h))
  outcome_same_at false e = ap (λ ys. outcome ys t c) (links_same xs (ltb-false most_links (length xs) e))

  pub outcome_same : outcome (read_back xs) t c ≡ outcome xs t c
  outcome_same = outcome_same_at (ltb most_links (length xs)) refl

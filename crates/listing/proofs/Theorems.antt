-- The theorems on the listing: each possible minute of the window is in exactly one range and no other in any, no two ranges
-- touch, a range begins at low or at an event, so the places are enough, and the listing agrees with the choice.
use mathlib.Core.Path.{◌≡◌, refl, sym, ◌∙◌, ap, subst}
use mathlib.Core.Logic.{◌⊎◌, ◌↔◌, inl, inr, ⊎_elim}
use mathlib.Core.List.Memᴰ
use mathlib.Core.List.{List, [], ◌∷◌, map, Memᴰ}
use mathlib.Core.Bool.{Bool, true, false}
use Prim.Native.Nat.{ℕ, zero, suc, ◌+◌, ◌-◌, ◌≤◌, ◌<◌, zero-le}
use native.Mathlib.Nat.{le_refl}
use native.Mathlib.Decide.{ℕ_discrete, dec_lt}
use native.Mathlib.Omega.{arith}
use lib.ListN.{length}
use Rattle.units.specs.Lists.{within, All, cons_if, select}
use Rattle.units.proofs.Tests.{in_range, member_tells, Rising}
use Rattle.units.proofs.Parts.{all_map}
use Rattle.units.proofs.Search.{clash, IsFirst}
use Rattle.timeline.specs.Events.{later, events}
use Rattle.timeline.proofs.Events.{later_rises, member_later, rising_member}
use Rattle.timeline.proofs.Steady.{NoneBetween}
use Rattle.timeline.proofs.Spans.{last_start, last_start_le, last_start_between, last_start_is}
use Rattle.path_search.specs.Paths.{Graph}
use Rattle.choice.specs.Choice.{Grant, granted, no_start, route_at, try_at, possible, choose}
use Rattle.choice.proofs.Choice.{granted≢no_start}
use Rattle.choice.proofs.Starts.{earliest_none, ChoiceFound, found, none_found, choice_found}
use Rattle.choice.proofs.Possible.{grant_starts, possible_back}
use Rattle.listing.specs.Ranges.{Range, ranges}
use Rattle.listing.specs.Right.{ranges_with, Apart}
use Rattle.listing.proofs.Laws.{IsRange, AreRanges, are_ranges, are_only}

-- ---- of any test

module _ (test : ℕ → Bool) where
  -- m is one of the minutes that are listed
  abbrev pub Wanted : ℕ → ℕ → ℕ → Type 0
  Wanted i e m = (i ≤ m) × (m < e) × (test m ≡ true)

  in_none : (i e m : ℕ) (rs : List Range) → AreRanges test i e rs → ¬ Wanted i e m → ranges_with m rs ≡ 0
  unfolding select
  in_none i e m [] a h = refl
  in_none i e m (r ∷ rs) a h =
      by (within r.first r.last m) refl
      (in_none (suc r.last) e m rs a.1 (λ w. let q = a.0 in h (omega (arith, q.not_before, q.some, w.0), w.1, w.2)))
    where
      by : (t : Bool) → within r.first r.last m ≡ t → ranges_with m rs ≡ 0 → length (cons_if t r (select (λ s. within s.first s.last m) rs)) ≡ 0
      by true q in_rest =
          let w = (in_range r.first r.last m).0 q in
          let is = a.0 in
          absurd (h (omega (arith, is.not_before, w.0), omega (arith, is.not_past, w.1), is.passes m w.0 w.1))
      by false q in_rest = in_rest

  in_one : (i e m : ℕ) (rs : List Range) → AreRanges test i e rs → Wanted i e m → ranges_with m rs ≡ 1
  unfolding select
  in_one i e m [] a w = clash w.2 (a m w.0 w.1)
  in_one i e m (r ∷ rs) a w =
      by (within r.first r.last m) refl (in_one (suc r.last) e m rs a.1)
    where
      is : IsRange test i e r
      is = a.0

      by : (t : Bool) → within r.first r.last m ≡ t → (Wanted (suc r.last) e m → ranges_with m rs ≡ 1)
          → length (cons_if t r (select (λ s. within s.first s.last m) rs)) ≡ 1
      by true q later =
          let inside = (in_range r.first r.last m).0 q in
          ap suc (in_none (suc r.last) e m rs a.1 (λ v. absurd (omega (arith, v.0, inside.1))))
      by false q later =
          later (
            elim (dec_lt m r.first) [
              | yes b ↦ clash w.2 (is.fails_before m w.0 b)
              | no b ↦ elim (dec_lt r.last m) [ yes d ↦ d | no d ↦ clash ((in_range r.first r.last m).1 (omega arith, omega arith)) q ]
            ],
            w.1,
            w.2,
          )

  -- ---- they rise and no two touch

  not_before : (i e : ℕ) (rs : List Range) → AreRanges test i e rs → All (λ s. i ≤ s.first) rs
  not_before i e [] a = tt
  not_before i e (r ∷ rs) a =
      let is = a.0 in
      (is.not_before, all_map (λ s. suc r.last ≤ s.first) (λ s. i ≤ s.first) (λ s h. omega (arith, h, is.not_before, is.some)) rs (not_before (suc r.last) e rs a.1))

  -- behind a range its next minute fails
  beyond : (j e : ℕ) (rs : List Range) → AreRanges test j e rs → (j < e → test j ≡ false) → All (λ s. j < s.first) rs
  beyond j e [] a f = tt
  beyond j e (s ∷ ss) a f =
      let is = a.0 in
      let later : j < s.first = first is in
      (later, all_map (λ x. suc s.last ≤ x.first) (λ x. j < x.first) (λ x h. omega (arith, h, later, is.some)) ss (not_before (suc s.last) e ss a.1))
    where
      first : IsRange test j e s → j < s.first
      first is =
          elim (ℕ_discrete j s.first) [
            | yes q ↦ clash (is.passes s.first (le_refl _) is.some) (rw q at (f (omega (arith, is.some, is.not_past))))
            | no d ↦ omega (arith, is.not_before)
          ]

  all_apart : (i e : ℕ) (rs : List Range) → AreRanges test i e rs → Apart rs
  all_apart i e [] a = tt
  all_apart i e (r ∷ rs) a = let is = a.0 in (is.some, beyond (suc r.last) e rs a.1 is.stops, all_apart (suc r.last) e rs a.1)

  -- ---- where they begin

  -- x is a minute that passes, the first of all or behind one that fails
  pub record Begins (i e x : ℕ) : Type 0 where
    pub early : i ≤ x
    pub late : x < e
    pub passes : test x ≡ true
    pub fresh : (x ≡ i) ⊎ ((k : ℕ) × (x ≡ suc k) × (i ≤ k) × (test k ≡ false))

  begins_at : (i e : ℕ) (r : Range) → IsRange test i e r → Begins i e r.first
  begins_at i e r is = record {
    early = is.not_before;
    late = omega (arith, is.some, is.not_past);
    passes = is.passes r.first (le_refl _) is.some;
    fresh = by r.first refl;
  }
    where
      by : (x : ℕ) → r.first ≡ x → (r.first ≡ i) ⊎ ((k : ℕ) × (r.first ≡ suc k) × (i ≤ k) × (test k ≡ false))
      by zero q = inl (omega (arith, is.not_before))
      by (suc k) q =
          elim (ℕ_discrete r.first i) [ yes s ↦ inl s | no s ↦ let b = is.not_before in inr (k, q, omega arith, is.fails_before k (omega arith) (omega arith)) ]

  begins : (i e : ℕ) (rs : List Range) → AreRanges test i e rs → All (λ s. Begins i e s.first) rs
  begins i e [] a = tt
  begins i e (r ∷ rs) a = (begins_at i e r a.0, all_map (λ s. Begins (suc r.last) e s.first) (λ s. Begins i e s.first) (λ s. later s a.0) rs (begins (suc r.last) e rs a.1))
    where
      later : (s : Range) → IsRange test i e r → Begins (suc r.last) e s.first → Begins i e s.first
      later s is b = record {
        early = omega (arith, b.early, is.not_before, is.some);
        late = b.late;
        passes = b.passes;
        fresh =
            ⊎_elim (λ (q : s.first ≡ suc r.last). clash (rw q at b.passes) (is.stops (rw q at b.late)))
            (λ k. inr (k.0, k.1, omega (arith, k.2, is.not_before, is.some), k.3)) b.fresh;
      }

  -- ---- they are as long as they can be

  ends_at : (i e : ℕ) (rs : List Range) → AreRanges test i e rs → All (λ s. suc s.last < e → test (suc s.last) ≡ false) rs
  ends_at i e [] a = tt
  ends_at i e (r ∷ rs) a = let is = a.0 in (is.stops, ends_at (suc r.last) e rs a.1)

-- ---- a rising list whose numbers are all in another is no longer

abbrev firsts : List Range → List ℕ
firsts rs = map (λ r. r.first) rs

pub rising_fits : (c d : ℕ) (xs es : List ℕ) → Rising c xs → Rising d es → All (λ x. Memᴰ x es) xs → length xs ≤ length es
rising_fits c d [] es r s a = zero-le
rising_fits c d (x ∷ xs) [] r s a = absurd (Memᴰ.not-nil a.0)
rising_fits c d (x ∷ xs) (e ∷ es) r s a = let k = rising_fits x e xs es r.1 s.1 (others xs r.1 a.1) in omega arith
  where
    least : e ≤ x
    least = ⊎_elim (λ (q : x ≡ e). omega arith) (λ i. let b = rising_member e x es s.1 ((member_tells x es).1 i) in omega arith) (Memᴰ.cases_cons a.0)

    -- what is above x is not e
    others : (ys : List ℕ) → Rising x ys → All (λ y. Memᴰ y (e ∷ es)) ys → All (λ y. Memᴰ y es) ys
    others ys q b = above x ys q (λ y h. h) b
      where
        above : (z : ℕ) (ys : List ℕ) → Rising z ys → ((y : ℕ) → z < y → x < y) → All (λ y. Memᴰ y (e ∷ es)) ys → All (λ y. Memᴰ y es) ys
        above z [] q up b = tt
        above z (y ∷ ys) q up b = (
          ⊎_elim (λ (p : y ≡ e). absurd (let u = up y q.0 in let v = least in omega arith)) (λ i. i) (Memᴰ.cases_cons b.0),
          above y ys q.1 (λ w h. let u = up y q.0 in omega arith) b.1,
        )

-- the firsts of ranges that are apart rise
firsts_rise : (c : ℕ) (rs : List Range) → All (λ s. c < s.first) rs → Apart rs → Rising c (firsts rs)
firsts_rise c [] a b = tt
firsts_rise c (r ∷ rs) a b = (a.0, firsts_rise r.first rs (all_map (λ s. suc r.last < s.first) (λ s. r.first < s.first) (λ s h. omega (arith, h, b.0)) rs b.1) b.2)

-- ---- of the possible minutes of a window

module _ (g : Graph) (carries : ℕ → ℕ → Bool) (from to low latest : ℕ) where
  abbrev test : ℕ → Bool
  test = possible g carries from to

  abbrev listed : List Range
  listed = ranges g carries from to low latest

  -- the minute after the window, or low where the window is empty
  abbrev end : ℕ
  end = low + (suc latest - low)

  pub ranges_are : AreRanges test low end listed
  unfolding ranges
  ranges_are = are_ranges test low (suc latest - low)

  -- m is a possible minute of the window
  abbrev pub Possible : ℕ → Type 0
  Possible m = (low ≤ m) × (m ≤ latest) × (test m ≡ true)

  -- Each possible minute of the window is in exactly one range, and no other minute is in any.
  pub listed_once : (m : ℕ) → low ≤ m → m ≤ latest → test m ≡ true → ranges_with m listed ≡ 1
  listed_once m a b p = in_one test low end m listed ranges_are (a, omega arith, p)

  pub listed_no_other : (m : ℕ) → ¬ Possible m → ranges_with m listed ≡ 0
  listed_no_other m h = in_none test low end m listed ranges_are (λ w. h (w.0, omega (arith, w.0, w.1), w.2))

  -- They rise, and no two touch.
  pub ranges_apart : Apart listed
  ranges_apart = all_apart test low end listed ranges_are

  -- Each is as long as it can be: the minutes before its first and after its last are not possible, or not of the window.
  pub ranges_longest : All (λ r. ((m : ℕ) → r.first ≡ suc m → ¬ Possible m) × ¬ Possible (suc r.last)) listed
  ranges_longest = both listed (begins test low end listed ranges_are) (ends_at test low end listed ranges_are)
    where
      before : (x : ℕ) → Begins test low end x → (m : ℕ) → x ≡ suc m → ¬ Possible m
      before x b m q w =
          ⊎_elim (λ (s : x ≡ low). absurd (omega (arith, w.0))) (λ k. let same : k.0 ≡ m = omega (arith, k.1) in clash w.2 (rw same at k.3)) b.fresh

      both : (rs : List Range) → All (λ r. Begins test low end r.first) rs → All (λ r. suc r.last < end → test (suc r.last) ≡ false) rs
          → All (λ r. ((m : ℕ) → r.first ≡ suc m → ¬ Possible m) × ¬ Possible (suc r.last)) rs
      both [] a b = tt
      both (r ∷ rs) a b = ((before r.first a.0, λ w. clash w.2 (b.0 (omega (arith, w.0, w.1)))), both rs a.1 b.1)

  -- ---- beside the choice

  -- The listing is empty if and only if the choice has no start.
  pub empty_iff : (listed ≡ []) ↔ (choose g carries from to low latest ≡ no_start)
  empty_iff = (
    (λ e. let none = subst (AreRanges test low end) e ranges_are in earliest_none (try_at g carries from to) low latest (λ m a b. none m a (omega arith))),
    λ e. none e (choice_found (try_at g carries from to) low latest),
  )
    where
      none : choose g carries from to low latest ≡ no_start → ChoiceFound (try_at g carries from to) low latest → listed ≡ []
      none e (found m d f t q) = granted≢no_start (sym q ∙ e)
      none e (none_found h q) = are_only test low end listed [] ranges_are (λ m a b. h m a (omega arith))

  -- The first range's first minute is the choice's start.
  pub first_is_start : (x : Range) (rs : List Range) → listed ≡ x ∷ rs → (d : Grant) → choose g carries from to low latest ≡ granted d → x.first ≡ d.start
  first_is_start x rs e d q = by (choice_found (try_at g carries from to) low latest)
    where
      is : IsRange test low end x
      is = (subst (AreRanges test low end) e ranges_are).0

      by : ChoiceFound (try_at g carries from to) low latest → x.first ≡ d.start
      by (none_found h p) = granted≢no_start (sym q ∙ p)
      by (found m c f t p) =
          let same : c ≡ d = cc in
          meet m f ∙ sym (grant_starts m (route_at g carries from to m) t) ∙ ap (λ (z : Grant). z.start) same
        where
          meet : (m : ℕ) → IsFirst low (suc latest - low) test m → x.first ≡ m
          meet m f =
              elim (dec_lt x.first m) [
                | yes h ↦ clash (is.passes x.first (le_refl _) is.some) (f.before x.first is.not_before h)
                | no h ↦ elim (dec_lt m x.first) [ yes k ↦ clash f.passes (is.fails_before m f.low k) | no k ↦ omega arith ]
              ]

  -- ---- where ranges begin, and how many there can be

  -- c is the clock, ts the times at which `carries` may change
  module _ (c : ℕ) (ts : List ℕ) (back : (k m l : ℕ) → k ≤ m → NoneBetween ts k m → carries m l ≡ true → carries k l ≡ true) (early : c ≤ low) where
    abbrev pub AtStart : ℕ → Type 0
    AtStart x = (x ≡ low) ⊎ (Memᴰ x (events c ts) × (low < x))

    begins_at_event : (x : ℕ) → Begins test low end x → AtStart x
    begins_at_event x b = ⊎_elim inl (λ k. behind k.0 k.1 k.3) b.fresh
      where
        s : ℕ
        s = last_start c ts low x early b.early

        le : s ≤ x
        le = last_start_le c ts low x early b.early

        between : NoneBetween ts s x
        between = last_start_between c ts low x early b.early

        behind : (k : ℕ) → x ≡ suc k → test k ≡ false → AtStart x
        behind k q fails =
            elim (dec_lt s x) [
              | yes h ↦ clash (possible_back g carries from to ts back k x (omega arith) (λ y i le. let n = between y i le in omega arith) b.passes) fails
              | no h ↦ let same : s ≡ x = omega (arith, le) in subst AtStart same (last_start_is c ts low x early b.early)
            ]

    -- A range begins at low or at an event after it.
    pub ranges_begin : All (λ r. AtStart r.first) listed
    ranges_begin = all_map (λ r. Begins test low end r.first) (λ r. AtStart r.first) (λ r. begins_at_event r.first) listed (begins test low end listed ranges_are)

    in_later : (d x : ℕ) → d < x → Memᴰ x ts → Memᴰ x (later d ts)
    in_later d x h i = (member_tells x (later d ts)).0 (member_later x d ts h ∙ (member_tells x ts).1 i)

    in_times : (d x : ℕ) → Memᴰ x (later d ts) → (d < x) × Memᴰ x ts
    in_times d x i =
        let m = (member_tells x (later d ts)).1 i in
        let h = rising_member d x (later d ts) (later_rises d ts) m in
        (h, (member_tells x ts).0 (sym (member_later x d ts h) ∙ m))

    -- low and the times after it
    among : (x : ℕ) → AtStart x → Memᴰ x (events low ts)
    among x (inl q) = Memᴰ.head q
    among x (inr h) =
        ⊎_elim (λ (q : x ≡ c). absurd (omega (arith, h.1))) (λ i. Memᴰ.tail (in_later low x h.1 (in_times c x i).1)) (Memᴰ.cases_cons h.0)

    fewer_later : length (later low ts) ≤ length (later c ts)
    fewer_later = rising_fits low c (later low ts) (later c ts) (later_rises low ts) (later_rises c ts) (all_in (later low ts) (λ x i. i))
      where
        all_in : (xs : List ℕ) → ((x : ℕ) → Memᴰ x xs → Memᴰ x (later low ts)) → All (λ x. Memᴰ x (later c ts)) xs
        all_in [] inside = tt
        all_in (x ∷ xs) inside = (
          (let w = in_times low x (inside x (Memᴰ.head refl)) in in_later c x (omega (arith, w.0)) w.1),
          all_in xs (λ y i. inside y (Memᴰ.tail i)),
        )

    -- So there are no more of them than events, and the places are enough.
    pub ranges_fit : length listed ≤ length (events c ts)
    ranges_fit = by listed ranges_apart ranges_begin (not_before test low end listed ranges_are)
      where
        some : (rs : List Range) → All (λ r. AtStart r.first) rs → All (λ x. Memᴰ x (events low ts)) (firsts rs)
        some [] a = tt
        some (r ∷ rs) a = (among r.first a.0, some rs a.1)

        -- all but the first are among the times after low
        by : (rs : List Range) → Apart rs → All (λ r. AtStart r.first) rs → All (λ r. low ≤ r.first) rs → length rs ≤ length (events c ts)
        by [] a b n = zero-le
        by (r ∷ rs) a b n =
            let above : All (λ s. low < s.first) rs = all_map (λ s. suc r.last < s.first) (λ s. low < s.first) (λ s h. omega (arith, h, a.0, n.0)) rs a.1 in
            let fit = rising_fits low low (firsts rs) (later low ts) (firsts_rise low rs above a.2) (later_rises low ts) (all_later rs above (some rs b.1)) in
            let more = fewer_later in
            let same = length_firsts rs in
            omega arith
          where
            all_later : (ss : List Range) → All (λ s. low < s.first) ss → All (λ x. Memᴰ x (events low ts)) (firsts ss) → All (λ x. Memᴰ x (later low ts)) (firsts ss)
            all_later [] a b = tt
            all_later (s ∷ ss) a b = (⊎_elim (λ (q : s.first ≡ low). absurd (omega (arith, a.0))) (λ i. i) (Memᴰ.cases_cons b.0), all_later ss a.1 b.1)

            length_firsts : (ss : List Range) → length (firsts ss) ≡ length ss
            length_firsts [] = refl
            length_firsts (s ∷ ss) = ap suc (length_firsts ss)

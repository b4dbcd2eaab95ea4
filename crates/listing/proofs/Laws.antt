-- What `ranges_from` gives, said of every minute of the window; one list only is that. So a loop that finds one range after the
-- other has found them.
use mathlib.Core.Path.{◌≡◌, refl, sym, ap, ap₂, subst}
use mathlib.Core.List.{List, [], ◌∷◌}
use mathlib.Core.Bool.{Bool, true, false}
use Prim.Native.Nat.{ℕ, zero, suc, ◌+◌, ◌-◌, ◌≤◌, ◌<◌}
use native.Mathlib.Nat.{le_refl}
use native.Mathlib.Decide.{ℕ_discrete, dec_lt}
use native.Mathlib.Omega.{arith}
use lib.Dec.{eqb}
use borrow.Author.Tests.{eqb-true}
use Rattle.units.proofs.Tests.{equals}
use Rattle.units.proofs.Search.{clash}
use Rattle.path_search.specs.Paths.{Graph}
use Rattle.path_search.proofs.Agree.{Agree, route_agree}
use Rattle.choice.specs.Earliest.{is_granted, can_start}
use Rattle.choice.specs.Choice.{grant_at, possible}
use Rattle.listing.specs.Ranges.{Range, beside, put_first, ranges_from, ranges}

module _ (test : ℕ → Bool) where
  -- r is the first range of the minutes i to e − 1 that pass
  pub record IsRange (i e : ℕ) (r : Range) : Type 0 where
    pub not_before : i ≤ r.first
    pub some : r.first ≤ r.last
    pub not_past : r.last < e
    pub fails_before : (m : ℕ) → i ≤ m → m < r.first → test m ≡ false
    pub passes : (m : ℕ) → r.first ≤ m → m ≤ r.last → test m ≡ true
    pub stops : suc r.last < e → test (suc r.last) ≡ false

  -- rs are all of them
  abbrev pub AreRanges : ℕ → ℕ → List Range → Type 0
  AreRanges i e [] = (m : ℕ) → i ≤ m → m < e → test m ≡ false
  AreRanges i e (r ∷ rs) = IsRange i e r × AreRanges (suc r.last) e rs

  -- minutes that fail may be put before them
  pub fails_first : (i j e : ℕ) → i ≤ j → ((m : ℕ) → i ≤ m → m < j → test m ≡ false) → (rs : List Range) → AreRanges j e rs → AreRanges i e rs
  fails_first i j e h fails [] a = λ m low high. elim (dec_lt m j) [ yes b ↦ fails m low b | no b ↦ a m (omega arith) high ]
  fails_first i j e h fails (r ∷ rs) a =
      let is = a.0 in (
        record {
          not_before = omega (arith, is.not_before);
          some = is.some;
          not_past = is.not_past;
          fails_before = λ m low high. elim (dec_lt m j) [ yes b ↦ fails m low b | no b ↦ is.fails_before m (omega arith) high ];
          passes = is.passes;
          stops = is.stops;
        },
        a.1,
      )

  -- and a minute that passes
  put_first_are : (i e : ℕ) → i < e → test i ≡ true → (rs : List Range) → AreRanges (suc i) e rs → AreRanges i e (put_first i rs)
  put_first_are i e h p [] a = (single, a)
    where
      single : IsRange i e (record { first = i; last = i })
      single = record {
        not_before = le_refl i;
        some = le_refl i;
        not_past = h;
        fails_before = λ m low high. absurd (omega arith);
        passes = λ m low high. let q : i ≡ m = omega arith in rw q at p;
        stops = λ b. a (suc i) (le_refl (suc i)) b;
      }
  put_first_are i e h p (r ∷ rs) a = by (eqb (suc i) r.first) refl
    where
      is : IsRange (suc i) e r
      is = a.0

      by : (t : Bool) → eqb (suc i) r.first ≡ t → AreRanges i e (beside t i r rs)
      by true q =
          let touch : suc i ≡ r.first = eqb-true (suc i) r.first q in (
            record {
              not_before = le_refl i;
              some = omega (arith, is.some);
              not_past = is.not_past;
              fails_before = λ m low high. absurd (omega arith);
              passes = λ m low high. elim (ℕ_discrete i m) [ yes e ↦ rw e at p | no d ↦ is.passes m (omega arith) high ];
              stops = is.stops;
            },
            a.1,
          )
      by false q = (
        record {
          not_before = le_refl i;
          some = le_refl i;
          not_past = h;
          fails_before = λ m low high. absurd (omega arith);
          passes = λ m low high. let s : i ≡ m = omega arith in rw s at p;
          stops = λ b. is.fails_before (suc i) (le_refl (suc i)) (apart is.not_before);
        },
        a,
      )
        where
          apart : suc i ≤ r.first → suc i < r.first
          apart le = elim (ℕ_discrete (suc i) r.first) [ yes s ↦ clash ((equals (suc i) r.first).1 s) q | no s ↦ omega arith ]

  pub are_ranges : (i n : ℕ) → AreRanges i (i + n) (ranges_from i n test)
  unfolding ranges_from
  are_ranges i zero = λ m low high. absurd (omega arith)
  are_ranges i (suc n) = by (test i) refl (subst (λ e. AreRanges (suc i) e (ranges_from (suc i) n test)) (omega arith) (are_ranges (suc i) n))
    where
      by : (t : Bool) → test i ≡ t → AreRanges (suc i) (i + suc n) (ranges_from (suc i) n test)
          → AreRanges i (i + suc n) (elim t [ true ↦ put_first i (ranges_from (suc i) n test) | false ↦ ranges_from (suc i) n test ])
      by true p later = put_first_are i (i + suc n) (omega arith) p (ranges_from (suc i) n test) later
      by false p later = fails_first i (suc i) (i + suc n) (omega arith) (λ m low high. let q : i ≡ m = omega arith in rw q at p) (ranges_from (suc i) n test) later

  -- ---- one list only

  first_only : (i e : ℕ) (r s : Range) → IsRange i e r → IsRange i e s → r.first ≤ s.first
  first_only i e r s a b =
      elim (dec_lt s.first r.first) [
        | yes h ↦ clash (b.passes s.first (le_refl _) b.some) (a.fails_before s.first b.not_before h)
        | no h ↦ omega arith
      ]

  last_only : (i e : ℕ) (r s : Range) → IsRange i e r → IsRange i e s → r.first ≡ s.first → r.last ≤ s.last
  last_only i e r s a b q =
      elim (dec_lt s.last r.last) [
        | yes h ↦ clash (a.passes (suc s.last) (omega (arith, b.some)) h) (b.stops (omega (arith, a.not_past)))
        | no h ↦ omega arith
      ]

  range_only : (i e : ℕ) (r s : Range) → IsRange i e r → IsRange i e s → r ≡ s
  range_only i e r s a b =
      let f : r.first ≡ s.first = omega (arith, first_only i e r s a b, first_only i e s r b a) in
      let l : r.last ≡ s.last = omega (arith, last_only i e r s a b f, last_only i e s r b a (sym f)) in
      λ j. record { first = f j; last = l j }

  pub are_only : (i e : ℕ) (rs ss : List Range) → AreRanges i e rs → AreRanges i e ss → rs ≡ ss
  are_only i e [] [] a b = refl
  are_only i e [] (s ∷ ss) a b = let is = b.0 in clash (is.passes s.first (le_refl _) is.some) (a s.first is.not_before (omega (arith, is.some, is.not_past)))
  are_only i e (r ∷ rs) [] a b = let is = a.0 in clash (is.passes r.first (le_refl _) is.some) (b r.first is.not_before (omega (arith, is.some, is.not_past)))
  are_only i e (r ∷ rs) (s ∷ ss) a b =
      let q = range_only i e r s a.0 b.0 in
      ap₂ ◌∷◌ q (are_only (suc s.last) e rs ss (subst (λ (x : Range). AreRanges (suc x.last) e rs) q a.1) b.1)

-- ---- the ranges depend on nothing but the test of the window's minutes

ranges_from_agree : (p q : ℕ → Bool) (i n : ℕ) → ((m : ℕ) → i ≤ m → m < i + n → p m ≡ q m) → ranges_from i n p ≡ ranges_from i n q
unfolding ranges_from
ranges_from_agree p q i zero same = refl
ranges_from_agree p q i (suc n) same =
    ap₂ (λ (t : Bool) rs. elim t [ true ↦ put_first i rs | false ↦ rs ]) (same i (le_refl i) (omega arith)) (ranges_from_agree p q (suc i) n (λ m a b. same m (omega arith) (omega arith)))

-- links that agree, and are tested alike in each minute of the window, give the same ranges
pub ranges_agree : (g h : Graph) (p q : ℕ → ℕ → Bool) (from to low latest : ℕ) → ((m : ℕ) → low ≤ m → m ≤ latest → Agree g h (p m) (q m))
    → ranges g p from to low latest ≡ ranges h q from to low latest
unfolding ranges can_start
ranges_agree g h p q from to low latest same =
    ranges_from_agree (possible g p from to) (possible h q from to) low (suc latest - low)
    (λ m a b. ap (λ r. is_granted (grant_at m r)) (route_agree g h (p m) (q m) (same m a (omega arith)) to from))

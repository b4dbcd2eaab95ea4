-- Where every path from a minute on breaks off: what the search for it finds, how a loop comes to it, and that it depends only on the
-- links and what they carry.
use mathlib.Core.Path.{◌≡◌, refl, sym, ◌∙◌, ap}
use mathlib.Core.Logic.{◌≢◌}
use mathlib.Core.List.{List}
use mathlib.Core.Bool.{Bool, true, false, not}
use Prim.Native.Nat.{ℕ, suc, ◌+◌, ◌-◌, ◌≤◌, ◌<◌}
use native.Mathlib.Decide.{dec_lt}
use native.Mathlib.Omega.{arith}
use Rattle.units.specs.Limits.{last_node}
use Rattle.units.specs.Search.{Found, at, nothing, found_or, first_from}
use Rattle.units.proofs.Search.{IsFirst, first_from_found, first_from_none, first_from_first, first_from_nothing, first_from_agree, not_true, clash}
use Rattle.path_search.specs.Paths.{Graph}
use Rattle.path_search.proofs.Agree.{Agree, route_agree}
use Rattle.path_search.proofs.Chains.{Way}
use Rattle.path_search.proofs.Loops.{NodesBelow}
use Rattle.choice.specs.Earliest.{is_granted, can_start}
use Rattle.choice.specs.Choice.{grant_at, possible}
use Rattle.choice.specs.BreakOff.{lasts, break_off}
use Rattle.choice.proofs.Choice.{possible_way, never}

fails_then : (b : Bool) → not b ≡ true → b ≡ false
fails_then true e = clash refl (sym e)
fails_then false e = refl

passes_then : (b : Bool) → not b ≡ false → b ≡ true
passes_then true e = refl
passes_then false e = clash refl e

module _ (g : Graph) (carries : ℕ → ℕ → ℕ → Bool) (from to n low : ℕ) where
  abbrev lasts_through : ℕ → Bool
  lasts_through = lasts g carries from to low

  abbrev broken : ℕ → Bool
  broken m = not (lasts_through m)

  -- a path lasts throughout low to each minute before m, and none throughout low to m
  pub record IsBreakOff (m : ℕ) : Type 0 where
    pub from_low : low ≤ m
    pub inside : m < low + n
    pub none_lasts : lasts_through m ≡ false
    pub lasts_before : (k : ℕ) → low ≤ k → k < m → lasts_through k ≡ true

  -- so it is where no path lasts throughout the n minutes
  pub break_off_is : 1 ≤ n → possible g (carries n) from to low ≡ false → IsBreakOff (break_off g carries from to n low)
  unfolding break_off
  break_off_is some none = by (first_from low n broken) refl
    where
      last : lasts_through (low + n - 1) ≡ false
      last = let all : suc (low + n - 1) - low ≡ n = omega arith in ap (λ k. possible g (carries k) from to low) all ∙ none

      by : (f : Found) → first_from low n broken ≡ f → IsBreakOff (found_or (low + n) f)
      by (at m) e =
          let r : IsFirst low n broken m = first_from_found broken low n e in
          record { from_low = r.low; inside = r.high; none_lasts = fails_then (lasts_through m) r.passes; lasts_before = λ k a b. passes_then (lasts_through k) (r.before k a b) }
      by nothing e = clash (passes_then (lasts_through (low + n - 1)) (first_from_none broken low n e (low + n - 1) (omega arith) (omega arith))) last

  -- a loop that has found paths up to m, and none beyond, has come to it
  pub break_off_at : (m : ℕ) → low ≤ m → m ≤ low + n → (m < low + n → lasts_through m ≡ false) → ((k : ℕ) → low ≤ k → k < m → lasts_through k ≡ true)
      → break_off g carries from to n low ≡ m
  unfolding break_off
  break_off_at m a b none before = elim (dec_lt m (low + n)) [
    | yes h ↦ ap (found_or (low + n)) (first_from_first broken low n m (record { low = a; high = h; passes = ap not (none h); before = λ k x y. ap not (before k x y) }))
    | no h ↦ ap (found_or (low + n)) (first_from_nothing broken low n (λ k x y. ap not (before k x (omega arith)))) ∙ omega arith
  ]

-- the same, of chains
module _ (g : Graph) (carries : ℕ → ℕ → ℕ → Bool) (from to n low : ℕ) (apart : from ≢ to) (below : NodesBelow g (suc last_node)) (node : from ≤ last_node) where
  abbrev WayTo : ℕ → List ℕ → Type 0
  WayTo m path = Way g (carries (suc m - low) low) to from path

  pub record ChainsBreakOff (m : ℕ) : Type 0 where
    pub from_low : low ≤ m
    pub none_lasts : (path : List ℕ) → ¬ WayTo m path
    pub lasts_before : (k : ℕ) → low ≤ k → k < m → (path : List ℕ) × WayTo k path

  pub chains_break_off : 1 ≤ n → ((path : List ℕ) → ¬ Way g (carries n low) to from path) → ChainsBreakOff (break_off g carries from to n low)
  chains_break_off some none =
      let impossible = not_true (possible g (carries n) from to low) (λ e. let w = possible_way g (carries n) from to low low apart below node low e in none w.0 w.1) in
      let b = break_off_is g carries from to n low some impossible in
      record {
        from_low = b.from_low;
        none_lasts = never g (carries (suc (break_off g carries from to n low) - low)) from to low low apart below node low b.none_lasts;
        lasts_before = λ k x y. possible_way g (carries (suc k - low)) from to low low apart below node low (b.lasts_before k x y);
      }

-- links that agree and are tested alike in each minute have the same
pub lasts_agree : (g h : Graph) (p q : ℕ → ℕ → Bool) (from to low : ℕ) → Agree g h (p low) (q low) → possible g p from to low ≡ possible h q from to low
unfolding can_start
lasts_agree g h p q from to low same = ap (λ r. is_granted (grant_at low r)) (route_agree g h (p low) (q low) same to from)

pub break_off_agree : (g h : Graph) (p q : ℕ → ℕ → ℕ → Bool) (from to n low : ℕ) → ((k : ℕ) → 1 ≤ k → k ≤ n → Agree g h (p k low) (q k low))
    → break_off g p from to n low ≡ break_off h q from to n low
unfolding break_off
break_off_agree g h p q from to n low same =
    ap (found_or (low + n)) (first_from_agree _ _ low n (λ m a b. ap not (lasts_agree g h (p (suc m - low)) (q (suc m - low)) from to low (same (suc m - low) (omega arith) (omega arith)))))

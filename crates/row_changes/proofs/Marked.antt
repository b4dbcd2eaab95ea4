-- The sets of the rows, one place after the other.
use mathlib.Core.Path.{◌≡◌, refl, sym, ap, ◌∙◌, subst}
use mathlib.Core.Logic.{◌↔◌}
use mathlib.Core.List.{List}
use mathlib.Core.Bool.{Bool, true, false, ◌&&◌, ◌||◌, and-eq-true_iff}
use Prim.Native.Nat.{ℕ, ◌+◌, ◌^◌, ◌<◌}
use native.Mathlib.Decide.{ℕ_discrete}
use native.Mathlib.Omega.{arith}
use lib.Dec.{eqb, ltb}
use lib.ListN.{length, get_or}
use lib.Seq.{get_or-set_same, get_or-set_other}
use borrow.Author.Tests.{eq-eqb, ne_eqb, lt-ltb, le-ltb}
use Rattle.std.specs.Int.Bits.{bit_or}
use Rattle.units.specs.Sets.{has}
use Rattle.units.proofs.Sets.{has_none, has_or, has_power}
use Rattle.units.proofs.Tests.{Order, less, same, more, order}
use Rattle.row_changes.specs.Changes.{with_place, Marks}

or_none : (b : Bool) → (b || false) ≡ b
or_none true = refl
or_none false = refl

pub none_marked : (row : ℕ → ℕ) (sets : List ℕ) → ((r : ℕ) → get_or sets r 0 ≡ 0) → Marks row 0 sets
none_marked row sets h r i = ap (λ s. has s i) (h r) ∙ has_none i ∙ sym (ap (λ b. b && eqb (row i) r) (le-ltb i 0 (omega arith)))

module _ (row : ℕ → ℕ) (n : ℕ) (sets : List ℕ) (inside : row n < length sets) (m : Marks row n sets) where
  pub marked_next : Marks row (n + 1) (with_place (row n) n sets)
  marked_next r i = by (order r (row n))
    where
      elsewhere : (r ≡ row n → ⊥) → has (get_or (with_place (row n) n sets) r 0) i ≡ (ltb i (n + 1) && eqb (row i) r)
      elsewhere d = ap (λ s. has s i) (get_or-set_other sets (row n) r (bit_or (get_or sets (row n) 0) (2 ^ n)) 0 d) ∙ m r i ∙ at (order i n)
        where
          at : Order i n → (ltb i n && eqb (row i) r) ≡ (ltb i (n + 1) && eqb (row i) r)
          at (less h) = rw (lt-ltb i n h, lt-ltb i (n + 1) (omega arith)) refl
          at (same e) = rw (e, ne_eqb (row n) r (λ q. d (sym q)), le-ltb n n (omega arith), lt-ltb n (n + 1) (omega arith)) refl
          at (more h) = rw (le-ltb i n (omega arith), le-ltb i (n + 1) (omega arith)) refl

      here : r ≡ row n → has (get_or (with_place (row n) n sets) r 0) i ≡ (ltb i (n + 1) && eqb (row i) r)
      here e =
          ap (λ k. has (get_or (with_place (row n) n sets) k 0) i) e
          ∙ ap (λ s. has s i) (get_or-set_same sets (row n) (bit_or (get_or sets (row n) 0) (2 ^ n)) 0 inside)
          ∙ has_or (get_or sets (row n) 0) (2 ^ n) i
          ∙ rw (m (row n) i, has_power n i, e) (at (order i n))
        where
          at : Order i n → ((ltb i n && eqb (row i) (row n)) || eqb i n) ≡ (ltb i (n + 1) && eqb (row i) (row n))
          at (less h) = rw (lt-ltb i n h, lt-ltb i (n + 1) (omega arith), ne_eqb i n (λ q. omega arith)) (or_none (eqb (row i) (row n)))
          at (same q) = rw (q, eq-eqb (row n) (row n) refl, le-ltb n n (omega arith), lt-ltb n (n + 1) (omega arith), eq-eqb n n refl) refl
          at (more h) = rw (le-ltb i n (omega arith), le-ltb i (n + 1) (omega arith), ne_eqb i n (λ q. omega arith)) refl

      by : Order r (row n) → has (get_or (with_place (row n) n sets) r 0) i ≡ (ltb i (n + 1) && eqb (row i) r)
      by (less h) = elsewhere (λ e. omega arith)
      by (same e) = here e
      by (more h) = elsewhere (λ e. omega arith)

-- ---- whether each place's two minutes were found

pub found_next : (P Q : ℕ → Type 0) (n : ℕ) (found a b : Bool) → ((found ≡ true) ↔ ((i : ℕ) → i < n → P i × Q i)) → ((a ≡ true) ↔ P n) → ((b ≡ true) ↔ Q n)
    → (((found && a) && b) ≡ true) ↔ ((i : ℕ) → i < n + 1 → P i × Q i)
found_next P Q n found a b f s e = ((λ t i h. so t i h), back)
  where
    so : ((found && a) && b) ≡ true → (i : ℕ) → i < n + 1 → P i × Q i
    so t i h =
        let two = (and-eq-true_iff (found && a) b).0 t in
        let one = (and-eq-true_iff found a).0 two.0 in
        elim (ℕ_discrete i n) [ yes q ↦ subst (λ k. P k × Q k) (sym q) (s.0 one.1, e.0 two.1) | no d ↦ f.0 one.0 i (omega arith) ]

    back : ((i : ℕ) → i < n + 1 → P i × Q i) → ((found && a) && b) ≡ true
    back h =
        let last = h n (omega arith) in
        (and-eq-true_iff (found && a) b).1 ((and-eq-true_iff found a).1 (f.1 (λ i k. h i (omega arith)), s.1 last.0), e.1 last.1)

-- Along some places of a list: a loop one place further, and what it makes of each figure.
use mathlib.Core.Path.{◌≡◌, refl, sym, ◌∙◌, ap, subst}
use mathlib.Core.List.{List, [], ◌∷◌, Memᴰ}
use mathlib.Core.Bool.{Bool, true, false, ◌||◌, true≢false}
use Prim.Native.Nat.{ℕ, zero, suc, ◌+◌, ◌-◌, ◌*◌, ◌≤◌, ◌<◌}
use native.Mathlib.Numerals.{add-one}
use native.Mathlib.Omega.{arith}
use lib.Dec.{eqb}
use lib.ListN.{length, get_or, set, drop, drop_of_length-le, length-set}
use lib.Seq.{drop-cons, get_or-set_same, get_or-set_other}
use borrow.Author.Tests.{eq-eqb, ne_eqb, eqb-true}
use Rattle.units.specs.Lists.{if_so, member, All, Distinct}
use Rattle.units.specs.Along.{more_along, less_along}
use Rattle.units.proofs.Tests.{Order, less, same, more, order, absent_test, if_so_most}

-- from place i of the path on
module _ (x : ℕ) (path : List ℕ) (i : ℕ) (t : List ℕ) where
  pub more_next : i < length path → more_along x (drop i path) t ≡ more_along x (drop (i + 1) path) (set t (get_or path i 0) (get_or t (get_or path i 0) 0 + x))
  unfolding more_along
  more_next h = rw (add-one, drop-cons path i 0 h)

  pub more_done : length path ≤ i → more_along x (drop i path) t ≡ t
  unfolding more_along
  more_done h = rw (drop_of_length-le path h)

  pub less_next : i < length path → less_along x (drop i path) t ≡ less_along x (drop (i + 1) path) (set t (get_or path i 0) (get_or t (get_or path i 0) 0 - x))
  unfolding less_along
  less_next h = rw (add-one, drop-cons path i 0 h)

  pub less_done : length path ≤ i → less_along x (drop i path) t ≡ t
  unfolding less_along
  less_done h = rw (drop_of_length-le path h)

pub length_more : (x : ℕ) (path : List ℕ) (t : List ℕ) → length (more_along x path t) ≡ length t
unfolding more_along
length_more x [] t = refl
length_more x (l ∷ ls) t = length_more x ls (set t l (get_or t l 0 + x)) ∙ length-set t l (get_or t l 0 + x)

pub length_less : (x : ℕ) (path : List ℕ) (t : List ℕ) → length (less_along x path t) ≡ length t
unfolding less_along
length_less x [] t = refl
length_less x (l ∷ ls) t = length_less x ls (set t l (get_or t l 0 - x)) ∙ length-set t l (get_or t l 0 - x)

-- a place is met once
once : (u v : Bool) (a w : ℕ) → (u ≡ true → v ≡ false) → a + if_so u w + if_so v w ≡ a + if_so (u || v) w
once true true a w h = absurd (true≢false (h refl))
once true false a w h = omega arith
once false v a w h = omega arith

-- one figure after another was put in a place
module _ (t : List ℕ) (l : ℕ) (inside : l < length t) where
  put_at : (y j : ℕ) (G : ℕ → Type 0) → (j ≡ l → G y) → ((j ≡ l → ⊥) → G (get_or t j 0)) → G (get_or (set t l y) j 0)
  put_at y j G here there = by (order j l)
    where
      by : Order j l → G (get_or (set t l y) j 0)
      by (less d) = rw (get_or-set_other t l j y 0 (λ e. omega arith)) (there (λ e. omega arith))
      by (same e) = rw (e, get_or-set_same t l y 0 inside) (here e)
      by (more d) = rw (get_or-set_other t l j y 0 (λ e. omega arith)) (there (λ e. omega arith))

  pub added_at : (x j : ℕ) → get_or (set t l (get_or t l 0 + x)) j 0 ≡ get_or t j 0 + if_so (eqb j l) x
  added_at x j = put_at (get_or t l 0 + x) j (λ y. y ≡ get_or t j 0 + if_so (eqb j l) x) (λ e. rw (e, eq-eqb l l refl) (omega arith)) (λ d. rw (ne_eqb j l d) (omega arith))

  pub taken_at : (x j : ℕ) → get_or (set t l (get_or t l 0 - x)) j 0 ≡ get_or t j 0 - if_so (eqb j l) x
  taken_at x j = put_at (get_or t l 0 - x) j (λ y. y ≡ get_or t j 0 - if_so (eqb j l) x) (λ e. rw (e, eq-eqb l l refl) refl) (λ d. rw (ne_eqb j l d) (omega arith))

  -- what the other places had is there still
  pub others_kept : (x y : ℕ) (ls : List ℕ) → ¬ Memᴰ l ls → All (λ m. x ≤ get_or t m 0) ls → All (λ m. x ≤ get_or (set t l y) m 0) ls
  others_kept x y [] d a = tt
  others_kept x y (m ∷ ls) d a = (put_at y m (λ z. x ≤ z) (λ e. absurd (d (Memᴰ.head (sym e)))) (λ e. a.0), others_kept x y ls (λ k. d (Memᴰ.tail k)) a.1)

-- and after all of them
pub more_at : (x : ℕ) (path : List ℕ) (t : List ℕ) → Distinct path → All (λ l. l < length t) path → (j : ℕ) → get_or (more_along x path t) j 0 ≡ get_or t j 0 + if_so (member j path) x
unfolding more_along member
more_at x [] t d a j = omega arith
more_at x (l ∷ ls) t d a j =
    more_at x ls (set t l (get_or t l 0 + x)) d.1 (rw length-set a.1) j
    ∙ ap (λ y. y + if_so (member j ls) x) (added_at t l a.0 x j)
    ∙ once (eqb j l) (member j ls) (get_or t j 0) x (λ e. absent_next e)
  where
    absent_next : eqb j l ≡ true → member j ls ≡ false
    absent_next e = rw (eqb-true j l e) (absent_test l ls d.0)

less_once : (u v : Bool) (a w : ℕ) → (u ≡ true → v ≡ false) → a - if_so u w - if_so v w ≡ a - if_so (u || v) w
less_once true true a w h = absurd (true≢false (h refl))
less_once true false a w h = omega arith
less_once false v a w h = omega arith

pub less_at : (x : ℕ) (path : List ℕ) (t : List ℕ) → Distinct path → All (λ l. l < length t) path → (j : ℕ) → get_or (less_along x path t) j 0 ≡ get_or t j 0 - if_so (member j path) x
unfolding less_along member
less_at x [] t d a j = omega arith
less_at x (l ∷ ls) t d a j =
    less_at x ls (set t l (get_or t l 0 - x)) d.1 (rw length-set a.1) j
    ∙ ap (λ y. y - if_so (member j ls) x) (taken_at t l a.0 x j)
    ∙ less_once (eqb j l) (member j ls) (get_or t j 0) x (λ e. absent_next e)
  where
    absent_next : eqb j l ≡ true → member j ls ≡ false
    absent_next e = rw (eqb-true j l e) (absent_test l ls d.0)

-- ---- a loop that adds to each place of a path, at place i: no figure grows past what one figure more allows
pub record Adding (size n most x : ℕ) (path before : List ℕ) (i : ℕ) (t : List ℕ) : Type 0 where
  pub rest : more_along x path before ≡ more_along x (drop i path) t
  pub sized : length t ≡ size
  pub few : (l : ℕ) → get_or t l 0 ≤ (n + i) * most

module _ {size n most x : ℕ} {path before : List ℕ} {i : ℕ} {t : List ℕ} (a : Adding size n most x path before i t) where
  pub added_one : x ≤ most → i < length path → get_or path i 0 < size → Adding size n most x path before (i + 1) (set t (get_or path i 0) (get_or t (get_or path i 0) 0 + x))
  added_one fits inside there = record {
    rest = a.rest ∙ more_next x path i t inside;
    sized = length-set t (get_or path i 0) (get_or t (get_or path i 0) 0 + x) ∙ a.sized;
    few = λ j. omega (arith, added_at t (get_or path i 0) (omega (arith, a.sized)) x j, if_so_most (eqb j (get_or path i 0)) x, a.few j);
  }

distinct_drop : (i : ℕ) (xs : List ℕ) → Distinct xs → Distinct (drop i xs)
distinct_drop zero xs d = d
distinct_drop (suc i) [] d = d
distinct_drop (suc i) (x ∷ xs) d = distinct_drop i xs d.1

-- ---- a loop that takes from each, at place i: the places that are left have enough
pub record Taking (size x : ℕ) (path before : List ℕ) (i : ℕ) (t : List ℕ) : Type 0 where
  pub rest : less_along x path before ≡ less_along x (drop i path) t
  pub sized : length t ≡ size
  pub enough : All (λ l. x ≤ get_or t l 0) (drop i path)

module _ {size x : ℕ} {path before : List ℕ} {i : ℕ} {t : List ℕ} (a : Taking size x path before i t) (differ : Distinct path) (inside : i < length path) where
  here : drop i path ≡ get_or path i 0 ∷ drop (i + 1) path
  here = rw add-one (drop-cons path i 0 inside)

  enough_here : All (λ l. x ≤ get_or t l 0) (get_or path i 0 ∷ drop (i + 1) path)
  enough_here = subst (All (λ l. x ≤ get_or t l 0)) here a.enough

  pub enough_now : x ≤ get_or t (get_or path i 0) 0
  enough_now = enough_here.0

  pub taken_one : get_or path i 0 < size → Taking size x path before (i + 1) (set t (get_or path i 0) (get_or t (get_or path i 0) 0 - x))
  taken_one there =
      let apart : Distinct (get_or path i 0 ∷ drop (i + 1) path) = subst Distinct here (distinct_drop i path differ) in
      record {
        rest = a.rest ∙ less_next x path i t inside;
        sized = length-set t (get_or path i 0) (get_or t (get_or path i 0) 0 - x) ∙ a.sized;
        enough = others_kept t (get_or path i 0) (omega (arith, a.sized)) x (get_or t (get_or path i 0) 0 - x) (drop (i + 1) path) apart.0 enough_here.1;
      }

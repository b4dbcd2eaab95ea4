-- The book by rising number, for bookings of any kind.
use mathlib.Core.Path.{◌≡◌, refl, sym, ap, ap₂, ◌∙◌}
use mathlib.Core.List.Memᴰ
use mathlib.Core.List.Permᴰ
use mathlib.Core.List.{List, [], ◌∷◌, Permᴰ}
use mathlib.Core.Bool.{Bool, true, false}
use Prim.Native.Nat.{ℕ, ◌≤◌, ◌<◌}
use native.Mathlib.Omega.{arith}
use lib.Dec.{ltb, eqb}
use borrow.Author.Tests.{lt-ltb, le-ltb, ltb-true, ltb-false, eqb-false}
use Rattle.units.specs.Lists.{member, All, Distinct}
use Rattle.units.proofs.Tests.{absent_test, or_left, or_right, Rising, Order, less, same, more, order, Side, below, above, side}
use Rattle.units.proofs.Permuted.{member_permuted, distinct_permuted}
use Rattle.plain_book.specs.Bookings as bookings

module _ {B : Type 0} (number : B → ℕ) where
  abbrev numbers : List B → List ℕ
  numbers = bookings.numbers number

  abbrev beside : Bool → B → B → List B → List B → List B
  beside = bookings.beside number

  abbrev insert_by_number : B → List B → List B
  insert_by_number = bookings.insert_by_number number

  abbrev by_number : List B → List B
  by_number = bookings.by_number number

  pub insert_before : (b c : B) (cs : List B) → number b < number c → insert_by_number b (c ∷ cs) ≡ b ∷ c ∷ cs
  unfolding bookings.insert_by_number
  insert_before b c cs h = rw (lt-ltb (number b) (number c) h)

  pub insert_behind : (b c : B) (cs : List B) → number c ≤ number b → insert_by_number b (c ∷ cs) ≡ c ∷ insert_by_number b cs
  unfolding bookings.insert_by_number
  insert_behind b c cs h = rw (le-ltb (number b) (number c) h)

  pub insert_first : (b : B) → insert_by_number b [] ≡ b ∷ []
  unfolding bookings.insert_by_number
  insert_first b = refl

  insert_step : (a b c : B) (cs : List B) → number a < number b → insert_by_number a (insert_by_number b cs) ≡ insert_by_number b (insert_by_number a cs)
      → Side (number a) (number c) → Side (number b) (number c) → insert_by_number a (insert_by_number b (c ∷ cs)) ≡ insert_by_number b (insert_by_number a (c ∷ cs))
  insert_step a b c cs h ih (below p) (below q) = let le : number a ≤ number b = omega arith in simp (insert_before, insert_behind)
  insert_step a b c cs h ih (below p) (above q) = let le : number a ≤ number b = omega arith in simp (insert_before, insert_behind)
  insert_step a b c cs h ih (above p) (below q) = absurd (omega arith)
  insert_step a b c cs h ih (above p) (above q) = simp (insert_behind, ih)

  insert_two : (a b : B) (cs : List B) → number a < number b → insert_by_number a (insert_by_number b cs) ≡ insert_by_number b (insert_by_number a cs)
  insert_two a b [] h = let le : number a ≤ number b = omega arith in simp (insert_first, insert_before, insert_behind)
  insert_two a b (c ∷ cs) h = insert_step a b c cs h (insert_two a b cs h) (side (number a) (number c)) (side (number b) (number c))

  insert_swap : (a b : B) (cs : List B) → (number a ≡ number b → ⊥) → insert_by_number a (insert_by_number b cs) ≡ insert_by_number b (insert_by_number a cs)
  insert_swap a b cs ne = by (order (number a) (number b))
    where
      by : Order (number a) (number b) → insert_by_number a (insert_by_number b cs) ≡ insert_by_number b (insert_by_number a cs)
      by (less h) = insert_two a b cs h
      by (same h) = absurd (ne h)
      by (more h) = sym (insert_two b a cs h)

  -- where no number is twice the order of the bookings doesn't count
  pub by_number_permuted : {bs cs : List B} → Permᴰ bs cs → Distinct (numbers bs) → by_number bs ≡ by_number cs
  unfolding bookings.by_number
  by_number_permuted Permᴰ.nil d = refl
  by_number_permuted (Permᴰ.cons e q) d = ap₂ insert_by_number e (by_number_permuted q d.1)
  by_number_permuted (Permᴰ.swap {a = a} {b = b} {l = bs} s e) d =
      insert_swap a b (by_number bs) (λ q. d.0 (Memᴰ.head q)) ∙ ap₂ (λ x y. insert_by_number x (insert_by_number y (by_number bs))) e s
  by_number_permuted (Permᴰ.trans q r) d = by_number_permuted q d ∙ by_number_permuted r (distinct_permuted (Permᴰ.map number q) d)

  insert_is : (b : B) (cs : List B) → Permᴰ (insert_by_number b cs) (b ∷ cs)
  unfolding bookings.insert_by_number
  insert_is b [] = Permᴰ.cons refl Permᴰ.nil
  insert_is b (c ∷ cs) = by (ltb (number b) (number c)) (insert_is b cs)
    where
      by : (t : Bool) → Permᴰ (insert_by_number b cs) (b ∷ cs) → Permᴰ (beside t b c cs (insert_by_number b cs)) (b ∷ c ∷ cs)
      by true ih = Permᴰ.refl (b ∷ c ∷ cs)
      by false ih = Permᴰ.trans (Permᴰ.cons refl ih) (Permᴰ.swap refl refl)

  pub by_number_is : (bs : List B) → Permᴰ (by_number bs) bs
  unfolding bookings.by_number
  by_number_is [] = Permᴰ.nil
  by_number_is (b ∷ bs) = Permᴰ.trans (insert_is b (by_number bs)) (Permᴰ.cons refl (by_number_is bs))

  insert_rises : (n : ℕ) (b : B) (cs : List B) → n < number b → member (number b) (numbers cs) ≡ false → Rising n (numbers cs) → Rising n (numbers (insert_by_number b cs))
  unfolding bookings.insert_by_number member
  insert_rises n b [] h d r = (h, tt)
  insert_rises n b (c ∷ cs) h d r = by (ltb (number b) (number c)) refl (λ q. insert_rises (number c) b cs q (or_right (eqb (number b) (number c)) (member (number b) (numbers cs)) d) r.1)
    where
      other : number b ≡ number c → ⊥
      other = eqb-false (number b) (number c) (or_left (eqb (number b) (number c)) (member (number b) (numbers cs)) d)

      by : (t : Bool) → ltb (number b) (number c) ≡ t → (number c < number b → Rising (number c) (numbers (insert_by_number b cs))) → Rising n (numbers (beside t b c cs (insert_by_number b cs)))
      by true e ih = (h, (ltb-true (number b) (number c) e, r.1))
      by false e ih = (r.0, ih (let k : number c ≤ number b = ltb-false (number b) (number c) e in let ne : (number b ≡ number c → ⊥) = other in omega arith))

  pub by_number_rises : (bs : List B) → Distinct (numbers bs) → All (λ b. 1 ≤ number b) bs → Rising 0 (numbers (by_number bs))
  unfolding bookings.by_number
  by_number_rises [] d a = tt
  by_number_rises (b ∷ bs) d a =
      insert_rises 0 b (by_number bs) a.0 (member_permuted (number b) (Permᴰ.map number (by_number_is bs)) ∙ absent_test (number b) (numbers bs) d.0) (by_number_rises bs d.1 a.1)

  -- a book in order stays as it is
  pub by_number_fixed : (n : ℕ) (bs : List B) → Rising n (numbers bs) → by_number bs ≡ bs
  unfolding bookings.by_number
  by_number_fixed n [] r = refl
  by_number_fixed n (b ∷ bs) r = ap (insert_by_number b) (by_number_fixed (number b) bs r.1) ∙ front bs r.1
    where
      front : (cs : List B) → Rising (number b) (numbers cs) → insert_by_number b cs ≡ b ∷ cs
      front [] q = insert_first b
      front (c ∷ cs) q = insert_before b c cs q.0

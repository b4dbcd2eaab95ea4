-- A book that stands in order of its numbers: where a booking is put in, and where one is taken out.
use mathlib.Core.Path.{◌≡◌, refl, sym, ap, ◌∙◌}
use mathlib.Core.List.Memᴰ
use mathlib.Core.List.{List, [], ◌∷◌, ◌++◌, Memᴰ}
use mathlib.Core.Bool.{not}
use Prim.Native.Nat.{ℕ}
use lib.Dec.{leb, eqb}
use lib.ListN.{take, drop}
use borrow.Author.Tests.{lt-leb, le-leb, eq-eqb, ne_eqb}
use Rattle.units.specs.Lists.{select, Distinct}
use Rattle.units.proofs.Tests.{Side, below, above, side}
use Rattle.places.specs.Places.{slot_among, further}
use Rattle.rules.specs.Plain.{Booking}
use Rattle.rules.specs.Calls.{numbers}
use Rattle.rules.specs.Tables.{insert_by_number}
use Rattle.rules.proofs.Book.{insert_before, insert_behind, insert_first}

-- a booking is put in behind those whose number is not above its own
pub book_split : (b : Booking) (cs : List Booking) → insert_by_number b cs ≡ take (slot_among b.number (numbers cs)) cs ++ (b ∷ drop (slot_among b.number (numbers cs)) cs)
unfolding slot_among
book_split b [] = insert_first b
book_split b (c ∷ cs) = by (side b.number c.number) (book_split b cs)
  where
    n : ℕ
    n = b.number

    by : Side n c.number → insert_by_number b cs ≡ take (slot_among n (numbers cs)) cs ++ (b ∷ drop (slot_among n (numbers cs)) cs)
        → insert_by_number b (c ∷ cs) ≡ take (further (leb c.number n) (slot_among n (numbers cs))) (c ∷ cs) ++ (b ∷ drop (further (leb c.number n) (slot_among n (numbers cs))) (c ∷ cs))
    by (below h) ih = insert_before b c cs h ∙ rw (lt-leb c.number n h)
    by (above h) ih = insert_behind b c cs h ∙ rw (le-leb c.number n h) (ap (λ (x : List Booking). c ∷ x) ih)

-- a number that stands at place i is taken out there
pub book_without : (n : ℕ) (xs : List Booking) (b : Booking) (ys : List Booking) → b.number ≡ n → Distinct (numbers (xs ++ (b ∷ ys))) → select (λ c. not (eqb n c.number)) (xs ++ (b ∷ ys)) ≡ xs ++ ys
unfolding select
book_without n xs b ys e d = in_front xs d
  where
    kept : (cs : List Booking) → (Memᴰ n (numbers cs) → ⊥) → select (λ c. not (eqb n c.number)) cs ≡ cs
    kept [] h = refl
    kept (c ∷ cs) h = rw (ne_eqb n c.number (λ q. h (Memᴰ.head q))) (ap (λ (x : List Booking). c ∷ x) (kept cs (λ m. h (Memᴰ.tail m))))

    there : (cs : List Booking) → Memᴰ b.number (numbers (cs ++ (b ∷ ys)))
    there [] = Memᴰ.head refl
    there (c ∷ cs) = Memᴰ.tail (there cs)

    in_front : (cs : List Booking) → Distinct (numbers (cs ++ (b ∷ ys))) → select (λ c. not (eqb n c.number)) (cs ++ (b ∷ ys)) ≡ cs ++ ys
    in_front [] d = rw (eq-eqb n b.number (sym e)) (kept ys (λ m. d.0 (Memᴰ.cast e m)))
    in_front (c ∷ cs) d = rw (ne_eqb n c.number (λ q. d.0 (Memᴰ.cast (sym q ∙ sym e) (there cs)))) (ap (λ (x : List Booking). c ∷ x) (in_front cs d.1))

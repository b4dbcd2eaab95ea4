-- The places of a book table one after the other, as a walk over the pieces of a slice gives them.
use mathlib.Core.Path.{◌≡◌, refl, sym, ap, ap₂, ◌∙◌}
use mathlib.Core.List.{List, [], ◌∷◌, ◌++◌, map}
use mathlib.Core.Bool.{Bool, true, false, cond}
use Prim.Native.Nat.{ℕ, zero, suc, ◌+◌, ◌*◌, ◌/◌, ◌≤◌, ◌<◌}
use native.Mathlib.Nat.{add-div_left, div-eq_of_lt, zero-mul}
use native.Mathlib.Numerals.{add-one, one-add}
use native.Mathlib.Omega.{arith}
use denote.Ref.{Bor}
use lib.Dec.{leb}
use lib.ListN.{length, get_or, take, replicate, length-append, length-replicate, get_or-append, get_or-replicate}
use lib.Seq.{get_or-append-add}
use Rattle.std.specs.Iterator.{CallableAtEachTurn}
use Rattle.std.specs.Iterator.Adapters.{take_source, take_count, take_steps}
use Rattle.std.specs.Slice.Iter.{chunks_exact_rest, chunks_exact_size, chunks_exact_steps}
use Rattle.std.proofs.lemmas.Iterator.{YieldsList, YieldsList-from_take}
use Rattle.std.proofs.lemmas.Iterator.Adapters.{serves_from_places}
use Rattle.std.proofs.lemmas.Iterator.Consumers.{YieldsList-at}
use Rattle.std.proofs.lemmas.Iterator.Splits.{YieldsList-from_shown_while}
use Rattle.std.specs.List.{take-map, prefix_len}
use Rattle.std.proofs.lemmas.List.{take-replicate}
use Rattle.std.proofs.lemmas.Nat.{le-div}
use Rattle.units.specs.Lists.{count_from}
use Rattle.places.specs.Places.{number_at, numbers_in, slot_among, further}

-- the first n of m numbers
first_counts : (i n m : ℕ) → n ≤ m → take n (count_from i m) ≡ count_from i n
unfolding count_from
first_counts i zero m h = refl
first_counts i (suc n) zero h = absurd (omega arith)
first_counts i (suc n) (suc m) h = ap (λ (l : List ℕ). i ∷ l) (first_counts (suc i) n m (omega arith))

module _ (size : ℕ) (some : 0 < size) where
  -- what a walk reads of the pieces of a list, where `all` reads the same of its places
  module _ {B : Type 0} (read : List ℕ → B) (all : List ℕ → ℕ → List B) (none : (book : List ℕ) → all book 0 ≡ [])
      (more : (first rest : List ℕ) (n : ℕ) → length first ≡ size → all (first ++ rest) (suc n) ≡ read first ∷ all rest n) where
    walked : {s : _} (book : List ℕ) → chunks_exact_rest s ≡ book → chunks_exact_size s ≡ size → YieldsList chunks_exact_steps (λ x. read x.now) s (all book (length book / size))
    walked {s} book e z = rw (← e)
        (YieldsList-from_shown_while chunks_exact_steps (λ x. read x.now) (λ t. all (chunks_exact_rest t) (length (chunks_exact_rest t) / size)) (λ t. chunks_exact_size t ≡ size)
        (λ t u p h. ap length (ap (all (chunks_exact_rest t)) (div-eq_of_lt (rw (← p) h.1.0)) ∙ none (chunks_exact_rest t)))
        (λ t x u p h. (h.0 ∙ p, ap₂ all h.1.0 (count x.now (chunks_exact_rest t) (chunks_exact_rest u) h.1.0 (h.1.1 ∙ p)) ∙ more x.now (chunks_exact_rest u) _ (h.1.1 ∙ p)))
        s z)
      where
        count : (first whole rest : List ℕ) → whole ≡ first ++ rest → length first ≡ size → length whole / size ≡ suc (length rest / size)
        count first whole rest f l = ap (λ n. n / size) (omega (arith, ap length f, length-append first rest, l)) ∙ add-div_left (length rest) some ∙ add-one (length rest / size)

  numbers_behind : (first rest : List ℕ) → length first ≡ size → (i n : ℕ) → map (number_at size (first ++ rest)) (count_from (suc i) n) ≡ map (number_at size rest) (count_from i n)
  unfolding count_from
  numbers_behind first rest l i zero = refl
  numbers_behind first rest l i (suc n) =
      let at : suc i * size ≡ length first + i * size = omega (arith, l) in
      ap₂ ◌∷◌ (rw at (get_or-append-add first rest (i * size) 0)) (numbers_behind first rest l (suc i) n)

  numbers_more : (first rest : List ℕ) (n : ℕ) → length first ≡ size → numbers_in size (first ++ rest) (suc n) ≡ get_or first 0 0 ∷ numbers_in size rest n
  unfolding count_from
  numbers_more first rest n l = ap₂ ◌∷◌ (ap (λ k. get_or (first ++ rest) k 0) (zero-mul size) ∙ get_or-append first rest 0 0 (omega (arith, l))) (numbers_behind first rest l 0 n)

  numbers_none : (book : List ℕ) → numbers_in size book 0 ≡ []
  unfolding count_from
  numbers_none book = refl

  module _ {s : _} (book : List ℕ) (count : ℕ) {t : _} (source : take_source s ≡ t) (limit : take_count s ≡ count) (rest : chunks_exact_rest t ≡ book) (each : chunks_exact_size t ≡ size) (inside : count * size ≤ length book) where
    few : count ≤ length book / size
    few = le-div count (length book) size some inside

    -- the first number of each piece is that of its place
    pub numbers_walked : YieldsList (take_steps chunks_exact_steps) (λ x. get_or x.now 0 0) s (numbers_in size book count)
    numbers_walked =
        rw (← numbers_taken)
        (YieldsList-from_take count (YieldsList-at source (walked (λ first. get_or first 0 0) (numbers_in size) numbers_none numbers_more book rest each)) limit)
      where
        numbers_taken : take count (numbers_in size book (length book / size)) ≡ numbers_in size book count
        numbers_taken = take-map (number_at size book) count (count_from 0 (length book / size)) ∙ ap (map (number_at size book)) (first_counts 0 count (length book / size) few)

    sizes_walked : YieldsList (take_steps chunks_exact_steps) (λ x. length x.now) s (replicate count size)
    sizes_walked =
        rw (← take-replicate count (length book / size) size few)
        (YieldsList-from_take count (YieldsList-at source (walked length (λ _ n. replicate n size) (λ _. refl) (λ first rest n l. ap (λ k. k ∷ replicate n size) (sym l)) book rest each)) limit)

    -- none is empty, so a closure may read it
    pub numbers_read : {F : Type 0} {R : F → Bor (List ℕ) → F → Type 0} {Q : F → Bor (List ℕ) → Type 0} {f : F} → ((x : Bor (List ℕ)) (q : F) → R f x q → q ≡ f) → ((x : Bor (List ℕ)) → 0 < length x.now → Q f x)
        → CallableAtEachTurn (take_steps chunks_exact_steps) R Q s f
    numbers_read keeps reads = serves_from_places sizes_walked keeps (λ x k h e. reads x (filled k (length x.now) h e))
      where
        filled : (k piece : ℕ) → k < length (replicate count size) → piece ≡ get_or (replicate count size) k piece → 0 < piece
        filled k piece h e = let below : k < count = omega (arith, length-replicate count size) in omega (arith, get_or-replicate count k size piece below)

-- the numbers that come before a new one are the first that are not above it
pub slot_walked : (number : ℕ) (numbers : List ℕ) → length (take (prefix_len (λ m. leb m number) numbers) numbers) ≡ slot_among number numbers
unfolding slot_among
slot_walked number [] = refl
slot_walked number (m ∷ ms) = by (leb m number) (slot_walked number ms)
  where
    by : (t : Bool) → length (take (prefix_len (λ k. leb k number) ms) ms) ≡ slot_among number ms → length (take (cond t (1 + prefix_len (λ k. leb k number) ms) 0) (m ∷ ms)) ≡ further t (slot_among number ms)
    by true ih = ap (λ n. length (take n (m ∷ ms))) (one-add _) ∙ ap suc ih
    by false ih = refl

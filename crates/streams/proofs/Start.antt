-- The first bytes of a session, as they come.
use Rattle.std.proofs.Common.{◌≡◌, ◌++◌, ◌+◌, ◌-◌, ◌≤◌, ◌<◌, ℕ, List, [], ◌∷◌, length, get_or, take, drop, refl, sym, ap, ◌∙◌, subst, arith, append-nil, drop_of_length-le}
use Rattle.std.specs.Prelude.{Option, None, Some}
use Rattle.std.specs.Io.KnownBytes.{Consumes, IsAtEnd}
use Rattle.std.proofs.KnownBytes.{Consumes-trans}
use Rattle.std.proofs.lemmas.List.{take_all, length-take-le, take-append-le}
use borrow.Rule.Slice.PartMut.{put_mid}
use Rattle.std.proofs.Math.Seq.{take-append_seam, take-append-add, drop-append_seam}
use native.Mathlib.Decide.{dec_lt}
use Rattle.opening.specs.Opened.{first_size, rest_size}
use Rattle.opening.proofs.First.{size_counted, size_uncounted}
use Rattle.streams.specs.Reading.{TakesStart}

-- the first byte alone tells the size
pub size_front : (start rest : List ℕ) → 1 ≤ length start → first_size (start ++ rest) ≡ first_size start
unfolding first_size
size_front [] rest h = absurd (omega (arith, h))
size_front (b ∷ bs) rest h = refl

-- a front of some bytes that is as long as asked, or all of them
front_is : (k : ℕ) (front rest : List ℕ) → length front ≤ k → (length front < k → rest ≡ []) → (front ≡ take k (front ++ rest)) × (rest ≡ drop k (front ++ rest))
front_is k front rest h end = elim (dec_lt (length front) k) [
  | yes less ↦ (let e = end less in (
    sym (ap (λ r. take k (front ++ r)) e ∙ ap (take k) (append-nil front) ∙ take_all k front h),
    e ∙ sym (ap (λ r. drop k (front ++ r)) e ∙ ap (drop k) (append-nil front) ∙ drop_of_length-le front h),
  ))
  | no more ↦ (let e : k ≡ length front = omega (arith, h, more) in (sym (ap (λ n. take n (front ++ rest)) e ∙ take-append_seam front rest), sym (ap (λ n. drop n (front ++ rest)) e ∙ drop-append_seam front rest)))
]

-- what came is the start, or all there is
pub start_came : (old left : Option (List ℕ)) (start : List ℕ) → 1 ≤ length start → length start ≤ first_size start → (length start < first_size start → IsAtEnd left) → Consumes old left start → TakesStart old left start
start_came None left start some long end c = tt
start_came (Some bytes) None start some long end c = c
start_came (Some bytes) (Some rest) start some long end c =
    let e : first_size bytes ≡ first_size start = ap first_size c ∙ size_front start rest some in
    let f = front_is (first_size start) start rest long end in
    (f.0 ∙ sym (ap (λ n. take n bytes) e ∙ ap (take (first_size start)) c), f.1 ∙ sym (ap (λ n. drop n bytes) e ∙ ap (drop (first_size start)) c))

-- a buffer of one byte that was filled, at the start of a longer one
module _ (old left : Option (List ℕ)) (n : ℕ) (some : n ≡ 0 → ⊥) (few : n ≤ 1) where
  came_one : (b : ℕ) → Consumes old left (take n (b ∷ [])) → Consumes old left (b ∷ [])
  came_one b c = let e : n ≡ 1 = omega (arith, some, few) in subst (λ m. Consumes old left (take m (b ∷ []))) e c

  pub first_alone : (first post : List ℕ) → length first ≡ 1 → Consumes old left (take n first) → rest_size (get_or (first ++ post) 0 0) ≡ None → TakesStart old left (take 1 (first ++ post))
  first_alone [] post one c e = absurd (omega (arith, one))
  first_alone (b ∷ d ∷ bs) post one c e = absurd (omega (arith, one))
  first_alone (b ∷ []) post one c e =
      let size = size_uncounted (b ∷ []) e in
      start_came old left (b ∷ []) (omega arith) (omega (arith, size)) (λ less. absurd (omega (arith, less, size))) (came_one b c)

  pub first_and_rest : (end : Option (List ℕ)) (size k : ℕ) (first post others : List ℕ) → length first ≡ 1 → Consumes old left (take n first) → rest_size (get_or (first ++ post) 0 0) ≡ Some size
      → length others ≡ size → k ≤ length others → Consumes left end (take k others) → (k < length others → IsAtEnd end) → TakesStart old end (take (1 + k) (put_mid 1 (1 + size - 1) (first ++ post) others))
  first_and_rest end size k [] post others one c e long within came ended = absurd (omega (arith, one))
  first_and_rest end size k (b ∷ d ∷ bs) post others one c e long within came ended = absurd (omega (arith, one))
  first_and_rest end size k (b ∷ []) post others one c e long within came ended =
      let start : List ℕ = b ∷ take k others in
      let whole = (size_counted (b ∷ []) e).0 in
      let whole_start : first_size start ≡ 1 + size = size_front (b ∷ []) (take k others) (omega arith) ∙ whole in
      let long_start : length start ≡ 1 + k = omega (arith, length-take-le k others within) in
      subst (TakesStart old end) (sym (take-append-add (b ∷ []) (others ++ _) k ∙ ap (λ l. b ∷ l) (take-append-le k others _ within)))
      (start_came old end start (omega (arith, long_start)) (omega (arith, long_start, whole_start, within, long)) (λ less. ended (omega (arith, less, long_start, whole_start, long)))
      (Consumes-trans old left end (b ∷ []) (take k others) (came_one b c) came))

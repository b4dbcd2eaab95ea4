-- Places that are moved, and zeros behind what is left.
use mathlib.Core.Path.{◌≡◌, ap, ap₂, ◌∙◌}
use mathlib.Core.List.{List, ◌++◌, append_assoc, append-nil}
use Prim.Native.Nat.{ℕ, ◌+◌, ◌-◌, ◌*◌, ◌≤◌}
use native.Mathlib.Omega.{arith}
use borrow.Rule.Slice.PartMut.{put_mid}
use lib.ListN.{length, take, drop, replicate, length-drop}
use lib.Seq.{paste, take-add, take_all, drop-length, length-take-le}
use Rattle.std.proofs.lemmas.List.Edits.{take-paste, length-paste}
use Rattle.units.proofs.Pieces.{part_back}
use Rattle.places.specs.Places.{place_in, with_place, without_place}

-- zeros from a place on
pub cleared : (from : ℕ) (l last : List ℕ) → from ≤ length l → last ≡ replicate (length (take (length l - from) (drop from l))) 0
    → put_mid from (length l - from) l last ≡ take from l ++ replicate (length l - from) 0
cleared from l last h e = part_back from l last (λ (t : List ℕ). replicate (length t) 0) h e ∙ ap (λ n. take from l ++ replicate n 0) (length-drop from l)

module _ (size i : ℕ) (book : List ℕ) (h : i * size + size ≤ length book) where
  abbrev from : ℕ
  from = i * size

  rest_length : length (drop from book) ≡ length book - from
  rest_length = length-drop from book

  -- the places from one on are moved up by a place
  pub moved_up : paste book (i * size + size) (drop (i * size) book) (length book - size - i * size) ≡ with_place size i (place_in size book i) book
  unfolding with_place
  moved_up =
      ap (λ k. take (from + size) book ++ take count (drop from book) ++ drop k book) (omega (arith, h))
      ∙ ap (λ (t : List ℕ). take (from + size) book ++ take count (drop from book) ++ t) (drop-length book)
      ∙ append-nil (take (from + size) book ++ take count (drop from book))
      ∙ ap₂ (λ (x : List ℕ) k. x ++ take k (drop from book)) (take-add from size book) (omega (arith, h, length-take-le size (drop from book) (omega (arith, rest_length))))
      ∙ append_assoc (take from book) (place_in size book i) _
    where
      count : ℕ
      count = length book - size - from

  -- the places behind one are moved down by a place, and zeros are written over the last
  pub moved_down : {moved : List ℕ} → moved ≡ paste book (i * size) (drop (i * size + size) book) (length book - (i * size + size))
      → take (length book - size) moved ++ replicate (length moved - (length book - size)) 0 ≡ without_place size i book
  unfolding without_place
  moved_down {moved} e =
      ap₂ (λ (x : List ℕ) k. x ++ replicate k 0) front (omega (arith, h, ap length e, length-paste book from behind count (omega arith) (omega (arith, behind_length))))
      ∙ append_assoc (take from book) behind _
    where
      count : ℕ
      count = length book - (from + size)

      behind : List ℕ
      behind = drop (from + size) book

      behind_length : length behind ≡ length book - (from + size)
      behind_length = length-drop (from + size) book

      front : take (length book - size) moved ≡ take from book ++ behind
      front =
          let last : length book - size ≡ from + count = omega (arith, h) in
          ap₂ take last e ∙ take-paste book from behind count (omega (arith, h)) (omega (arith, behind_length)) ∙ ap (λ (t : List ℕ). take from book ++ t) (take_all count behind (omega (arith, behind_length)))

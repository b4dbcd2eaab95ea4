-- A place that is opened and then written over is put in.
use mathlib.Core.Path.{◌≡◌, sym, ap, ap₂, ◌∙◌}
use mathlib.Core.List.{List, ◌++◌}
use Prim.Native.Nat.{ℕ, ◌+◌, ◌-◌, ◌*◌, ◌≤◌}
use native.Mathlib.Omega.{arith}
use borrow.Rule.Slice.PartMut.{put_mid}
use lib.ListN.{length, take, drop, length-append, length-drop}
use lib.Seq.{take_at, drop_at, length-take-le}
use Rattle.units.proofs.Pieces.{part_back}
use Rattle.places.specs.Places.{place_in, with_place}

module _ (size i : ℕ) (book : List ℕ) (h : i * size + size ≤ length book) where
  abbrev pub from : ℕ
  from = i * size

  abbrev pub rest : List ℕ
  rest = drop from book

  front_length : length (take from book) ≡ from
  front_length = length-take-le from book (omega arith)

  place_length : length (place_in size book i) ≡ size
  place_length = length-take-le size rest (rw length-drop (omega arith))

  -- the place that was opened is written over
  pub place_put : {opened last : List ℕ} (piece : List ℕ) → length piece ≡ size → opened ≡ with_place size i (place_in size book i) book
      → last ≡ piece ++ drop size (take (length opened - from) (drop from opened))
      → put_mid from (length opened - from) opened last ≡ with_place size i piece book
  unfolding with_place
  place_put {opened} {last} piece p e f =
      part_back from opened last (λ (t : List ℕ). piece ++ drop size t) long f
      ∙ ap₂ (λ (x y : List ℕ). x ++ (piece ++ drop size y)) (ap (take from) e ∙ take_at (take from book) behind from front_length) (ap (drop from) e ∙ drop_at (take from book) behind from front_length)
      ∙ ap (λ (t : List ℕ). take from book ++ (piece ++ t)) (drop_at (place_in size book i) moved size place_length)
      ∙ ap (λ n. take from book ++ (piece ++ take (length book - (from + n)) rest)) (place_length ∙ sym p)
    where
      moved : List ℕ
      moved = take (length book - (from + length (place_in size book i))) rest

      behind : List ℕ
      behind = place_in size book i ++ moved

      long : from ≤ length opened
      long = rw e (simp length-append (omega (arith, front_length)))

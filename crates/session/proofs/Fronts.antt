-- What is written of some bytes, from the first on, where one write comes after another.
use Rattle.std.proofs.Common.{◌++◌, ◌+◌, ℕ, List, length, take, sym, ap, ◌∙◌, subst, arith, append_assoc}
use Rattle.std.specs.Prelude.{Option}
use native.Mathlib.Decide.{dec_lt}
use Rattle.std.specs.Io.KnownBytes.{Appends}
use Rattle.std.proofs.KnownBytes.{Appends-trans}
use Rattle.std.proofs.lemmas.List.{take-append-le, take_all}
use Rattle.std.proofs.Math.Seq.{take-append-add, take-append_seam}
use Rattle.streams.specs.Writing.{AppendsFront, Moves}

module _ (a b : Option (List ℕ)) (xs : List ℕ) where
  -- a front of some bytes is one of those and more behind them
  pub front_more : (ys : List ℕ) → AppendsFront a b xs → AppendsFront a b (xs ++ ys)
  front_more ys (n, h) = elim (dec_lt (length xs) n) [
    | yes k ↦ (length xs, subst (Appends a b) (take_all n xs (omega (arith, k)) ∙ sym (take-append_seam xs ys)) h)
    | no k ↦ (n, subst (Appends a b) (sym (take-append-le n xs ys (omega (arith, k)))) h)
  ]

  module _ (ys : List ℕ) where
    pub moves_more : (zs : List ℕ) → Moves a b xs ys → Moves a b (xs ++ zs) (ys ++ zs)
    moves_more zs (v, h, e) = (v, h, ap (λ l. l ++ zs) e ∙ append_assoc v ys zs)

    module _ (c : Option (List ℕ)) where
      -- all of some bytes, and a front of those behind them
      pub front_then : Appends a b xs → AppendsFront b c ys → AppendsFront a c (xs ++ ys)
      front_then h (n, k) = (length xs + n, subst (Appends a c) (sym (take-append-add xs ys n)) (Appends-trans a b c xs (take n ys) h k))

module _ (a b c : Option (List ℕ)) (xs ys : List ℕ) where
  pub front_after : Moves a b xs ys → AppendsFront b c ys → AppendsFront a c xs
  front_after (v, h, e) f = subst (AppendsFront a c) (sym e) (front_then a b v ys c h f)

  pub moves_then : (zs : List ℕ) → Moves a b xs ys → Moves b c ys zs → Moves a c xs zs
  moves_then zs (v, h, e) (w, k, f) = (v ++ w, Appends-trans a b c v w h k, e ∙ ap (λ l. v ++ l) f ∙ sym (append_assoc v w zs))

  pub moves_out : Moves a b xs ys → Appends b c ys → Appends a c xs
  moves_out (v, h, e) k = subst (Appends a c) (sym e) (Appends-trans a b c v ys h k)

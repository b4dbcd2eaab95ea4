-- One order more is run.
use Rattle.std.proofs.Common.{◌≡◌, ◌++◌, ◌<◌, ℕ, List, [], ◌∷◌, length, take, refl, sym, arith, ap, ◌∙◌, subst, append_assoc, append-nil}
use Rattle.std.specs.Prelude.{Option}
use Rattle.orders.specs.Ordered.{line_of}
use Rattle.session.specs.Session.{Running, answered, behind, lines, after, last_piece}
use Rattle.streams.specs.Writing.{AppendsFront, Moves, pending}
use Rattle.streams.specs.declared.writer.Lines.{Lines}
use Rattle.session.proofs.Fronts.{front_more, front_after, moves_more, moves_then}

-- r is the session at an order, and `left` are the orders from it on
module _ (r : Running) (order : List ℕ) (rest left : List (List ℕ)) (here : left ≡ order ∷ rest) where
  abbrev its_line : List ℕ
  its_line = line_of r.place (answered r order)

  pub next_after : (now : Running) → now ≡ behind r order → after now rest ≡ after r left
  unfolding after
  next_after now runs = ap (λ x. after x rest) runs ∙ ap (after r) (sym here)

  -- its line stands before those of the rest
  lines_left : (before : List ℕ) → before ++ lines r left ≡ (before ++ its_line) ++ lines (behind r order) rest
  unfolding lines
  lines_left before = ap (λ os. before ++ lines r os) here ∙ sym (append_assoc before its_line (lines (behind r order) rest))

  module _ (a b c : Option (List ℕ)) (all before : List ℕ) (moved : Moves a b all (before ++ lines r left)) where
    before_rest : Moves a b all ((before ++ its_line) ++ lines (behind r order) rest)
    before_rest = subst (Moves a b all) (lines_left before) moved

    pub one_more : (now : Running) (pending : List ℕ) → now ≡ behind r order → Moves b c (before ++ its_line) pending → Moves a c all (pending ++ lines now rest)
    one_more now pending runs m =
        let lines_behind : List ℕ = lines (behind r order) rest in
        subst (λ x. Moves a c all (pending ++ lines x rest)) (sym runs)
        (moves_then a b c all ((before ++ its_line) ++ lines_behind) (pending ++ lines_behind) before_rest (moves_more b c (before ++ its_line) pending lines_behind m))

    pub one_fails : AppendsFront b c (before ++ its_line) → AppendsFront a c all
    one_fails f = front_after a b c all ((before ++ its_line) ++ lines (behind r order) rest) before_rest (front_more b c (before ++ its_line) (lines (behind r order) rest) f)

-- no order is left
module _ (r : Running) (rest : List (List ℕ)) (none : rest ≡ []) where
  pub all_run : (first : Running) (orders : List (List ℕ)) → after r rest ≡ after first orders → r ≡ after first orders
  unfolding after
  all_run first orders e = ap (after r) (sym none) ∙ e

  pub all_moved : (a b : Option (List ℕ)) (all before : List ℕ) → Moves a b all (before ++ lines r rest) → Moves a b all before
  unfolding lines
  all_moved a b all before m = subst (Moves a b all) (ap (λ os. before ++ lines r os) none ∙ append-nil before) m

-- a last piece is one order, if it is any
pub no_last : (r : Running) (piece : List ℕ) → length piece ≡ 0 → lines r (last_piece piece) ≡ []
unfolding lines
no_last r [] e = refl
no_last r (b ∷ bs) e = absurd (omega (arith, e))

pub last_line : (r : Running) (piece : List ℕ) → 0 < length piece → lines r (last_piece piece) ≡ line_of r.place (answered r piece)
unfolding lines
last_line r [] h = absurd (omega (arith, h))
last_line r (b ∷ bs) h = append-nil (line_of r.place (answered r (b ∷ bs)))

-- no line is pending
pub none_pending : (l : Lines) → l.used ≡ 0 → (xs : List ℕ) → pending l ++ xs ≡ xs
none_pending l e xs = ap (λ n. take n l.bytes ++ xs) e

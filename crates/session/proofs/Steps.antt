-- From one read to the next: what has come is answered, but for the bytes that are cut short.
use Rattle.std.proofs.Common.{◌≡◌, ◌++◌, ◌+◌, ◌<◌, ℕ, List, [], length, take, sym, ap, ap₂, ◌∙◌, subst, arith, append_assoc, append-nil, length-append, drop_of_length-le, false}
use Rattle.std.specs.Prelude.{Option, None, Some, IfSome}
use Rattle.std.specs.Io.KnownBytes.{Appends, Consumes, IsAtEnd}
use Rattle.std.proofs.Math.Seq.{take-append_seam}
use Rattle.layout.specs.Layout.{order_bytes}
use Rattle.streams.specs.Reading.{cut_short, ComesBehind}
use Rattle.streams.specs.Writing.{AppendsFront}
use Rattle.session.specs.Session.{Running, lines, after, whole_orders, last_piece, orders}
use Rattle.session.specs.Streaming.{Goes, Taken, due, due_if}
use Rattle.session.proofs.Fronts.{front_more, front_after, moves_then}
use Rattle.session.proofs.Orders.{lines_append, orders_more, orders_short}

module _ (r : Running) (before all came : List ℕ) (comes : all ≡ before ++ came) where
  -- what is due is the lines of the orders that are whole, and then what is due of the rest
  due_more : (rest : List ℕ) → due r before (came ++ rest) ≡ lines r (whole_orders all) ++ due (after r (whole_orders all)) (cut_short all) rest
  due_more rest =
      ap (λ l. lines r (orders l)) (sym (append_assoc before came rest) ∙ ap (λ l. l ++ rest) (sym comes))
      ∙ ap (lines r) (orders_more all rest)
      ∙ lines_append r (whole_orders all) (orders (cut_short all ++ rest))

module _ (in_old in_new out_old out_new : Option (List ℕ)) (r : Running) (before all : List ℕ) where
  pub answered_whole : (now : Running) (cut : List ℕ) → ComesBehind in_old in_new before all → Appends out_old out_new (lines r (whole_orders all)) → now ≡ after r (whole_orders all) → cut ≡ cut_short all
      → Goes in_old in_new out_old out_new (due r before) (due now cut)
  answered_whole now cut (came, c, e) w runs keeps = by in_old in_new c
    where
      by : (a b : Option (List ℕ)) → Consumes a b came → Goes a b out_old out_new (due r before) (due now cut)
      by None b c = tt
      by (Some bytes) None c = c
      by (Some bytes) (Some rest) c = (
        lines r (whole_orders all),
        w,
        ap (due r before) c ∙ due_more r before all came e rest ∙ ap₂ (λ s l. lines r (whole_orders all) ++ due s l rest) (sym runs) (sym keeps),
      )

  pub whole_fails : ComesBehind in_old in_new before all → AppendsFront out_old out_new (lines r (whole_orders all)) → IfSome in_old (λ bytes. AppendsFront out_old out_new (due r before bytes))
  whole_fails (came, c, e) w = by in_old in_new c
    where
      by : (a b : Option (List ℕ)) → Consumes a b came → IfSome a (λ bytes. AppendsFront out_old out_new (due r before bytes))
      by None b c = tt
      by (Some bytes) None c = absurd c
      by (Some bytes) (Some rest) c =
          subst (AppendsFront out_old out_new) (sym (ap (due r before) c ∙ due_more r before all came e rest))
          (front_more out_old out_new (lines r (whole_orders all)) (due (after r (whole_orders all)) (cut_short all) rest) w)

  -- at the end of the input nothing came, and what is cut short is all that is left
  module _ (short : length before < order_bytes) (same : length all ≡ length before) (ended : IsAtEnd in_new) where
    due_last : (came : List ℕ) → all ≡ before ++ came → (rest : List ℕ) → rest ≡ [] → due r before (came ++ rest) ≡ lines r (last_piece all)
    due_last came e rest none =
        let empty : came ≡ [] = drop_of_length-le came {i = 0} (omega (arith, ap length e, length-append before came, same)) in
        let whole : all ≡ before = e ∙ ap (λ l. before ++ l) empty ∙ append-nil before in
        ap (λ l. due r before (l ++ rest)) empty ∙ ap (due r before) none ∙ ap (λ l. lines r (orders l)) (append-nil before ∙ sym whole)
        ∙ ap (lines r) (orders_short all (omega (arith, same, short)))

    pub answered_last : ComesBehind in_old in_new before all → Appends out_old out_new (lines r (last_piece all)) → (still : List ℕ → List ℕ) → Goes in_old in_new out_old out_new (due r before) (due_if false still)
    answered_last (came, c, e) w still = by in_old in_new c ended
      where
        by : (a b : Option (List ℕ)) → Consumes a b came → IsAtEnd b → Goes a b out_old out_new (due r before) (due_if false still)
        by None b c end = tt
        by (Some bytes) None c end = c
        by (Some bytes) (Some rest) c end = (lines r (last_piece all), w, ap (due r before) c ∙ due_last came e rest end ∙ sym (append-nil (lines r (last_piece all))))

    pub last_fails : ComesBehind in_old in_new before all → AppendsFront out_old out_new (lines r (last_piece all)) → IfSome in_old (λ bytes. AppendsFront out_old out_new (due r before bytes))
    last_fails (came, c, e) w = by in_old in_new c ended
      where
        by : (a b : Option (List ℕ)) → Consumes a b came → IsAtEnd b → IfSome a (λ bytes. AppendsFront out_old out_new (due r before bytes))
        by None b c end = tt
        by (Some bytes) None c end = absurd c
        by (Some bytes) (Some rest) c end = subst (AppendsFront out_old out_new) (sym (ap (due r before) c ∙ due_last came e rest end)) w

module _ (a b x y : Option (List ℕ)) (before : List ℕ → List ℕ) where
  module _ (mid : List ℕ → List ℕ) (goes : Goes a b x y before mid) where
    pub goes_then : (c z : Option (List ℕ)) (after : List ℕ → List ℕ) → Goes b c y z mid after → Goes a c x z before after
    goes_then c z after = by a b c goes
      where
        by : (o p q : Option (List ℕ)) → Goes o p x y before mid → Goes p q y z mid after → Goes o q x z before after
        by None p q g h = tt
        by (Some bytes) None q g h = absurd g
        by (Some bytes) (Some rest) None g h = h
        by (Some bytes) (Some rest) (Some left) g h = moves_then x y z (before bytes) (mid rest) (after left) g h

    pub goes_fails : (z : Option (List ℕ)) → IfSome b (λ bytes. AppendsFront y z (mid bytes)) → IfSome a (λ bytes. AppendsFront x z (before bytes))
    goes_fails z = by a b goes
      where
        by : (o p : Option (List ℕ)) → Goes o p x y before mid → IfSome p (λ bytes. AppendsFront y z (mid bytes)) → IfSome o (λ bytes. AppendsFront x z (before bytes))
        by None p g f = tt
        by (Some bytes) None g f = absurd g
        by (Some bytes) (Some rest) g f = front_after x y z (before bytes) (mid rest) g f

    pub goes_stops : IfSome a (λ bytes. AppendsFront x y (before bytes))
    goes_stops = by a b goes
      where
        by : (o p : Option (List ℕ)) → Goes o p x y before mid → IfSome o (λ bytes. AppendsFront x y (before bytes))
        by None p g = tt
        by (Some bytes) None g = absurd g
        by (Some bytes) (Some rest) (v, h, e) = (length v, subst (Appends x y) (sym (ap (take (length v)) e ∙ take-append_seam v (mid rest))) h)

  -- and at the end nothing is due
  pub goes_whole : Goes a b x y before (λ rest. []) → IfSome a (λ bytes. Appends x y (before bytes))
  goes_whole = by a b
    where
      by : (o p : Option (List ℕ)) → Goes o p x y before (λ rest. []) → IfSome o (λ bytes. Appends x y (before bytes))
      by None p g = tt
      by (Some bytes) None g = absurd g
      by (Some bytes) (Some rest) (v, h, e) = subst (Appends x y) (sym (e ∙ append-nil v)) h

-- bytes that were taken off an input, turn by turn
pub taken_more : (n m : ℕ) (a b c : Option (List ℕ)) → Taken n a b → Taken m b c → Taken (n + m) a c
taken_more n m None b c s t = tt
taken_more n m (Some bytes) None c s t = absurd s
taken_more n m (Some bytes) (Some rest) None s t = t
taken_more n m (Some bytes) (Some rest) (Some left) s t = omega (arith, s, t)

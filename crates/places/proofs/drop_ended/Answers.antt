-- `drop_ended` meets its contract: the places that are passed and stand are at the front, and those behind are as they came.
use mathlib.Core.Path.{◌≡◌, sym, ap, ◌∙◌}
use Prim.Native.Nat.{◌+◌, ◌-◌, ◌*◌, ◌≤◌}
use native.Mathlib.Nat.{mul-le-mul_right}
use native.Mathlib.Omega.{arith}
use borrow.Rule.Slice.PartMut.{same_len_mid}
use lib.ListN.{length, take, drop}
use Rattle.places.specs.Places.{stands_at, still_standing, only_places}
use Rattle.places.proofs.Moving.{cleared}
use Rattle.places.proofs.Ended.{kept_none, kept_same, kept_more, kept_all}
use Rattle.places.proofs.drop_ended.Goals as goal
use Rattle.places.proofs.drop_ended.Goals.{In-loop-place, After-loop-place, then-stands, else-stands}

-- the place that is looked at is in the table
inside : (c : In-loop-place) → let a = c.args in c.loop-place.place * a.size + a.size ≤ length c.loop-place.book
inside c =
    let next : c.loop-place.place + 1 ≤ c.args.head.bookings = omega arith in
    omega (arith, c.loop-place.invariant.same, mul-le-mul_right c.args.size next)

-- so are those that were kept
passed : (c : After-loop-place) → c.loop-place.place * c.args.size ≤ length c.loop-place.book
passed c = omega (arith, c.loop-place.invariant.same, mul-le-mul_right c.args.size c.loop-place.auto.place-end)

pub loop-place-init : goal.loop-place-init
loop-place-init c = kept_none c.args.size c.args.head c.args.book.now

pub slice_bounds-stands-end : goal.slice_bounds-stands-end
slice_bounds-stands-end c = inside (goal.at.slice_bounds-stands-end c).In-loop-place

pub loop-place-preserved : goal.loop-place-preserved
loop-place-preserved c =
    let l = c.loop-place in
    let a = c.args in
    let here = inside (goal.at.loop-place-preserved c).In-loop-place in
    let size : l.place * a.size + a.size - l.place * a.size ≡ a.size = omega arith in
    let figures = ap (λ n. stands_at a.head (take n (drop (l.place * a.size) l.book))) size in
    elim c.if-stands.branch [
      | then-stands w ↦ rw (w.book-is, w.kept-is, w.copy_within.ensures.after) (kept_more a.size a.head a.book.now l.book l.kept l.place l.invariant (sym figures ∙ sym c.stands.ensures ∙ w.if-stands.true) here)
      | else-stands w ↦ rw (w.book-is, w.kept-is) (kept_same a.size a.head a.book.now l.book l.kept l.place l.invariant (sym figures ∙ sym c.stands.ensures ∙ w.if-stands.false))
    ]

pub slice_bounds-fill-count : goal.slice_bounds-fill-count
slice_bounds-fill-count c = omega (arith, c.loop-place.invariant.inside, passed (goal.at.slice_bounds-fill-count c).After-loop-place)

pub slice_bounds-fill-start : goal.slice_bounds-fill-start
slice_bounds-fill-start c = omega (arith, c.loop-place.invariant.inside, passed (goal.at.slice_bounds-fill-start c).After-loop-place)

pub returns : goal.returns
returns c =
    let l = c.loop-place in
    let a = c.args in
    let e : l.place ≡ a.head.bookings = omega arith in
    let r = kept_all a.size a.head a.book.now l.book l.kept l.place l.invariant (passed (goal.at.returns c).After-loop-place) in (
      l.invariant.count ∙ ap (λ n. length (still_standing a.size a.head a.book.now n)) e,
      cleared _ _ _ (omega (arith, l.invariant.inside, passed (goal.at.returns c).After-loop-place)) (c.fill.ensures.after (λ y q. q))
          ∙ r
          ∙ ap (λ n. only_places (length a.book.now) (still_standing a.size a.head a.book.now n)) e,
    )

pub shape_of-book : goal.shape_of-book
shape_of-book c = same_len_mid _ _ _ _ c.fill.ensures.len ∙ c.loop-place.invariant.same

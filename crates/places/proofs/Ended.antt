-- Dropping what has ended, place by place: the front holds those that stand of the places that are passed, and the places
-- behind are as they came.
use mathlib.Core.Path.{◌≡◌, refl, sym, ap, ap₂, ◌∙◌}
use mathlib.Core.List.{List, [], ◌∷◌, ◌++◌, flatten, map-append, append_assoc, append-nil}
use mathlib.Core.Bool.{Bool, true, false}
use Prim.Native.Nat.{ℕ, zero, suc, ◌+◌, ◌-◌, ◌*◌, ◌≤◌}
use native.Mathlib.Nat.{zero-mul}
use native.Mathlib.Numerals.{add-one}
use native.Mathlib.Omega.{arith}
use lib.ListN.{length, take, drop, replicate, length-append, length-drop}
use lib.Seq.{drop-drop, take_at, drop_at, length-take-le}
use Rattle.std.specs.List.{copy_within}
use Rattle.units.specs.declared.Head.{Head}
use Rattle.units.specs.Lists.{count_from, cons_if, select}
use Rattle.places.specs.Places.{place_in, places_in, stands_at, still_standing, only_places}

count_snoc : (i n : ℕ) → count_from i (suc n) ≡ count_from i n ++ ((i + n) ∷ [])
unfolding count_from
count_snoc i zero = ap (λ k. k ∷ []) (omega arith)
count_snoc i (suc n) = ap (λ (l : List ℕ). i ∷ l) (count_snoc (suc i) n ∙ ap (λ k. count_from (suc i) n ++ (k ∷ [])) (omega arith))

module _ {A : Type 0} where
  select_append : (test : A → Bool) (xs ys : List A) → select test (xs ++ ys) ≡ select test xs ++ select test ys
  unfolding select
  select_append test [] ys = refl
  select_append test (x ∷ xs) ys = ap (cons_if (test x) x) (select_append test xs ys) ∙ by (test x)
    where
      by : (t : Bool) → cons_if t x (select test xs ++ select test ys) ≡ cons_if t x (select test xs) ++ select test ys
      by true = refl
      by false = refl

  flatten_append : (xs ys : List (List A)) → flatten (xs ++ ys) ≡ flatten xs ++ flatten ys
  unfolding flatten
  flatten_append [] ys = refl
  flatten_append (x ∷ xs) ys = rw (flatten_append xs ys, append_assoc)

  flatten_one : (x : List A) → flatten (x ∷ []) ≡ x
  unfolding flatten
  flatten_one x = append-nil x

module _ (size : ℕ) (head : Head) (book : List ℕ) (n : ℕ) where
  -- of one place more
  standing_snoc : still_standing size head book (n + 1) ≡ still_standing size head book n ++ cons_if (stands_at head (place_in size book n)) (place_in size book n) []
  unfolding still_standing select
  standing_snoc =
      let z : 0 + n ≡ n = omega arith in
      rw (add-one n, count_snoc 0 n, z, map-append) (select_append (stands_at head) (places_in size book n) (place_in size book n ∷ []))

  standing_more : stands_at head (place_in size book n) ≡ true → still_standing size head book (n + 1) ≡ still_standing size head book n ++ (place_in size book n ∷ [])
  standing_more e = standing_snoc ∙ ap (λ t. still_standing size head book n ++ cons_if t (place_in size book n) []) e

  standing_same : stands_at head (place_in size book n) ≡ false → still_standing size head book (n + 1) ≡ still_standing size head book n
  standing_same e = standing_snoc ∙ ap (λ t. still_standing size head book n ++ cons_if t (place_in size book n) []) e ∙ append-nil (still_standing size head book n)

-- `kept` of the first `place` places that came stand at the clock and are at the front
pub record Kept (size : ℕ) (head : Head) (came book : List ℕ) (kept place : ℕ) : Type 0 where
  pub same : length book ≡ length came
  pub few : kept ≤ place
  pub inside : kept * size ≤ place * size
  pub count : kept ≡ length (still_standing size head came place)
  pub front : take (kept * size) book ≡ flatten (still_standing size head came place)
  pub behind : drop (place * size) book ≡ drop (place * size) came

pub kept_none : (size : ℕ) (head : Head) (came : List ℕ) → Kept size head came came 0 0
unfolding still_standing select count_from flatten
kept_none size head came = record { same = refl; few = omega arith; inside = omega arith; count = refl; front = ap (λ n. take n came) (zero-mul size); behind = refl }

module _ (size : ℕ) (head : Head) (came book : List ℕ) (kept place : ℕ) (k : Kept size head came book kept place) where
  next_behind : drop ((place + 1) * size) book ≡ drop ((place + 1) * size) came
  next_behind =
      let e : (place + 1) * size ≡ place * size + size = omega arith in
      ap (λ n. drop n book) e ∙ sym (drop-drop size (place * size) book) ∙ ap (drop size) k.behind ∙ drop-drop size (place * size) came ∙ ap (λ n. drop n came) (sym e)

  as_came : place_in size book place ≡ place_in size came place
  as_came = ap (take size) k.behind

  -- one that has ended is passed
  pub kept_same : stands_at head (place_in size book place) ≡ false → Kept size head came book kept (place + 1)
  kept_same s =
      let e : still_standing size head came (place + 1) ≡ still_standing size head came place = standing_same size head came place (ap (stands_at head) (sym as_came) ∙ s) in
      record {
        same = k.same;
        few = omega (arith, k.few);
        inside = omega (arith, k.inside);
        count = k.count ∙ ap length (sym e);
        front = k.front ∙ ap flatten (sym e);
        behind = next_behind;
      }

  -- one that stands is copied behind those before it
  pub kept_more : stands_at head (place_in size book place) ≡ true → place * size + size ≤ length book → Kept size head came (copy_within book (place * size) (place * size + size) (kept * size)) (kept + 1) (place + 1)
  kept_more s h =
      record {
        same = ap length split ∙ rw (length-append front rest, length-drop cut book) (omega (arith, front_length, k.inside, k.same));
        few = omega (arith, k.few);
        inside = omega (arith, k.inside);
        count = omega (arith, k.count, ap length e, length-append (still_standing size head came place) (place_in size came place ∷ []));
        front =
            ap₂ take next split
            ∙ take_at front rest cut front_length
            ∙ ap₂ ◌++◌ k.front (as_came ∙ sym (flatten_one (place_in size came place)))
            ∙ sym (flatten_append (still_standing size head came place) (place_in size came place ∷ []))
            ∙ ap flatten (sym e);
        behind =
            ap₂ drop far split
            ∙ sym (drop-drop between cut (front ++ rest))
            ∙ ap (drop between) (drop_at front rest cut front_length)
            ∙ drop-drop between cut book
            ∙ ap (λ n. drop n book) (sym far)
            ∙ next_behind;
      }
    where
      cut : ℕ
      cut = kept * size + size

      -- the figures of the places that were dropped
      between : ℕ
      between = place * size - kept * size

      front : List ℕ
      front = take (kept * size) book ++ place_in size book place

      rest : List ℕ
      rest = drop cut book

      split : copy_within book (place * size) (place * size + size) (kept * size) ≡ front ++ rest
      split = ap (λ n. take (kept * size) book ++ take n (drop (place * size) book) ++ drop (kept * size + n) book) (omega arith)

      e : still_standing size head came (place + 1) ≡ still_standing size head came place ++ (place_in size came place ∷ [])
      e = standing_more size head came place (ap (stands_at head) (sym as_came) ∙ s)

      next : (kept + 1) * size ≡ cut
      next = omega arith

      far : (place + 1) * size ≡ cut + between
      far = omega (arith, k.inside)

      front_length : length front ≡ cut
      front_length =
          let b : kept * size ≤ length book = omega (arith, k.inside) in
          let p : size ≤ length (drop (place * size) book) = rw length-drop (omega arith) in
          rw length-append (omega (arith, length-take-le (kept * size) book b, length-take-le size (drop (place * size) book) p))

  -- with zeros behind the front
  pub kept_all : place * size ≤ length book → take (kept * size) book ++ replicate (length book - kept * size) 0 ≡ only_places (length came) (still_standing size head came place)
  kept_all p = ap₂ (λ (t : List ℕ) n. t ++ replicate n 0) k.front zeros
    where
      zeros : length book - kept * size ≡ length came - length (flatten (still_standing size head came place))
      zeros = omega (arith, k.same, length-take-le (kept * size) book (omega (arith, k.inside)), ap length k.front)

-- The book table that is filled with the figures of a list, a row of `size` each: what is read there is read off the list,
-- and what is put in, taken out or dropped there is so in the list. The list may be of anything that has such a row.
use mathlib.Core.Path.{◌≡◌, refl, sym, ap, subst, ◌∙◌}
use mathlib.Core.List.{List, [], ◌∷◌, ◌++◌, map, flatten}
use mathlib.Core.Bool.{Bool, true, false}
use Prim.Native.Nat.{ℕ, suc, ◌+◌, ◌-◌, ◌*◌, ◌≤◌, ◌<◌}
use native.Mathlib.Nat.{mul-le-mul_right}
use native.Mathlib.Omega.{arith}
use lib.Dec.{eqb}
use lib.ListN.{length, get_or, take, drop, length-append, length-map, get_or-append}
use lib.Seq.{take_at, drop_at, get_or-append-add}
use Rattle.std.specs.List.{position}
use Rattle.units.specs.declared.Head.{Head}
use Rattle.units.specs.Lists.{cons_if, select, All}
use Rattle.units.proofs.Padded.{Rows, length_padded, length_rows, rows_insert, rows_remove}
use Rattle.places.specs.Places.{number_at, numbers_in, find, slot, slot_among, with_place, without_place, place_in, places_in, stands_at, still_standing, only_places}
use Rattle.places.proofs.Reading.{Reads, read_filled}
use Rattle.places.proofs.Found.{Place, place_found}

select_map : {A B : Type 0} (test : B → Bool) (f : A → B) (xs : List A) → select test (map f xs) ≡ map f (select (λ x. test (f x)) xs)
unfolding select
select_map test f [] = refl
select_map test f (x ∷ xs) = ap (cons_if (test (f x)) (f x)) (select_map test f xs) ∙ by (test (f x))
  where
    by : (t : Bool) → cons_if t (f x) (map f (select (λ y. test (f y)) xs)) ≡ map f (cons_if t x (select (λ y. test (f y)) xs))
    by true = refl
    by false = refl

module _ {A : Type 0} (P : A → Type 0) where
  all_without : (xs : List A) (x : A) (ys : List A) → All P (xs ++ (x ∷ ys)) → All P (xs ++ ys)
  all_without [] x ys a = a.1
  all_without (y ∷ xs) x ys a = (a.0, all_without xs x ys a.1)

  all_between : (xs : List A) (x : A) (ys : List A) → All P (xs ++ (x ∷ ys)) → P x
  all_between [] x ys a = a.0
  all_between (y ∷ xs) x ys a = all_between xs x ys a.1

-- the number in a row of figures
abbrev pub number_of : {A : Type 0} → (A → List ℕ) → A → ℕ
number_of f x = get_or (f x) 0 0

module _ (size most : ℕ) {A : Type 0} (f : A → List ℕ) where
  -- the book table of these
  abbrev pub filled : List A → List ℕ
  filled xs = only_places (most * size) (map f xs)

  reads_place : (xs : List A) → Rows f size xs → All (Reads size f (place_in size) f) xs
  reads_place [] r = tt
  reads_place (x ∷ xs) r = ((λ before behind i l. ap (take size) (drop_at before (f x ++ behind) (i * size) l) ∙ take_at (f x) behind size r.0), reads_place xs r.1)

  reads_number : 0 < size → (xs : List A) → Rows f size xs → All (Reads size f (number_at size) (number_of f)) xs
  reads_number some [] r = tt
  reads_number some (x ∷ xs) r = (by, reads_number some xs r.1)
    where
      by : Reads size f (number_at size) (number_of f) x
      by before behind i l =
          let e : i * size ≡ length before + 0 = omega arith in
          ap (λ n. get_or (before ++ (f x ++ behind)) n 0) e ∙ get_or-append-add before (f x ++ behind) 0 0 ∙ get_or-append (f x) behind 0 0 (omega (arith, r.0))

  module _ (xs : List A) (r : Rows f size xs) where
    pub length_filled : length xs ≤ most → length (filled xs) ≡ most * size
    length_filled h = length_padded 0 (most * size) (flatten (map f xs)) (omega (arith, length_rows f size xs r, mul-le-mul_right size h))

    pub places_filled : places_in size (filled xs) (length xs) ≡ map f xs
    places_filled = read_filled size f (place_in size) f (most * size) xs r (reads_place xs r)

    -- those that still stand
    pub standing_filled : (head : Head) → still_standing size head (filled xs) (length xs) ≡ map f (select (λ x. stands_at head (f x)) xs)
    unfolding still_standing
    standing_filled head = ap (select (stands_at head)) places_filled ∙ select_map (stands_at head) f xs

    -- what dropping the ended leaves, and how many
    pub drop_filled : (head : Head) → only_places (most * size) (still_standing size head (filled xs) (length xs)) ≡ filled (select (λ x. stands_at head (f x)) xs)
    drop_filled head = ap (only_places (most * size)) (standing_filled head)

    pub count_filled : (head : Head) → length (still_standing size head (filled xs) (length xs)) ≡ length (select (λ x. stands_at head (f x)) xs)
    count_filled head = ap length (standing_filled head) ∙ length-map (select (λ x. stands_at head (f x)) xs) f

    module _ (some : 0 < size) where
      pub numbers_filled : numbers_in size (filled xs) (length xs) ≡ map (number_of f) xs
      numbers_filled = read_filled size f (number_at size) (number_of f) (most * size) xs r (reads_number some xs r)

      pub slot_filled : (number : ℕ) → slot size number (filled xs) (length xs) ≡ slot_among number (map (number_of f) xs)
      slot_filled number = ap (slot_among number) numbers_filled

      -- where a number is found it stands
      pub find_filled : (number : ℕ) → Place (number_of f) number xs (find size number (filled xs) (length xs))
      unfolding find
      find_filled number =
          subst (λ (ms : List ℕ). Place (number_of f) number xs (position (λ m. eqb m number) ms)) (sym numbers_filled) (place_found (number_of f) number xs)

  -- with one row more, and without a row
  module _ (xs : List A) (x : A) (ys : List A) (r : Rows f size (xs ++ (x ∷ ys))) (few : length xs + suc (length ys) ≤ most) where
    whole : length (filled (xs ++ ys)) ≡ most * size
    whole = length_filled (xs ++ ys) (all_without (λ y. length (f y) ≡ size) xs x ys r) (omega (arith, length-append xs ys))

    room : length (filled (xs ++ ys)) - (length xs * size + length (f x)) ≡ most * size - (length xs * size + size)
    room = omega (arith, whole, all_between (λ y. length (f y) ≡ size) xs x ys r)

    pub insert_filled : with_place size (length xs) (f x) (filled (xs ++ ys)) ≡ filled (xs ++ (x ∷ ys))
    unfolding with_place
    insert_filled =
        ap (λ n. take (length xs * size) (filled (xs ++ ys)) ++ (f x ++ take n (drop (length xs * size) (filled (xs ++ ys))))) room
        ∙ sym (rows_insert 0 f size most xs x ys r few)

    pub remove_filled : without_place size (length xs) (filled (xs ++ (x ∷ ys))) ≡ filled (xs ++ ys)
    unfolding without_place
    remove_filled = sym (rows_remove 0 f size most xs x ys r few)

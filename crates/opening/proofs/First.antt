-- The start of a session looks at its first bytes alone: its first byte, and the guard and the link records that this counts.
use mathlib.Core.Path.{◌≡◌, refl, sym, ap, ap₂, ◌∙◌}
use mathlib.Core.List.{List, [], ◌∷◌, map}
use mathlib.Core.Bool.{Bool, true, false}
use Prim.Native.Nat.{ℕ, zero, suc, ◌+◌, ◌-◌, ◌*◌, ◌<◌, ◌≤◌}
use native.Mathlib.Omega.{arith}
use native.Mathlib.Decide.{dec_le}
use borrow.Author.Tests.{ne_eqb}
use lib.Dec.{leb}
use lib.ListN.{length, take, drop}
use lib.Seq.{take_all, get_or-take}
use Rattle.std.specs.Prelude.{None, Some, is_err, eqb}
use Rattle.std.proofs.lemmas.List.{drop-take, take-take, length-take-le}
use Rattle.std.proofs.lemmas.Bool.{le-leb}
use Rattle.units.specs.declared.Link.{Link}
use Rattle.units.specs.Limits.{most_links}
use Rattle.units.specs.Lists.{within, count_from}
use Rattle.units.proofs.Tests.{in_range}
use Rattle.units.specs.Search.{Found, at, nothing, first_from}
use Rattle.units.proofs.Search.{IsFirst, first_from_found, first_from_agree}
use Rattle.units.specs.Refusals.{bad_size, bad_length, number_of}
use Rattle.layout.specs.Layout.{count_bytes, guard_bytes, lead_bytes, link_bytes}
use Rattle.layout.specs.Records.{if_passed, link_read}
use Rattle.layout.specs.Values.{link_values}
use Rattle.rules.specs.Tables.{Tables}
use Rattle.opening.specs.Opened.{link_record, unreadable, refusal_of, links_refusal, links_in, first_byte, guard_byte, rest_size, first_size, bytes_refusal, Opened, by_set_up, opened}

-- a piece within the first n bytes
piece_first : (size before n : ℕ) (bytes : List ℕ) → before + size ≤ n → take size (drop before (take n bytes)) ≡ take size (drop before bytes)
piece_first size before n bytes h =
    let e : n ≡ before + (n - before) = omega arith in
    ap (λ k. take size (drop before (take k bytes))) e ∙ ap (take size) (drop-take before (n - before) bytes) ∙ take-take size (n - before) (drop before bytes) (omega arith)

record_first : (n : ℕ) (bytes : List ℕ) (i : ℕ) → lead_bytes + i * link_bytes + link_bytes ≤ n → link_record (take n bytes) i ≡ link_record bytes i
unfolding link_record
record_first n bytes i h = ap link_read (piece_first link_bytes (lead_bytes + i * link_bytes) n bytes h)

map_agree : {A : Type 0} (f g : ℕ → A) (i n : ℕ) → ((k : ℕ) → i ≤ k → k < i + n → f k ≡ g k) → map f (count_from i n) ≡ map g (count_from i n)
unfolding count_from
map_agree f g i zero h = refl
map_agree f g i (suc n) h = ap₂ ◌∷◌ (h i (omega arith) (omega arith)) (map_agree f g (suc i) n (λ k a b. h k (omega arith) (omega arith)))

-- records that are all read alike give the same refusal and the same links
module _ (bytes others : List ℕ) (count : ℕ) (same : (i : ℕ) → i < count → link_record bytes i ≡ link_record others i) where
  refusal_agrees : links_refusal bytes count ≡ links_refusal others count
  unfolding links_refusal
  refusal_agrees =
      ap (refusal_of bytes) (first_from_agree (unreadable bytes) (unreadable others) 0 count (λ k a b. ap (λ r. is_err r) (same k (omega arith))))
      ∙ by (first_from 0 count (unreadable others)) refl
    where
      by : (f : Found) → first_from 0 count (unreadable others) ≡ f → refusal_of bytes f ≡ refusal_of others f
      by (at i) e =
          let r : IsFirst 0 count (unreadable others) i = first_from_found (unreadable others) 0 count e in
          ap (λ x. number_of x) (same i (omega (arith, r.high)))
      by nothing e = refl

  links_agree : links_in bytes count ≡ links_in others count
  unfolding links_in
  links_agree = map_agree _ _ 0 count (λ k a b. ap (λ r. (link_values r).link) (same k (omega arith)))

-- what the checks behind the first byte say, by its range, whether the bytes suffice, and what the records say
abbrev by_range : Bool → Bool → ℕ → ℕ
by_range counted enough k = if_passed counted (if_passed enough k bad_length) bad_size

-- what a start gives by what its bytes say
abbrev by_refusal : Tables → ℕ → List Link → ℕ → Opened
by_refusal t k links guard = if_passed (eqb k 0) (by_set_up t links guard) (record { answer = record { refusal = k; links = [] }; tables = t })

abbrev enough : ℕ → List ℕ → Bool
enough b bs = leb (lead_bytes + b * link_bytes) (length (b ∷ bs))

opened_by : (t : Tables) (b : ℕ) (bs : List ℕ) (x y : Bool) → within 1 most_links b ≡ x → enough b bs ≡ y
    → opened t (b ∷ bs) ≡ by_refusal t (by_range x y (links_refusal (b ∷ bs) b)) (links_in (b ∷ bs) b) (guard_byte (b ∷ bs))
unfolding opened bytes_refusal
opened_by t b bs x y p q =
    let not_empty : eqb (length (b ∷ bs)) 0 ≡ false = ne_eqb (length (b ∷ bs)) 0 (λ e. absurd (omega arith)) in
    rw (not_empty, p, q) refl

module _ (t : Tables) (b : ℕ) (bs : List ℕ) (n : ℕ) (cut : n < length bs) where
  cut_in_range : within 1 most_links b ≡ true → lead_bytes + b * link_bytes ≤ suc n → opened t (b ∷ take n bs) ≡ opened t (b ∷ bs)
  cut_in_range q h =
      let long : length (take n bs) ≡ n = length-take-le n bs (omega arith) in
      let same : (i : ℕ) → i < b → link_record (take (suc n) (b ∷ bs)) i ≡ link_record (b ∷ bs) i = λ i k. record_first (suc n) (b ∷ bs) i (omega arith) in
      let guard : guard_byte (b ∷ take n bs) ≡ guard_byte (b ∷ bs) = get_or-take n bs 0 0 (omega arith) in
      opened_by t b (take n bs) true true q (le-leb _ _ (omega arith))
      ∙ ap₂ (λ k links. by_refusal t k links (guard_byte (b ∷ take n bs))) (refusal_agrees (b ∷ take n bs) (b ∷ bs) b same) (links_agree (b ∷ take n bs) (b ∷ bs) b same)
      ∙ ap (by_refusal t (links_refusal (b ∷ bs) b) (links_in (b ∷ bs) b)) guard
      ∙ sym (opened_by t b bs true true q (le-leb _ _ (omega arith)))

  cut_first : first_size (b ∷ bs) ≤ suc n → opened t (b ∷ take n bs) ≡ opened t (b ∷ bs)
  unfolding first_size
  cut_first h = by (within 1 most_links b) refl
    where
      by : (x : Bool) → within 1 most_links b ≡ x → opened t (b ∷ take n bs) ≡ opened t (b ∷ bs)
      by true q = let k : count_bytes + (guard_bytes + b * link_bytes) ≤ suc n = rw q at h in cut_in_range q (omega (arith, k))
      by false q = opened_by t b (take n bs) false _ q refl ∙ sym (opened_by t b bs false _ q refl)

-- more bytes than those change nothing
pub opened_first : (t : Tables) (bytes : List ℕ) (n : ℕ) → first_size bytes ≤ n → opened t (take n bytes) ≡ opened t bytes
unfolding first_size
opened_first t bytes zero h = absurd (omega arith)
opened_first t [] (suc n) h = refl
opened_first t (b ∷ bs) (suc n) h = elim (dec_le (length bs) n) [ yes k ↦ ap (λ l. opened t (b ∷ l)) (take_all n bs k) | no k ↦ cut_first t b bs n (omega arith) h ]

-- the first bytes by what follows the first one, as `rest_size` says it
module _ (bytes : List ℕ) where
  pub size_counted : {n : ℕ} → rest_size (first_byte bytes) ≡ Some n → (first_size bytes ≡ count_bytes + n) × (n ≤ guard_bytes + most_links * link_bytes)
  unfolding first_size
  size_counted {n} e = by (within 1 most_links (first_byte bytes)) refl e
    where
      by : (x : Bool) → within 1 most_links (first_byte bytes) ≡ x → if_passed x (Some (guard_bytes + first_byte bytes * link_bytes)) None ≡ Some n → (first_size bytes ≡ count_bytes + n) × (n ≤ guard_bytes + most_links * link_bytes)
      by true q e =
          let same : guard_bytes + first_byte bytes * link_bytes ≡ n = cc in
          let few = ((in_range 1 most_links (first_byte bytes)).0 q).1 in
          (rw q (ap (λ k. count_bytes + k) same), omega (arith, same, few))
      by false q e = absurd (let z : ◌≡◌ {A = ℕ} 0 1 = cc in omega arith)

  pub size_uncounted : rest_size (first_byte bytes) ≡ None → first_size bytes ≡ count_bytes
  unfolding first_size
  size_uncounted e = by (within 1 most_links (first_byte bytes)) refl e
    where
      by : (x : Bool) → within 1 most_links (first_byte bytes) ≡ x → if_passed x (Some (guard_bytes + first_byte bytes * link_bytes)) None ≡ None → first_size bytes ≡ count_bytes
      by true q e = absurd (let z : ◌≡◌ {A = ℕ} 0 1 = cc in omega arith)
      by false q e = rw q refl

-- The link records of a session, read one by one: below i each is read, and its link stands at its place.
use mathlib.Core.Path.{◌≡◌, refl, sym, ◌∙◌, ap, ap₂}
use mathlib.Core.List.{List, [], ◌∷◌, ◌++◌, map}
use mathlib.Core.Bool.{false}
use Prim.Native.Nat.{ℕ, zero, suc, ◌+◌, ◌-◌, ◌*◌, ◌/◌, ◌<◌, ◌≤◌}
use native.Mathlib.Omega.{arith}
use borrow.Author.Count.{below_more}
use lib.ListN.{length, get_or, take, drop, set, length-set, length-drop}
use Rattle.std.proofs.lemmas.List.{take_more_set}
use lib.Seq.{take_all, drop-drop, get_or-take}
use native.Mathlib.Nat.{zero-mul, suc-mul, add_comm}
use Rattle.std.specs.Simd.{first_chunks}
use Rattle.layout.specs.Layout.{lead_bytes, link_bytes}
use Rattle.layout.specs.Records.{link_read}
use Rattle.std.specs.Prelude.{Ok, Err, is_err}
use Rattle.units.specs.declared.Link.{Link}
use Rattle.units.specs.declared.Refusal.{Refusal}
use Rattle.units.specs.Refusals.{number, number_of}
use Rattle.layout.specs.Values.{link_values}
use Rattle.units.specs.Lists.{count_from}
use Rattle.units.proofs.Search.{first_from_first, first_from_nothing}
use Rattle.opening.specs.Opened.{link_record, unreadable, refusal_of, links_refusal, links_in}

-- the pieces of a list, one by one, and those behind the count and the guard
piece : (size k : ℕ) (xs : List ℕ) (i : ℕ) → i < k → get_or (first_chunks size k xs) i [] ≡ take size (drop (i * size) xs)
piece size zero xs i h = absurd (omega arith)
piece size (suc k) xs zero h = rw zero-mul refl
piece size (suc k) xs (suc i) h = piece size k (drop size xs) i (omega arith) ∙ ap (take size) (drop-drop (i * size) size xs ∙ ap (λ n. drop n xs) (add_comm size (i * size) ∙ sym (suc-mul i size)))

abbrev behind : List ℕ → List ℕ
behind bytes = take (length bytes - lead_bytes) (drop lead_bytes bytes)

pub record_of : (bytes : List ℕ) (n i : ℕ) (records : List (List ℕ)) → i < n → lead_bytes + n * link_bytes ≤ length bytes → records ≡ first_chunks link_bytes (length (behind bytes) / link_bytes) (behind bytes)
    → link_read (get_or (take n records) i []) ≡ link_record bytes i
unfolding link_record
record_of bytes n i records h room e =
    let long = length-drop lead_bytes bytes in
    let all : behind bytes ≡ drop lead_bytes bytes = take_all (length bytes - lead_bytes) (drop lead_bytes bytes) (omega arith) in
    let whole : i < length (behind bytes) / link_bytes = omega (arith, ap length all) in
    ap link_read
    (get_or-take n records i [] h
    ∙ ap (λ l. get_or l i []) e
    ∙ piece link_bytes (length (behind bytes) / link_bytes) (behind bytes) i whole
    ∙ ap (λ l. take link_bytes (drop (i * link_bytes) l)) all
    ∙ ap (take link_bytes) (drop-drop (i * link_bytes) lead_bytes bytes))

-- the links that one record more holds
map_more : {A : Type 0} (f : ℕ → A) (i n j : ℕ) → i + n ≡ j → map f (count_from i (suc n)) ≡ map f (count_from i n) ++ (f j ∷ [])
unfolding count_from
map_more f i zero j h = let e : i ≡ j = omega (arith, h) in ap (λ k. f k ∷ []) e
map_more f i (suc n) j h = ap (λ l. f i ∷ l) (map_more f (suc i) n j (omega (arith, h)))

links_more : (bytes : List ℕ) (i : ℕ) → links_in bytes (i + 1) ≡ links_in bytes i ++ ((link_values (link_record bytes i)).link ∷ [])
unfolding links_in
links_more bytes i = let e : i + 1 ≡ suc i = omega arith in ap (links_in bytes) e ∙ map_more (λ k. (link_values (link_record bytes k)).link) 0 i i (omega arith)

-- n places of which the first i hold the links of their records, each of them read
pub record Filled (bytes : List ℕ) (n : ℕ) (places : List Link) (i : ℕ) : Type 0 where
  pub not_past : i ≤ n
  pub long : length places ≡ n
  pub read : (j : ℕ) → j < i → unreadable bytes j ≡ false
  pub same : take i places ≡ links_in bytes i

module _ (bytes : List ℕ) (n : ℕ) (places : List Link) where
  pub filled_none : length places ≡ n → Filled bytes n places 0
  unfolding links_in count_from
  filled_none long = record { not_past = omega arith; long = long; read = λ j h. absurd (omega arith); same = refl }

  module _ (i : ℕ) (f : Filled bytes n places i) where
    pub filled_more : {link : Link} → i < n → link_record bytes i ≡ Ok link → Filled bytes n (set places i link) (i + 1)
    filled_more {link} h e = record {
      not_past = omega arith;
      long = length-set places i link ∙ f.long;
      read = below_more _ _ f.read (ap (λ r. is_err r) e);
      same = take_more_set places i link (omega (arith, f.long)) ∙ ap₂ (λ l x. l ++ (x ∷ [])) f.same (sym (ap (λ r. (link_values r).link) e)) ∙ sym (links_more bytes i);
    }

    -- the first record that cannot be read says the refusal
    pub stopped : {refusal : Refusal} → i < n → link_record bytes i ≡ Err refusal → number refusal ≡ links_refusal bytes n
    unfolding links_refusal
    stopped h e =
        sym (ap (refusal_of bytes) (first_from_first (unreadable bytes) 0 n i (record {
          low = omega arith;
          high = omega arith;
          passes = ap (λ r. is_err r) e;
          before = λ k a b. f.read k b;
        }))
        ∙ ap (λ r. number_of r) e)

    -- where all are read there is none, and the places are the links
    module _ (e : n ≤ i) where
      pub all_read : 0 ≡ links_refusal bytes n
      unfolding links_refusal
      all_read = sym (ap (refusal_of bytes) (first_from_nothing (unreadable bytes) 0 n (λ k a b. f.read k (omega arith))))

      pub all_in : places ≡ links_in bytes n
      all_in = let same : i ≡ n = omega (arith, f.not_past) in sym (take_all i places (omega (arith, f.long))) ∙ f.same ∙ ap (links_in bytes) same

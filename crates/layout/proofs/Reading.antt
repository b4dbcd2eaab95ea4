-- What is read, with no bit in the statement that document 01 does not name: an accepted order hands back its fields as its bits say,
-- a refused one zero fields, and each refusal has its reason.
use mathlib.Core.Path.{◌≡◌, refl, sym, ◌∙◌, ap}
use mathlib.Core.Logic.{◌↔◌, ◌≢◌, ◌⊎◌, inl, inr}
use mathlib.Core.List.{List}
use mathlib.Core.Bool.{Bool, true, false, ◌&&◌, and-eq-true_iff, true≢false}
use Prim.Native.Nat.{ℕ, zero, suc}
use native.Mathlib.Omega.{arith}
use lib.Dec.{eqb}
use lib.ListN.{length}
use borrow.Author.Tests.{eqb-true, eqb-false, eq-eqb, ne_eqb}
use Rattle.std.specs.Prelude.{Result, Ok, Err, IsErr, IsOkAnd, is_ok}
use Rattle.units.specs.declared.Refusal.{Refusal}
use Rattle.units.specs.declared.Refusal.TheVariants.{BadBits, BadLength}
use Rattle.units.specs.Refusals.{number}
use Rattle.layout.specs.declared.Order.{Order}
use Rattle.layout.specs.declared.OrderFields.{OrderFields}
use Rattle.layout.specs.declared.OrderKind.{OrderKind}
use Rattle.layout.specs.declared.OrderKind.TheVariants.{Book, Cancel, Clock, Offer}
use Rattle.layout.specs.declared.OrderRecord.{OrderRecord}
use Rattle.layout.specs.Layout.{big_endian, cut, order_widths}
use Rattle.layout.specs.Records.{kind_of, uses, clear, behind_kind, if_passed, order_fields, latest_of, wish_of, order_of, order_from, order_read, link_read}
use Rattle.layout.specs.Values.{open_flag, request_of, plain_values, order_values, link_values}

-- the fields of the record that the bytes make
abbrev pub fields_of : List ℕ → OrderFields
fields_of bytes = order_fields (cut order_widths (big_endian bytes))

-- the refusal number that is handed back for the bytes
abbrev pub refusal_of : List ℕ → ℕ
refusal_of bytes = (order_values (order_read bytes)).refusal

-- every field as its bits say; a latest of all ones is open
abbrev pub as_bits : OrderFields → OrderRecord
as_bits f = record { refusal = 0; kind = f.kind; number = f.number; request = request_of (wish_of f); latest_open = open_flag (latest_of f.latest) }

-- the kind is unknown, or a field is set that it does not use
abbrev pub Wrong : OrderFields → Type 0
Wrong f = IsErr (kind_of f.kind) ⊎ IsOkAnd (kind_of f.kind) (λ kind. clear (uses kind) (behind_kind f) ≡ false)

-- what the fields alone decide: they are an order and handed back, or they are wrong and refused
abbrev pub Judged : OrderFields → Result Order Refusal → Type 0
Judged f r = ((Wrong f → ⊥) × (order_values r ≡ as_bits f) × (is_ok r ≡ true)) ⊎ (Wrong f × (r ≡ Err BadBits))

-- a passed test before another: the field is zero, and the other passes
next_zero : (x : ℕ) (b : Bool) → (eqb x 0 && b) ≡ true → (x ≡ 0) × (b ≡ true)
next_zero x b e = let h = (and-eq-true_iff (eqb x 0) b).0 e in (eqb-true x 0 h.0, h.1)

right : (kind : OrderKind) (f : OrderFields) → kind_of f.kind ≡ Ok kind → clear (uses kind) (behind_kind f) ≡ true → Wrong f → ⊥
right kind f k e w = by (rw k at w)
  where
    by : (false ≡ true) ⊎ (clear (uses kind) (behind_kind f) ≡ false) → ⊥
    by (inl u) = true≢false (sym u)
    by (inr v) = true≢false (sym e ∙ v)

module _ (n from to bw du ea la : ℕ) where
  abbrev of : ℕ → OrderFields
  of k = record { kind = k; number = n; from = from; to = to; bandwidth = bw; duration = du; earliest = ea; latest = la }

  cancels : (t : Bool) → clear (uses Cancel) (behind_kind (of 2)) ≡ t → Judged (of 2) (if_passed t (Ok (order_of Cancel (of 2))) (Err BadBits))
  unfolding clear
  cancels true e =
      let a = next_zero from _ e in
      let b = next_zero to _ a.1 in
      let c = next_zero bw _ b.1 in
      let d = next_zero du _ c.1 in
      let g = next_zero ea _ d.1 in
      let h = next_zero la _ g.1 in
      inl (right Cancel (of 2) refl e, rw (a.0, b.0, c.0, d.0, g.0, h.0), refl)
  cancels false e = inr (inr e, refl)

  moves : (t : Bool) → clear (uses Clock) (behind_kind (of 3)) ≡ t → Judged (of 3) (if_passed t (Ok (order_of Clock (of 3))) (Err BadBits))
  unfolding clear
  moves true e =
      let a = next_zero n _ e in
      let b = next_zero from _ a.1 in
      let c = next_zero to _ b.1 in
      let d = next_zero bw _ c.1 in
      let g = next_zero du _ d.1 in
      let h = next_zero la _ g.1 in
      inl (right Clock (of 3) refl e, rw (a.0, b.0, c.0, d.0, g.0, h.0), refl)
  moves false e = inr (inr e, refl)

  offers : (t : Bool) → clear (uses Offer) (behind_kind (of 4)) ≡ t → Judged (of 4) (if_passed t (Ok (order_of Offer (of 4))) (Err BadBits))
  unfolding clear
  offers true e = let a = next_zero n _ e in inl (right Offer (of 4) refl e, rw a.0, refl)
  offers false e = inr (inr e, refl)

  judged : (k : ℕ) → Judged (of k) (order_from (of k))
  unfolding order_from clear
  judged zero = inr (inl refl, refl)
  judged (suc zero) = inl (right Book (of 1) refl refl, refl, refl)
  judged (suc (suc zero)) = cancels _ refl
  judged (suc (suc (suc zero))) = moves _ refl
  judged (suc (suc (suc (suc zero)))) = offers _ refl
  judged (suc (suc (suc (suc (suc k))))) = inr (inl refl, refl)

pub decided : (f : OrderFields) → Judged f (order_from f)
decided f = judged f.number f.from f.to f.bandwidth f.duration f.earliest f.latest f.kind

-- fields are refused with 11 alone
pub wrong_bits : (f : OrderFields) (refusal : Refusal) → order_from f ≡ Err refusal → refusal ≡ BadBits
wrong_bits f refusal e = by (decided f)
  where
    by : Judged f (order_from f) → refusal ≡ BadBits
    by (inl g) = absurd (true≢false (sym g.2 ∙ ap (λ r. is_ok r) e))
    by (inr w) = let z = w.1 in cc

-- an order of the right length, and one of a wrong length
pub sized : (bytes : List ℕ) → length bytes ≡ 16 → order_read bytes ≡ order_from (fields_of bytes)
unfolding order_read
sized bytes e = rw (eq-eqb _ _ e)

pub missized : (bytes : List ℕ) → length bytes ≢ 16 → order_read bytes ≡ Err BadLength
unfolding order_read
missized bytes h = rw (ne_eqb _ _ h)

-- 12 is said if and only if there are not exactly 16 bytes
pub length_refused : (bytes : List ℕ) → (refusal_of bytes ≡ 12) ↔ (length bytes ≢ 16)
length_refused bytes = ((λ e l. by l e (decided (fields_of bytes))), λ h. ap (λ r. (order_values r).refusal) (missized bytes h))
  where
    by : length bytes ≡ 16 → refusal_of bytes ≡ 12 → Judged (fields_of bytes) (order_from (fields_of bytes)) → ⊥
    by l e (inl g) = let z : ◌≡◌ {A = ℕ} 12 0 = sym e ∙ ap (λ r. (order_values r).refusal) (sized bytes l) ∙ ap (λ r. r.refusal) g.1 in omega arith
    by l e (inr w) = let z : ◌≡◌ {A = ℕ} 12 11 = sym e ∙ ap (λ r. (order_values r).refusal) (sized bytes l ∙ w.1) in omega arith

-- 11 if and only if there are, and the kind is unknown or a field is set that it does not use
pub bits_refused : (bytes : List ℕ) → (refusal_of bytes ≡ 11) ↔ ((length bytes ≡ 16) × Wrong (fields_of bytes))
bits_refused bytes = ((λ e. there (eqb (length bytes) 16) refl e (decided (fields_of bytes))), λ h. back h.0 h.1 (decided (fields_of bytes)))
  where
    there : (t : Bool) → eqb (length bytes) 16 ≡ t → refusal_of bytes ≡ 11 → Judged (fields_of bytes) (order_from (fields_of bytes)) → (length bytes ≡ 16) × Wrong (fields_of bytes)
    there true q e (inl g) =
        let l = eqb-true (length bytes) 16 q in
        let z : ◌≡◌ {A = ℕ} 11 0 = sym e ∙ ap (λ r. (order_values r).refusal) (sized bytes l) ∙ ap (λ r. r.refusal) g.1 in
        absurd (omega arith)
    there true q e (inr w) = (eqb-true (length bytes) 16 q, w.0)
    there false q e j =
        let z : ◌≡◌ {A = ℕ} 11 12 = sym e ∙ ap (λ r. (order_values r).refusal) (missized bytes (eqb-false (length bytes) 16 q)) in
        absurd (omega arith)

    back : length bytes ≡ 16 → Wrong (fields_of bytes) → Judged (fields_of bytes) (order_from (fields_of bytes)) → refusal_of bytes ≡ 11
    back l w (inl g) = absurd (g.0 w)
    back l w (inr j) = ap (λ r. (order_values r).refusal) (sized bytes l ∙ j.1)

-- an order that is not refused is read, and handed back as its bits say
accepted : (bytes : List ℕ) → refusal_of bytes ≡ 0 → (order_values (order_read bytes) ≡ as_bits (fields_of bytes)) × (is_ok (order_read bytes) ≡ true)
accepted bytes e = by (eqb (length bytes) 16) refl (decided (fields_of bytes))
  where
    by : (t : Bool)
        → eqb (length bytes) 16 ≡ t
        → Judged (fields_of bytes) (order_from (fields_of bytes))
        → (order_values (order_read bytes) ≡ as_bits (fields_of bytes)) × (is_ok (order_read bytes) ≡ true)
    by true q (inl g) = let l = sized bytes (eqb-true (length bytes) 16 q) in (ap (λ r. order_values r) l ∙ g.1, ap (λ r. is_ok r) l ∙ g.2)
    by true q (inr w) =
        let z : ◌≡◌ {A = ℕ} 0 11 = sym e ∙ ap (λ r. (order_values r).refusal) (sized bytes (eqb-true (length bytes) 16 q) ∙ w.1) in
        absurd (omega arith)
    by false q j =
        let z : ◌≡◌ {A = ℕ} 0 12 = sym e ∙ ap (λ r. (order_values r).refusal) (missized bytes (eqb-false (length bytes) 16 q)) in
        absurd (omega arith)

pub accepted_as_bits : (bytes : List ℕ) → refusal_of bytes ≡ 0 → order_values (order_read bytes) ≡ as_bits (fields_of bytes)
accepted_as_bits bytes e = (accepted bytes e).0

pub accepted_is_order : (bytes : List ℕ) → refusal_of bytes ≡ 0 → is_ok (order_read bytes) ≡ true
accepted_is_order bytes e = (accepted bytes e).1

-- a refusal hands back zero fields
pub refused_is_zero : (bytes : List ℕ) (k : Refusal) → order_read bytes ≡ Err k → order_values (order_read bytes) ≡ plain_values (number k) 0 0 0
refused_is_zero bytes k e = ap (λ r. order_values r) e

-- and so is a refused link
pub refused_link_is_zero : (bytes : List ℕ) (k : Refusal) → link_read bytes ≡ Err k → link_values (link_read bytes) ≡ record { refusal = number k; link = record { from = 0; to = 0; capacity = record { 0 = 0 } } }
refused_link_is_zero bytes k e = ap (λ r. link_values r) e

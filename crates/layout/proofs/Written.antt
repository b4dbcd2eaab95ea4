-- What the writer refuses and what it leaves: the definition taken apart.
use mathlib.Core.Path.{◌≡◌, refl, sym, ◌∙◌, ap}
use mathlib.Core.Logic.{◌≢◌}
use mathlib.Core.List.{List}
use mathlib.Core.Bool.{Bool, true, false, and-eq-true_iff}
use Prim.Native.Nat.{ℕ}
use native.Mathlib.Omega.{arith}
use lib.Dec.{eqb}
use lib.ListN.{length}
use borrow.Author.Tests.{eqb-true, eq-eqb, ne_eqb}
use Rattle.std.specs.Prelude.{Result, Ok, Err, is_ok}
use Rattle.units.specs.declared.Link.{Link}
use Rattle.units.specs.declared.Refusal.{Refusal}
use Rattle.units.specs.Refusals.{number_of}
use Rattle.units.proofs.Refusals.{numbered}
use Rattle.layout.specs.declared.OrderForm.{OrderForm}
use Rattle.layout.specs.Layout.{pack, fits, spelled, order_widths, link_widths}
use Rattle.layout.specs.Records.{if_passed, order_from}
use Rattle.layout.specs.Forms.{tellable, form_fields, order_figures, form_fits, order_refusal, order_written, link_figures, link_refusal, link_written}

-- no refusal behind a test: it passes, and nothing behind it refuses
passed : (t : Bool) (x k : ℕ) → k ≢ 0 → if_passed t x k ≡ 0 → (t ≡ true) × (x ≡ 0)
passed true x k n e = (refl, e)
passed false x k n e = absurd (n e)

-- what a check that answers this number found
module _ {A : Type 0} {r : Result A Refusal} {k : ℕ} (e : number_of r ≡ k) where
  pub none_found : {x : A} → r ≡ Ok x → k ≡ 0
  none_found q = sym e ∙ ap number_of q

  pub some_found : {refusal : Refusal} → r ≡ Err refusal → k ≢ 0
  some_found {refusal} q z = numbered refusal (sym (ap number_of q) ∙ e ∙ z)

-- what is not refused: a piece of the right length, a form that the reader takes for an order, figures that fit, and a latest start that
-- is read back
pub record Writable (count : ℕ) (form : OrderForm) : Type 0 where
  pub sized : count ≡ 16
  pub known : is_ok (order_from (form_fields form)) ≡ true
  pub room : fits order_widths (order_figures (form_fields form)) ≡ true
  pub told : tellable form.wish.latest ≡ true

pub writable : (count : ℕ) (form : OrderForm) → order_refusal count form ≡ 0 → Writable count form
unfolding order_refusal form_fits
writable count form e =
    let a = passed (eqb count 16) _ 12 (λ z. omega arith) e in
    let b = passed (is_ok (order_from (form_fields form))) _ 11 (λ z. omega arith) a.1 in
    let c = passed (form_fits form) 0 4 (λ z. omega arith) b.1 in
    let d = (and-eq-true_iff (fits order_widths (order_figures (form_fields form))) (tellable form.wish.latest)).0 c.0 in
    record { sized = eqb-true count 16 a.0; known = b.0; room = d.0; told = d.1 }

pub accepted : (count : ℕ) (form : OrderForm) → Writable count form → order_refusal count form ≡ 0
unfolding order_refusal form_fits
accepted count form w = rw (eq-eqb _ _ w.sized, w.known, w.room, w.told)

pub writable_link : (count : ℕ) (l : Link) → link_refusal count l ≡ 0 → (count ≡ 8) × (fits link_widths (link_figures l) ≡ true)
unfolding link_refusal
writable_link count l e =
    let a = passed (eqb count 8) _ 12 (λ z. omega arith) e in
    (eqb-true count 8 a.0, (passed (fits link_widths (link_figures l)) 0 4 (λ z. omega arith) a.1).0)

pub accepted_link : (count : ℕ) (l : Link) → count ≡ 8 → fits link_widths (link_figures l) ≡ true → link_refusal count l ≡ 0
unfolding link_refusal
accepted_link count l s e = rw (eq-eqb _ _ s, e)

-- a refusal leaves the piece as it came
pub order_left : (piece : List ℕ) (form : OrderForm) → order_refusal (length piece) form ≢ 0 → order_written piece form ≡ piece
unfolding order_written
order_left piece form n = rw (ne_eqb _ _ n)

pub link_left : (piece : List ℕ) (l : Link) → link_refusal (length piece) l ≢ 0 → link_written piece l ≡ piece
unfolding link_written
link_left piece l n = rw (ne_eqb _ _ n)

-- what is not refused is written over it
pub order_made : (piece : List ℕ) (form : OrderForm) → order_refusal (length piece) form ≡ 0 → order_written piece form ≡ spelled 16 (pack order_widths (order_figures (form_fields form)))
unfolding order_written
order_made piece form e = rw e

pub link_made : (piece : List ℕ) (l : Link) → link_refusal (length piece) l ≡ 0 → link_written piece l ≡ spelled 8 (pack link_widths (link_figures l))
unfolding link_written
link_made piece l e = rw e

-- Which reason each refusal of the writer has, with no test in the statement but the reader's own: 12 for the length, then 11 for the
-- form, then 4 for a figure or a latest start that cannot be told; and nothing else is refused.
use mathlib.Core.Path.{◌≡◌, refl, sym, ◌∙◌, ap}
use mathlib.Core.Logic.{◌≢◌, ◌⊎◌, inl, inr}
use mathlib.Core.Bool.{Bool, true, false, true≢false, ◌&&◌}
use Prim.Native.Nat.{ℕ, ◌^◌, ◌<◌}
use lib.Dec.{eqb}
use borrow.Author.Tests.{eqb-true, eqb-false, not-false, lt-ltb}
use Rattle.std.specs.Prelude.{Option, None, Some}
use Rattle.units.specs.declared.Minute.{Minute}
use Rattle.units.specs.declared.Link.{Link}
use Rattle.layout.specs.declared.OrderFields.{OrderFields}
use Rattle.layout.specs.declared.OrderForm.{OrderForm}
use Rattle.layout.specs.Layout.{fits, order_widths, link_widths}
use Rattle.layout.specs.Records.{all_ones, order_from}
use Rattle.layout.specs.Forms.{tellable, form_fields, order_figures, form_fits, order_refusal, link_figures, link_refusal}
use Rattle.layout.proofs.Packing.{first_fits}
use Rattle.layout.proofs.Reading.{Wrong, Judged, decided}

-- every figure is below what its field holds
pub record Roomy (f : OrderFields) : Type 0 where
  pub kind : f.kind < 2 ^ 4
  pub number : f.number < 2 ^ 14
  pub from : f.from < 2 ^ 5
  pub to : f.to < 2 ^ 5
  pub bandwidth : f.bandwidth < 2 ^ 20
  pub duration : f.duration < 2 ^ 20
  pub earliest : f.earliest < 2 ^ 30
  pub latest : f.latest < 2 ^ 30

pub roomy : (f : OrderFields) → fits order_widths (order_figures f) ≡ true → Roomy f
roomy f e =
    let a = first_fits _ _ _ _ e in
    let b = first_fits _ _ _ _ a.1 in
    let c = first_fits _ _ _ _ b.1 in
    let d = first_fits _ _ _ _ c.1 in
    let g = first_fits _ _ _ _ d.1 in
    let h = first_fits _ _ _ _ g.1 in
    let k = first_fits _ _ _ _ h.1 in
    record { kind = a.0; number = b.0; from = c.0; to = d.0; bandwidth = g.0; duration = h.0; earliest = k.0; latest = (first_fits _ _ _ _ k.1).0 }

room : (f : OrderFields) → Roomy f → fits order_widths (order_figures f) ≡ true
unfolding fits
room f r =
    rw (
      lt-ltb _ _ r.kind,
      lt-ltb _ _ r.number,
      lt-ltb _ _ r.from,
      lt-ltb _ _ r.to,
      lt-ltb _ _ r.bandwidth,
      lt-ltb _ _ r.duration,
      lt-ltb _ _ r.earliest,
      lt-ltb _ _ r.latest,
    )

-- a figure is too large for its field, or the latest start is given as all ones
abbrev pub Untold : OrderForm → Type 0
Untold form = (Roomy (form_fields form) → ⊥) ⊎ (form.wish.latest ≡ Some (record { 0 = 1073741823 }))

-- the first reason that applies, and no refusal without one
abbrev pub Ruled : ℕ → OrderForm → ℕ → Type 0
Ruled count form r =
    ((count ≢ 16) × (r ≡ 12))
    ⊎ ((count ≡ 16) × Wrong (form_fields form) × (r ≡ 11))
    ⊎ ((count ≡ 16) × (Wrong (form_fields form) → ⊥) × Untold form × (r ≡ 4))
    ⊎ ((count ≡ 16) × (Wrong (form_fields form) → ⊥) × (Untold form → ⊥) × (r ≡ 0))

given_ones : (l : Option Minute) → tellable l ≡ false → l ≡ Some (record { 0 = 1073741823 })
given_ones None e = absurd (true≢false e)
given_ones (Some m) e = ap (λ n. Some (record { 0 = n })) (eqb-true m.0 all_ones (not-false (eqb m.0 all_ones) e))

-- whether a form can be told, by its two tests
untold : (form : OrderForm) (s t : Bool) → fits order_widths (order_figures (form_fields form)) ≡ s → tellable form.wish.latest ≡ t → (s && t) ≡ false → Untold form
untold form false t p q e = inl (λ r. true≢false (sym (room (form_fields form) r) ∙ p))
untold form true false p q e = inr (given_ones form.wish.latest q)
untold form true true p q e = absurd (true≢false e)

told : (form : OrderForm) (s t : Bool) → fits order_widths (order_figures (form_fields form)) ≡ s → tellable form.wish.latest ≡ t → (s && t) ≡ true → Untold form → ⊥
told form true true p q e (inl n) = n (roomy (form_fields form) p)
told form true true p q e (inr g) = true≢false (sym q ∙ ap tellable g)
told form true false p q e u = true≢false (sym e)
told form false t p q e u = true≢false (sym e)

pub ruled : (count : ℕ) (form : OrderForm) → Ruled count form (order_refusal count form)
unfolding order_refusal form_fits
ruled count form = by (eqb count 16) refl (decided (form_fields form)) (form_fits form) refl
  where
    by : (s : Bool) → eqb count 16 ≡ s → Judged (form_fields form) (order_from (form_fields form)) → (t : Bool) → form_fits form ≡ t → Ruled count form (order_refusal count form)
    by false p j t q = inl (eqb-false count 16 p, rw p refl)
    by true p (inr j) t q = inr (inl (eqb-true count 16 p, j.0, rw (p, j.1) refl))
    by true p (inl g) false q = inr (inr (inl (eqb-true count 16 p, g.0, untold form _ _ refl refl q, rw (p, g.2, q) refl)))
    by true p (inl g) true q = inr (inr (inr (eqb-true count 16 p, g.0, told form _ _ refl refl q, rw (p, g.2, q) refl)))

-- the same of links
pub record RoomyLink (l : Link) : Type 0 where
  pub from : l.from < 2 ^ 5
  pub to : l.to < 2 ^ 5
  pub capacity : l.capacity.0 < 2 ^ 20

pub roomy_link : (l : Link) → fits link_widths (link_figures l) ≡ true → RoomyLink l
roomy_link l e =
    let a = first_fits _ _ _ _ e in
    let b = first_fits _ _ _ _ a.1 in
    record { from = a.0; to = b.0; capacity = (first_fits _ _ _ _ b.1).0 }

room_link : (l : Link) → RoomyLink l → fits link_widths (link_figures l) ≡ true
unfolding fits
room_link l r = rw (lt-ltb _ _ r.from, lt-ltb _ _ r.to, lt-ltb _ _ r.capacity)

abbrev pub RuledLink : ℕ → Link → ℕ → Type 0
RuledLink count l r = ((count ≢ 8) × (r ≡ 12)) ⊎ ((count ≡ 8) × (RoomyLink l → ⊥) × (r ≡ 4)) ⊎ ((count ≡ 8) × RoomyLink l × (r ≡ 0))

pub ruled_link : (count : ℕ) (l : Link) → RuledLink count l (link_refusal count l)
unfolding link_refusal
ruled_link count l = by (eqb count 8) refl (fits link_widths (link_figures l)) refl
  where
    by : (s : Bool) → eqb count 8 ≡ s → (t : Bool) → fits link_widths (link_figures l) ≡ t → RuledLink count l (link_refusal count l)
    by false p t q = inl (eqb-false count 8 p, rw p refl)
    by true p false q = inr (inl (eqb-true count 8 p, (λ r. true≢false (sym (room_link l r) ∙ q)), rw (p, q) refl))
    by true p true q = inr (inr (eqb-true count 8 p, roomy_link l q, rw (p, q) refl))

-- Document 02: read after write gives the same order, write after an accepted read the same bytes; and the same of links. Over the law
-- of fields, for whole orders and for what the exported calls are lent and hand back.
use mathlib.Core.Path.{◌≡◌, refl, sym, ◌∙◌, ap}
use mathlib.Core.Logic.{◌≢◌, inl, inr}
use mathlib.Core.List.{List, [], ◌∷◌}
use mathlib.Core.Bool.{Bool, true, false, true≢false}
use Prim.Native.Nat.{ℕ}
use native.Mathlib.Omega.{arith}
use lib.Dec.{eqb}
use lib.ListN.{length}
use borrow.Author.Tests.{eqb-true, eqb-false, ne_eqb, not-true}
use Rattle.std.specs.Prelude.{Option, None, Some, Result, Ok, Err, is_ok}
use Rattle.units.specs.declared.Minute.{Minute}
use Rattle.units.specs.declared.Refusal.{Refusal}
use Rattle.units.specs.Lists.{sum}
use Rattle.units.specs.declared.Link.{Link}
use Rattle.units.specs.declared.Request.{Request}
use Rattle.units.specs.Limits.{last_minute}
use Rattle.layout.specs.declared.Order.{Order}
use Rattle.layout.specs.declared.Order.TheVariants.{Book, Cancel, Clock, Offer}
use Rattle.layout.specs.declared.OrderForm.{OrderForm}
use Rattle.layout.specs.declared.OrderFields.{OrderFields}
use Rattle.layout.specs.declared.LinkFields.{LinkFields}
use Rattle.layout.specs.declared.OrderRecord.{OrderRecord}
use Rattle.layout.specs.Layout.{big_endian, cut, pack, fits, spelled, order_widths, link_widths}
use Rattle.layout.specs.Records.{all_ones, clear, order_fields, latest_of, order_from, order_read, link_fields, link_from, link_read}
use Rattle.layout.specs.Forms.{latest_field, tellable, form_fields, latest_from, form_of, order_figures, order_refusal, order_written, link_figures, link_refusal, link_written}
use Rattle.layout.specs.Values.{open_flag, request_of, latest_minute, values_of, order_values, link_values}
use Rattle.layout.proofs.Packing.{Bytes, cut_fits, read_back, write_back}
use Rattle.layout.proofs.Reading.{fields_of, as_bits, Judged, decided, sized, missized, accepted_is_order}
use Rattle.layout.proofs.Written.{Writable, writable, accepted, order_made, writable_link, accepted_link, link_made}

-- a latest start that can be told is read back, and one that was read can be told, by its field again
told_back : (l : Option Minute) → tellable l ≡ true → latest_of (latest_field l) ≡ l
told_back None e = refl
told_back (Some m) e = rw (not-true (eqb m.0 all_ones) e)

read_told : (field : ℕ) (t : Bool) → eqb field all_ones ≡ t → (tellable (latest_of field) ≡ true) × (latest_field (latest_of field) ≡ field)
read_told field true e = (rw e refl, rw e (sym (eqb-true field all_ones e)))
read_told field false e = (rw (e, e) refl, rw e refl)

-- what a written form is read as: what the reader says of its fields
read_fields : (piece : List ℕ) (form : OrderForm) → order_refusal (length piece) form ≡ 0 → order_read (order_written piece form) ≡ order_from (form_fields form)
unfolding cut sum
read_fields piece form e =
    let w = writable (length piece) form e in
    let bytes = spelled 16 (pack order_widths (order_figures (form_fields form))) in
    ap order_read (order_made piece form e) ∙ sized bytes refl ∙ ap (λ fs. order_from (order_fields fs)) (read_back order_widths (order_figures (form_fields form)) 16 refl refl w.room)

-- the form that a reader's values make for the writer, and so the form of an order
abbrev pub lent : OrderRecord → OrderForm
lent r = form_of r.kind r.number r.request r.latest_open

abbrev pub order_form : Order → OrderForm
order_form o = lent (values_of o)

lent_latest : (l : Option Minute) → latest_from (record { 0 = latest_minute l }) (open_flag l) ≡ l
lent_latest None = refl
lent_latest (Some m) = refl

-- the reader finds the order in the fields of its form
wish_back : (l : Option Minute) → tellable (latest_from (record { 0 = latest_minute l }) (open_flag l)) ≡ true → latest_of (latest_field (latest_from (record { 0 = latest_minute l }) (open_flag l))) ≡ l
wish_back l e = told_back (latest_from (record { 0 = latest_minute l }) (open_flag l)) e ∙ lent_latest l

same_from : (o : Order) → tellable (order_form o).wish.latest ≡ true → order_from (form_fields (order_form o)) ≡ Ok o
unfolding order_from clear
same_from (Book number w) e = rw (wish_back w.latest e)
same_from (Cancel number) e = refl
same_from (Clock minute) e = refl
same_from (Offer w) e = rw (wish_back w.latest e)

-- read after write gives the same order
pub read_after_write : (piece : List ℕ) (o : Order) → order_refusal (length piece) (order_form o) ≡ 0 → order_read (order_written piece (order_form o)) ≡ Ok o
read_after_write piece o e = read_fields piece (order_form o) e ∙ same_from o (writable (length piece) (order_form o) e).told

-- the figures of a form as the reader hands them back
abbrev pub form_values : OrderForm → OrderRecord
form_values form = record { refusal = 0; kind = form.kind; number = form.number; request = request_of form.wish; latest_open = open_flag form.wish.latest }

-- of any form that is not refused the reader hands back every figure
pub values_after_write : (piece : List ℕ) (form : OrderForm) → order_refusal (length piece) form ≡ 0 → order_values (order_read (order_written piece form)) ≡ form_values form
values_after_write piece form e = ap order_values (read_fields piece form e) ∙ by (decided (form_fields form))
  where
    w : Writable (length piece) form
    w = writable (length piece) form e

    by : Judged (form_fields form) (order_from (form_fields form)) → order_values (order_from (form_fields form)) ≡ form_values form
    by (inl g) = g.1 ∙ rw (told_back form.wish.latest w.told)
    by (inr j) = absurd (true≢false (sym w.known ∙ ap (λ r. is_ok r) j.1))

-- what C lends with a given latest start is handed back figure by figure; with an open one, the last minute and a flag of 1 are
pub given_back : (piece : List ℕ) (kind number : ℕ) (r : Request)
    → order_refusal (length piece) (form_of kind number r 0) ≡ 0
    → order_values (order_read (order_written piece (form_of kind number r 0))) ≡ record { refusal = 0; kind = kind; number = number; request = r; latest_open = 0 }
given_back piece kind number r e = values_after_write piece (form_of kind number r 0) e

pub open_back : (piece : List ℕ) (kind number : ℕ) (r : Request) (flag : ℕ)
    → flag ≢ 0
    → order_refusal (length piece) (form_of kind number r flag) ≡ 0
    → order_values (order_read (order_written piece (form_of kind number r flag)))
    ≡ record { refusal = 0; kind = kind; number = number; request = record { from = r.from; to = r.to; bandwidth = r.bandwidth; duration = r.duration; earliest = r.earliest; latest = record { 0 = last_minute } }; latest_open = 1 }
open_back piece kind number r flag n e = values_after_write piece (form_of kind number r flag) e ∙ rw (ne_eqb flag 0 n)

-- the form of an order that was read has the fields that were read
read_form : (f : OrderFields) (o : Order) → order_from f ≡ Ok o → (form_fields (order_form o) ≡ f) × (tellable (order_form o).wish.latest ≡ true)
read_form f o e = by (decided f)
  where
    by : Judged f (order_from f) → (form_fields (order_form o) ≡ f) × (tellable (order_form o).wish.latest ≡ true)
    by (inl g) =
        let t = read_told f.latest (eqb f.latest all_ones) refl in
        let q : order_form o ≡ lent (as_bits f) = ap lent (sym (ap order_values e) ∙ g.1) in
        let l = lent_latest (latest_of f.latest) in
        (ap form_fields q ∙ rw (l, t.1), ap (λ (x : OrderForm). tellable x.wish.latest) q ∙ rw l t.0)
    by (inr j) = let z = j.1 in cc

-- only sixteen bytes are read as an order
read_sized : (bytes : List ℕ) (o : Order) → order_read bytes ≡ Ok o → length bytes ≡ 16
read_sized bytes o e = by (eqb (length bytes) 16) refl
  where
    by : (t : Bool) → eqb (length bytes) 16 ≡ t → length bytes ≡ 16
    by true q = eqb-true (length bytes) 16 q
    by false q = let z = missized bytes (eqb-false (length bytes) 16 q) in cc

-- write after an accepted read gives the same bytes
pub write_after_read : (piece bytes : List ℕ) (o : Order)
    → Bytes bytes
    → length piece ≡ 16
    → order_read bytes ≡ Ok o
    → (order_refusal (length piece) (order_form o) ≡ 0) × (order_written piece (order_form o) ≡ bytes)
unfolding cut sum
write_after_read piece bytes o h s e =
    let l = read_sized bytes o e in
    let from : order_from (fields_of bytes) ≡ Ok o = sym (sized bytes l) ∙ e in
    let r = read_form (fields_of bytes) o from in
    let known = ap (λ f. is_ok (order_from f)) r.0 ∙ ap (λ x. is_ok x) from in
    let room = ap (λ f. fits order_widths (order_figures f)) r.0 ∙ cut_fits order_widths (big_endian bytes) in
    let free = accepted (length piece) (order_form o) (record { sized = s; known = known; room = room; told = r.1 }) in
    let same = ap (λ k. spelled k (pack order_widths (cut order_widths (big_endian bytes)))) (sym l) ∙ write_back order_widths bytes (rw l refl) h in
    (free, order_made piece (order_form o) free ∙ ap (λ f. spelled 16 (pack order_widths (order_figures f))) r.0 ∙ same)

-- the values that were read, lent as they came, are written as the same bytes
pub write_after_values : (piece bytes : List ℕ)
    → Bytes bytes
    → length piece ≡ 16
    → (order_values (order_read bytes)).refusal ≡ 0
    → (order_refusal (length piece) (lent (order_values (order_read bytes))) ≡ 0) × (order_written piece (lent (order_values (order_read bytes))) ≡ bytes)
write_after_values piece bytes h s e = by (order_read bytes) refl
  where
    by : (r : Result Order Refusal) → order_read bytes ≡ r → (order_refusal (length piece) (lent (order_values (order_read bytes))) ≡ 0) × (order_written piece (lent (order_values (order_read bytes))) ≡ bytes)
    by (Ok o) q = rw q (write_after_read piece bytes o h s q)
    by (Err k) q = absurd (true≢false (sym (accepted_is_order bytes e) ∙ ap (λ r. is_ok r) q))

-- the same of links
pub link_read_after_write : (piece : List ℕ) (l : Link) → link_refusal (length piece) l ≡ 0 → link_read (link_written piece l) ≡ Ok l
unfolding cut sum link_read link_from
link_read_after_write piece l e =
    let w = writable_link (length piece) l e in
    ap link_read (link_made piece l e) ∙ ap (λ fs. link_from (link_fields fs)) (read_back link_widths (link_figures l) 8 refl refl w.1)

-- the figures of a link that was read are the fields that were read
read_figures : (f : LinkFields) (l : Link) → link_from f ≡ Ok l → link_figures l ≡ f.from ∷ f.to ∷ f.capacity ∷ f.zero ∷ []
unfolding link_from
read_figures f l e = by (eqb f.zero 0) refl
  where
    by : (t : Bool) → eqb f.zero 0 ≡ t → link_figures l ≡ f.from ∷ f.to ∷ f.capacity ∷ f.zero ∷ []
    by true q = sym (ap (λ r. link_figures (link_values r).link) (rw q at e)) ∙ ap (λ z. f.from ∷ f.to ∷ f.capacity ∷ z ∷ []) (sym (eqb-true f.zero 0 q))
    by false q = let z = rw q at e in cc

-- only eight bytes are read as a link
link_sized : (bytes : List ℕ) (l : Link) → link_read bytes ≡ Ok l → (length bytes ≡ 8) × (link_from (link_fields (cut link_widths (big_endian bytes))) ≡ Ok l)
unfolding link_read
link_sized bytes l e = by (eqb (length bytes) 8) refl
  where
    by : (t : Bool) → eqb (length bytes) 8 ≡ t → (length bytes ≡ 8) × (link_from (link_fields (cut link_widths (big_endian bytes))) ≡ Ok l)
    by true q = (eqb-true (length bytes) 8 q, rw q at e)
    by false q = let z = rw q at e in cc

pub link_write_after_read : (piece bytes : List ℕ) (l : Link)
    → Bytes bytes
    → length piece ≡ 8
    → link_read bytes ≡ Ok l
    → (link_refusal (length piece) l ≡ 0) × (link_written piece l ≡ bytes)
unfolding cut sum
link_write_after_read piece bytes l h s e =
    let k = link_sized bytes l e in
    let r = read_figures (link_fields (cut link_widths (big_endian bytes))) l k.1 in
    let free = accepted_link (length piece) l s (ap (fits link_widths) r ∙ cut_fits link_widths (big_endian bytes)) in
    let same = ap (λ n. spelled n (pack link_widths (cut link_widths (big_endian bytes)))) (sym k.0) ∙ write_back link_widths bytes (rw k.0 refl) h in
    (free, link_made piece l free ∙ ap (λ fs. spelled 8 (pack link_widths fs)) r ∙ same)

-- a link that is not refused was read
accepted_link_read : (bytes : List ℕ) → (link_values (link_read bytes)).refusal ≡ 0 → link_read bytes ≡ Ok (link_values (link_read bytes)).link
unfolding link_read link_from
accepted_link_read bytes e = by (eqb (length bytes) 8) refl (eqb (link_fields (cut link_widths (big_endian bytes))).zero 0) refl
  where
    by : (s : Bool) → eqb (length bytes) 8 ≡ s → (t : Bool) → eqb (link_fields (cut link_widths (big_endian bytes))).zero 0 ≡ t → link_read bytes ≡ Ok (link_values (link_read bytes)).link
    by true p true q = rw (p, q) refl
    by true p false q = let z : ◌≡◌ {A = ℕ} 11 0 = rw (p, q) at e in absurd (omega arith)
    by false p t q = let z : ◌≡◌ {A = ℕ} 12 0 = rw p at e in absurd (omega arith)

-- the link that was read, lent as it came, is written as the same bytes
pub link_write_after_values : (piece bytes : List ℕ)
    → Bytes bytes
    → length piece ≡ 8
    → (link_values (link_read bytes)).refusal ≡ 0
    → (link_refusal (length piece) (link_values (link_read bytes)).link ≡ 0) × (link_written piece (link_values (link_read bytes)).link ≡ bytes)
link_write_after_values piece bytes h s e = link_write_after_read piece bytes (link_values (link_read bytes)).link h s (accepted_link_read bytes e)

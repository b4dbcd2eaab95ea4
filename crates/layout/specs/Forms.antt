-- Document 02's writer: which forms are refused, and what a lent piece of bytes holds afterwards.
use Rattle.std.specs.Prelude.{List, [], ◌∷◌, Bool, true, ◌&&◌, not, ℕ, eqb, length, Option, None, Some, is_ok}
use Rattle.units.specs.Refusals.{bad_field, bad_bits, bad_length}
use Rattle.units.specs.declared.Minute.{Minute}
use Rattle.units.specs.declared.Link.{Link}
use Rattle.units.specs.declared.Request.{Request}
use Rattle.layout.specs.declared.OrderForm.{OrderForm}
use Rattle.layout.specs.declared.OrderFields.{OrderFields}
use Rattle.layout.specs.Layout.{pack, fits, spelled, order_widths, link_widths, order_bytes, link_bytes}
use Rattle.layout.specs.Records.{if_passed, behind_kind, all_ones, order_from}

-- an open latest start is written as all ones
abbrev pub latest_field : Option Minute → ℕ
latest_field None = all_ones
latest_field (Some m) = m.0

-- so one that is given as all ones cannot be told: it would be read as open
abbrev pub tellable : Option Minute → Bool
tellable None = true
tellable (Some m) = not (eqb m.0 all_ones)

-- the latest start that C lends: open, whatever the minute, unless the flag is 0
abbrev pub latest_from : Minute → ℕ → Option Minute
latest_from minute flag = if_passed (eqb flag 0) (Some minute) None

-- the form that C lends
abbrev pub form_of : ℕ → ℕ → Request → ℕ → OrderForm
form_of kind number r flag = record { kind = kind; number = number; wish = record { from = r.from; to = r.to; bandwidth = r.bandwidth; duration = r.duration; earliest = r.earliest; latest = latest_from r.latest flag } }

-- the figures of a form by name
abbrev pub form_fields : OrderForm → OrderFields
form_fields form = record {
  kind = form.kind;
  number = form.number;
  from = form.wish.from;
  to = form.wish.to;
  bandwidth = form.wish.bandwidth.0;
  duration = form.wish.duration.0;
  earliest = form.wish.earliest.0;
  latest = latest_field form.wish.latest;
}

-- the same in the order of the layout
abbrev pub order_figures : OrderFields → List ℕ
order_figures f = f.kind ∷ behind_kind f

-- every figure has room in its field, and the latest start can be told
unfoldable pub form_fits : OrderForm → Bool
form_fits form = fits order_widths (order_figures (form_fields form)) && tellable form.wish.latest

-- the refusal of a form for a piece of so many bytes, 0 if there is none
unfoldable pub order_refusal : ℕ → OrderForm → ℕ
order_refusal count form = if_passed (eqb count order_bytes) (if_passed (is_ok (order_from (form_fields form))) (if_passed (form_fits form) 0 bad_field) bad_bits) bad_length

-- the piece afterwards: the record, or untouched
unfoldable pub order_written : List ℕ → OrderForm → List ℕ
order_written piece form = if_passed (eqb (order_refusal (length piece) form) 0) (spelled order_bytes (pack order_widths (order_figures (form_fields form)))) piece

-- the figures of a link in the order of the layout
abbrev pub link_figures : Link → List ℕ
link_figures l = l.from ∷ l.to ∷ l.capacity.0 ∷ 0 ∷ []

-- the refusal of a link, which has no kind and no field to leave unused
unfoldable pub link_refusal : ℕ → Link → ℕ
link_refusal count l = if_passed (eqb count link_bytes) (if_passed (fits link_widths (link_figures l)) 0 bad_field) bad_length

-- the piece afterwards
unfoldable pub link_written : List ℕ → Link → List ℕ
link_written piece l = if_passed (eqb (link_refusal (length piece) l) 0) (spelled link_bytes (pack link_widths (link_figures l))) piece

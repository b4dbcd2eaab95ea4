-- `write_order` meets its contract: a refusal leaves the piece, and a form that is not refused is written as its number.
use mathlib.Core.Path.{◌≡◌, sym, ◌∙◌, ap}
use lib.ListN.{length}
use Rattle.layout.specs.Layout.{pack, spelled, order_widths}
use Rattle.layout.specs.Forms.{order_figures, order_refusal}
use Rattle.layout.proofs.Library.{bytes_are}
use Rattle.layout.proofs.Written.{none_found, some_found, writable, order_left, order_made}
use Rattle.writing.proofs.write_order.Goals as goal
use Rattle.writing.proofs.write_order.Goals.{In_ok-check_order}

-- no refusal
accepted : (c : In_ok-check_order) → order_refusal (length c.args.bytes.now) c.args.form ≡ 0
accepted c = none_found c.check_order.ensures c.in_ok-check_order.was

pub returns-in_err-check_order-clause-bytes_after : goal.returns-in_err-check_order-clause-bytes_after
returns-in_err-check_order-clause-bytes_after c = sym (order_left c.args.bytes.now c.args.form (some_found c.check_order.ensures c.in_err-check_order.was))

pub pack_order-requires : goal.pack_order-requires
pack_order-requires c = rw c.from.ensures (writable _ _ (accepted (goal.at.pack_order-requires c).In_ok-check_order)).room

pub copy_from_slice-requires : goal.copy_from_slice-requires
copy_from_slice-requires c = (writable _ _ (accepted (goal.at.copy_from_slice-requires c).In_ok-check_order)).sized ∙ ap length (sym c.to_be_bytes.ensures)

pub returns-clause-bytes_after : goal.returns-clause-bytes_after
returns-clause-bytes_after c =
    c.copy_from_slice.ensures.after
    ∙ c.to_be_bytes.ensures
    ∙ bytes_are 16 c.pack_order.result
    ∙ ap (spelled 16) (c.pack_order.ensures ∙ ap (λ f. pack order_widths (order_figures f)) c.from.ensures)
    ∙ sym (order_made c.args.bytes.now c.args.form (accepted (goal.at.returns-clause-bytes_after c).In_ok-check_order))
